-- Proof that `sort_groups` meets its contract. Assumes nothing.
use Prim.Native.Nat.{◌-◌, ◌≤◌}
use mathlib.Core.Path.{◌≡◌}
use lib.ListN.{length}
use Rattle.members.specs.Members.{Sorting}
use Rattle.members.proofs.sort_groups.Given as goal

abbrev pub invariant-loop-q : goal.invariant-loop-q
invariant-loop-q l = (l.q ≤ l.s.groups) × Sorting l.rows l.s.groups l.s.members l.initial.work l.q l.work × (length l.work ≡ length l.initial.work)

abbrev pub decreases-loop-q : goal.decreases-loop-q
decreases-loop-q l = l.s.groups - l.q

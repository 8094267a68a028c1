-- Proof that `walk_all` meets its contract. Assumes nothing.
use Prim.Native.Nat.{◌+◌, ◌-◌, ◌≤◌}
use mathlib.Core.Path.{◌≡◌}
use Rattle.lists.specs.Loops.{up_to}
use Rattle.view.specs.Frame.{Only}
use Rattle.groups.specs.Walk.{turn, state, Ready}
use Rattle.flat.specs.Places.{flat_columns, blank}
use Rattle.flat.proofs.walk_all.Given as goal

abbrev pub invariant-loop-k : goal.invariant-loop-k
invariant-loop-k l = (l.k ≤ l.k-end) × (l.s.groups ≤ l.k) × Ready l.rows l.tris (l.s.groups + 1) l.s.members l.work × (state (blank l.rows l.work) l.s ≡ up_to l.k (turn l.rows) (state (blank l.rows l.initial.work) l.initial.s)) × Only flat_columns l.rows l.initial.work l.work

abbrev pub decreases-loop-k : goal.decreases-loop-k
decreases-loop-k l = l.k-end - l.k

-- `subgroups::span_of` meets its contract. Assumes nothing.
use Prim.Native.Nat.{◌+◌, ◌-◌, ◌≤◌}
use mathlib.Core.Path.{◌≡◌}
use Rattle.lists.specs.Loops.{up_to}
use Rattle.hulls.specs.Hull.{nothing}
use Rattle.subgroups.specs.Spans.{absorbed_at}
use Rattle.subgroups.proofs.span_of.Given as goal

abbrev pub invariant-loop-p : goal.invariant-loop-p
invariant-loop-p l = (l.b ≡ up_to (l.p - l.from) (λ k. absorbed_at l.rows l.work (l.from + k)) (record { s = nothing; t = nothing })) × (l.from ≤ l.p) × (l.p ≤ l.to)

abbrev pub decreases-loop-p : goal.decreases-loop-p
decreases-loop-p l = l.to - l.p

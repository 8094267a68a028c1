-- `subgroups::sum_taken` meets its contract. Assumes nothing.
use Prim.Native.Nat.{◌+◌, ◌-◌, ◌≤◌}
use mathlib.Core.Path.{◌≡◌}
use Rattle.definition.specs.Step7Sums.{empty_sum}
use Rattle.lists.specs.Loops.{up_to}
use Rattle.subgroups.specs.Subgroups.{add_taken}
use Rattle.subgroups.proofs.sum_taken.Given as goal

abbrev pub invariant-loop-p : goal.invariant-loop-p
invariant-loop-p l = (l.z ≡ up_to (l.p - l.from) (λ k. add_taken l.rows l.all l.work (l.from + k)) empty_sum) × (l.from ≤ l.p) × (l.p ≤ l.to)

abbrev pub decreases-loop-p : goal.decreases-loop-p
decreases-loop-p l = l.to - l.p

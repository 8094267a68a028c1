-- Proof that `settle` meets its contract. The invariant: the numbers below x are settled. Assumes nothing.
use Prim.Native.Nat.{◌-◌, ◌≤◌}
use Rattle.unions.proofs.Stores.{Settling}
use Rattle.unions.proofs.settle.Given as goal

abbrev pub invariant-loop-x : goal.invariant-loop-x
invariant-loop-x l = (l.x ≤ l.count) × Settling l.count l.initial.parents l.x l.parents

abbrev pub decreases-loop-x : goal.decreases-loop-x
decreases-loop-x l = l.count - l.x

-- Proof that `root` meets its contract. The invariant: what is passed is joined to the start. Assumes nothing.
use Rattle.unions.proofs.Stores.{Going}
use Rattle.unions.proofs.root.Given as goal

abbrev pub invariant-loop-parents : goal.invariant-loop-parents
invariant-loop-parents l = Going l.count l.initial.parents l.from l.parents l.x

abbrev pub decreases-loop-parents : goal.decreases-loop-parents
decreases-loop-parents l = l.x

-- Proof that `root` meets its contract. The invariant: what is passed is joined to the start. Assumes nothing.
use Rattle.unions.proofs.Stores.{going_more}
use Rattle.unions.proofs.root.Goals as goal

pub loop-parents-preserved : goal.loop-parents-preserved
loop-parents-preserved c = going_more _ _ _ _ _ c.requires.0 c.requires.1 c.loop-parents.invariant

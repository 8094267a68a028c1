-- Proof that `given` meets its contract. Assumes nothing.
use Rattle.islands.proofs.Sizes.{unused-of, used-of}
use Rattle.islands.proofs.given.Goals as goal

pub returns-then-slots_of-eq0 : goal.returns-then-slots_of-eq0
returns-then-slots_of-eq0 c = rw (unused-of _ _ c.slots_of.ensures.0 c.if-slots_of-eq0.true)

pub returns : goal.returns
returns c = rw (used-of _ _ c.slots_of.ensures.0 c.if-slots_of-eq0.false)

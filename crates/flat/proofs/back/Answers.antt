-- Proof that `back` meets its contract. Assumes nothing.
use borrow.Author.Tests.{eq-eqb, ne_eqb}
use Rattle.flat.specs.Places.{back}
use Rattle.flat.proofs.back.Goals as goal

pub returns-then-stored-eq0 : goal.returns-then-stored-eq0
unfolding back
returns-then-stored-eq0 c = simp (eq-eqb _ _ c.if-stored-eq0.true)

pub returns-else-stored-eq0 : goal.returns-else-stored-eq0
unfolding back
returns-else-stored-eq0 c = simp (ne_eqb _ _ c.if-stored-eq0.false)

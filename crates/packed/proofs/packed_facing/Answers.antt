-- `packed::packed_facing` meets its contract. Assumes nothing.
use borrow.Author.Tests.{eq-eqb, ne_eqb}
use Rattle.packed.specs.Packer.{packed_facing}
use Rattle.packed.proofs.packed_facing.Goals as goal

pub returns-then-o-eq1 : goal.returns-then-o-eq1
unfolding packed_facing
returns-then-o-eq1 c = simp (eq-eqb _ _ c.if-o-eq1.true)

pub returns-else-o-eq1 : goal.returns-else-o-eq1
unfolding packed_facing
returns-else-o-eq1 c = simp (ne_eqb _ _ c.if-o-eq1.false)

-- `packed::cut` meets its contract. Assumes nothing.
use native.Mathlib.Omega.{arith}
use Rattle.packed.specs.Component.{cut}
use Rattle.packed.proofs.cut.Goals as goal

pub returns : goal.returns
unfolding cut
returns c = (omega (arith, c.min.ensures), omega (arith, c.min.ensures))

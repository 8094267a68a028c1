-- `packed::within` meets its contract. Assumes nothing.
use mathlib.Core.Path.{refl}
use Rattle.packed.specs.Component.{within}
use Rattle.packed.proofs.within.Goals as goal

pub returns : goal.returns
unfolding within
returns c = refl

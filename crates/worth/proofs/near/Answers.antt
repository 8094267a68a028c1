-- `worth::near` meets its contract. Assumes nothing.
use mathlib.Core.Path.{refl}
use Rattle.packed.specs.Component.{within}
use Rattle.worth.proofs.near.Goals as goal

pub returns : goal.returns
unfolding within
returns c = refl

-- `worth::counted` meets its contract. Assumes nothing.
use mathlib.Core.Path.{refl}
use Rattle.worth.specs.Worth.{counted}
use Rattle.worth.proofs.counted.Goals as goal

pub returns : goal.returns
unfolding counted
returns c = refl

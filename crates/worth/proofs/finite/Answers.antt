-- `worth::finite` meets its contract. Assumes nothing.
use mathlib.Core.Path.{refl}
use Rattle.worth.specs.Worth.{finite}
use Rattle.worth.proofs.finite.Goals as goal

pub returns : goal.returns
unfolding finite
returns c = refl

-- `triangles::across2` meets its contract. Assumes nothing.
use mathlib.Core.Path.{refl}
use Rattle.definition.specs.Step1Cut.{across²}
use Rattle.triangles.proofs.across2.Goals as goal

pub returns : goal.returns
unfolding across²
returns c = refl

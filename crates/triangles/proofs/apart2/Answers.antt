-- `triangles::apart2` meets its contract: the squared length is the dot product of the difference with itself. Assumes nothing.
use Rattle.definition.specs.Step1Cut.{apart²}
use Rattle.triangles.proofs.apart2.Goals as goal

pub returns : goal.returns
unfolding apart²
returns c = cc

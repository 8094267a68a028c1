-- `worth::directed` meets its contract. Assumes nothing.
use Rattle.worth.specs.Worth.{directed}
use Rattle.worth.proofs.directed.Goals as goal

pub returns : goal.returns
unfolding directed
returns c = cc

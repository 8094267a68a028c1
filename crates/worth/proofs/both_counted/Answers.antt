-- `worth::both_counted` meets its contract. Assumes nothing.
use Rattle.worth.specs.Worth.{some_below, some_of, in_both}
use Rattle.worth.proofs.both_counted.Goals as goal

pub returns : goal.returns
unfolding in_both some_of some_below
returns c = cc

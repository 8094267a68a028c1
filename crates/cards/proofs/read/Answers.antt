-- `cards::read` meets its contract. Assumes nothing.
use Rattle.cards.proofs.read.Goals as goal

pub returns : goal.returns
returns c = c.read_as.ensures

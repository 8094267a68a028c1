-- `cards::write` meets its contract. Assumes nothing.
use Rattle.cards.proofs.write.Goals as goal

pub returns : goal.returns
returns c = c.write_as.ensures

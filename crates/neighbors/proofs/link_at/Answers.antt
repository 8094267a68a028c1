-- `neighbors::link_at` meets its contract. Assumes nothing.
use Rattle.neighbors.proofs.Words.{named, named-below}
use Rattle.neighbors.proofs.link_at.Goals as goal

pub returns : goal.returns
returns c = (named _ _ c.checked_sub.ensures, named-below _ _ _ c.requires.3 c.checked_sub.ensures)

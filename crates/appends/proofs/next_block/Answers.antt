-- `appends::next_block` meets its contract. Assumes nothing.
use Rattle.appends.proofs.next_block.Goals as goal

pub returns : goal.returns
returns c = c.next_block_as.ensures

-- `appends::append` meets its contract. Assumes nothing.
use Rattle.appends.proofs.append.Goals as goal

pub returns : goal.returns
returns c = c.append_as.ensures

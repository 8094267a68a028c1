-- Proof that `kept_at` meets its contract. Assumes nothing.
use Rattle.listing.proofs.kept_at.Goals as goal

pub returns : goal.returns
returns c = cc

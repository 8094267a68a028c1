-- Proof that `walk_from` meets its contract. Assumes nothing.
use Rattle.flat.proofs.Walks.{goes_end}
use Rattle.flat.proofs.walk_from.Goals as goal

pub returns-clause-walked : goal.returns-clause-walked
returns-clause-walked c =
    goes_end _ _ _ _ _ _ _ _ _ _ _ _ c.requires.0 c.requires.1 c.go_to-s.ensures c.loop-s.invariant c.in_default.is

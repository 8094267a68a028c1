-- `neighbors::link_all` meets its contract. The invariant: the list has the turns of all places below `near`, and the cursors stand as they may.
-- The measure: both move at most n places, so that there are at most 2n steps. Assumes nothing.
use native.Mathlib.Omega.{arith}
use Rattle.lists.proofs.Loops.{up_to-none}
use Rattle.view.proofs.Frame.{only_none}
use Rattle.neighbors.proofs.link_all.Goals as goal

pub loop-c-init : goal.loop-c-init
loop-c-init c =
    (record { ready = c.requires; first = omega arith; second = omega arith; likes = λ a b p q r. absurd (omega arith) }, up_to-none _ _, only_none _ _ _)

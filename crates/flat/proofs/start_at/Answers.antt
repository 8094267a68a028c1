-- Proof that `start_at` meets its contract. Assumes nothing.
use native.Mathlib.Omega.{arith}
use Rattle.view.proofs.Frame.{only-trans}
use Rattle.groups.proofs.Steps.{ready-opened}
use Rattle.flat.proofs.Turns.{turn-shut, turn-opened, only-shut, only-opened}
use Rattle.flat.proofs.start_at.Goals as goal

pub open_at-requires : goal.open_at-requires
open_at-requires c = let R = c.requires.2 in (omega (arith, c.requires.0, R.fits), c.requires.1, omega (arith, R.room), R.long, R.few)

pub returns-in_default : goal.returns-in_default
returns-in_default c =
    record { turned = turn-shut _ _ _ _ _ _ c.requires.0 c.requires.1 c.requires.2 c.in_default.ensures; only = only-shut _ _ _ _ c.in_default.ensures }

pub walk_from-requires : goal.walk_from-requires
walk_from-requires c = (omega (arith, c.requires.0), ready-opened _ _ _ _ _ _ _ c.requires.0 c.requires.1 c.requires.2 c.in-Some.ensures)

pub returns : goal.returns
returns c =
    let O = c.in-Some.ensures in
    record { turned = turn-opened _ _ _ _ _ _ _ _ _ c.requires.0 c.requires.1 c.requires.2 O c.walk_from.ensures.walked; only = only-trans _ _ _ _ _ (only-opened _ _ _ _ _ _ (omega (arith, c.requires.0, c.requires.1, c.requires.2.fits)) O) c.walk_from.ensures.only }

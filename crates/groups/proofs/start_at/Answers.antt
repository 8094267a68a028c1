-- Proof that `start_at` meets its contract. Assumes nothing.
use native.Mathlib.Omega.{arith}
use Rattle.groups.proofs.Steps.{turn-shut, turn-opened, ready-opened}
use Rattle.groups.proofs.start_at.Goals as goal

pub open_at-requires : goal.open_at-requires
open_at-requires c = let R = c.requires.2 in (omega (arith, c.requires.0, R.fits), c.requires.1, omega (arith, R.room), R.long, R.few)

pub returns-in_default : goal.returns-in_default
returns-in_default c = turn-shut _ _ _ _ _ _ c.requires.1 c.requires.2 c.in_default.ensures

pub corner_step-requires : goal.corner_step-requires
corner_step-requires c = (omega (arith, c.requires.0), ready-opened _ _ _ _ _ _ _ c.requires.0 c.requires.1 c.requires.2 c.in-Some.ensures)

pub returns : goal.returns
returns c = turn-opened _ _ _ _ _ _ _ _ _ c.requires.0 c.requires.1 c.requires.2 c.in-Some.ensures c.corner_step.auto.work c.corner_step.ensures

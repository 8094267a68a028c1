-- Proof that `go_to` meets its contract. Assumes nothing.
use Prim.Native.Nat.{◌<◌}
use native.Mathlib.Omega.{arith}
use Rattle.groups.proofs.Steps.{corner-below}
use Rattle.flat.proofs.Crossing.{goes_back, goes_to}
use Rattle.flat.proofs.go_to.Goals as goal

pub returns-in_default : goal.returns-in_default
returns-in_default c =
    let enter = c.enter_at in
    goes_back _ _ _ _ _ _ _ _ _ c.requires.0 c.requires.1 c.requires.2 _ _ enter.ensures.entry enter.ensures.work _ c.in_default.is c.back.ensures

pub overflow_add-work : goal.overflow_add-work
overflow_add-work c =
    let below : c.in-Some.i < 3 = corner-below _ _ _ _ _ _ _ _ c.requires.0 c.requires.1 _ _ c.enter_at.ensures.entry c.enter_at.ensures.work _ c.in-Some.is in
    omega (arith, c.requires.1.fits)

pub overflow_cast-work : goal.overflow_cast-work
overflow_cast-work c =
    let below : c.in-Some.i < 3 = corner-below _ _ _ _ _ _ _ _ c.requires.0 c.requires.1 _ _ c.enter_at.ensures.entry c.enter_at.ensures.work _ c.in-Some.is in
    omega (arith, c.requires.1.fits, c.requires.1.few)

pub overflow_add-result : goal.overflow_add-result
overflow_add-result c =
    let below : c.in-Some.i < 3 = corner-below _ _ _ _ _ _ _ _ c.requires.0 c.requires.1 _ _ c.enter_at.ensures.entry c.enter_at.ensures.work _ c.in-Some.is in
    omega arith

pub returns : goal.returns
returns c =
    let enter = c.enter_at in
    let below : c.in-Some.i < 3 = corner-below _ _ _ _ _ _ _ _ c.requires.0 c.requires.1 _ _ c.enter_at.ensures.entry c.enter_at.ensures.work _ c.in-Some.is in
    goes_to _ _ _ _ _ _ _ _ _ c.requires.0 c.requires.1 c.requires.2 _ _ enter.ensures.entry enter.ensures.work _ c.in-Some.is _ _ _ _ (omega arith) (omega arith) (omega arith) (omega arith)

-- `reasons::strike` meets its contract. Assumes nothing.
use native.Mathlib.Omega.{arith}
use Prim.Native.Nat.{◌*◌}
use mathlib.Core.Path.{◌∙◌, ap}
use lib.ListN.{get_or}
use Rattle.tangent.specs.Slot.{slot_words}
use Rattle.worth.proofs.Filling.{filled_none, filled_more, filled-all}
use Rattle.reasons.specs.Reasons.{only_absent}
use Rattle.reasons.proofs.Bytes.{not_yet}
use Rattle.reasons.proofs.strike.Goals as goal
use Rattle.reasons.proofs.strike.Invariants.{stored}

pub loop-s-init : goal.loop-s-init
loop-s-init c = let a = c.args in filled_none a.count (stored a.answer.now a.reasons.now) a.reasons.now

pub bounds-reasons-s : goal.bounds-reasons-s
bounds-reasons-s c = let l = c.loop-s in omega (arith, l.invariant.long)

pub bounds-reasons-s-in-loop-s : goal.bounds-reasons-s-in-loop-s
bounds-reasons-s-in-loop-s c = let l = c.loop-s in omega (arith, l.invariant.long)

pub loop-s-preserved : goal.loop-s-preserved
loop-s-preserved c =
    let l = c.loop-s in
    let a = c.args in
    filled_more a.count (stored a.answer.now a.reasons.now) a.reasons.now l.reasons l.s _ (omega arith)
    (c.reason_of.ensures ∙ ap (only_absent (get_or a.answer.now (slot_words * l.s) 0)) (not_yet a.count (stored a.answer.now a.reasons.now) a.reasons.now l.reasons l.s (omega arith) l.invariant)) l.invariant

pub shape_of-reasons : goal.shape_of-reasons
shape_of-reasons c = c.loop-s.invariant.long

pub returns : goal.returns
returns c =
    let l = c.loop-s in
    let a = c.args in
    filled-all a.count (stored a.answer.now a.reasons.now) a.reasons.now l.reasons l.s (omega arith) (omega arith) l.invariant

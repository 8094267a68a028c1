-- `reasons::note_reasons` meets its contract. Assumes nothing.
use native.Mathlib.Omega.{arith}
use Rattle.worth.proofs.Filling.{filled_none, filled_more, filled-all}
use Rattle.reasons.proofs.note_reasons.Goals as goal
use Rattle.reasons.proofs.note_reasons.Invariants.{stored}

pub loop-s-init : goal.loop-s-init
loop-s-init c = let a = c.args in filled_none a.count (stored a.answer.now) a.reasons.now

pub bounds-reasons-s : goal.bounds-reasons-s
bounds-reasons-s c = let l = c.loop-s in omega (arith, l.invariant.long)

pub loop-s-preserved : goal.loop-s-preserved
loop-s-preserved c =
    let l = c.loop-s in
    let a = c.args in
    filled_more a.count (stored a.answer.now) a.reasons.now l.reasons l.s _ (omega arith) c.reason_by.ensures l.invariant

pub shape_of-reasons : goal.shape_of-reasons
shape_of-reasons c = c.loop-s.invariant.long

pub returns : goal.returns
returns c =
    let l = c.loop-s in
    let a = c.args in
    filled-all a.count (stored a.answer.now) a.reasons.now l.reasons l.s (omega arith) (omega arith) l.invariant

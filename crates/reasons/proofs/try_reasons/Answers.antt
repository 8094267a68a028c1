-- `reasons::try_reasons` meets its contract: what the desk says, 9, and else the trial, the frames and the bytes. Assumes nothing.
use native.Mathlib.Omega.{arith}
use mathlib.Core.Path.{sym, ap, ◌∙◌}
use borrow.Author.Tests.{lt-ltb, le-ltb}
use lib.ListN.{length}
use Rattle.std.proofs.lemmas.Result.{err_from_is_err_and}
use Rattle.definition.specs.Handed.{call, slot_count}
use Rattle.definition.specs.Desk.{shown, at_desk, verdict}
use Rattle.laws.proofs.Verdict.{fine}
use Rattle.mesh.specs.Parts.{given}
use Rattle.mikktspace.specs.Contract.{outcome_of}
use Rattle.mikktspace.proofs.Verdicts.{no-refusal, all_slots}
use Rattle.islands.proofs.Nine.{passes}
use Rattle.reasons.specs.Contract.{answered, accepted_reasons, reasons_verdict, reasons_outcome}
use Rattle.reasons.proofs.Verdicts.{refused, too_short, whole}
use Rattle.reasons.proofs.try_reasons.Goals as goal

pub returns-in_err-judge : goal.returns-in_err-judge
unfolding reasons_outcome reasons_verdict
returns-in_err-judge c =
    let a = c.args in
    let x = call (given a.mesh.now) a.threshold a.answer.now a.work.now in
    let p = err_from_is_err_and c.from_residual.result c.from_residual.ensures.1 in
    rw (p.1, p.2) (refused _ _ _ _ a.answer.now a.work.now a.reasons.now c.in_err-judge.ensures)

pub returns-then-few : goal.returns-then-few
unfolding reasons_outcome reasons_verdict
returns-then-few c =
    let a = c.args in
    let x = call (given a.mesh.now) a.threshold a.answer.now a.work.now in
    let no = no-refusal (at_desk x) c.in_ok-judge.ensures in
    let k = fine (at_desk x) no in
    let n = all_slots a.mesh.now.sizes.now _ k.few c.slots_before-slots.ensures.0 in
    too_short _ _ _ a.answer.now a.work.now a.reasons.now no (lt-ltb _ _ (omega (arith, c.if-few.true, n)))

pub try_copies-requires : goal.try_copies-requires
try_copies-requires c =
    let a = c.args in
    let x = call (given a.mesh.now) a.threshold a.answer.now a.work.now in
    let no = no-refusal (at_desk x) c.in_ok-judge.ensures in
    let k = fine (at_desk x) no in
    let n = all_slots a.mesh.now.sizes.now _ k.few c.slots_before-slots.ensures.0 in
    (k.few, omega (arith, k.work-fits), k.answer-fits, n, k.good)

pub note_reasons-requires : goal.note_reasons-requires
note_reasons-requires c =
    let a = c.args in
    let x = call (given a.mesh.now) a.threshold a.answer.now a.work.now in
    let no = no-refusal (at_desk x) c.in_ok-judge.ensures in
    let k = fine (at_desk x) no in
    let n = all_slots a.mesh.now.sizes.now _ k.few c.slots_before-slots.ensures.0 in
    (omega (arith, k.answer-fits, n, c.try_copies.auto.answer), omega (arith, c.if-few.false, n))

pub make_frames-made-requires : goal.make_frames-made-requires
make_frames-made-requires c =
    let a = c.args in
    let x = call (given a.mesh.now) a.threshold a.answer.now a.work.now in
    let no = no-refusal (at_desk x) c.in_ok-judge.ensures in
    (λ z. verdict (shown (given a.mesh.now) a.threshold (c.try_copies.auto.answer z) (c.try_copies.auto.work z))) ∙ no

pub strike-requires : goal.strike-requires
strike-requires c =
    let a = c.args in
    let x = call (given a.mesh.now) a.threshold a.answer.now a.work.now in
    let no = no-refusal (at_desk x) c.in_ok-judge.ensures in
    let k = fine (at_desk x) no in
    let n = all_slots a.mesh.now.sizes.now _ k.few c.slots_before-slots.ensures.0 in
    (omega (arith, k.answer-fits, n, c.try_copies.auto.answer, c.make_frames-made.auto.answer), omega (arith, c.if-few.false, n, c.note_reasons.auto.reasons))

pub returns : goal.returns
unfolding reasons_outcome reasons_verdict answered outcome_of
returns c =
    let a = c.args in
    let x = call (given a.mesh.now) a.threshold a.answer.now a.work.now in
    let no = no-refusal (at_desk x) c.in_ok-judge.ensures in
    let k = fine (at_desk x) no in
    let n = all_slots a.mesh.now.sizes.now _ k.few c.slots_before-slots.ensures.0 in
    let p = passes (verdict (at_desk x)) _ no (le-ltb (length a.reasons.now) (slot_count a.mesh.now.sizes.now) (omega (arith, c.if-few.false, n))) in
    whole (given a.mesh.now) a.threshold a.answer.now a.work.now a.reasons.now _ _ _ _ _ _ _ _ n k.answer-fits c.try_copies.auto.answer
    c.try_copies.ensures.0 c.try_copies.ensures.1 c.note_reasons.ensures c.make_frames-made.ensures c.make_frames-made.auto.answer c.strike.ensures
    ∙ ap (λ o. answered o (accepted_reasons x a.reasons.now) a.answer.now a.work.now a.reasons.now) (sym p)

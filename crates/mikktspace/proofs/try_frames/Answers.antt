-- `mikktspace::try_frames` meets its contract: what the desk says, and else the frames. Assumes nothing.
use Rattle.std.proofs.Common.{arith, ◌≡◌, sym, ap, ◌∙◌, length}
use Rattle.std.proofs.lemmas.Result.{err_from_is_err_and}
use Rattle.definition.specs.Handed.{call}
use Rattle.definition.specs.Desk.{shown, verdict}
use Rattle.definition.specs.Outcome.{accepted, answered, outcome}
use Rattle.mesh.specs.Parts.{given}
use Rattle.mikktspace.specs.Contract.{left, outcome_of}
use Rattle.mikktspace.proofs.Verdicts.{refused, as-long, no-refusal}
use Rattle.mikktspace.proofs.try_frames.Goals as goal

pub returns-in_err-judge : goal.returns-in_err-judge
unfolding outcome
returns-in_err-judge c =
    let a = c.args in
    let p = err_from_is_err_and c.from_residual.result c.from_residual.ensures.1 in
    rw (p.1, p.2) (refused _ _ (accepted (call (given a.mesh.now) a.threshold a.answer.now a.work.now)) a.answer.now a.work.now (as-long _ _ _ _ (length a.answer.now) (length a.work.now) _ c.in_err-judge.ensures (omega arith) (omega arith)))

pub make_frames-requires : goal.make_frames-requires
make_frames-requires c = let a = c.args in no-refusal _ (as-long _ _ _ _ (length a.answer.now) (length a.work.now) _ c.in_ok-judge.ensures (omega arith) (omega arith))

pub returns : goal.returns
unfolding outcome answered outcome_of
returns c =
    let a = c.args in
    c.make_frames.ensures ∙ ap (λ o. answered o (accepted (call (given a.mesh.now) a.threshold a.answer.now a.work.now)) a.answer.now a.work.now) (sym (no-refusal _ (as-long _ _ _ _ (length a.answer.now) (length a.work.now) _ c.in_ok-judge.ensures (omega arith) (omega arith))))

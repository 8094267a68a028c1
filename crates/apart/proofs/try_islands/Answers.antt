-- `apart::try_islands` meets its contract: what the desk says, a list of its own that is too short, and else the islands. Assumes nothing.
use native.Mathlib.Omega.{arith}
use mathlib.Core.Path.{sym, ◌∙◌}
use lib.ListN.{length}
use Rattle.std.proofs.lemmas.Result.{err_from_is_err_and}
use Rattle.laws.proofs.Verdict.{fine}
use Rattle.mesh.specs.Parts.{given}
use Rattle.mikktspace.specs.Contract.{outcome_of}
use Rattle.mikktspace.proofs.Verdicts.{as-long, no-refusal}
use Rattle.apart.specs.Call.{lists, short}
use Rattle.apart.proofs.Finishing.{table-leaves, nine-leaves, taken-leaves}
use Rattle.apart.proofs.try_islands.Goals as goal

pub returns-in_err-judge : goal.returns-in_err-judge
returns-in_err-judge c =
    let a = c.args in
    let p = err_from_is_err_and c.from_residual.result c.from_residual.ensures.1 in
    rw (p.1, p.2) (table-leaves (given a.mesh.now) a.threshold a.answer.now a.work.now (lists a.labels.now a.order.now a.own_sizes.now a.own_numbers.now a.own_frames.now) _ (as-long _ _ _ _ (length a.answer.now) (length a.work.now) _ c.in_err-judge.ensures (omega arith) (omega arith)))

pub is_short-short-requires : goal.is_short-short-requires
is_short-short-requires c = let a = c.args in (fine _ (no-refusal _ (as-long _ _ _ _ (length a.answer.now) (length a.work.now) _ c.in_ok-judge.ensures (omega arith) (omega arith)))).few

pub returns-then-short : goal.returns-then-short
unfolding short
returns-then-short c =
    let a = c.args in
    nine-leaves (given a.mesh.now) a.threshold a.answer.now a.work.now (lists a.labels.now a.order.now a.own_sizes.now a.own_numbers.now a.own_frames.now) (no-refusal _ (as-long _ _ _ _ (length a.answer.now) (length a.work.now) _ c.in_ok-judge.ensures (omega arith) (omega arith))) (sym c.is_short-short.ensures ∙ c.if-short.true)

pub make_frames-requires : goal.make_frames-requires
unfolding short
make_frames-requires c = let a = c.args in (no-refusal _ (as-long _ _ _ _ (length a.answer.now) (length a.work.now) _ c.in_ok-judge.ensures (omega arith) (omega arith)), sym c.is_short-short.ensures ∙ c.if-short.false)

pub returns : goal.returns
unfolding short outcome_of
returns c =
    let a = c.args in
    c.make_frames.ensures ∙ taken-leaves (given a.mesh.now) a.threshold a.answer.now a.work.now (lists a.labels.now a.order.now a.own_sizes.now a.own_numbers.now a.own_frames.now) (no-refusal _ (as-long _ _ _ _ (length a.answer.now) (length a.work.now) _ c.in_ok-judge.ensures (omega arith) (omega arith))) (sym c.is_short-short.ensures ∙ c.if-short.false)

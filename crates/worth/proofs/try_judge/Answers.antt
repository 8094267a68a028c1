-- `worth::try_judge` meets its contract. Assumes nothing.
use native.Mathlib.Omega.{arith}
use mathlib.Core.Path.{sym, ap, ◌∙◌}
use lib.ListN.{drop}
use mathlib.Core.List.{◌++◌}
use Rattle.std.proofs.lemmas.Result.{err_from_is_err_and}
use Rattle.packed.specs.Packer.{slots_in}
use Rattle.packed.specs.Reader.{first_failing}
use Rattle.worth.specs.Worth.{count_below}
use Rattle.worth.specs.Contract.{good_at, verdicts_of, not_judged, all_judged, after_judge}
use Rattle.worth.proofs.Outcomes.{number-some, none-fit, judge-refused, judge-done, count-there, first-there}
use Rattle.worth.proofs.try_judge.Goals as goal

pub returns-in_err-count : goal.returns-in_err-count
unfolding after_judge not_judged
returns-in_err-count c =
    let a = c.args in
    let e = c.in_err-count.ensures in
    let p = err_from_is_err_and c.from_residual.result c.from_residual.ensures.1 in
    rw (p.1, p.2) ((λ i. record { number = e i; good = 0; first = 0; verdicts = a.verdicts.now }) ∙ judge-refused a.answer.now a.verdicts.now (λ k. number-some _ (e ∙ k)))

pub judge_slots-requires : goal.judge_slots-requires
judge_slots-requires c =
    let n = c.in_ok-count.ensures in
    (omega (arith, n.1), omega (arith, n.1, (none-fit _ _ (sym n.0)).room_for))

pub good_among-requires : goal.good_among-requires
good_among-requires c =
    let n = c.in_ok-count.ensures in
    let fit = none-fit _ _ (sym n.0) in
    (omega (arith, n.1, fit.room_for, c.judge_slots.auto.verdicts), omega (arith, n.1, fit.few))

pub first_other-requires : goal.first_other-requires
first_other-requires c =
    let n = c.in_ok-count.ensures in
    omega (arith, n.1, (none-fit _ _ (sym n.0)).room_for, c.judge_slots.auto.verdicts)

pub returns : goal.returns
unfolding after_judge all_judged slots_in
returns c =
    let l = c.args.answer.now in
    let v = c.args.verdicts.now in
    let n = c.in_ok-count.ensures in
    let filled = c.judge_slots.ensures in
    (λ i. record {
      number = 0;
      good = (c.good_among.ensures ∙ (count-there l v _ _ filled ∙ ap (λ k. count_below k (good_at l)) n.1)) i;
      first = (c.first_other.ensures ∙ (first-there l v _ _ filled ∙ ap (λ k. first_failing k (good_at l)) n.1)) i;
      verdicts = (filled ∙ ap (λ k. verdicts_of k l ++ drop k v) n.1) i;
    })
    ∙ judge-done l v (sym n.0)

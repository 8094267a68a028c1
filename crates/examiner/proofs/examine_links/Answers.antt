-- `examiner::examine_links` meets its contract. Assumes nothing.
use Rattle.std.proofs.lemmas.Result.{err_from_is_err_and}
use Rattle.examiner.proofs.Stages.{on-wide, on-crooked, on-one-sided, on-left-over}
use Rattle.examiner.proofs.examine_links.Goals as goal

pub returns-in_err-refuse_wide-clause-verdict : goal.returns-in_err-refuse_wide-clause-verdict
returns-in_err-refuse_wide-clause-verdict c =
    let p = err_from_is_err_and c.from_residual.result c.from_residual.ensures.1 in
    rw (p.1, p.2) (on-wide _ _ _ _ c.refuse_wide.ensures _ c.in_err-refuse_wide.was)

pub returns-in_err-refuse_crooked-clause-verdict : goal.returns-in_err-refuse_crooked-clause-verdict
returns-in_err-refuse_crooked-clause-verdict c =
    let p = err_from_is_err_and c.from_residual-in_err-refuse_crooked.result c.from_residual-in_err-refuse_crooked.ensures.1 in
    rw (p.1, p.2) (on-crooked _ _ _ _ c.refuse_wide.ensures _ c.in_ok-refuse_wide.was _ c.refuse_crooked.ensures _ c.in_err-refuse_crooked.was)

pub returns-in_err-refuse_one_sided-clause-verdict : goal.returns-in_err-refuse_one_sided-clause-verdict
returns-in_err-refuse_one_sided-clause-verdict c =
    let p = err_from_is_err_and c.from_residual-in_err-refuse_one_sided.result c.from_residual-in_err-refuse_one_sided.ensures.1 in
    rw (p.1, p.2) (on-one-sided _ _ _ _ c.refuse_wide.ensures _ c.in_ok-refuse_wide.was _ c.refuse_crooked.ensures _ c.in_ok-refuse_crooked.was _ c.refuse_one_sided.ensures _ c.in_err-refuse_one_sided.was)

pub returns-clause-verdict : goal.returns-clause-verdict
returns-clause-verdict c =
    on-left-over _ _ _ _ c.refuse_wide.ensures _ c.in_ok-refuse_wide.was _ c.refuse_crooked.ensures _ c.in_ok-refuse_crooked.was _ c.refuse_one_sided.ensures _ c.in_ok-refuse_one_sided.was _ c.refuse_left.ensures.says

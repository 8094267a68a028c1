-- `fellows::examine_words` meets its contract. Assumes nothing.
use Rattle.std.proofs.lemmas.Result.{err_from_is_err_and}
use Rattle.fellows.proofs.Stages.{on-no-flag, on-turned, on-loose}
use Rattle.fellows.proofs.examine_words.Goals as goal

pub returns-in_err-refuse_no_flag : goal.returns-in_err-refuse_no_flag
returns-in_err-refuse_no_flag c =
    let p = err_from_is_err_and c.from_residual.result c.from_residual.ensures.1 in
    rw (p.1, p.2) (on-no-flag _ _ _ _ _ _ c.refuse_no_flag.ensures _ c.in_err-refuse_no_flag.was)

pub returns-in_err-refuse_turned : goal.returns-in_err-refuse_turned
returns-in_err-refuse_turned c =
    let p = err_from_is_err_and c.from_residual-in_err-refuse_turned.result c.from_residual-in_err-refuse_turned.ensures.1 in
    rw (p.1, p.2) (on-turned _ _ _ _ _ _ c.refuse_no_flag.ensures _ c.in_ok-refuse_no_flag.was _ c.refuse_turned.ensures _ c.in_err-refuse_turned.was)

pub returns : goal.returns
returns c =
    on-loose _ _ _ _ _ _ c.refuse_no_flag.ensures _ c.in_ok-refuse_no_flag.was _ c.refuse_turned.ensures _ c.in_ok-refuse_turned.was _ c.refuse_loose.ensures

-- `fellows::examine_fellows` meets its contract. Assumes nothing.
use native.Mathlib.Omega.{arith}
use Rattle.std.proofs.lemmas.Result.{err_from_is_err_and}
use Rattle.asked.proofs.Rows.{finds-below}
use Rattle.examiner.proofs.Finding.{says}
use Rattle.fellows.proofs.Stages.{on-elsewhere, on-otherwise, on-parted}
use Rattle.fellows.proofs.examine_fellows.Goals as goal

pub refuse-requires : goal.refuse-requires
refuse-requires c = finds-below _ _ _ _ (omega (arith, c.requires.0, c.requires.2)) c.first_unlike-elsewhere.ensures

pub returns-in_err-refuse : goal.returns-in_err-refuse
returns-in_err-refuse c =
    let p = err_from_is_err_and c.from_residual.result c.from_residual.ensures.1 in
    rw (p.1, p.2) (on-elsewhere _ _ _ _ _ _ _ (says _ _ _ _ _ c.refuse.ensures c.first_unlike-elsewhere.ensures) _ c.in_err-refuse.was)

pub refuse-requires-2 : goal.refuse-requires-2
refuse-requires-2 c = finds-below _ _ _ _ (omega (arith, c.requires.0, c.requires.2)) c.first_unlike-otherwise.ensures

pub returns-in_err-refuse-2 : goal.returns-in_err-refuse-2
returns-in_err-refuse-2 c =
    let p = err_from_is_err_and c.from_residual-in_err-refuse-2.result c.from_residual-in_err-refuse-2.ensures.1 in
    rw (p.1, p.2) (on-otherwise _ _ _ _ _ _ _ (says _ _ _ _ _ c.refuse.ensures c.first_unlike-elsewhere.ensures) _ c.in_ok-refuse.was _ (says _ _ _ _ _ c.refuse-2.ensures c.first_unlike-otherwise.ensures) _ c.in_err-refuse-2.was)

pub returns : goal.returns
returns c =
    on-parted _ _ _ _ _ _ _ (says _ _ _ _ _ c.refuse.ensures c.first_unlike-elsewhere.ensures) _ c.in_ok-refuse.was _ (says _ _ _ _ _ c.refuse-2.ensures c.first_unlike-otherwise.ensures) _ c.in_ok-refuse-2.was _ c.refuse_parted.ensures

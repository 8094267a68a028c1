-- `examine::examine_lengths` meets its contract. Assumes nothing.
use mathlib.Core.Path.{ap}
use Rattle.std.proofs.lemmas.Result.{err_from_is_err_and}
use Rattle.examiner.specs.Said.{number_of}
use Rattle.examine.proofs.Deciding.{on-links, on-groups, on-last}
use Rattle.examine.proofs.examine_lengths.Goals as goal

pub returns-in_err-refuse_misfit : goal.returns-in_err-refuse_misfit
returns-in_err-refuse_misfit c =
    let t = c.args in
    let p = err_from_is_err_and c.from_residual.result c.from_residual.ensures.1 in
    let e = c.in_err-refuse_misfit.ensures in
    rw (p.1, p.2) (on-links t.tris t.links.now t.groups.now t.ways.now _ _ e.2 (ap number_of e.0) e.1)

pub returns-in_err-refuse_misfit-2 : goal.returns-in_err-refuse_misfit-2
returns-in_err-refuse_misfit-2 c =
    let t = c.args in
    let p = err_from_is_err_and c.from_residual-in_err-refuse_misfit-2.result c.from_residual-in_err-refuse_misfit-2.ensures.1 in
    let e = c.in_err-refuse_misfit-2.ensures in
    rw (p.1, p.2) (on-groups t.tris t.links.now t.groups.now t.ways.now _ _ c.in_ok-refuse_misfit.ensures e.2 (ap number_of e.0) e.1)

pub returns : goal.returns
returns c =
    let t = c.args in
    on-last t.tris t.links.now t.groups.now t.ways.now _ c.in_ok-refuse_misfit.ensures c.in_ok-refuse_misfit-2.ensures c.refuse_misfit-3.ensures

-- `examine::examine_all` meets its contract. Assumes nothing.
use native.Mathlib.Omega.{arith}
use mathlib.Core.Path.{refl}
use Rattle.std.proofs.lemmas.Result.{err_from_is_err_and}
use Rattle.neighbors.specs.Sides.{step_columns}
use Rattle.view.proofs.Frame.{only_none, only-trans, only-more}
use Rattle.examiner.proofs.Finding.{numbered}
use Rattle.fellows.specs.Fellows.{group_columns}
use Rattle.examine.specs.Deciding.{all_columns}
use Rattle.examine.proofs.Deciding.{stop-lengths, stop-links, links-clear, end-groups, long-lists}
use Rattle.examine.proofs.examine_all.Goals as goal

pub returns-in_err-examine_lengths : goal.returns-in_err-examine_lengths
returns-in_err-examine_lengths c =
    let t = c.args in
    let r = err_from_is_err_and c.from_residual.result c.from_residual.ensures.1 in
    record { verdict = rw (r.1, r.2) (stop-lengths t.rows t.tris t.work.now t.links.now t.groups.now t.ways.now _ _ c.in_err-examine_lengths.ensures (λ z. omega (arith, numbered c.in_err-examine_lengths.field-0.0.fault, z))); only = only_none _ _ _ }

pub examine_links-requires : goal.examine_links-requires
examine_links-requires c =
    let p = c.requires in
    let t = c.args in
    let l = long-lists t.rows t.tris t.work.now t.links.now t.groups.now t.ways.now 0 0 c.in_ok-examine_lengths.ensures refl in
    (p.0, p.1, p.2, omega (arith, l.links), p.3)

pub returns-in_err-examine_links : goal.returns-in_err-examine_links
returns-in_err-examine_links c =
    let t = c.args in
    let r = err_from_is_err_and c.from_residual-in_err-examine_links.result c.from_residual-in_err-examine_links.ensures.1 in
    let e = c.in_err-examine_links.ensures in
    record { verdict = rw (r.1, r.2) (stop-links t.rows t.tris t.work.now t.links.now t.groups.now t.ways.now 0 0 c.in_ok-examine_lengths.ensures refl _ _ e.verdict (λ z. omega (arith, numbered c.in_err-examine_links.field-0.0.fault, z))); only = only-more step_columns all_columns _ _ _ refl e.only }

pub examine_groups-requires : goal.examine_groups-requires
examine_groups-requires c =
    let p = c.requires in
    let t = c.args in
    let l = long-lists t.rows t.tris t.work.now t.links.now t.groups.now t.ways.now 0 0 c.in_ok-examine_lengths.ensures refl in
    let e = c.in_ok-examine_links.ensures in
    (p.0, omega (arith, p.1, e.only.size), p.2, omega (arith, l.links), omega (arith, l.groups), omega (arith, l.ways), links-clear t.rows t.tris t.work.now t.links.now t.groups.now t.ways.now 0 0 c.in_ok-examine_lengths.ensures refl 0 0 e.verdict refl _ p.0 e.only)

pub returns : goal.returns
returns c =
    let p = c.requires in
    let t = c.args in
    let e = c.in_ok-examine_links.ensures in
    let r = c.examine_groups.ensures in
    record { verdict = end-groups t.rows t.tris t.work.now t.links.now t.groups.now t.ways.now 0 0 c.in_ok-examine_lengths.ensures refl 0 0 e.verdict refl _ p.0 e.only _ _ r.verdict; only = only-trans all_columns _ _ _ _ (only-more step_columns all_columns _ _ _ refl e.only) (only-more group_columns all_columns _ _ _ refl r.only) }

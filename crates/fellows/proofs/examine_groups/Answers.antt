-- `fellows::examine_groups` meets its contract. Assumes nothing.
use native.Mathlib.Omega.{arith}
use mathlib.Core.Path.{refl}
use mathlib.Core.List.{[], ◌∷◌}
use Rattle.std.proofs.lemmas.Result.{err_from_is_err_and}
use Rattle.table.specs.Columns.{next_column}
use Rattle.view.proofs.Frame.{only_none, only-trans, only-more}
use Rattle.firsts.specs.Firsts.{first_columns}
use Rattle.fellows.specs.Fellows.{group_columns}
use Rattle.fellows.proofs.Beside.{walk-firsts}
use Rattle.fellows.proofs.Stages.{not_wide, not-loose, stop-words, stop-beside, on-severed}
use Rattle.fellows.proofs.examine_groups.Goals as goal

pub returns-in_err-examine_words-clause-verdict : goal.returns-in_err-examine_words-clause-verdict
returns-in_err-examine_words-clause-verdict c =
    let t = c.args in
    let r = err_from_is_err_and c.from_residual.result c.from_residual.ensures.1 in
    rw (r.1, r.2) (stop-words t.rows t.tris t.work.now t.given.now t.groups.now t.ways.now c.requires.0 c.requires.6 _ c.examine_words.ensures _ c.in_err-examine_words.was)

pub examine_fellows-requires : goal.examine_fellows-requires
examine_fellows-requires c =
    let p = c.requires in
    let t = c.args in
    (p.0, omega (arith, p.1, c.put_firsts.ensures.only.size), p.2, p.3, p.4, p.5, not_wide t.rows t.tris t.work.now t.given.now t.groups.now t.ways.now p.0 p.6, not-loose t.rows t.tris t.work.now t.given.now t.groups.now t.ways.now p.0 p.6 _ c.examine_words.ensures _ c.in_ok-examine_words.was first_columns _ refl refl refl c.put_firsts.ensures.only, c.put_firsts.ensures.firsts)

pub returns-in_err-examine_fellows-clause-verdict : goal.returns-in_err-examine_fellows-clause-verdict
returns-in_err-examine_fellows-clause-verdict c =
    let p = c.requires in
    let t = c.args in
    let r = err_from_is_err_and c.from_residual-in_err-examine_fellows.result c.from_residual-in_err-examine_fellows.ensures.1 in
    rw (r.1, r.2) (stop-beside t.rows t.tris t.work.now t.given.now t.groups.now t.ways.now p.0 p.6 _ c.examine_words.ensures _ c.in_ok-examine_words.was first_columns _ refl refl refl c.put_firsts.ensures.only _ c.examine_fellows.ensures _ c.in_err-examine_fellows.was)

pub refuse_severed-requires : goal.refuse_severed-requires
refuse_severed-requires c =
    let p = c.requires in
    let t = c.args in
    (p.0, p.2, omega (arith, p.1, c.put_firsts.ensures.only.size), p.3, p.4, not_wide t.rows t.tris t.work.now t.given.now t.groups.now t.ways.now p.0 p.6, walk-firsts _ _ _ _ c.put_firsts.ensures.firsts)

pub returns-clause-verdict : goal.returns-clause-verdict
returns-clause-verdict c =
    let p = c.requires in
    let t = c.args in
    let v = c.refuse_severed.ensures in
    on-severed t.rows t.tris t.work.now t.given.now t.groups.now t.ways.now p.0 p.6 _ c.examine_words.ensures _ c.in_ok-examine_words.was first_columns _ refl refl refl c.put_firsts.ensures.only _ c.examine_fellows.ensures _ c.in_ok-examine_fellows.was _ v.says v.connected

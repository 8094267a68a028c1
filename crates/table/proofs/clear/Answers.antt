-- `table::clear` meets its contract: a column that is filled with zeros. Assumes nothing.
use Rattle.std.proofs.Common.{arith, ◌≡◌, ◌+◌, ◌*◌, sym, ◌∙◌}
use lib.Seq.{sets}
use Rattle.lists.proofs.Written.{part-cleared, zeros-listed}
use Rattle.table.specs.Columns.{columns}
use Rattle.table.proofs.Laws.{column-ends}
use Rattle.table.proofs.clear.Goals as goal

pub returns : goal.returns
returns c =
    let a = c.args in
    let e : a.column * a.rows ≡ a.column * a.rows + 0 = omega arith in
    let ends = column-ends a.column columns a.rows c.requires.0 in
    part-cleared a.work.now _ (a.column * a.rows) _ a.rows (c.fill.ensures.after (λ y e. e)) (omega arith) (omega (arith, ends))
    ∙ (λ i. sets a.work.now (e i) (sym (zeros-listed a.rows) i))

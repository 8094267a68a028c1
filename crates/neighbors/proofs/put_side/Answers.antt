-- `neighbors::put_side` meets its contract. Assumes nothing.
use native.Mathlib.Omega.{arith}
use Rattle.table.specs.Columns.{columns}
use Rattle.table.proofs.Laws.{column-ends}
use Rattle.neighbors.proofs.Sided.{end_lt}
use Rattle.neighbors.proofs.put_side.Goals as goal

pub overflow_add-b : goal.overflow_add-b
overflow_add-b c =
    let a = c.args in
    omega (arith, c.requires, c.end_of.ensures, end_lt a.r a.tris c.requires.1, column-ends a.column columns a.rows c.requires.0)

pub offset_bounds-work-column-2 : goal.offset_bounds-work-column-2
offset_bounds-work-column-2 c =
    let a = c.args in
    omega (arith, c.requires, c.end_of.ensures, end_lt a.r a.tris c.requires.1, column-ends a.column columns a.rows c.requires.0)

pub bounds-work-column-2 : goal.bounds-work-column-2
bounds-work-column-2 c =
    let a = c.args in
    omega (arith, c.requires, c.end_of.ensures, end_lt a.r a.tris c.requires.1, column-ends a.column columns a.rows c.requires.0)

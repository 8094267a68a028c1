-- Proof that `adopt` meets its contract. Assumes nothing.
use Prim.Native.Nat.{◌+◌, ◌*◌}
use native.Mathlib.Omega.{arith}
use mathlib.Core.Bool.{and-false}
use borrow.Author.Tests.{eq-eqb, ne_eqb}
use Rattle.table.specs.Table.{cell}
use Rattle.table.specs.Columns.{any_column, group_column}
use Rattle.groups.specs.Walk.{adopted, untouched}
use Rattle.groups.proofs.adopt.Goals as goal
use Rattle.groups.proofs.adopt.Goals.{else-any-via-then-any+then-work-rows-eq0+then-work-rows-eq0-2+else-work-rows-eq0-3, else-any-via-then-any+then-work-rows-eq0+else-work-rows-eq0-2, else-any-via-then-any+else-work-rows-eq0, else-any-via-else-any}

pub returns-then-work-rows-eq0-3 : goal.returns-then-work-rows-eq0-3
unfolding adopted untouched
returns-then-work-rows-eq0-3 c =
    let a = c.args in
    simp (ne_eqb (cell a.rows any_column a.t a.work.now) 0 (λ z. omega (arith, z, c.if-any.true)), eq-eqb (cell a.rows group_column (3 * a.t) a.work.now) 0 (omega (arith, c.if-work-rows-eq0.true)), eq-eqb (cell a.rows group_column (3 * a.t + 1) a.work.now) 0 (omega (arith, c.if-work-rows-eq0-2.true)), eq-eqb (cell a.rows group_column (3 * a.t + 2) a.work.now) 0 (omega (arith, c.if-work-rows-eq0-3.true)))

pub returns-else-any : goal.returns-else-any
unfolding adopted untouched
returns-else-any c =
    let a = c.args in
    elim c.else-any.branch [
      | else-any-via-then-any+then-work-rows-eq0+then-work-rows-eq0-2+else-work-rows-eq0-3 w ↦ simp (eq-eqb (cell a.rows group_column (3 * a.t) a.work.now) 0 (omega (arith, w.if-work-rows-eq0.true)), eq-eqb (cell a.rows group_column (3 * a.t + 1) a.work.now) 0 (omega (arith, w.if-work-rows-eq0-2.true)), ne_eqb (cell a.rows group_column (3 * a.t + 2) a.work.now) 0 (λ z. omega (arith, z, w.if-work-rows-eq0-3.false)), and-false)
      | else-any-via-then-any+then-work-rows-eq0+else-work-rows-eq0-2 w ↦ simp (eq-eqb (cell a.rows group_column (3 * a.t) a.work.now) 0 (omega (arith, w.if-work-rows-eq0.true)), ne_eqb (cell a.rows group_column (3 * a.t + 1) a.work.now) 0 (λ z. omega (arith, z, w.if-work-rows-eq0-2.false)), and-false)
      | else-any-via-then-any+else-work-rows-eq0 w ↦ simp (ne_eqb (cell a.rows group_column (3 * a.t) a.work.now) 0 (λ z. omega (arith, z, w.if-work-rows-eq0.false)), and-false)
      | else-any-via-else-any w ↦ simp (eq-eqb (cell a.rows any_column a.t a.work.now) 0 (omega (arith, w.if-any.false)))
    ]

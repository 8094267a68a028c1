-- Proof that `enter_at` meets its contract. Assumes nothing.
use native.Mathlib.Omega.{arith}
use mathlib.Core.Path.{refl}
use lib.ListN.{length-set}
use borrow.Author.Tests.{eq-eqb, ne_eqb}
use Rattle.table.specs.Table.{cell}
use Rattle.table.specs.Columns.{orientation_column}
use Rattle.groups.specs.Walk.{enter}
use Rattle.groups.proofs.Laws.{no-corner, a-corner}
use Rattle.groups.proofs.enter_at.Goals as goal

pub returns-in_err-i : goal.returns-in_err-i
unfolding enter
returns-in_err-i c =
    let a = c.args in
    simp (no-corner a.rows a.t a.g.vertex a.work.now (c.in_err-i.ensures)) (record { entry = c.from_residual.ensures; work = refl })

pub returns-then-work-rows-ne0 : goal.returns-then-work-rows-ne0
unfolding enter
returns-then-work-rows-ne0 c =
    let at = c.in_ok-i.ensures in
    rw (← at.1) (simp (a-corner _ _ at.0 at.1, ne_eqb _ _ c.if-work-rows-ne0.true) (record { entry = refl; work = refl }))

pub returns-then-work-rows : goal.returns-then-work-rows
unfolding enter
returns-then-work-rows c =
    let a = c.args in
    let at = c.in_ok-i.ensures in
    rw (← at.1, ← c.adopt.ensures) (simp (a-corner _ _ at.0 at.1, eq-eqb _ _ c.if-work-rows-ne0.false, ne_eqb (cell a.rows orientation_column a.t c.adopt.new.work) a.g.orientation (λ z. omega (arith, z, c.if-work-rows.true))) (record { entry = refl; work = refl }))

pub bounds-work-rows-4 : goal.bounds-work-rows-4
bounds-work-rows-4 c = simp length-set (omega (arith, c.in_ok-i.ensures))

pub returns : goal.returns
unfolding enter
returns c =
    let a = c.args in
    let at = c.in_ok-i.ensures in
    rw (← at.1, ← c.adopt.ensures) (simp (a-corner _ _ at.0 at.1, eq-eqb _ _ c.if-work-rows-ne0.false, eq-eqb (cell a.rows orientation_column a.t c.adopt.new.work) a.g.orientation (omega (arith, c.if-work-rows.false))) (record { entry = refl; work = refl }))

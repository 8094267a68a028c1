-- Proof that `copy_members` meets its contract. Assumes nothing.
use native.Mathlib.Nat.{le_antisymm}
use native.Mathlib.Omega.{arith}
use mathlib.Core.Path.{refl}
use lib.ListN.{get_or, length-set}
use Rattle.table.specs.Table.{column}
use Rattle.table.specs.Columns.{met_column, order_column}
use Rattle.table.proofs.Laws.{fill_none, fill_more, fill-reads}
use Rattle.members.proofs.copy_members.Goals as goal

pub loop-j-init : goal.loop-j-init
loop-j-init c = (omega arith, fill_none _ _ _ _, refl)

pub loop-j-preserved : goal.loop-j-preserved
loop-j-preserved c =
    let l = c.loop-j in
    let a = c.args in
    let h = c.loop-j-test.true in
    (omega (arith, h), fill_more a.rows order_column (λ j. get_or (column a.rows met_column a.work.now) j 0) a.work.now l.work l.j _ l.invariant.1 (omega (arith, fill-reads a.rows order_column met_column _ a.work.now l.work l.j l.j l.invariant.1 refl (omega (arith, h, c.requires.0)) (omega (arith, h, c.requires.0)))), simp length-set l.invariant.2)

pub shape_of-work : goal.shape_of-work
shape_of-work c = c.loop-j.invariant.2

pub returns : goal.returns
returns c = rw (le_antisymm c.loop-j.invariant.0 c.loop-j-test.false) at c.loop-j.invariant.1

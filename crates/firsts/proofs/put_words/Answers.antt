-- Proof that `put_words` meets its contract. Assumes nothing.
use native.Mathlib.Nat.{le_antisymm}
use native.Mathlib.Omega.{arith}
use mathlib.Core.Path.{refl}
use lib.ListN.{get_or, length-set}
use Rattle.table.specs.Columns.{lower_column}
use Rattle.table.proofs.Laws.{fill_none, fill_more}
use Rattle.firsts.proofs.put_words.Goals as goal

pub loop-r-init : goal.loop-r-init
loop-r-init c = (omega arith, fill_none _ _ _ _, refl)

pub loop-r-preserved : goal.loop-r-preserved
loop-r-preserved c =
    let l = c.loop-r in
    let a = c.args in
    (omega (arith, c.loop-r-test.true), fill_more a.rows lower_column (λ r. get_or a.groups.now r 0) a.work.now l.work l.r _ l.invariant.1 refl, simp length-set l.invariant.2)

pub shape_of-work : goal.shape_of-work
shape_of-work c = c.loop-r.invariant.2

pub returns : goal.returns
returns c = rw (le_antisymm c.loop-r.invariant.0 c.loop-r-test.false) at c.loop-r.invariant.1

-- Proof that `sort_group` meets its contract. Assumes nothing.
use Prim.Native.Nat.{◌+◌}
use native.Mathlib.Omega.{arith}
use Rattle.members.proofs.Laws.{begin-by, sorts-idle, sorts-part}
use Rattle.members.proofs.sort_group.Goals as goal

pub returns-then-from-to : goal.returns-then-from-to
returns-then-from-to c =
    let a = c.args in
    sorts-part a.rows c.begin_at-from.result c.begin_at-to.result _ _ a.work.now _ c.begin_at-from.ensures.0 (begin-by _ _ _ _ _ (a.q + 1) _ c.begin_at-to.ensures.0 (omega arith)) c.if-from-to.true c.sort.ensures

pub returns-else-from-to : goal.returns-else-from-to
returns-else-from-to c =
    let a = c.args in
    sorts-idle a.rows c.begin_at-from.result c.begin_at-to.result _ _ a.work.now c.begin_at-from.ensures.0 (begin-by _ _ _ _ _ (a.q + 1) _ c.begin_at-to.ensures.0 (omega arith)) c.if-from-to.false

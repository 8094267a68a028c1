-- `appends::wanted` meets its contract. Assumes nothing.
use native.Mathlib.Omega.{arith}
use mathlib.Core.Path.{sym}
use Rattle.blocks.proofs.Counts.{called, used-none}
use Rattle.appends.proofs.wanted.Goals as goal

pub returns-then-blocks_for-b : goal.returns-then-blocks_for-b
returns-then-blocks_for-b c =
    let a = c.args in
    sym (used-none a.kind a.total a.b (omega (arith, c.if-blocks_for-b.true, c.blocks_for.ensures.0)))

pub records_used-requires : goal.records_used-requires
records_used-requires c =
    let a = c.args in
    called a.kind a.total a.b (omega (arith, c.if-blocks_for-b.false, c.blocks_for.ensures.0))

-- `blocks::blocks_for` meets its contract. Assumes nothing.
use Prim.Native.Nat.{ℕ, ◌+◌, ◌-◌, ◌/◌}
use native.Mathlib.Omega.{arith}
use mathlib.Core.Path.{ap}
use Rattle.blocks.specs.Format.{blocks_for}
use Rattle.blocks.proofs.Counts.{blocks-le}
use Rattle.blocks.proofs.blocks_for.Goals as goal

pub returns : goal.returns
unfolding blocks_for
returns c =
    let a = c.args in
    let e = ap (λ (h : ℕ). (a.total + (h - 1)) / h) c.records_held-held.ensures.0 in
    (omega (arith, e), omega (arith, e, blocks-le a.kind a.total))

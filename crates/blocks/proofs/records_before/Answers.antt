-- `blocks::records_before` meets its contract. Assumes nothing.
use native.Mathlib.Nat.{mul-le-mul_right}
use native.Mathlib.Omega.{arith}
use Prim.Native.Nat.{ℕ, ◌*◌}
use mathlib.Core.Path.{ap}
use Rattle.blocks.proofs.records_before.Goals as goal

pub overflow_mul-result : goal.overflow_mul-result
overflow_mul-result c = omega (arith, mul-le-mul_right c.args.b c.records_held.ensures.2, c.requires)

pub returns : goal.returns
returns c =
    let b = c.args.b in
    (ap (λ (h : ℕ). h * b) c.records_held.ensures.0, mul-le-mul_right b c.records_held.ensures.2)

-- `angle::whole` meets its contract: the product is in the range of the truncation. Assumes nothing.
use Rattle.std.proofs.Common.{ℕ, ◌^◌, ◌≤◌, sym, subst}
use lib.Ieee.{binary32, of_bits, mul}
use Rattle.angle.proofs.Toward.{G, Whole, whole-unit}
use Rattle.angle.proofs.whole.Goals as goal

known : (c : goal.Start) → Whole (mul binary32 c.args.a G)
unfolding of_bits
known c = whole-unit c.args.a c.requires.0 c.requires.1

pub truncating_f32_to_u64-requires : goal.truncating_f32_to_u64-requires
unfolding of_bits
truncating_f32_to_u64-requires c = record { lower_bound = (known c).above; upper_bound = (known c).under }

pub returns : goal.returns
unfolding of_bits
returns c =
    let e = c.truncating_f32_to_u64.ensures in
    (e, subst (λ (n : ℕ). n ≤ 2 ^ 30) (sym e) (known c.before).most)

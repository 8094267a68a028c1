-- Request E3's sentences, from the laws of `angle`. Assumes nothing.
use Prim.Native.Nat.{◌^◌, ◌≤◌}
use mathlib.Core.Path.{◌≡◌, refl}
use lib.Dec.{T}
use lib.Ieee.{Float, binary32, fits, is_nan, lt, eq, le, neg, add, sub, mul, div, to_bits, of_bits, of_int, round, to_unsigned, to_signed, size, units}
use Rattle.bits.specs.Word.{word, number}
use Rattle.bits.specs.Single.{halfᶠ, oneᶠ}
use Rattle.root.specs.Root as root
use Rattle.angle.specs.Table as table
use Rattle.angle.specs.Angle.{plain_way, half_sine, amended_way, greatest, way_at, angle}
use Rattle.angle.proofs.Narrow.{narrow, above_half, half_turn}
use Rattle.angle.proofs.Lossless.{lossless}
use Rattle.promises.specs.NarrowAngles.{Exact, Promised}

-- what computes: the ends, and A at 1/2 and right above
abbrev Computed : Type 0
Computed = (word (angle (number 0x3f80_0000)) ≡ 0) × (word (angle (number 0)) ≡ 0x3fc9_0fdb) × (word (angle (number 0xbf80_0000)) ≡ 0x4049_0fdb)
    × (amended_way (number 0x3f00_0000) ≡ 357913735) × (amended_way (number 0x3f00_0001) ≡ 357914332)

computed : Computed
unfolding root.root root.rooted root.sqrt table.cosines table.c greatest way_at angle is_nan add sub mul div neg lt le eq to_bits of_bits round to_unsigned to_signed of_int size units
computed = (refl, refl, refl, refl, refl)

at_half : (amended_way halfᶠ ≡ plain_way halfᶠ) × (amended_way (neg halfᶠ) ≡ plain_way (neg halfᶠ))
unfolding of_bits lt neg
at_half = (refl, refl)

exact : (a : Float) → T (fits binary32 a) → T (lt halfᶠ a) → T (le a oneᶠ) → Exact a
unfolding of_bits
exact a f p q =
    let l = lossless a f (above_half a p) q in
    record { g = l.g; q = l.q; one = l.one; size = l.size; difference = l.difference; half = l.half }

within : (a : Float) → T (lt halfᶠ a) → T (le a oneᶠ) → plain_way (half_sine a) ≤ 2 ^ 29
unfolding of_bits
within a p q = half_turn (half_sine a) (narrow a p q)

pub narrow_angles : Promised
unfolding of_bits
narrow_angles = record {
  ends = (computed.0, computed.1, computed.2);
  at_half = at_half;
  exact = exact;
  small = λ a p q. ((narrow a p q).least, (narrow a p q).most);
  half_turn = within;
  rises = (computed.3, computed.4);
}

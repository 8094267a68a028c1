-- The components that are packed as 0: up to 37800100 and no further. Assumes nothing.
use Prim.Native.Nat.{ℕ, ◌*◌, ◌^◌, ◌≤◌, ◌<◌}
use native.Mathlib.Omega.{arith}
use mathlib.Core.Path.{◌≡◌, refl, sym, ap, ◌∙◌, subst}
use mathlib.Core.Bool.{true, false, not}
use lib.Dec.{ltb}
use lib.Pow.{pow_mono}
use borrow.Author.Tests.{eq-eqb, ne_eqb, lt-ltb, le-ltb}
use Rattle.packed.specs.Rounding.{NearestWhole}
use Rattle.packed.specs.Component.{one_bits, size, cut, binary_places, scaled, parts, units}
use Rattle.packed.proofs.Rounding.{below_or_not, nearest-only}
use Rattle.packed.proofs.Range.{digits-high, places-high, parts-pos, parts-ge, units-nearest, units-none}
use Rattle.worth.specs.Worth.{shown}

-- the bits of the greatest float that is packed as 0, and of 2 ^ -16 and 2 ^ -15
abbrev pub hidden_bits : ℕ
hidden_bits = 0x3780_0100

abbrev low_bits : ℕ
low_bits = 0x3780_0000

abbrev high_bits : ℕ
high_bits = 0x3800_0000

-- at most so many parts
parts-le : (m k : ℕ) → binary_places m ≤ k → parts m ≤ 2 ^ k
unfolding parts
parts-le m k h = pow_mono h

-- up to it a component has no units
pub units-hidden : (m : ℕ) → m ≤ hidden_bits → units m ≡ 0
unfolding units scaled
units-hidden m h = below_or_not m low_bits (λ l. sym (units-none m l)) (λ g. sym (nearest-only (scaled m) (parts m) 0 (parts-pos m) (none g)))
  where
    none : low_bits ≤ m → NearestWhole (scaled m) (parts m) 0
    none g =
        record {
          above = omega (arith, digits-high m (omega arith), parts-ge m 39 (omega (arith, places-high m (omega arith))));
          below = omega arith;
          even_above = λ e. refl;
          even_below = λ e. refl;
        }

-- a number whose nearest whole number is 0 is at most a half
at-most-half : (n d q : ℕ) → NearestWhole n d q → q ≡ 0 → 2 * n ≤ d
at-most-half n d q N e = omega (arith, (subst (NearestWhole n d) e N).above)

-- and from there on it has some
pub units-some : (m : ℕ) → hidden_bits < m → m ≤ one_bits → units m ≡ 0 → ⊥
unfolding scaled
units-some m h k e =
    below_or_not m high_bits
    (λ l. omega (arith, digits-high m (omega arith), parts-le m 39 (omega (arith, places-high m (omega arith))), at-most-half (scaled m) (parts m) (units m) (units-nearest m) e))
    (λ g. omega (arith, digits-high m (omega arith), parts-le m 38 (omega (arith, places-high m (omega arith))), at-most-half (scaled m) (parts m) (units m) (units-nearest m) e))

-- so a component is packed as 0, or not, by its bits
pub is_hidden : (w : ℕ) → size w ≤ hidden_bits → shown w ≡ false
unfolding shown cut
is_hidden w h = ap not (eq-eqb (units (cut w)) 0 (units-hidden (cut w) (omega arith)))

pub is-shown : (w : ℕ) → hidden_bits < size w → shown w ≡ true
unfolding shown cut
is-shown w h = ap not (ne_eqb (units (cut w)) 0 (units-some (cut w) (omega arith) (omega arith)))

-- and the test that goes by them is that
pub shown-is : (w : ℕ) → ltb hidden_bits (size w) ≡ shown w
shown-is w = below_or_not hidden_bits (size w) (λ l. lt-ltb hidden_bits (size w) l ∙ sym (is-shown w l)) (λ g. le-ltb hidden_bits (size w) g ∙ sym (is_hidden w g))

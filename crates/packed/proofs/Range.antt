-- How many units a component has: their range, and the components that have none. Assumes nothing.
use Prim.Native.Nat.{ℕ, ◌+◌, ◌-◌, ◌*◌, ◌/◌, ◌%◌, ◌^◌, ◌≤◌, ◌<◌}
use native.Mathlib.Nat.{le_of_mul-le-mul_right}
use native.Mathlib.Omega.{arith}
use mathlib.Core.Path.{◌≡◌, refl, sym, ap, ◌∙◌}
use mathlib.Core.Bool.{Bool, cond}
use lib.Pow.{pow_pos, pow_mono}
use borrow.Author.Tests.{lt-ltb, le-ltb, lt-leb, le-leb}
use Rattle.packed.specs.Rounding.{nearest, NearestWhole}
use Rattle.packed.specs.Component.{full_scale, leading, nothing, one_bits, short_values, sign_bit, negative, cut, digits, binary_places, scaled, parts, units, signed, component}
use Rattle.packed.proofs.Rounding.{below_or_not, nearest-is, nearest-only}
use Rattle.packed.proofs.Signs.{not-nothing}

-- a float below the least normal one
pub digits_low : (m : ℕ) → m < leading → digits m ≡ m
unfolding digits
digits_low m h = ap (λ (t : Bool). cond t m (leading + m % leading)) (lt-ltb m leading h)

pub places-low : (m : ℕ) → m < leading → binary_places m ≡ 149
unfolding binary_places
places-low m h = ap (λ (t : Bool). cond t 149 (150 - m / leading)) (lt-ltb m leading h)

-- and the others
pub digits-high : (m : ℕ) → leading ≤ m → digits m ≡ leading + m % leading
unfolding digits
digits-high m h = ap (λ (t : Bool). cond t m (leading + m % leading)) (le-ltb m leading h)

pub places-high : (m : ℕ) → leading ≤ m → binary_places m ≡ 150 - m / leading
unfolding binary_places
places-high m h = ap (λ (t : Bool). cond t 149 (150 - m / leading)) (le-ltb m leading h)

-- at most 24 binary digits
pub digits_lt : (m : ℕ) → digits m < (2 * leading)
digits_lt m = below_or_not m leading (λ h. omega (arith, digits_low m h)) (λ h. omega (arith, digits-high m h))

-- there are parts
pub parts-pos : (m : ℕ) → 0 < parts m
unfolding parts
parts-pos m = pow_pos (binary_places m)

-- and more with more places
pub parts-ge : (m k : ℕ) → k ≤ binary_places m → 2 ^ k ≤ parts m
unfolding parts
parts-ge m k h = pow_mono h

-- a float up to 1 is at most as many parts as 1
pub digits-le-parts : (m : ℕ) → m ≤ one_bits → digits m ≤ parts m
digits-le-parts m h =
    below_or_not m one_bits
    (λ l. below_or_not m leading (λ g. omega (arith, digits_lt m, parts-ge m 24 (omega (arith, places-low m g)))) (λ g. omega (arith, digits_lt m, parts-ge m 24 (omega (arith, places-high m g)))))
    (λ g. omega (arith, digits-high m (omega arith), parts-ge m 23 (omega (arith, places-high m (omega arith)))))

-- what the units of a component are
pub units-nearest : (m : ℕ) → NearestWhole (scaled m) (parts m) (units m)
unfolding units
units-nearest m = nearest-is (scaled m) (parts m) (parts-pos m)

-- 'range': a float up to 1 has at most 32,767
pub units-le : (m : ℕ) → m ≤ one_bits → units m ≤ full_scale
unfolding scaled
units-le m h = half (units m) (le_of_mul-le-mul_right twice (parts-pos m))
  where
    half : (q : ℕ) → 2 * q ≤ (2 * full_scale + 1) → q ≤ full_scale
    half q k = omega arith

    twice : 2 * units m * parts m ≤ (2 * full_scale + 1) * parts m
    twice = omega (arith, (units-nearest m).below, digits-le-parts m h)

-- a float below 2 ^ -16 has none
pub units-none : (m : ℕ) → m < 931135488 → 0 ≡ units m
unfolding units scaled
units-none m h =
    nearest-only (scaled m) (parts m) 0 (parts-pos m) (record { above = omega (arith, wide); below = omega arith; even_above = λ e. refl; even_below = λ e. refl })
  where
    far : 40 ≤ binary_places m
    far = below_or_not m leading (λ g. omega (arith, places-low m g)) (λ g. omega (arith, places-high m g))

    wide : 2 * (full_scale * digits m) ≤ parts m
    wide = omega (arith, digits_lt m, parts-ge m 40 far)

-- the units of a float that is not below the least normal one
pub units-high : (m : ℕ) → leading ≤ m → nearest (full_scale * (leading + m % leading)) (2 ^ (150 - m / leading)) ≡ units m
unfolding units scaled parts
units-high m h = λ z. nearest (full_scale * sym (digits-high m h) z) (2 ^ sym (places-high m h) z)

-- a component of either sign, from its units
pub component-positive : (w q : ℕ) → w < sign_bit → q ≡ units (cut w) → q ≡ component w
unfolding component signed
component-positive w q h e = e ∙ sym (ap (λ (t : Bool). cond t ((short_values - units (cut w)) % short_values) (units (cut w))) (lt-leb sign_bit w h))

pub component-negative : (w q : ℕ) → sign_bit ≤ w → q ≡ units (cut w) → (short_values - q) % short_values ≡ component w
unfolding component signed
component-negative w q h e =
    ap (λ (n : ℕ). (short_values - n) % short_values) e ∙ sym (ap (λ (t : Bool). cond t ((short_values - units (cut w)) % short_values) (units (cut w))) (le-leb sign_bit w h))

-- the cut is at most 1
pub cut-le : (w : ℕ) → cut w ≤ one_bits
unfolding cut
cut-le w = omega arith

-- no component is -32,768
pub component-not-nothing : (w : ℕ) → component w ≡ nothing → ⊥
unfolding component
component-not-nothing w e = not-nothing (negative w) (units (cut w)) (units-le (cut w) (cut-le w)) e

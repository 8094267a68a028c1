-- The value of a float up to 3F800008, from its bits: its sign, its digits and its parts. Assumes nothing.
use Prim.Native.Nat.{ℕ, suc, ◌+◌, ◌-◌, ◌*◌, ◌/◌, ◌%◌, ◌^◌, ◌≤◌, ◌<◌}
use native.Mathlib.Nat.{mul_assoc, mul_right_comm, eq_of_mul-eq-mul_right}
use native.Mathlib.Omega.{arith}
use mathlib.Core.Path.{◌≡◌, refl, sym, ap, ◌∙◌, subst}
use mathlib.Core.Bool.{Bool, true, cond}
use lib.Dec.{eqb}
use lib.Pow.{pow_pos, pow-add}
use lib.Ieee.{Float, nan, inf, fin, binary32, odd, of_fields, of_bits, up, down}
use lib.Ieee.Exact.{HasValue, odd_sign}
use borrow.Author.Tests.{leb-true, ne_eqb}
use Rattle.packed.specs.Component.{furthest, leading, size, negative, within, digits, binary_places, parts}
use Rattle.packed.proofs.Rounding.{below_or_not}
use Rattle.packed.proofs.Range.{digits_low, digits-high, places-low, places-high}

-- the same value over fewer parts
coarser : (y : Float) (s : Bool) (a x k : ℕ) → HasValue y s (a * 2 ^ x) (2 ^ (k + x)) → HasValue y s a (2 ^ k)
coarser nan s a x k v = v
coarser (inf t) s a x k v = v
coarser (fin t m e) s a x k v = (
  v.0,
  eq_of_mul-eq-mul_right (2 ^ x) (pow_pos x) (m * up e * 2 ^ k) (a * down e)
      (mul_assoc (m * up e) (2 ^ k) (2 ^ x) ∙ (ap (λ (z : ℕ). m * up e * z) (sym (pow-add 2 k x)) ∙ (v.1 ∙ mul_right_comm a (2 ^ x) (down e)))),
)

-- by the exponent's field
no-exponent : (s : Bool) (t : ℕ) → HasValue (of_fields binary32 s 0 t) s t (2 ^ 149)
unfolding of_fields
no-exponent s t = coarser (odd 24 s t 0 149) s t 0 149 (odd_sign 24 s t 0 149)

some-exponent : (s : Bool) (x t : ℕ) → suc x ≤ 127 → HasValue (of_fields binary32 s (suc x) t) s (leading + t) (2 ^ (149 - x))
unfolding of_fields
some-exponent s x t h =
    subst (λ (b : Bool). HasValue (cond b (cond (eqb t 0) (inf s) nan) (odd 24 s (leading + t) x 149)) s (leading + t) (2 ^ (149 - x)))
    (sym (ne_eqb (suc x) 255 (λ e. omega arith)))
    (coarser (odd 24 s (leading + t) x 149) s (leading + t) x (149 - x) (subst (λ (k : ℕ). HasValue (odd 24 s (leading + t) x 149) s ((leading + t) * 2 ^ x) (2 ^ k)) whole (odd_sign 24 s (leading + t) x 149)))
  where
    whole : 149 ≡ 149 - x + x
    whole = omega arith

-- from the bits
pub fields : (w : ℕ) → of_bits binary32 w ≡ of_fields binary32 (negative w) (size w / leading) (w % leading)
unfolding of_bits
fields w = refl

module _ (w : ℕ) (least : size w ≤ furthest) where
  value_low : size w < leading → HasValue (of_bits binary32 w) (negative w) (digits (size w)) (parts (size w))
  unfolding parts
  value_low h =
      subst (λ (y : Float). HasValue y (negative w) (digits (size w)) (2 ^ binary_places (size w)))
      (sym (fields w ∙ (λ z. of_fields binary32 (negative w) (none z) (all z))))
      (subst (λ (k : ℕ). HasValue (of_fields binary32 (negative w) 0 (digits (size w))) (negative w) (digits (size w)) (2 ^ k)) (sym (places-low (size w) h)) (no-exponent (negative w) (digits (size w))))
    where
      none : size w / leading ≡ 0
      none = omega arith

      all : w % leading ≡ digits (size w)
      all = omega (arith, digits_low (size w) h)

  value-high : leading ≤ size w → HasValue (of_bits binary32 w) (negative w) (digits (size w)) (parts (size w))
  unfolding parts
  value-high h =
      subst (λ (y : Float). HasValue y (negative w) (digits (size w)) (2 ^ binary_places (size w)))
      (sym (fields w ∙ (λ z. of_fields binary32 (negative w) (some z) (w % leading))))
      (subst (λ (k : ℕ). HasValue (of_fields binary32 (negative w) (suc x) (w % leading)) (negative w) (digits (size w)) (2 ^ k)) far
      (subst (λ (d : ℕ). HasValue (of_fields binary32 (negative w) (suc x) (w % leading)) (negative w) d (2 ^ (149 - x))) all (some-exponent (negative w) x (w % leading) (omega arith))))
    where
      x : ℕ
      x = size w / leading - 1

      some : size w / leading ≡ suc x
      some = omega arith

      all : leading + w % leading ≡ digits (size w)
      all = omega (arith, digits-high (size w) h)

      far : 149 - x ≡ binary_places (size w)
      far = omega (arith, places-high (size w) h)

pub value : (w : ℕ) → within w ≡ true → HasValue (of_bits binary32 w) (negative w) (digits (size w)) (parts (size w))
unfolding within
value w e = let least = leb-true (size w) furthest e in below_or_not (size w) leading (λ h. value_low w least h) (λ h. value-high w least h)

-- The tests of a component's bits are those of its number: it is finite, and it counts as document 01 says. Assumes nothing.
use Prim.Native.Nat.{ℕ, suc, ◌+◌, ◌-◌, ◌*◌, ◌/◌, ◌%◌, ◌^◌, ◌≤◌, ◌<◌}
use native.Mathlib.Nat.{mul_assoc, mul-one, mul-le-mul_left, mul-le-mul_right}
use native.Mathlib.Omega.{arith}
use mathlib.Core.Path.{◌≡◌, refl, sym, ap, ◌∙◌, subst}
use mathlib.Core.Bool.{Bool, true, false, cond}
use lib.Dec.{eqb, ltb}
use lib.Pow.{pow-add, pow_mono}
use lib.Ieee.{Float, nan, inf, fin, binary32, odd, of_fields, of_bits, up, down, lt}
use lib.Ieee.Fits.{down_pos}
use lib.Ieee.Exact.{HasValue, odd_sign}
use borrow.Author.Tests.{lt-ltb, le-ltb, ltb-true, ne_eqb}
use Rattle.bits.specs.Word.{number, is_finite}
use Rattle.math.specs.Vector.{abs, counts}
use Rattle.packed.specs.Component.{leading, size, negative}
use Rattle.packed.proofs.Rounding.{below_or_not}
use Rattle.worth.specs.Worth.{infinity_bits, least_bits, finite, counted}

-- from the bits
fields : (w : ℕ) → number w ≡ of_fields binary32 (negative w) (size w / leading) (w % leading)
unfolding of_bits
fields w = refl

-- by the exponent's field: none, some, all ones
no-exponent : (s : Bool) (t : ℕ) → HasValue (of_fields binary32 s 0 t) s (t * 2 ^ 0) (2 ^ 149)
unfolding of_fields
no-exponent s t = odd_sign 24 s t 0 149

some-exponent : (s : Bool) (x t : ℕ) → suc x < 255 → HasValue (of_fields binary32 s (suc x) t) s ((leading + t) * 2 ^ x) (2 ^ 149)
unfolding of_fields
some-exponent s x t h =
    subst (λ (b : Bool). HasValue (cond b (cond (eqb t 0) (inf s) nan) (odd 24 s (leading + t) x 149)) s ((leading + t) * 2 ^ x) (2 ^ 149)) (sym (ne_eqb (suc x) 255 (λ e. omega arith))) (odd_sign 24 s (leading + t) x 149)

all_ones : (s : Bool) (t : ℕ) → is_finite (of_fields binary32 s 255 t) ≡ false
unfolding of_fields is_finite
all_ones s t = go (eqb t 0)
  where
    go : (b : Bool) → is_finite (cond b (inf s) nan) ≡ false
    go true = refl
    go false = refl

-- what has a value is finite
value-finite : (y : Float) (s : Bool) (a c : ℕ) → HasValue y s a c → is_finite y ≡ true
unfolding is_finite
value-finite nan s a c v = absurd v
value-finite (inf t) s a c v = absurd v
value-finite (fin t m e) s a c v = refl

-- and counts exactly if it is more than 2 ^ 23 of the smallest values
counts-value : (y : Float) (s : Bool) (a : ℕ) → HasValue y s a (2 ^ 149) → counts y ≡ ltb least_bits a
unfolding counts abs lt of_bits
counts-value nan s a v = absurd v
counts-value (inf t) s a v = absurd v
counts-value (fin t m e) s a v = by_size (m * up e * 2 ^ 126) (down e) a (down_pos e) (mul_assoc (m * up e) (2 ^ 126) (2 ^ 23) ∙ (ap (λ (z : ℕ). m * up e * z) (sym (pow-add 2 126 23)) ∙ v.1))
  where
    by_size : (p d a : ℕ) → 0 < d → p * 2 ^ 23 ≡ a * d → ltb (1 * 1 * d) p ≡ ltb least_bits a
    by_size p d a h e =
        below_or_not least_bits a
        (λ l. lt-ltb (1 * 1 * d) p (omega (arith, h, e, mul-le-mul_right d l)) ∙ sym (lt-ltb least_bits a l))
        (λ g. le-ltb (1 * 1 * d) p (omega (arith, h, e, mul-le-mul_right d g)) ∙ sym (le-ltb least_bits a g))

module _ (w : ℕ) where
  abbrev x : ℕ
  x = size w / leading - 1

  value_low : size w < leading → HasValue (number w) (negative w) (size w * 2 ^ 0) (2 ^ 149)
  value_low h =
      subst (λ (y : Float). HasValue y (negative w) (size w * 2 ^ 0) (2 ^ 149)) (sym (fields w ∙ (λ z. of_fields binary32 (negative w) (none z) (all z)))) (no-exponent (negative w) (size w))
    where
      none : size w / leading ≡ 0
      none = omega arith

      all : w % leading ≡ size w
      all = omega arith

  value-high : leading ≤ size w → size w < infinity_bits → HasValue (number w) (negative w) ((leading + w % leading) * 2 ^ x) (2 ^ 149)
  value-high h l =
      subst (λ (y : Float). HasValue y (negative w) ((leading + w % leading) * 2 ^ x) (2 ^ 149)) (sym (fields w ∙ (λ z. of_fields binary32 (negative w) (some z) (w % leading)))) (some-exponent (negative w) x (w % leading) (omega arith))
    where
      some : size w / leading ≡ suc x
      some = omega arith

  -- more than 2 ^ 23 of the smallest values, by the bits
  more-high : leading ≤ size w → ltb least_bits ((leading + w % leading) * 2 ^ x) ≡ ltb least_bits (size w)
  more-high h = below_or_not 0 x (λ l. far l) (λ g. near g)
    where
      t : ℕ
      t = leading + w % leading

      far : 0 < x → ltb least_bits (t * 2 ^ x) ≡ ltb least_bits (size w)
      far l = lt-ltb least_bits (t * 2 ^ x) (omega (arith, mul-le-mul_left t (pow_mono {i = 1} {j = x} l))) ∙ sym (lt-ltb least_bits (size w) (omega arith))

      near : x ≤ 0 → ltb least_bits (t * 2 ^ x) ≡ ltb least_bits (size w)
      near g = ap (λ (k : ℕ). ltb least_bits (t * 2 ^ k)) none ∙ ap (ltb least_bits) (mul-one t ∙ same)
        where
          none : x ≡ 0
          none = omega arith

          same : t ≡ size w
          same = omega arith

  -- the number is finite exactly if its bits say so
  pub finite_is : finite w ≡ is_finite (number w)
  unfolding finite
  finite_is =
      below_or_not (size w) infinity_bits
      (λ l. lt-ltb (size w) infinity_bits l ∙ sym (below_or_not (size w) leading (λ h. value-finite (number w) (negative w) (size w * 2 ^ 0) (2 ^ 149) (value_low h)) (λ g. value-finite (number w) (negative w) ((leading + w % leading) * 2 ^ x) (2 ^ 149) (value-high g l))))
      (λ g. le-ltb (size w) infinity_bits g ∙ sym (ap is_finite (fields w ∙ ap (λ (e : ℕ). of_fields binary32 (negative w) e (w % leading)) (ones g)) ∙ all_ones (negative w) (w % leading)))
    where
      ones : infinity_bits ≤ size w → size w / leading ≡ 255
      ones g = omega arith

  -- and a finite one counts exactly if its bits say so
  pub counts_is : finite w ≡ true → counted w ≡ counts (number w)
  unfolding finite counted
  counts_is e =
      below_or_not (size w) leading
      (λ h. sym (counts-value (number w) (negative w) (size w * 2 ^ 0) (value_low h) ∙ ap (ltb least_bits) (mul-one (size w))))
      (λ g. sym (counts-value (number w) (negative w) ((leading + w % leading) * 2 ^ x) (value-high g (ltb-true (size w) infinity_bits e)) ∙ more-high g))

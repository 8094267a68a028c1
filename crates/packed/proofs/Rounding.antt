-- The nearest whole number: that `nearest` is it, and that there is no other. Assumes nothing.
use Prim.Native.Nat.{ℕ, suc, ◌+◌, ◌*◌, ◌/◌, ◌%◌, ◌≤◌, ◌<◌}
use native.Mathlib.Nat.{le_antisymm, div-add-mod', mod-lt, mul-le-mul_right, le_of_mul-le-mul_right}
use native.Mathlib.Omega.{arith}
use mathlib.Core.Path.{◌≡◌, refl, sym, subst}
use mathlib.Core.Bool.{Bool, true, false, cond, ◌&&◌, ◌||◌}
use lib.Dec.{eqb, ltb}
use borrow.Author.Tests.{ltb-true, ltb-false, eqb-true, eqb-false}
use Rattle.packed.specs.Rounding.{rounds_up, nearest, NearestWhole}

-- a number is below another, or not
pub below_or_not : {P : Type 0} (a b : ℕ) → (a < b → P) → (b ≤ a → P) → P
below_or_not {P} a b f g = go (ltb a b) refl
  where
    go : (t : Bool) → ltb a b ≡ t → P
    go true e = f (ltb-true a b e)
    go false e = g (ltb-false a b e)

-- n / d by its whole part q and what is left, r
module _ (n d q r : ℕ) (whole : q * d + r ≡ n) (left : r < d) where
  -- the whole part, where less than half is left, or half and it is even
  pub rounded-down : 2 * r ≤ d → (2 * r ≡ d → q % 2 ≡ 0) → NearestWhole n d q
  rounded-down h even =
      record {
        above = omega arith;
        below = omega arith;
        even_above = λ e. even (omega arith);
        even_below = λ e. absurd (omega arith);
      }

  -- the next number, where more than half is left, or half and the whole part is odd
  pub rounded-up : d ≤ 2 * r → (2 * r ≡ d → q % 2 ≡ 1) → NearestWhole n d (q + 1)
  rounded-up h odd =
      record {
        above = omega arith;
        below = omega arith;
        even_above = λ e. absurd (omega arith);
        even_below = λ e. omega (arith, odd (omega arith));
      }

  -- the even one of both, where half is left
  pub rounded-even : 2 * r ≡ d → NearestWhole n d (q + q % 2)
  rounded-even h =
      record {
        above = omega arith;
        below = omega (arith, mul-le-mul_right d one);
        even_above = λ e. omega arith;
        even_below = λ e. omega arith;
      }
    where
      one : q % 2 ≤ 1
      one = omega arith

-- `nearest` is the nearest whole number
pub nearest-is : (n d : ℕ) → 0 < d → NearestWhole n d (nearest n d)
unfolding nearest rounds_up
nearest-is n d p = more (ltb d (2 * r)) refl
  where
    q : ℕ
    q = n / d

    r : ℕ
    r = n % d

    none : q ≡ q + 0
    none = omega arith

    odd-or-not : (t : Bool) → 2 * r ≡ d → eqb (q % 2) 1 ≡ t → NearestWhole n d (q + cond t 1 0)
    odd-or-not true h e = rounded-up n d q r (div-add-mod' n d) (mod-lt n p) (omega arith) (λ _. eqb-true (q % 2) 1 e)
    odd-or-not false h e = subst (NearestWhole n d) none (rounded-down n d q r (div-add-mod' n d) (mod-lt n p) (omega arith) (λ _. even))
      where
        even : q % 2 ≡ 0
        even = omega (arith, eqb-false (q % 2) 1 e)

    half : (t : Bool) → 2 * r ≤ d → eqb d (2 * r) ≡ t → NearestWhole n d (q + cond (t && eqb (q % 2) 1) 1 0)
    half true h e = odd-or-not (eqb (q % 2) 1) (sym (eqb-true d (2 * r) e)) refl
    half false h e = subst (NearestWhole n d) none (rounded-down n d q r (div-add-mod' n d) (mod-lt n p) h (λ k. absurd (eqb-false d (2 * r) e (sym k))))

    more : (t : Bool) → ltb d (2 * r) ≡ t → NearestWhole n d (q + cond (t || (eqb d (2 * r) && eqb (q % 2) 1)) 1 0)
    more true e = rounded-up n d q r (div-add-mod' n d) (mod-lt n p) (omega (arith, ltb-true d (2 * r) e)) (λ k. absurd (omega (arith, ltb-true d (2 * r) e)))
    more false e = half (eqb d (2 * r)) (ltb-false d (2 * r) e) refl

-- no two are nearest
not-two : (n d p q : ℕ) → 0 < d → NearestWhole n d p → NearestWhole n d q → p < q → ⊥
not-two n d p q h P Q l = omega (arith, next, P.even_above (omega (arith, least)), Q.even_below (omega (arith, least)))
  where
    least : suc p * d ≤ q * d
    least = mul-le-mul_right d l

    most : q * d ≤ suc p * d
    most = omega (arith, P.above, Q.below)

    next : q ≤ suc p
    next = le_of_mul-le-mul_right most h

-- so `nearest` is the only one
pub nearest-only : (n d q : ℕ) → 0 < d → NearestWhole n d q → q ≡ nearest n d
nearest-only n d q h Q =
    below_or_not q (nearest n d) (λ l. absurd (not-two n d q (nearest n d) h Q (nearest-is n d h) l))
    (λ g. below_or_not (nearest n d) q (λ l. absurd (not-two n d (nearest n d) q h (nearest-is n d h) Q l)) (λ k. le_antisymm k g))

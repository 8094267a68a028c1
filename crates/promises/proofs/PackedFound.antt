-- For every number that a component can have there is a float that is packed as it. Assumes nothing.
use Prim.Native.Nat.{ℕ, zero, suc, ◌+◌, ◌-◌, ◌*◌, ◌/◌, ◌%◌, ◌^◌, ◌≤◌, ◌<◌}
use native.Mathlib.Nat.{pow-succ'}
use native.Mathlib.Omega.{arith}
use mathlib.Core.Path.{◌≡◌, refl, sym, ap, ◌∙◌, subst}
use mathlib.Core.Bool.{Bool, true, false}
use lib.Pow.{pow_pos, pow_mono}
use borrow.Author.Tests.{le-leb, lt-leb}
use Rattle.packed.specs.Rounding.{nearest, NearestWhole}
use Rattle.packed.specs.Component.{full_scale, furthest, leading, nothing, one_bits, short_values, sign_bit, within, cut, units, signed, component}
use Rattle.packed.proofs.Rounding.{below_or_not, nearest-only}
use Rattle.packed.proofs.Range.{units-none, units-high}
use Rattle.packed.proofs.Signs.{signed_all}

-- the bits of a float from 0 to 1 that has q units
pub record Found (q : ℕ) : Type 0 where
  pub bits : ℕ
  pub most : bits ≤ one_bits
  pub is : units bits ≡ q

-- the same quotient over twice the parts
doubled : (n d q : ℕ) → NearestWhole n d q → NearestWhole (2 * n) (2 * d) q
doubled n d q N =
    record {
      above = omega (arith, N.above);
      below = omega (arith, N.below);
      even_above = λ e. N.even_above (omega arith);
      even_below = λ e. N.even_below (omega arith);
    }

-- a / 2 ^ k, where a has 24 digits, is a float; where it has fewer, 2 a / 2 ^ (k + 1) is the same number
at_place : (a k q : ℕ) → leading ≤ a → a < (2 * leading) → a ≤ 2 ^ k → k ≤ 38 → NearestWhole (full_scale * a) (2 ^ k) q → Found q
at_place a k q h l small far N =
    record {
      bits = m;
      most = below_or_not 23 k (λ g. omega arith) (λ g. omega (arith, at_most g, near));
      is = sym (nearest-only (full_scale * a) (2 ^ k) q (pow_pos k) N ∙ ((λ z. nearest (full_scale * sym digits z) (2 ^ sym binary_places z)) ∙ units-high m (omega (arith, near))));
    }
  where
    m : ℕ
    m = (150 - k) * leading + (a - leading)

    at_most : k ≤ 23 → 2 ^ k ≤ leading
    at_most g = pow_mono {i = k} {j = 23} g

    near : 23 ≤ k
    near = below_or_not k 23 (λ g. absurd (omega (arith, pow_mono {i = k} {j = 22} (omega arith)))) (λ g. g)

    digits : leading + m % leading ≡ a
    digits = omega arith

    binary_places : 150 - m / leading ≡ k
    binary_places = omega (arith, near)

-- doubled as often as it takes
climb : (f a k q : ℕ) → a < (2 * leading) → leading ≤ a * 2 ^ f → a ≤ 2 ^ k → k + f ≡ 38 → NearestWhole (full_scale * a) (2 ^ k) q → Found q
climb zero a k q l h small e N = at_place a k q (omega arith) l small (omega arith) N
climb (suc f) a k q l h small e N =
    below_or_not a leading (λ g. climb f (2 * a) (suc k) q (omega arith) more (omega arith) (omega arith) twice) (λ g. at_place a k q g l small (omega arith) N)
  where
    more : leading ≤ 2 * a * 2 ^ f
    more = omega (arith, h, ap (λ (x : ℕ). a * x) (pow-succ' 2 f))

    regroup : 2 * (full_scale * a) ≡ full_scale * (2 * a)
    regroup = omega arith

    twice : NearestWhole (full_scale * (2 * a)) (2 ^ suc k) q
    twice = subst (λ (d : ℕ). NearestWhole (full_scale * (2 * a)) d q) (sym (pow-succ' 2 k)) (subst (λ (n : ℕ). NearestWhole n (2 * 2 ^ k) q) regroup (doubled (full_scale * a) (2 ^ k) q N))

-- q / 32,768 has q units where q is below 16,384, and (q + 1) / 32,768 has them from there on
from-half : (q : ℕ) → 0 < q → q ≤ full_scale → Found q
from-half q p h =
    below_or_not q 16384
    (λ l. climb 23 q 15 q (omega arith) (omega arith) (omega arith) refl
    (record { above = omega arith; below = omega arith; even_above = λ e. absurd (omega arith); even_below = λ e. absurd (omega arith) }))
    (λ g. climb 23 (q + 1) 15 q (omega arith) (omega arith) (omega arith) refl
    (record { above = omega arith; below = omega arith; even_above = λ e. absurd (omega arith); even_below = λ e. absurd (omega arith) }))

-- and no units are those of 0
pub found : (q : ℕ) → q ≤ full_scale → Found q
found q h = below_or_not 0 q (λ l. from-half q l h) (λ g. record { bits = 0; most = omega arith; is = sym (units-none 0 (omega arith)) ∙ omega arith })

-- a word that is packed as a number
pub record Packed (n : ℕ) : Type 0 where
  pub word : ℕ
  pub fits : word < 2 ^ 32
  pub inside : within word ≡ true
  pub is : component word ≡ n

-- the bits of a float from 0 to 1, with a sign
with-sign : (s : Bool) (q : ℕ) → Found q → Packed (signed s q)
unfolding within component cut
with-sign false q F =
    record {
      word = F.bits;
      fits = omega (arith, F.most);
      inside = le-leb (F.bits % sign_bit) furthest (omega (arith, F.most));
      is = (λ z. signed (lt-leb sign_bit F.bits (omega (arith, F.most)) z) (units (itself z))) ∙ ap (signed false) F.is;
    }
  where
    itself : cut F.bits ≡ F.bits
    itself = omega (arith, F.most)
with-sign true q F =
    record {
      word = sign_bit + F.bits;
      fits = omega (arith, F.most);
      inside = le-leb ((sign_bit + F.bits) % sign_bit) furthest (omega (arith, F.most));
      is = (λ z. signed (le-leb sign_bit (sign_bit + F.bits) (omega arith) z) (units (itself z))) ∙ ap (signed true) F.is;
    }
  where
    itself : cut (sign_bit + F.bits) ≡ F.bits
    itself = omega (arith, F.most)

-- every number but -32,768
pub packed_all : (n : ℕ) → n < short_values → (n ≡ nothing → ⊥) → Packed n
packed_all n h k = let S = signed_all n h k in subst Packed S.is (with-sign S.sign S.size (found S.size S.small))

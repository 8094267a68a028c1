-- How many pass a test, and the first that does not. Assumes nothing.
use Prim.Native.Nat.{ℕ, zero, suc, ◌+◌, ◌≤◌, ◌<◌}
use native.Mathlib.Nat.{le_antisymm}
use native.Mathlib.Numerals.{add-one}
use native.Mathlib.Omega.{arith}
use mathlib.Core.Path.{◌≡◌, refl, ap, ◌∙◌}
use mathlib.Core.Bool.{Bool, true, false, cond, ◌&&◌}
use lib.Dec.{eqb}
use Rattle.packed.specs.Reader.{first_failing}
use Rattle.worth.specs.Worth.{count_below}

-- one that passes or not
pub cond-le : (b : Bool) → cond b 1 0 ≤ 1
cond-le true = omega arith
cond-le false = omega arith

-- at most all pass
pub count-le : (n : ℕ) (p : ℕ → Bool) → count_below n p ≤ n
unfolding count_below
count-le zero p = omega arith
count-le (suc n) p = omega (arith, count-le n p, cond-le (p n))

-- i of n places are looked at, and so many passed
pub record Tally (n : ℕ) (p : ℕ → Bool) (g i : ℕ) : Type 0 where
  pub is : g ≡ count_below i p
  pub few : g ≤ i
  pub some : i ≤ n

-- none yet, one more, and all
module _ (n : ℕ) (p : ℕ → Bool) where
  pub tally-none : Tally n p 0 0
  unfolding count_below
  tally-none = record { is = refl; few = omega arith; some = omega arith }

  tally-next : (i : ℕ) → count_below (i + 1) p ≡ count_below i p + cond (p i) 1 0
  unfolding count_below
  tally-next i = ap (λ (k : ℕ). count_below k p) (add-one i)

  pub tally-more : (g h i : ℕ) → i < n → h ≡ g + cond (p i) 1 0 → Tally n p g i → Tally n p h (i + 1)
  tally-more g h i l e T =
      record {
        is = omega (arith, e, T.is, tally-next i);
        few = omega (arith, e, T.few, cond-le (p i));
        some = omega arith;
      }

  pub tally-all : (g i : ℕ) → n ≤ i → Tally n p g i → g ≡ count_below n p
  tally-all g i l T = T.is ∙ ap (λ (k : ℕ). count_below k p) (le_antisymm T.some l)

-- two tests that say the same
pub count_same : (n : ℕ) (p q : ℕ → Bool) → ((i : ℕ) → i < n → p i ≡ q i) → count_below n p ≡ count_below n q
unfolding count_below
count_same zero p q h = refl
count_same (suc n) p q h = λ z. count_same n p q (λ i l. h i (omega arith)) z + cond (h n (omega arith) z) 1 0

pub failing-same : (n : ℕ) (p q : ℕ → Bool) → ((i : ℕ) → i < n → p i ≡ q i) → first_failing n p ≡ first_failing n q
unfolding first_failing
failing-same zero p q h = refl
failing-same (suc n) p q h =
    let e = failing-same n p q (λ i l. h i (omega arith)) in
    λ z. cond (eqb (e z) n && h n (omega arith) z) (suc n) (e z)

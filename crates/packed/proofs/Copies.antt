-- A few numbers stored in a list, one after another. Assumes nothing.
use Prim.Native.Nat.{ℕ, ◌+◌, ◌-◌, ◌≤◌, ◌<◌}
use native.Mathlib.Omega.{arith}
use mathlib.Core.Path.{◌≡◌, refl, sym, ap, ◌∙◌}
use mathlib.Core.List.{List}
use lib.ListN.{length, get_or, set, take, length-set}
use lib.Seq.{sets, take_all}
use Rattle.words.proofs.Stores.{sets_more}

-- those of n numbers that go before place k are stored, from place p on
pub record Stored (n p : ℕ) (a xs u : List ℕ) (k : ℕ) : Type 0 where
  pub least : p ≤ k
  pub some : k ≤ p + n
  pub is : u ≡ sets a p (take (k - p) xs)
  pub long : length u ≡ length a

-- none yet, one more, and all
module _ (n p : ℕ) (a xs : List ℕ) (e : length xs ≡ n) where
  pub store-none : Stored n p a xs a p
  store-none = record { least = omega arith; some = omega arith; is = ap (λ (i : ℕ). sets a p (take i xs)) none; long = refl }
    where
      none : 0 ≡ p - p
      none = omega arith

  pub store-more : (u : List ℕ) (k x i : ℕ) → x ≡ get_or xs i 0 → k < p + n → i ≡ k - p → Stored n p a xs u k → Stored n p a xs (set u k x) (k + 1)
  store-more u k x i g h j S =
      record {
        least = omega (arith, S.least);
        some = omega arith;
        is = ap (set u k) g ∙ (ap (λ (q : ℕ). set u q (get_or xs i 0)) place ∙ (sets_more a u xs p i (omega (arith, S.least)) (S.is ∙ ap (λ (q : ℕ). sets a p (take q xs)) (sym j)) ∙ ap (λ (q : ℕ). sets a p (take q xs)) more));
        long = simp length-set S.long;
      }
    where
      place : k ≡ p + i
      place = omega (arith, S.least)

      more : i + 1 ≡ k + 1 - p
      more = omega (arith, S.least)

  pub stored : (u : List ℕ) (k : ℕ) → p + n ≤ k → Stored n p a xs u k → u ≡ sets a p xs
  stored u k h S = S.is ∙ ap (sets a p) (take_all (k - p) xs (omega arith))

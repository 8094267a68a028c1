-- A part of a list that is written whole is a run of stores. Assumes nothing.
use Prim.Native.Nat.{ℕ, zero, suc, ◌+◌, ◌≤◌, ◌<◌}
use native.Mathlib.Numerals.{add-one}
use native.Mathlib.Omega.{arith}
use mathlib.Core.Path.{◌≡◌, refl, sym, ap, ◌∙◌}
use mathlib.Core.List.{List, [], ◌∷◌, ◌++◌}
use Rattle.std.proofs.Common.{append_assoc}
use lib.ListN.{length, get_or, set, take, drop, replicate, length-drop}
use lib.Seq.{sets, sets-eq, get_or-drop, take-suc}
use borrow.Rule.Slice.PartMut.{put_mid}
use Rattle.std.proofs.lemmas.Slice.{put_mid-paste}
use Rattle.std.proofs.lemmas.List.{take_more_set, take_all}
use Rattle.std.proofs.lemmas.List.Edits.{paste_all}
use Rattle.lists.specs.Loops.{list_of}
use Rattle.lists.specs.Parts.{part}
use Rattle.lists.proofs.Parts.{length-zeros, length_part}

pub part-written : (l ys xs : List ℕ) (p k : ℕ) → ys ≡ xs → length xs ≡ k → p + k ≤ length l → put_mid p k l ys ≡ sets l p xs
part-written l ys xs p k e n h =
    put_mid-paste p k l ys xs k e refl (sym n) ∙ (paste_all l p xs k (sym n) ∙ sym (sets-eq xs l p (omega arith) ∙ (append_assoc (take p l) xs (drop (p + length xs) l) ∙ ap (λ (i : ℕ). take p l ++ (xs ++ drop (p + i) l)) n)))

-- a part that is filled with zeros
pub part-cleared : (l ys : List ℕ) (p k n : ℕ) → ys ≡ replicate (length (take k (drop p l))) 0 → k ≡ n → p + n ≤ length l → put_mid p k l ys ≡ sets l p (replicate n 0)
unfolding part
part-cleared l ys p k n e h w =
    part-written l ys (replicate n 0) p k (e ∙ ap (λ (i : ℕ). replicate i 0) (length_part p k l (omega arith) ∙ h)) (length-zeros n ∙ sym h) (omega arith)

-- zeros by number
zero_last : (n : ℕ) → ◌≡◌ {A = List ℕ} (replicate n 0 ++ 0 ∷ []) (0 ∷ replicate n 0)
zero_last zero = refl
zero_last (suc n) = ap (λ (l : List ℕ). 0 ∷ l) (zero_last n)

pub zeros-listed : (n : ℕ) → list_of {S = ℕ} n (λ _. 0) ≡ replicate n 0
unfolding list_of
zeros-listed zero = refl
zeros-listed (suc n) = ap (λ (l : List ℕ). l ++ 0 ∷ []) (zeros-listed n) ∙ zero_last n

-- a list us that is written entry by entry with the part of xs from place p on, and has the first i
module _ {X : Type 0} (xs us : List X) (p i : ℕ) (e : take i us ≡ take i (drop p xs)) where
  -- one entry more
  pub written-more : (x d : X) → i < length us → p + i < length xs → x ≡ get_or xs (p + i) d → take (i + 1) (set us i x) ≡ take (i + 1) (drop p xs)
  written-more x d h k w =
      take_more_set us i x h
      ∙ (ap (λ (l : List X). l ++ (x ∷ [])) e
      ∙ (ap (λ (y : X). take i (drop p xs) ++ (y ∷ [])) (w ∙ sym (get_or-drop p xs i d))
      ∙ (sym (take-suc (drop p xs) i d (omega (arith, k, length-drop p xs)))
      ∙ ap (λ (n : ℕ). take n (drop p xs)) (sym (add-one i)))))

  -- all of them
  pub written-all : (n : ℕ) → i ≡ n → length us ≡ n → us ≡ take n (drop p xs)
  written-all n s t = sym (take_all n us (omega (arith, t))) ∙ (ap (λ (k : ℕ). take k us) (sym s) ∙ (e ∙ ap (λ (k : ℕ). take k (drop p xs)) s))

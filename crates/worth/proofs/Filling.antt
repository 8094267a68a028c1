-- A list that is filled from its front, number by number. Assumes nothing.
use Prim.Native.Nat.{ℕ, ◌+◌, ◌*◌, ◌≤◌, ◌<◌}
use native.Mathlib.Nat.{le_antisymm}
use native.Mathlib.Omega.{arith}
use mathlib.Core.Path.{◌≡◌, refl, ap, ◌∙◌}
use mathlib.Core.List.{List, ◌++◌}
use lib.ListN.{length, get_or, set, drop, length-set, get_or-append}
use lib.Seq.{sets}
use Rattle.lists.specs.Loops.{list_of}
use Rattle.lists.proofs.Loops.{length-list_of, get_or-list_of}
use Rattle.table.proofs.Laws.{fill_none, fill_more}
use Rattle.words.proofs.Stores.{sets-front}

-- i of n numbers are stored
pub record Filled (n : ℕ) (h : ℕ → ℕ) (v u : List ℕ) (i : ℕ) : Type 0 where
  pub some : i ≤ n
  pub is : u ≡ sets v 0 (list_of i h)
  pub long : length u ≡ length v

-- none yet, one more, and all
module _ (n : ℕ) (h : ℕ → ℕ) (v : List ℕ) where
  pub filled_none : Filled n h v v 0
  filled_none = record { some = omega arith; is = fill_none 0 0 h v; long = refl }

  pub filled_more : (u : List ℕ) (i x : ℕ) → i < n → x ≡ h i → Filled n h v u i → Filled n h v (set u i x) (i + 1)
  filled_more u i x l e F =
      let z : i ≡ 0 * 0 + i = omega arith in
      record { some = omega arith; is = ap (λ (p : ℕ). set u p x) z ∙ fill_more 0 0 h v u i x F.is e; long = simp length-set F.long }

  pub filled-all : (u : List ℕ) (i : ℕ) → n ≤ i → n ≤ length v → Filled n h v u i → u ≡ list_of n h ++ drop n v
  filled-all u i g l F =
      F.is ∙ (ap (λ (j : ℕ). sets v 0 (list_of j h)) (le_antisymm F.some g) ∙ sets-front v (list_of n h) n (length-list_of n h) l)

  -- what stands at a place
  pub filled_at : (i : ℕ) → i < n → get_or (list_of n h ++ drop n v) i 0 ≡ h i
  filled_at i l = get_or-append (list_of n h) (drop n v) 0 i (omega (arith, length-list_of n h)) ∙ get_or-list_of n h 0 i l

-- Sums over the sizes, one size after the other, once for both sums. Assumes nothing.
use Prim.Native.Nat.{ℕ, ◌+◌, ◌≤◌, ◌<◌, min}
use native.Mathlib.Nat.{add_assoc, min-eq_left, min-eq_right}
use native.Mathlib.Numerals.{add-one}
use native.Mathlib.Omega.{arith}
use mathlib.Core.Path.{◌≡◌, refl, sym, ap, ◌∙◌}
use mathlib.Core.Bool.{Bool, true, false}
use mathlib.Core.List.{List, [], ◌∷◌, ◌++◌}
use lib.Dec.{leb}
use borrow.Author.Tests.{leb-true, leb-false}
use lib.ListN.{length, get_or, take}
use lib.Seq.{take-suc, take_all}
use Rattle.definition.specs.Handed.{corner_count, slots_of, slot_count}

-- the sum of g over a list
sum_of : (ℕ → ℕ) → List ℕ → ℕ
sum_of g [] = 0
sum_of g (n ∷ l) = g n + sum_of g l

sum-append : (g : ℕ → ℕ) (l k : List ℕ) → sum_of g (l ++ k) ≡ sum_of g l + sum_of g k
unfolding sum_of
sum-append g [] k = omega arith
sum-append g (n ∷ l) k = ap (λ (x : ℕ). g n + x) (sum-append g l k) ∙ sym (add_assoc (g n) (sum_of g l) (sum_of g k))

sum_more : (g : ℕ → ℕ) (l : List ℕ) (i : ℕ) → i < length l → sum_of g (take (i + 1) l) ≡ sum_of g (take i l) + g (get_or l i 0)
sum_more g l i h = ap (λ (k : ℕ). sum_of g (take k l)) (add-one i) ∙ ap (sum_of g) (take-suc l i 0 h) ∙ (sum-append g (take i l) (get_or l i 0 ∷ []) ∙ one g (sum_of g (take i l)) (get_or l i 0))
  where
    one : (g : ℕ → ℕ) (s n : ℕ) → s + sum_of g (n ∷ []) ≡ s + g n
    one g s n = unfold sum_of in omega arith

corners-are : (l : List ℕ) → corner_count l ≡ sum_of (λ n. n) l
unfolding corner_count sum_of
corners-are [] = refl
corners-are (n ∷ l) = ap (λ (x : ℕ). n + x) (corners-are l)

slots-are : (l : List ℕ) → slot_count l ≡ sum_of slots_of l
unfolding slot_count sum_of slots_of
slots-are [] = refl
slots-are (n ∷ l) = ap (λ (x : ℕ). slots_of n + x) (slots-are l)

pub corners-append : (l k : List ℕ) → corner_count (l ++ k) ≡ corner_count l + corner_count k
corners-append l k = corners-are (l ++ k) ∙ (sum-append (λ n. n) l k ∙ sym (λ i. corners-are l i + corners-are k i))

-- one face more
pub corners-more : (l : List ℕ) (i : ℕ) → i < length l → corner_count (take (i + 1) l) ≡ corner_count (take i l) + get_or l i 0
corners-more l i h = corners-are (take (i + 1) l) ∙ sum_more (λ n. n) l i h ∙ ap (λ (x : ℕ). x + get_or l i 0) (sym (corners-are (take i l)))

pub slots-more : (l : List ℕ) (i : ℕ) → i < length l → slot_count (take (i + 1) l) ≡ slot_count (take i l) + slots_of (get_or l i 0)
slots-more l i h = slots-are (take (i + 1) l) ∙ sum_more slots_of l i h ∙ ap (λ (x : ℕ). x + slots_of (get_or l i 0)) (sym (slots-are (take i l)))

-- no face
pub corners-none : (l : List ℕ) → 0 ≡ corner_count (take 0 l)
unfolding corner_count
corners-none l = refl

pub slots-none : (l : List ℕ) → 0 ≡ slot_count (take 0 l)
unfolding slot_count
slots-none l = refl

-- what lies past the end is not taken
pub take-least : (n : ℕ) (l : List ℕ) → take (min n (length l)) l ≡ take n l
take-least n l = go (leb n (length l)) refl
  where
    go : (b : Bool) → leb n (length l) ≡ b → take (min n (length l)) l ≡ take n l
    go true e = ap (λ (k : ℕ). take k l) (min-eq_left (leb-true n (length l) e))
    go false e = let h = leb-false n (length l) e in ap (λ (k : ℕ). take k l) (min-eq_right (short n (length l) h)) ∙ (take_all (length l) l (all (length l)) ∙ sym (take_all n l (short n (length l) h)))
      where
        short : (a b : ℕ) → b < a → b ≤ a
        short a b h = omega arith

        all : (a : ℕ) → a ≤ a
        all a = omega arith

-- The definition's searches by index, two tests that imply each other, runs of stores in joined lists, and lists of a function's values. Assumes nothing.
use Prim.Native.Nat.{ℕ, zero, suc, ◌+◌, ◌<◌}
use native.Mathlib.Nat.{zero-add, suc-add}
use native.Mathlib.Numerals.{add-one}
use native.Mathlib.Omega.{arith}
use mathlib.Core.Path.{◌≡◌, refl, sym, ◌∙◌, ap}
use mathlib.Core.Bool.{Bool, true, false, cond, ◌&&◌}
use mathlib.Core.List.{List, [], ◌∷◌, ◌++◌, flat_map, append_assoc}
use mathlib.Core.Option.{none, some}
use lib.Dec.{eqb}
use lib.ListN.{length, get_or, set, replicate, length-append, length-set, replicate-append-replicate}
use lib.Seq.{sets, sets-eq, drop_at, get_or-set_same, get_or-set_other, ext_get_or}
use borrow.Author.Tests.{eqb-true, eqb-false}
use Rattle.lists.specs.Loops.{list_of}
use Rattle.lists.proofs.Loops.{length-list_of, get_or-list_of}
use Rattle.lists.specs.Lists.{first}
use Rattle.lists.specs.Every.{Every, every_nil, every_cons}

pub bool_iff : (a b : Bool) → (a ≡ true → b ≡ true) → (b ≡ true → a ≡ true) → a ≡ b
bool_iff true b f g = sym (f refl)
bool_iff false true f g = g refl
bool_iff false false f g = refl

pub and_both : (a b : Bool) → a ≡ true → b ≡ true → (a && b) ≡ true
and_both a b p q = λ k. p k && q k

-- the first that passes, by its index: what a search with `return` finds
pub first-at : {A : Type 0} (p : A → Bool) (l : List A) (d : A) (i : ℕ) → i < length l → ((k : ℕ) → k < i → p (get_or l k d) ≡ false) → p (get_or l i d) ≡ true → first p l ≡ some (get_or l i d)
unfolding first
first-at p [] d i h b e = absurd (omega arith)
first-at p (x ∷ l) d zero h b e = ap (λ c. cond c (some x) (first p l)) e
first-at p (x ∷ l) d (suc i) h b e = ap (λ c. cond c (some x) (first p l)) (b 0 (omega arith)) ∙ first-at p l d i (omega arith) (λ k g. b (suc k) (omega arith)) e

pub first-not : {A : Type 0} (p : A → Bool) (l : List A) (d : A) → ((k : ℕ) → k < length l → p (get_or l k d) ≡ false) → first p l ≡ none
unfolding first
first-not p [] d b = refl
first-not p (x ∷ l) d b = ap (λ c. cond c (some x) (first p l)) (b 0 (omega arith)) ∙ first-not p l d (λ k g. b (suc k) (omega arith))

-- what holds of every element holds of the one at an index
pub every-index : {X : Type 0} {P : X → Type 0} {l : List X} → Every P l → (i : ℕ) (d : X) → i < length l → P (get_or l i d)
every-index every_nil i d h = absurd (omega arith)
every-index (every_cons o r) zero d h = o
every-index (every_cons o r) (suc i) d h = every-index r i d (omega arith)

-- and the other way round
pub index-every : {X : Type 0} (P : X → Type 0) (l : List X) (d : X) → ((k : ℕ) → k < length l → P (get_or l k d)) → Every P l
index-every P [] d f = every_nil
index-every P (x ∷ l) d f = every_cons (f 0 (omega arith)) (index-every P l d (λ k h. f (suc k) (omega arith)))

-- ---- two lists joined

-- what is made of each element of both
pub flat_map-append : {X Y : Type 0} (f : X → List Y) (l k : List X) → flat_map f (l ++ k) ≡ flat_map f l ++ flat_map f k
unfolding flat_map
flat_map-append f [] k = refl
flat_map-append {Y = Y} f (x ∷ l) k = ap (λ (r : List Y). f x ++ r) (flat_map-append f l k) ∙ sym (append_assoc (f x) (flat_map f l) (flat_map f k))

module _ {X : Type 0} where
  -- a run of stores past the first element leaves that one
  sets-cons : (x : X) (l : List X) (p : ℕ) (vs : List X) → sets (x ∷ l) (suc p) vs ≡ x ∷ sets l p vs
  sets-cons x l p [] = refl
  sets-cons x l p (v ∷ vs) = sets-cons x (set l p v) (suc p) vs

  -- a run of stores past a front leaves the front
  pub sets-after : (xs ys : List X) (p : ℕ) (vs : List X) → sets (xs ++ ys) (length xs + p) vs ≡ xs ++ sets ys p vs
  sets-after [] ys p vs = ap (λ (k : ℕ). sets ys k vs) (zero-add p)
  sets-after (x ∷ xs) ys p vs =
      ap (λ (k : ℕ). sets (x ∷ (xs ++ ys)) k vs) (suc-add (length xs) p) ∙ sets-cons x (xs ++ ys) (length xs + p) vs
      ∙ ap (λ (r : List X). x ∷ r) (sets-after xs ys p vs)

  -- a run of stores over a front as long replaces it
  pub sets-front : (xs ys vs : List X) → length xs ≡ length vs → sets (xs ++ ys) 0 vs ≡ vs ++ ys
  sets-front xs ys vs e = sets-eq vs (xs ++ ys) 0 (omega (arith, length-append xs ys)) ∙ ap (λ (r : List X). vs ++ r) (drop_at xs ys (0 + length vs) (omega arith))

  -- ---- the list of a function's values

  -- of two functions that agree
  pub list_of-same : (n : ℕ) (f q : ℕ → X) → ((i : ℕ) → i < n → f i ≡ q i) → list_of n f ≡ list_of n q
  unfolding list_of
  list_of-same zero f q e = refl
  list_of-same (suc n) f q e = λ z. list_of-same n f q (λ i h. e i (omega arith)) z ++ (e n (omega arith) z ∷ [])

  -- of a function that differs at one place
  pub list_of-set : (n i : ℕ) (f q : ℕ → X) → i < n → ((j : ℕ) → (j ≡ i → ⊥) → q j ≡ f j) → list_of n q ≡ set (list_of n f) i (q i)
  list_of-set n i f q h o =
      ext_get_or (q i) (list_of n q) (set (list_of n f) i (q i)) (length-list_of n q ∙ sym (length-set (list_of n f) i (q i) ∙ length-list_of n f))
      (λ j l. get_or-list_of n q (q i) j (omega (arith, length-list_of n q)) ∙ go j (omega (arith, length-list_of n q)) (eqb j i) refl)
    where
      go : (j : ℕ) → j < n → (b : Bool) → eqb j i ≡ b → q j ≡ get_or (set (list_of n f) i (q i)) j (q i)
      go j l true e = ap q (eqb-true j i e) ∙ sym (ap (λ (k : ℕ). get_or (set (list_of n f) i (q i)) k (q i)) (eqb-true j i e) ∙ get_or-set_same (list_of n f) i (q i) (q i) (omega (arith, length-list_of n f)))
      go j l false e = o j (eqb-false j i e) ∙ sym (get_or-set_other (list_of n f) i j (q i) (q i) (eqb-false j i e) ∙ get_or-list_of n f (q i) j l)

  -- of a list's own elements
  pub list_of-get_or : (l : List X) (d : X) → list_of (length l) (λ i. get_or l i d) ≡ l
  list_of-get_or l d =
      ext_get_or d (list_of (length l) (λ i. get_or l i d)) l (length-list_of (length l) (λ i. get_or l i d)) (λ j h. get_or-list_of (length l) (λ i. get_or l i d) d j (omega (arith, length-list_of (length l) (λ i. get_or l i d))))

  -- of one value
  pub list_of-one : (n : ℕ) (x : X) → list_of n (λ _. x) ≡ replicate n x
  unfolding list_of
  list_of-one zero x = refl
  list_of-one (suc n) x = ap (λ (l : List X). l ++ (x ∷ [])) (list_of-one n x) ∙ replicate-append-replicate n 1 x ∙ ap (λ (k : ℕ). replicate k x) (add-one n)

-- The triangles of one face of the lists. Assumes nothing.
use Prim.Native.Nat.{ℕ, zero, suc, ◌+◌, ◌*◌, ◌≤◌, ◌<◌}
use native.Mathlib.Nat.{add-zero}
use native.Mathlib.Omega.{arith}
use mathlib.Core.Path.{◌≡◌, refl, sym, ◌∙◌, ap, subst}
use mathlib.Core.Bool.{Bool, true, false, cond, beq}
use mathlib.Core.List.{List, [], ◌∷◌, ◌++◌}
use lib.ListN.{length, take, length-append}
use lib.Ieee.{Float}
use Rattle.definition.specs.declared.Corner.{Corner}
use Rattle.definition.specs.declared.Kept.{Kept}
use Rattle.definition.specs.declared.Triangle.{Triangle}
use Rattle.lists.specs.Lists.{keep}
use Rattle.definition.specs.Mesh.{Third, one, two, three, kept}
use Rattle.definition.specs.Handed.{handed, corner_at, corners_from, corner_count, slot_count}
use Rattle.definition.specs.Step1Cut.{cut02}
use Rattle.definition.specs.Triangles.{make, settled, pair, nook, quad, pieces}
use Rattle.view.specs.Records.{From}
use Rattle.records.specs.Stored.{Small}
use Rattle.listing.specs.Listing.{One, Done, Added, pick}
use Rattle.listing.proofs.Laws.{added_none, added-trans}

-- a triangle of face f, whose corners stand from number `base` on
pub record Fine (ps ns ts : List Float) (f base : ℕ) (x : Triangle) : Type 0 where
  pub face : x.face ≡ f
  pub from : From ps ns ts base x

-- the numbers of its corners or slots are words
pub small_of : (ps ns ts : List Float) (f base : ℕ) (x : Triangle) → Fine ps ns ts f base x → (m : ℕ) → m + 3 < 4294967296 → Small m x
unfolding kept
small_of ps ns ts f base x F m h =
    let a = F.from.small one in
    let b = F.from.small two in
    let c = F.from.small three in
    record { a = omega arith; b = omega arith; c = omega arith }

-- both of two
abbrev pub Both : (Triangle → Type 0) → List Triangle → Type 0
Both P [] = Unit {0}
Both P (x ∷ []) = Unit {0}
Both P (x ∷ y ∷ l) = P x × P y

module _ (ps ns ts : List Float) (f base : ℕ) where
  abbrev C : ℕ → Corner
  C i = corner_at ps ns ts (base + i)

  -- what keeps three corners of the face is fine
  fine : (x : Triangle) (i j k : ℕ) → x.face ≡ f → i < 4 → j < 4 → k < 4 → x.a ≡ nook i (C i) → x.b ≡ nook j (C j) → x.c ≡ nook k (C k) → Fine ps ns ts f base x
  unfolding kept
  fine x i j k e hi hj hk ea eb ec = record {
    face = e;
    from = record {
      small = λ t. elim t as (λ (i : Third). (kept x i).which < 4) [
        | one ↦ subst (λ (q : Kept). q.which < 4) (sym ea) hi
        | two ↦ subst (λ (q : Kept). q.which < 4) (sym eb) hj
        | three ↦ subst (λ (q : Kept). q.which < 4) (sym ec) hk
      ];
      corner = λ t. elim t as (λ (i : Third). (kept x i).corner ≡ corner_at ps ns ts (base + (kept x i).which)) [
        | one ↦ subst (λ (q : Kept). q.corner ≡ corner_at ps ns ts (base + q.which)) (sym ea) refl
        | two ↦ subst (λ (q : Kept). q.corner ≡ corner_at ps ns ts (base + q.which)) (sym eb) refl
        | three ↦ subst (λ (q : Kept). q.corner ≡ corner_at ps ns ts (base + q.which)) (sym ec) refl
      ];
    };
  }

  first_is : nook 0 (corner_at ps ns ts base) ≡ nook 0 (C 0)
  first_is = ap (λ (n : ℕ). nook 0 (corner_at ps ns ts n)) (sym (add-zero base))

  abbrev c0 : Corner
  c0 = corner_at ps ns ts base

  abbrev one_of : Triangle
  one_of = make f false 3 (nook 0 c0) (nook 1 (C 1)) (nook 2 (C 2))

  pub one-fine : Fine ps ns ts f base one_of
  unfolding make
  one-fine = fine one_of 0 1 2 refl (omega arith) (omega arith) (omega arith) first_is refl refl

  pub quad-fine : Both (Fine ps ns ts f base) (quad f c0 (C 1) (C 2) (C 3))
  unfolding quad pair settled make
  quad-fine = go (cut02 c0 (C 1) (C 2) (C 3))
    where
      go : (b : Bool) → Both (Fine ps ns ts f base) (cond b (pair (make f false 3 (nook 0 c0) (nook 1 (C 1)) (nook 2 (C 2))) (make f true 1 (nook 0 c0) (nook 2 (C 2)) (nook 3 (C 3)))) (pair (make f false 2 (nook 0 c0) (nook 1 (C 1)) (nook 3 (C 3))) (make f true 0 (nook 1 (C 1)) (nook 2 (C 2)) (nook 3 (C 3)))))
      go true = (fine _ 0 1 2 refl (omega arith) (omega arith) (omega arith) first_is refl refl, fine _ 0 2 3 refl (omega arith) (omega arith) (omega arith) first_is refl refl)
      go false = (fine _ 0 1 3 refl (omega arith) (omega arith) (omega arith) first_is refl refl, fine _ 1 2 3 refl (omega arith) (omega arith) (omega arith) refl refl refl)

  -- the definition's pieces, with the corners' numbers as code counts them
  pub pieces-three : pieces f (corners_from ps ns ts base 3) ≡ one_of ∷ []
  unfolding pieces corners_from
  pieces-three = λ k. make f false 3 (nook 0 c0) (nook 1 (corner_at ps ns ts (p k))) (nook 2 (corner_at ps ns ts (q k))) ∷ []
    where
      p : suc base ≡ base + 1
      p = omega arith

      q : suc (suc base) ≡ base + 2
      q = omega arith

  pub pieces-four : pieces f (corners_from ps ns ts base 4) ≡ quad f c0 (C 1) (C 2) (C 3)
  unfolding pieces corners_from
  pieces-four = λ k. quad f c0 (corner_at ps ns ts (p k)) (corner_at ps ns ts (q k)) (corner_at ps ns ts (r k))
    where
      p : suc base ≡ base + 1
      p = omega arith

      q : suc (suc base) ≡ base + 2
      q = omega arith

      r : suc (suc (suc base)) ≡ base + 3
      r = omega arith

  pub pieces-other : (n : ℕ) → (n ≡ 3 → ⊥) → (n ≡ 4 → ⊥) → pieces f (corners_from ps ns ts base n) ≡ []
  unfolding pieces corners_from
  pieces-other zero a b = refl
  pieces-other (suc zero) a b = refl
  pieces-other (suc (suc zero)) a b = refl
  pieces-other (suc (suc (suc zero))) a b = absurd (a refl)
  pieces-other (suc (suc (suc (suc zero)))) a b = absurd (b refl)
  pieces-other (suc (suc (suc (suc (suc n))))) a b = refl

  -- the triangle that code makes of a face of three
  pub three-x : (x : Triangle) (k0 k1 k2 : Kept) (n : ℕ) → x ≡ make f false 3 k0 k1 k2 → k0 ≡ nook 0 (C 0) → k1 ≡ nook 1 (C 1) → k2 ≡ nook 2 (C 2) → n ≡ 3 → (◌≡◌ {A = List Triangle} (x ∷ []) (pieces f (corners_from ps ns ts base n))) × Fine ps ns ts f base x
  three-x x k0 k1 k2 n e p q r h =
      let is : x ≡ one_of = e ∙ (λ k. make f false 3 ((p ∙ sym first_is) k) (q k) (r k)) in
      (ap (λ (y : Triangle). y ∷ []) is ∙ sym pieces-three ∙ ap (λ (m : ℕ). pieces f (corners_from ps ns ts base m)) (sym h), subst (Fine ps ns ts f base) (sym is) one-fine)

  -- and the two of a face of four
  pub four-x : (x y : Triangle) (e0 e1 e2 e3 : Corner) (n : ℕ) → ◌≡◌ {A = List Triangle} (x ∷ y ∷ []) (quad f e0 e1 e2 e3) → e0 ≡ c0 → e1 ≡ C 1 → e2 ≡ C 2 → e3 ≡ C 3 → n ≡ 4 → (◌≡◌ {A = List Triangle} (x ∷ y ∷ []) (pieces f (corners_from ps ns ts base n))) × (Fine ps ns ts f base x × Fine ps ns ts f base y)
  four-x x y e0 e1 e2 e3 n e p q r s h =
      let is : ◌≡◌ {A = List Triangle} (x ∷ y ∷ []) (quad f c0 (C 1) (C 2) (C 3)) = e ∙ (λ k. quad f (p k) (q k) (r k) (s k)) in
      (is ∙ sym pieces-four ∙ ap (λ (m : ℕ). pieces f (corners_from ps ns ts base m)) (sym h), subst (Both (Fine ps ns ts f base)) (sym is) quad-fine)

-- ---- a face's triangles added

pub pick-append : (want : Bool) (xs ys : List Triangle) → pick want (xs ++ ys) ≡ pick want xs ++ pick want ys
unfolding pick keep
pick-append want [] ys = refl
pick-append want (x ∷ xs) ys = go (beq x.degenerate want) (pick-append want xs ys)
  where
    go : (b : Bool) → keep (λ t. beq t.degenerate want) (xs ++ ys) ≡ keep (λ t. beq t.degenerate want) xs ++ keep (λ t. beq t.degenerate want) ys → cond b (x ∷ keep (λ t. beq t.degenerate want) (xs ++ ys)) (keep (λ t. beq t.degenerate want) (xs ++ ys)) ≡ cond b (x ∷ keep (λ t. beq t.degenerate want) xs) (keep (λ t. beq t.degenerate want) xs) ++ keep (λ t. beq t.degenerate want) ys
    go true e = ap (λ (l : List Triangle). x ∷ l) e
    go false e = e

module _ (rows : ℕ) (want : Bool) (ps ns ts : List Float) (f base slot : ℕ) where
  single : (x : Triangle) (tris r : ℕ) (w u : List ℕ) → Fine ps ns ts f base x → r ≡ tris + length (pick want (x ∷ [])) → One rows want tris r base slot x w u → Done rows want ps ns ts f base slot (x ∷ []) tris r w u
  single x tris r w u F e O = record { count = e; added = λ sizes eb es. O (handed sizes ps ns ts) (eb ∙ ap (λ (n : ℕ). corner_count (take n sizes)) (sym F.face)) (es ∙ ap (λ (n : ℕ). slot_count (take n sizes)) (sym F.face)) F.from }

  pub one-done : (x : Triangle) (l : List Triangle) (tris r : ℕ) (w u : List ℕ) → (x ∷ []) ≡ l → Fine ps ns ts f base x → r ≡ tris + length (pick want (x ∷ [])) → One rows want tris r base slot x w u → Done rows want ps ns ts f base slot l tris r w u
  one-done x l tris r w u is F e O = subst (λ (k : List Triangle). Done rows want ps ns ts f base slot k tris r w u) is (single x tris r w u F e O)

  pub two-done : (x y : Triangle) (l : List Triangle) (tris r s : ℕ) (w u v : List ℕ) → (x ∷ y ∷ []) ≡ l → Fine ps ns ts f base x → Fine ps ns ts f base y → r ≡ tris + length (pick want (x ∷ [])) → One rows want tris r base slot x w u → s ≡ r + length (pick want (y ∷ [])) → One rows want r s base slot y u v → Done rows want ps ns ts f base slot l tris s w v
  two-done x y l tris r s w u v is F G e O g Q = subst (λ (k : List Triangle). Done rows want ps ns ts f base slot k tris s w v) is (record {
    count = count;
    added = λ sizes eb es.
        subst (λ (k : List Triangle). Added rows (handed sizes ps ns ts) k tris s w v) (sym (pick-append want (x ∷ []) (y ∷ [])))
        (added-trans rows (handed sizes ps ns ts) (pick want (x ∷ [])) (pick want (y ∷ [])) tris r s w u v ((single x tris r w u F e O).added sizes eb es) ((single y r s u v G g Q).added sizes eb es));
  })
    where
      count : s ≡ tris + length (pick want (x ∷ y ∷ []))
      count = omega (arith, e, g, ap length (pick-append want (x ∷ []) (y ∷ [])), length-append (pick want (x ∷ [])) (pick want (y ∷ [])))

  pub none_done : (l : List Triangle) (tris : ℕ) (w : List ℕ) → l ≡ [] → Done rows want ps ns ts f base slot l tris tris w w
  unfolding pick keep
  none_done l tris w is = subst (λ (k : List Triangle). Done rows want ps ns ts f base slot k tris tris w w) (sym is) empty
    where
      empty : Done rows want ps ns ts f base slot [] tris tris w w
      empty = record { count = omega arith; added = λ sizes eb es. added_none rows (handed sizes ps ns ts) tris w }

  -- the first of two has room, and then the second
  pub room-two : (x y : Triangle) (l : List Triangle) (tris : ℕ) → (x ∷ y ∷ []) ≡ l → 3 * (tris + length (pick want l)) ≤ rows → 3 * (tris + (length (pick want (x ∷ [])) + length (pick want (y ∷ [])))) ≤ rows
  room-two x y l tris is h = subst (λ (n : ℕ). 3 * (tris + n) ≤ rows) (ap (λ (k : List Triangle). length (pick want k)) (sym is) ∙ ap length (pick-append want (x ∷ []) (y ∷ [])) ∙ length-append (pick want (x ∷ [])) (pick want (y ∷ []))) h

  pub room-one : (x : Triangle) (l : List Triangle) (tris : ℕ) → (x ∷ []) ≡ l → 3 * (tris + length (pick want l)) ≤ rows → 3 * (tris + length (pick want (x ∷ []))) ≤ rows
  room-one x l tris is h = subst (λ (k : List Triangle). 3 * (tris + length (pick want k)) ≤ rows) (sym is) h

-- Step 5's links are those of the sides sorted by lower corner, higher corner, triangle, as document 01 says it. Assumes nothing.
use Prim.Native.Nat.{ℕ, suc, ◌≤◌, ◌<◌, min, max}
use native.Mathlib.Nat.{min_comm, max_comm}
use native.Mathlib.Omega.{arith}
use mathlib.Core.Path.{◌≡◌, refl, sym, ◌∙◌, ap, subst}
use mathlib.Core.Bool.{Bool, true, false, cond, ◌&&◌, ◌||◌, true≢false}
use mathlib.Core.List.Memᴰ
use mathlib.Core.List.{List, [], ◌∷◌, map, Memᴰ}
use lib.Dec.{eqb, ltb}
use borrow.Author.Tests.{lt-ltb, le-ltb, le-leb, eq-eqb, ltb-true, ltb-false, eqb-true, eqb-false, leb-true, leb-false}
use Rattle.definition.specs.declared.Corner.{Corner}
use Rattle.definition.specs.declared.Triangle.{Triangle}
use Rattle.lists.specs.Lists.{keep}
use Rattle.definition.specs.Mesh.{Third, one, two, three, Spot, corner_of}
use Rattle.definition.specs.Step4Order.{welded, sound, spots}
use Rattle.definition.specs.Step5Links.{end_of, opposite, links, beyond}
use Rattle.definition.specs.Step5Sorted.{number_of, vertex_of, Side, side_of, sides_from, sides, may_precede, set_in, sorted_by, sorted_sides, sorted_links, alike}
use Rattle.lists.specs.Every.{Every, every_nil, every_cons}
use Rattle.laws.proofs.Part.{every_map, every-cond, keep-map}
use Rattle.bits.proofs.Bools.{and_left, and_right}
use Rattle.laws.proofs.Weld.{weld-one}
use Rattle.laws.proofs.Shuffled.{every-mem}
use Rattle.definition.specs.Names.{Names}
use Rattle.laws.proofs.Mutual.{spots-apart}
use Rattle.laws.proofs.Buckets.{same_ends, ends_as, any_order}

-- each element of the list may precede all that follow it
pub data InOrder {X : Type 0} (p : X → X → Bool) : List X → Type 0 where
  order-nil : InOrder p []
  order-cons : {x : X} {l : List X} → Every (λ y. p x y ≡ true) l → InOrder p l → InOrder p (x ∷ l)

-- ---- a stable sort leaves what a test keeps as it is, where the sort has nothing to change among those that pass

every-mapped : {X Y : Type 0} (P : Y → Type 0) (f : X → Y) {l : List X} → Every (λ x. P (f x)) l → Every P (map f l)
every-mapped P f every_nil = every_nil
every-mapped P f (every_cons h r) = every_cons h (every-mapped P f r)

module _ {X : Type 0} (p : X → X → Bool) where
  every_set : {P : X → Type 0} (x : X) {l : List X} → P x → Every P l → Every P (set_in p x l)
  unfolding set_in
  every_set x h every_nil = every_cons h every_nil
  every_set x h (every_cons {x = y} g r) = every-cond (p x y) (every_cons h (every_cons g r)) (every_cons g (every_set x h r))

  every-sorted : {P : X → Type 0} {l : List X} → Every P l → Every P (sorted_by p l)
  unfolding sorted_by
  every-sorted every_nil = every_nil
  every-sorted (every_cons {x} h r) = every_set x h (every-sorted r)

  module _ (q : X → Bool) where
    -- where x stands before y and both pass q, the sort leaves them so
    abbrev Rises : X → X → Type 0
    Rises x y = q x ≡ true → q y ≡ true → p x y ≡ true

    -- of every two elements of a list
    data Rising : List X → Type 0 where
      rising-nil : Rising []
      rising-cons : {x : X} {l : List X} → Every (Rises x) l → Rising l → Rising (x ∷ l)

    keep-set : (x : X) {l : List X} → Every (Rises x) l → keep q (set_in p x l) ≡ keep q (x ∷ l)
    unfolding keep set_in
    keep-set x every_nil = refl
    keep-set x (every_cons {x = y} {l} h r) = go (p x y) refl (keep-set x r)
      where
        swap : (a b : Bool) → q x ≡ a → q y ≡ b → p x y ≡ false → (k : List X) → cond b (y ∷ cond a (x ∷ k) k) (cond a (x ∷ k) k) ≡ cond a (x ∷ cond b (y ∷ k) k) (cond b (y ∷ k) k)
        swap true true e f d k = absurd (true≢false (sym (h e f) ∙ d))
        swap true false e f d k = refl
        swap false b e f d k = refl

        go : (b : Bool) → p x y ≡ b → keep q (set_in p x l) ≡ keep q (x ∷ l) → keep q (cond b (x ∷ y ∷ l) (y ∷ set_in p x l)) ≡ keep q (x ∷ y ∷ l)
        go true d i = refl
        go false d i = ap (λ k. cond (q y) (y ∷ k) k) i ∙ swap (q x) (q y) refl refl d (keep q l)

    keep-sorted : {l : List X} → Rising l → keep q (sorted_by p l) ≡ keep q l
    unfolding keep sorted_by
    keep-sorted rising-nil = refl
    keep-sorted (rising-cons {x} h r) = keep-set x (every-sorted h) ∙ ap (λ k. cond (q x) (x ∷ k) k) (keep-sorted r)

-- ---- a sort sorts

module _ {X : Type 0} (p : X → X → Bool) (total : (x y : X) → p x y ≡ false → p y x ≡ true) (trans : (x y z : X) → p x y ≡ true → p y z ≡ true → p x z ≡ true) where
  set-order : (x : X) {l : List X} → InOrder p l → InOrder p (set_in p x l)
  unfolding set_in
  set-order x order-nil = order-cons every_nil order-nil
  set-order x (order-cons {x = y} {l} h r) = go (p x y) refl (set-order x r)
    where
      go : (b : Bool) → p x y ≡ b → InOrder p (set_in p x l) → InOrder p (cond b (x ∷ y ∷ l) (y ∷ set_in p x l))
      go true e i = order-cons (every_cons e (every_map (λ z g. trans x y z e g) h)) (order-cons h r)
      go false e i = order-cons (every_set p x (total x y e) h) i

  sorted-order : (l : List X) → InOrder p (sorted_by p l)
  unfolding sorted_by
  sorted-order [] = order-nil
  sorted-order (x ∷ l) = set-order x (sorted-order l)

-- what the test by one number, then by another test, says
data Lex (a b : ℕ) (r : Bool) : Type 0 where
  below : a < b → Lex a b r
  level : a ≡ b → r ≡ true → Lex a b r

lex-is : (a b : ℕ) (r : Bool) → (ltb a b || eqb a b && r) ≡ true → Lex a b r
lex-is a b r e = go (ltb a b) refl (eqb a b) refl e
  where
    go : (c : Bool) → ltb a b ≡ c → (d : Bool) → eqb a b ≡ d → (c || d && r) ≡ true → Lex a b r
    go true f d g e = below (ltb-true a b f)
    go false f true g e = level (eqb-true a b g) e
    go false f false g e = absurd (true≢false (sym e))

is-lex : {a b : ℕ} {r : Bool} → Lex a b r → (ltb a b || eqb a b && r) ≡ true
is-lex {a} {b} (below h) = rw (lt-ltb a b h)
is-lex {a} {b} (level h e) = rw (le-ltb a b (omega arith), eq-eqb a b h) e

lex-trans : {a b c : ℕ} {r s : Bool} (t : Bool) → (r ≡ true → s ≡ true → t ≡ true) → Lex a b r → Lex b c s → Lex a c t
lex-trans t f (below h) (below k) = below (omega arith)
lex-trans t f (below h) (level k e) = below (omega arith)
lex-trans t f (level h d) (below k) = below (omega arith)
lex-trans t f (level h d) (level k e) = level (omega arith) (f d e)

lex-total : (a b : ℕ) (r s : Bool) → (r ≡ false → s ≡ true) → (ltb a b || eqb a b && r) ≡ false → Lex b a s
lex-total a b r s f e = go (ltb a b) refl (eqb a b) refl e
  where
    go : (c : Bool) → ltb a b ≡ c → (d : Bool) → eqb a b ≡ d → (c || d && r) ≡ false → Lex b a s
    go true g d h e = absurd (true≢false e)
    go false g true h e = level (sym (eqb-true a b h)) (f e)
    go false g false h e = below (omega (arith, ltb-false a b g, eqb-false a b h))

precede-total : (x y : Side) → may_precede x y ≡ false → may_precede y x ≡ true
unfolding may_precede
precede-total x y e =
    is-lex
    (lex-total x.lower y.lower _ _
    (λ f. is-lex (lex-total x.higher y.higher _ _ (λ g. le-leb y.triangle x.triangle (omega (arith, leb-false x.triangle y.triangle g))) f)) e)

precede-trans : (x y z : Side) → may_precede x y ≡ true → may_precede y z ≡ true → may_precede x z ≡ true
unfolding may_precede
precede-trans x y z e f =
    is-lex
    (lex-trans _
    (λ g h.
    is-lex
    (lex-trans _ (λ u v. le-leb x.triangle z.triangle (omega (arith, leb-true x.triangle y.triangle u, leb-true y.triangle z.triangle v))) (lex-is x.higher y.higher _ g)
    (lex-is y.higher z.higher _ h))) (lex-is x.lower y.lower _ e) (lex-is y.lower z.lower _ f))

-- 'sorted by lower corner, higher corner, triangle': each side of the sorted list may precede all that follow it
pub sides-order : (ts : List Triangle) → InOrder may_precede (sorted_sides ts)
unfolding sorted_sides
sides-order ts = sorted-order may_precede precede-total precede-trans (sides ts)

-- ---- sides with the same ends have the same numbers

-- welded corners have one number
pub weld-number : (ts : List Triangle) (c d : Corner) → welded c d ≡ true → vertex_of ts c ≡ vertex_of ts d
unfolding vertex_of
weld-number ts c d e = ap number_of (weld-one ts c d e)

either_way : (a b c d : ℕ) → a ≡ d → b ≡ c → (min a b ≡ min c d) × (max a b ≡ max c d)
either_way a b c d e f = rw (e, f) (min_comm d c, max_comm d c)

-- the same lower and the same higher corner
ends-numbers : (ts : List Triangle) (n m : ℕ) (s t : Spot) → same_ends s t ≡ true → ((side_of ts n s).lower ≡ (side_of ts m t).lower) × ((side_of ts n s).higher ≡ (side_of ts m t).higher)
unfolding side_of same_ends alike opposite
ends-numbers ts n m s t e = go (alike s t) refl e
  where
    go : (b : Bool) → alike s t ≡ b → (b || opposite s t) ≡ true → ((side_of ts n s).lower ≡ (side_of ts m t).lower) × ((side_of ts n s).higher ≡ (side_of ts m t).higher)
    go true f e = rw (weld-number ts (corner_of s) (corner_of t) (and_left _ _ f), weld-number ts (end_of s) (end_of t) (and_right (welded (corner_of s) (corner_of t)) _ f)) (refl, refl)
    go false f e = either_way _ _ _ _ (weld-number ts (corner_of s) (end_of t) (and_left _ _ e)) (weld-number ts (end_of s) (corner_of t) (and_right (welded (corner_of s) (end_of t)) _ e))

-- ---- the sides of triangles, numbered from n on

-- what is known of each: it has the numbers of its ends, and its triangle's number is n or above
record Numbered (ts : List Triangle) (n : ℕ) (y : Side) : Type 0 where
  number : ℕ
  is : y ≡ side_of ts number y.spot
  above : n ≤ number

precedes : (x y : Side) → x.lower ≡ y.lower → x.higher ≡ y.higher → x.triangle ≤ y.triangle → may_precede x y ≡ true
unfolding may_precede
precedes x y e f h = is-lex (level e (is-lex (level f (le-leb x.triangle y.triangle h))))

module _ (ts : List Triangle) where
  here : (n : ℕ) (t : Triangle) (i : Third) → Numbered ts n (side_of ts n (record { tri = t; at = i }))
  unfolding side_of
  here n t i = record { number = n; is = refl; above = omega arith }

  up : {n : ℕ} (y : Side) → Numbered ts (suc n) y → Numbered ts n y
  up y h = record { number = h.number; is = h.is; above = omega arith }

  numbered-from : (n : ℕ) (ss : List Triangle) → Every (Numbered ts n) (sides_from ts n ss)
  unfolding sides_from
  numbered-from n [] = every_nil
  numbered-from n (t ∷ ss) = every_cons (here n t one) (every_cons (here n t two) (every_cons (here n t three) (every_map up (numbered-from (suc n) ss))))

  sides-spots : (n : ℕ) (ss : List Triangle) → map (λ x. x.spot) (sides_from ts n ss) ≡ spots ss
  unfolding sides_from side_of spots
  sides-spots n [] = refl
  sides-spots n (t ∷ ss) = rw (sides-spots (suc n) ss)

  module _ (s : Spot) where
    -- a side with the ends of s
    abbrev of_ends : Side → Bool
    of_ends x = same_ends s x.spot

    rises : (n : ℕ) (z : Spot) (y : Side) → Numbered ts n y → Rises may_precede of_ends (side_of ts n z) y
    unfolding side_of
    rises n z y h e f =
        let g = ends-numbers ts n h.number z y.spot (sym (ends_as s z y.spot e) ∙ f) in
        ap (may_precede (side_of ts n z)) h.is ∙ precedes _ _ g.0 g.1 h.above

    -- among the sides with the ends of s, triangle order is the sort's order
    rising : (n : ℕ) (ss : List Triangle) → Rising may_precede of_ends (sides_from ts n ss)
    unfolding sides_from
    rising n [] = rising-nil
    rising n (t ∷ ss) =
        let r : Every (Numbered ts n) (sides_from ts (suc n) ss) = every_map up (numbered-from (suc n) ss) in
        rising-cons (every_map (rises n _) (every_cons (here n t two) (every_cons (here n t three) r)))
        (rising-cons (every_map (rises n _) (every_cons (here n t three) r)) (rising-cons (every_map (rises n _) r) (rising (suc n) ss)))

    -- so sorting leaves the sides with the ends of s as they are, in their order
    pub sorted-bucket : keep (same_ends s) (map (λ x. x.spot) (sorted_sides ts)) ≡ keep (same_ends s) (spots (sound ts))
    unfolding sorted_sides sides
    sorted-bucket =
        keep-map (same_ends s) (λ x. x.spot) (sorted_by may_precede (sides ts)) ∙ (ap (map (λ x. x.spot)) (keep-sorted may_precede of_ends (rising 0 (sound ts))) ∙ (sym (keep-map (same_ends s) (λ x. x.spot) (sides ts)) ∙ ap (keep (same_ends s)) (sides-spots 0 (sound ts))))

  -- sorting keeps membership
  sorted-inside : Every (λ s. Memᴰ s (spots (sound ts))) (map (λ x. x.spot) (sorted_sides ts))
  unfolding sorted_sides sides
  sorted-inside =
      every-mapped _ (λ x. x.spot)
      (every-sorted may_precede (every-mem (λ x. Memᴰ x.spot (spots (sound ts))) (sides ts) (λ x h. subst (Memᴰ x.spot) (sides-spots 0 (sound ts)) (Memᴰ.map (λ x. x.spot) h))))

  -- Step 5: the sides sorted as document 01 says have the same links as the sides in triangle order.
  pub sorted-same : Names (sound ts) → (s : Spot) → Memᴰ s (spots (sound ts)) → beyond (sorted_links ts) s ≡ beyond (links (sound ts)) s
  unfolding sorted_links links
  sorted-same names s m = any_order (spots (sound ts)) (spots-apart names) _ (spots (sound ts)) sorted-inside (every-mem _ _ (λ x h. h)) s m (sorted-bucket s)

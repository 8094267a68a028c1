-- In a marked quad a kept corner of the sound triangle has the missing corner's position: step 9 always finds one (the crate unwraps there). Assumes nothing.
use Prim.Native.Nat.{ℕ}
use mathlib.Core.Path.{◌≡◌, refl, sym, ◌∙◌, subst}
use mathlib.Core.Bool.{Bool, true, false, cond, not, ◌||◌, xor, true≢false, false≢true}
use mathlib.Core.List.{[], ◌∷◌}
use mathlib.Core.Option.{none, some, none-ne-some}
use lib.Dec.{eqb}
use Rattle.math.specs.Vector.{equals}
use Rattle.math.proofs.Equal.{equals-sym}
use Rattle.definition.specs.declared.Corner.{Corner}
use Rattle.definition.specs.declared.Triangle.{Triangle}
use Rattle.lists.specs.Lists.{first, has}
use Rattle.definition.specs.Mesh.{kept, corner_of}
use Rattle.definition.specs.Step1Cut.{cut02}
use Rattle.definition.specs.Step2Degenerate.{flat, exactly_one}
use Rattle.definition.specs.Triangles.{nook, make, settled, pair, quad}
use Rattle.definition.specs.Step4Order.{is_sound, spots}
use Rattle.definition.specs.Step9Copies.{nooks}
use Rattle.lists.specs.Every.{Every, every_nil, every_cons}

-- the triangle t keeps a corner at c's position
unfoldable pub keeps_at : Triangle → Corner → Bool
keeps_at t c = has (λ s. equals (corner_of s).place c.place) (spots (t ∷ []))

keeps_at-is : (t : Triangle) (c : Corner) → keeps_at t c ≡ (equals t.a.corner.place c.place || (equals t.b.corner.place c.place || (equals t.c.corner.place c.place || false)))
unfolding keeps_at has spots corner_of kept
keeps_at-is t c = refl

-- ---- three tests of which one holds, or none
three-way : (a b c : Bool) → (a || b || c) ≡ true → (P : Type 0) → (a ≡ true → P) → (b ≡ true → P) → (c ≡ true → P) → P
three-way true b c h P f g k = f refl
three-way false true c h P f g k = g refl
three-way false false c h P f g k = k h

none_of : (a b c : Bool) → (a || b || c) ≡ false → (a ≡ false) × (b ≡ false) × (c ≡ false)
none_of true b c h = absurd (true≢false h)
none_of false true c h = absurd (true≢false h)
none_of false false c h = (refl, refl, h)

in-first : (a b c : Bool) → a ≡ true → (a || (b || (c || false))) ≡ true
in-first a b c e = rw e

in-second : (a b c : Bool) → b ≡ true → (a || (b || (c || false))) ≡ true
in-second true b c e = refl
in-second false b c e = rw e

in-third : (a b c : Bool) → c ≡ true → (a || (b || (c || false))) ≡ true
in-third true b c e = refl
in-third false true c e = refl
in-third false false c e = rw e

-- ---- a sound triangle of the corners x, y and z, and a degenerate one of two of them and m: m has the position of one of the two
module _ (x y m : Corner) where
  abbrev same : Corner → Corner → Bool
  same c d = equals c.place d.place

  -- the degenerate one is (x, y, m) in some turn of that order: x and y do not have one position
  joined : (P : Type 0) → (same x y || same y m || same m x) ≡ true → same x y ≡ false → (same x m ≡ true → P) → (same y m ≡ true → P) → P
  joined P h n f g = three-way (same x y) (same y m) (same m x) h P (λ e. absurd (true≢false (sym e ∙ n))) g (λ e. f (equals-sym x.place m.place ∙ e))

turned : (a b c : Bool) → (a || b || c) ≡ true → (c || a || b) ≡ true
turned a b true h = refl
turned true b false h = refl
turned false true false h = refl
turned false false false h = absurd (false≢true h)

flat-no : (c d e : Corner) → flat c d e ≡ false → (equals c.place d.place ≡ false) × (equals d.place e.place ≡ false) × (equals e.place c.place ≡ false)
unfolding flat
flat-no c d e h = none_of _ _ _ h

module _ (f : ℕ) (c0 c1 c2 c3 : Corner) where
  -- what is claimed of a sound triangle of the quad
  abbrev Claim : Triangle → Type 0
  Claim t = t.marked ≡ true → Every (λ k. eqb k.which t.missing ≡ true → keeps_at t k.corner ≡ true) (nooks 0 (c0 ∷ c1 ∷ c2 ∷ c3 ∷ []))

  some_inj : (x t : Triangle) → some x ≡ some t → x ≡ t
  some_inj x t e = cc

  pick : (d e : Bool) (x y t : Triangle) → (d ≡ false → Claim x) → (e ≡ false → Claim y) → cond (not d) (some x) (cond (not e) (some y) none) ≡ some t → Claim t
  pick false e x y t h k q = subst Claim (some_inj x t q) (h refl)
  pick true false x y t h k q = subst Claim (some_inj y t q) (k refl)
  pick true true x y t h k q = absurd (none-ne-some t q)

  other-one : (d e : Bool) → xor d e ≡ true → d ≡ false → e ≡ true
  unfolding xor
  other-one true e h n = absurd (true≢false n)
  other-one false true h n = refl
  other-one false false h n = absurd (false≢true h)

  one-other : (d e : Bool) → xor d e ≡ true → e ≡ false → d ≡ true
  unfolding xor
  one-other true e h n = refl
  one-other false true h n = absurd (true≢false n)
  one-other false false h n = absurd (false≢true h)

  -- the four sound triangles that a quad can have, with the other degenerate, each with the corner that it misses
  abbrev at : Corner → Corner → Bool
  at c d = equals c.place d.place

  misses-3 : flat c0 c1 c2 ≡ false → flat c0 c2 c3 ≡ true → (at c0 c3 || (at c1 c3 || (at c2 c3 || false))) ≡ true
  unfolding flat
  misses-3 s d =
      joined c0 c2 c3 ((at c0 c3 || (at c1 c3 || (at c2 c3 || false))) ≡ true) d (equals-sym c0.place c2.place ∙ (flat-no c0 c1 c2 s).2) (in-first (at c0 c3) (at c1 c3) (at c2 c3)) (in-third (at c0 c3) (at c1 c3) (at c2 c3))

  misses-1 : flat c0 c2 c3 ≡ false → flat c0 c1 c2 ≡ true → (at c0 c1 || (at c2 c1 || (at c3 c1 || false))) ≡ true
  unfolding flat
  misses-1 s d =
      joined c2 c0 c1 ((at c0 c1 || (at c2 c1 || (at c3 c1 || false))) ≡ true) (turned (at c0 c1) (at c1 c2) (at c2 c0) d) (equals-sym c2.place c0.place ∙ (flat-no c0 c2 c3 s).0) (in-second (at c0 c1) (at c2 c1) (at c3 c1)) (in-first (at c0 c1) (at c2 c1) (at c3 c1))

  misses-2 : flat c0 c1 c3 ≡ false → flat c1 c2 c3 ≡ true → (at c0 c2 || (at c1 c2 || (at c3 c2 || false))) ≡ true
  unfolding flat
  misses-2 s d =
      joined c3 c1 c2 ((at c0 c2 || (at c1 c2 || (at c3 c2 || false))) ≡ true) (turned (at c1 c2) (at c2 c3) (at c3 c1) d) (equals-sym c3.place c1.place ∙ (flat-no c0 c1 c3 s).1) (in-third (at c0 c2) (at c1 c2) (at c3 c2)) (in-second (at c0 c2) (at c1 c2) (at c3 c2))

  misses-0 : flat c1 c2 c3 ≡ false → flat c0 c1 c3 ≡ true → (at c1 c0 || (at c2 c0 || (at c3 c0 || false))) ≡ true
  unfolding flat
  misses-0 s d =
      joined c1 c3 c0 ((at c1 c0 || (at c2 c0 || (at c3 c0 || false))) ≡ true) (turned (at c3 c0) (at c0 c1) (at c1 c3) (turned (at c0 c1) (at c1 c3) (at c3 c0) d)) (equals-sym c1.place c3.place ∙ (flat-no c1 c2 c3 s).2) (in-first (at c1 c0) (at c2 c0) (at c3 c0)) (in-third (at c1 c0) (at c2 c0) (at c3 c0))

  no : (P : Type 0) → false ≡ true → P
  no P e = absurd (false≢true e)

  pub marked-keeps : (t : Triangle) → first is_sound (quad f c0 c1 c2 c3) ≡ some t → Claim t
  unfolding quad pair make settled is_sound first exactly_one nooks keeps_at has spots corner_of kept
  marked-keeps t e = go (cut02 c0 c1 c2 c3) e
    where
      go : (b : Bool) → first is_sound (cond b (pair (make f false 3 (nook 0 c0) (nook 1 c1) (nook 2 c2)) (make f true 1 (nook 0 c0) (nook 2 c2) (nook 3 c3))) (pair (make f false 2 (nook 0 c0) (nook 1 c1) (nook 3 c3)) (make f true 0 (nook 1 c1) (nook 2 c2) (nook 3 c3)))) ≡ some t → Claim t
      go true e =
          pick (flat c0 c1 c2) (flat c0 c2 c3) _ _ t
          (λ s m. every_cons (λ x. no _ x) (every_cons (λ x. no _ x) (every_cons (λ x. no _ x) (every_cons (λ x. misses-3 s (other-one _ _ m s)) every_nil))))
          (λ s m. every_cons (λ x. no _ x) (every_cons (λ x. misses-1 s (one-other _ _ m s)) (every_cons (λ x. no _ x) (every_cons (λ x. no _ x) every_nil)))) e
      go false e =
          pick (flat c0 c1 c3) (flat c1 c2 c3) _ _ t
          (λ s m. every_cons (λ x. no _ x) (every_cons (λ x. no _ x) (every_cons (λ x. misses-2 s (other-one _ _ m s)) (every_cons (λ x. no _ x) every_nil))))
          (λ s m. every_cons (λ x. misses-0 s (one-other _ _ m s)) (every_cons (λ x. no _ x) (every_cons (λ x. no _ x) (every_cons (λ x. no _ x) every_nil)))) e

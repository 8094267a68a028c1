-- Step 9 never copies from a slot that it copies to: its sources are corners of sound triangles, and no slot of such a corner takes a copy. So the order of the copies does not matter. Assumes nothing.
use Prim.Native.Nat.{ℕ}
use mathlib.Core.Path.{◌≡◌, refl, ap}
use mathlib.Core.Bool.{Bool, true, false, cond, not, xor, true≢false, false≢true}
use mathlib.Core.List.{List, [], ◌∷◌}
use mathlib.Core.Option.{Option, none, some}
use lib.Dec.{eqb}
use Rattle.tangent.specs.declared.Reading.{Reading}
use Rattle.definition.specs.declared.Corner.{Corner}
use Rattle.definition.specs.declared.Kept.{Kept}
use Rattle.definition.specs.declared.Triangle.{Triangle}
use Rattle.lists.specs.Lists.{keep, first}
use Rattle.definition.specs.Mesh.{Third, one, two, three, kept, slot_of}
use Rattle.definition.specs.Step1Cut.{cut02}
use Rattle.definition.specs.Step2Degenerate.{exactly_one}
use Rattle.definition.specs.Triangles.{make, settled, pair, nook, quad, pieces}
use Rattle.definition.specs.Step4Order.{is_sound, sound, spots}
use Rattle.definition.specs.Step7Sums.{Brought}
use Rattle.definition.specs.Step8Slots.{reading}
use Rattle.definition.specs.Step9Copies.{from_sound, from_kept, from_marked, final_of}
use Rattle.lists.specs.Every.{Every, every_nil, every_cons}

-- slot number i is the missing corner of the triangle that was found
unfoldable pub missed_by : Option Triangle → ℕ → Bool
missed_by none i = false
missed_by (some t) i = eqb i t.missing

-- whether slot number i of a face takes a copy, by the face's triangles: the missing corner of a marked quad, and every corner of a degenerate face (`final_of` of step 9)
unfoldable pub takes_copy : List Triangle → ℕ → Bool
takes_copy [] i = false
takes_copy (t ∷ ts) i = cond t.marked (missed_by (first is_sound (t ∷ ts)) i) t.degenerate

-- a triangle keeps no corner that it misses
record Keeps (t : Triangle) : Type 0 where
  at : (i : Third) → eqb (kept t i).which t.missing ≡ false

make-keeps : (n : ℕ) (b : Bool) (m i j k : ℕ) (c d e : Corner) → eqb i m ≡ false → eqb j m ≡ false → eqb k m ≡ false → Keeps (make n b m (nook i c) (nook j d) (nook k e))
unfolding make kept
make-keeps n b m i j k c d e p q r = record { at = λ x. elim x as (λ (y : Third). eqb (kept (make n b m (nook i c) (nook j d) (nook k e)) y).which m ≡ false) [ one ↦ p | two ↦ q | three ↦ r ] }

settled-keeps : (t : Triangle) (m o : Bool) → Keeps t → Keeps (settled t m o)
unfolding settled kept
settled-keeps t m o h = record { at = λ x. elim x as (λ (y : Third). eqb (kept (settled t m o) y).which t.missing ≡ false) [ one ↦ h.at one | two ↦ h.at two | three ↦ h.at three ] }

-- the corners of one sound triangle, in a face whose sound triangle it is
one-sound : (t : Triangle) → Keeps t → Every (λ s. missed_by (some t) (slot_of s) ≡ false) (spots (t ∷ []))
unfolding spots slot_of missed_by
one-sound t h = every_cons (h.at one) (every_cons (h.at two) (every_cons (h.at three) every_nil))

-- in a face of two triangles, by whether each is degenerate; m says whether exactly one is
module _ (x y : Triangle) (h : Keeps x) (k : Keeps y) where
  two-sources : (m d e : Bool) → m ≡ xor d e
      → Every (λ s. cond m (missed_by (cond (not d) (some x) (cond (not e) (some y) none)) (slot_of s)) d ≡ false) (spots (cond (not d) (x ∷ cond (not e) (y ∷ []) []) (cond (not e) (y ∷ []) [])))
  unfolding xor spots
  two-sources false false false q = every_cons refl (every_cons refl (every_cons refl (every_cons refl (every_cons refl (every_cons refl every_nil)))))
  two-sources true false false q = absurd (true≢false q)
  two-sources true false true q = one-sound x h
  two-sources false false true q = absurd (false≢true q)
  two-sources true true false q = one-sound y k
  two-sources false true false q = absurd (false≢true q)
  two-sources false true true q = every_nil
  two-sources true true true q = absurd (true≢false q)

abbrev Sources : List Triangle → Type 0
Sources ts = Every (λ s. takes_copy ts (slot_of s) ≡ false) (spots (sound ts))

pair-sources : (s t : Triangle) → Keeps s → Keeps t → Sources (pair s t)
unfolding pair settled sound keep is_sound exactly_one takes_copy first
pair-sources s t h k = two-sources (settled s _ _) (settled t _ _) (settled-keeps s _ _ h) (settled-keeps t _ _ k) (xor s.degenerate t.degenerate) s.degenerate t.degenerate refl

alone : (x : Triangle) → x.marked ≡ false → Sources (x ∷ [])
unfolding sound keep is_sound takes_copy
alone x e = go x.marked x.degenerate e
  where
    go : (m d : Bool) → m ≡ false → Every (λ s. cond m (missed_by (first is_sound (x ∷ [])) (slot_of s)) d ≡ false) (spots (cond (not d) (x ∷ []) []))
    go true d e = absurd (true≢false e)
    go false true e = unfold spots in every_nil
    go false false e = unfold spots in every_cons refl (every_cons refl (every_cons refl every_nil))

either : (b : Bool) (l k : List Triangle) → Sources l → Sources k → Sources (cond b l k)
either true l k p q = p
either false l k p q = q

-- no slot of a corner of a sound triangle of a face takes a copy
pub sources-stay : (n : ℕ) (cs : List Corner) → Sources (pieces n cs)
unfolding pieces quad
sources-stay n [] = unfold sound keep spots in every_nil
sources-stay n (c0 ∷ []) = unfold sound keep spots in every_nil
sources-stay n (c0 ∷ c1 ∷ []) = unfold sound keep spots in every_nil
sources-stay n (c0 ∷ c1 ∷ c2 ∷ []) = alone (make n false 3 (nook 0 c0) (nook 1 c1) (nook 2 c2)) (unfold make in refl)
sources-stay n (c0 ∷ c1 ∷ c2 ∷ c3 ∷ []) =
    either (cut02 c0 c1 c2 c3) _ _
    (pair-sources _ _ (make-keeps n false 3 0 1 2 c0 c1 c2 refl refl refl) (make-keeps n true 1 0 2 3 c0 c2 c3 refl refl refl))
    (pair-sources _ _ (make-keeps n false 2 0 1 3 c0 c1 c3 refl refl refl) (make-keeps n true 0 1 2 3 c1 c2 c3 refl refl refl))
sources-stay n (c0 ∷ c1 ∷ c2 ∷ c3 ∷ c4 ∷ l) = unfold sound keep spots in every_nil

-- ---- and every slot that takes no copy keeps what was brought to it
module _ (bs : List Brought) (ss : List Triangle) (f : ℕ) (k : Kept) where
  abbrev Own : List Triangle → Type 0
  Own ts = takes_copy ts k.which ≡ false → final_of bs ss f ts k ≡ reading bs f k.which

  from-kept : (t : Triangle) → t.face ≡ f → missed_by (some t) k.which ≡ false → from_marked bs (some t) k.which k.corner ≡ reading bs f k.which
  unfolding missed_by from_marked from_kept
  from-kept t e h = go (eqb k.which t.missing) _ h
    where
      go : (b : Bool) (r : Reading) → b ≡ false → cond b r (reading bs t.face k.which) ≡ reading bs f k.which
      go true r h = absurd (true≢false h)
      go false r h = ap (λ (n : ℕ). reading bs n k.which) e

  two-own : (x y : Triangle) → x.face ≡ f → y.face ≡ f → (m d e : Bool) → m ≡ xor d e
      → cond m (missed_by (cond (not d) (some x) (cond (not e) (some y) none)) k.which) d ≡ false
      → cond m (from_marked bs (cond (not d) (some x) (cond (not e) (some y) none)) k.which k.corner) (cond d (from_sound bs ss k.corner) (reading bs f k.which)) ≡ reading bs f k.which
  unfolding xor
  two-own x y p q false false false w h = refl
  two-own x y p q true false false w h = absurd (true≢false w)
  two-own x y p q true false true w h = from-kept x p h
  two-own x y p q false false true w h = absurd (false≢true w)
  two-own x y p q true true false w h = from-kept y q h
  two-own x y p q false true false w h = absurd (false≢true w)
  two-own x y p q false true true w h = absurd (true≢false h)
  two-own x y p q true true true w h = absurd (true≢false w)

  pair-own : (s t : Triangle) → s.face ≡ f → t.face ≡ f → Own (pair s t)
  unfolding pair settled is_sound exactly_one takes_copy first final_of
  pair-own s t p q h = two-own (settled s _ _) (settled t _ _) p q (xor s.degenerate t.degenerate) s.degenerate t.degenerate refl h

  alone-own : (x : Triangle) → x.marked ≡ false → Own (x ∷ [])
  unfolding takes_copy final_of
  alone-own x e h = go x.marked x.degenerate e h
    where
      go : (m d : Bool) → m ≡ false → cond m (missed_by (first is_sound (x ∷ [])) k.which) d ≡ false → cond m (from_marked bs (first is_sound (x ∷ [])) k.which k.corner) (cond d (from_sound bs ss k.corner) (reading bs f k.which)) ≡ reading bs f k.which
      go true d e h = absurd (true≢false e)
      go false true e h = absurd (true≢false h)
      go false false e h = refl

  either-own : (b : Bool) (l r : List Triangle) → Own l → Own r → Own (cond b l r)
  either-own true l r p q = p
  either-own false l r p q = q

  -- for a corner of a face of three or four
  pub own-stays : (c0 c1 c2 : Corner) → Own (pieces f (c0 ∷ c1 ∷ c2 ∷ []))
  unfolding pieces
  own-stays c0 c1 c2 = alone-own (make f false 3 (nook 0 c0) (nook 1 c1) (nook 2 c2)) (unfold make in refl)

  pub own-stays-quad : (c0 c1 c2 c3 : Corner) → Own (pieces f (c0 ∷ c1 ∷ c2 ∷ c3 ∷ []))
  unfolding pieces quad make
  own-stays-quad c0 c1 c2 c3 = either-own (cut02 c0 c1 c2 c3) _ _ (pair-own _ _ refl refl) (pair-own _ _ refl refl)

-- Step 9 by document 01's words: what it copies, from where, and to where. Assumes nothing.
use Prim.Native.Nat.{ℕ, zero, suc, ◌+◌, ◌≤◌, ◌<◌}
use native.Mathlib.Omega.{arith}
use mathlib.Core.Path.{◌≡◌, refl, sym, ap, ◌∙◌, subst}
use mathlib.Core.Bool.{Bool, true, false, cond, not, xor, true≢false}
use mathlib.Core.List.{List, [], ◌∷◌, map, Memᴰ}
use mathlib.Core.Option.{Option, none, some}
use lib.ListN.{length, get_or}
use lib.Ieee.{Float, is_nan, add, sub, mul, div, neg, lt, le, eq, to_bits, of_bits, round, to_unsigned, to_signed, of_int, size, units}
use borrow.Author.Tests.{eq-eqb}
use Rattle.root.specs.Root as Root'
use Rattle.math.specs.Vector as Vector'
use Rattle.math.specs.Vector.{equals}
use Rattle.tangent.specs.Space as Space'
use Rattle.tangent.specs.declared.Reading.{Reading}
use Rattle.tangent.specs.declared.Reading.TheVariants.{Absent}
use Rattle.tangent.specs.Space.{copy_of}
use Rattle.lists.specs.Lists as Lists'
use Rattle.lists.specs.Lists.{keep, first}
use Rattle.lists.specs.Every.{Every, every_nil, every_cons}
use Rattle.definition.specs.declared.Corner.{Corner}
use Rattle.definition.specs.declared.Kept.{Kept}
use Rattle.definition.specs.declared.Triangle.{Triangle}
use Rattle.definition.specs.Mesh as Mesh'
use Rattle.definition.specs.Mesh.{Face, Third, one, two, three, Spot, kept, corner_of, slot_of}
use Rattle.definition.specs.Step1Cut as Step1Cut'
use Rattle.definition.specs.Step1Cut.{cut02}
use Rattle.definition.specs.Step2Degenerate as Step2Degenerate'
use Rattle.definition.specs.Step2Degenerate.{exactly_one}
use Rattle.definition.specs.Step3Tangents as Step3Tangents'
use Rattle.definition.specs.Triangles as Triangles'
use Rattle.definition.specs.Triangles.{nook, make, settled, pair, quad, usable, pieces, triangles}
use Rattle.definition.specs.Step4Order as Step4Order'
use Rattle.definition.specs.Step4Order.{is_sound, sound, spots}
use Rattle.definition.specs.Step5Links.{links}
use Rattle.definition.specs.Step6Groups.{marks}
use Rattle.definition.specs.Step7Sums.{Brought, brought_all}
use Rattle.definition.specs.Step8Slots.{reading}
use Rattle.definition.specs.Step9Copies.{copied, from_sound, final_of, nooks, face_readings}
use Rattle.definition.specs.Frames as Frames'
use Rattle.definition.specs.Frames.{numbered, frames_from, frames_of, frames}
use Rattle.laws.proofs.Part.{every_map, every_append, every-cond, every-both, every-keep, keep-passes, mem-keep}
use Rattle.laws.proofs.Shuffled.{every-mem}
use Rattle.laws.proofs.Mutual.{every-at, corner-tri}
use Rattle.laws.proofs.Numbers.{pieces-face}
use Rattle.laws.proofs.Closed.{first_found, each_map, corners-in}
use Rattle.laws.proofs.Weld.{found_at}
use Rattle.laws.proofs.Laws.{some-triangle}
use Rattle.laws.proofs.Targets.{missed_by, takes_copy, sources-stay}
use Rattle.laws.proofs.Marked.{keeps_at, marked-keeps}
use Rattle.groups.proofs.Facing.{first_some}
use Rattle.copies.proofs.Faces as faces
use Rattle.promises.specs.Faithful.{all_triangles, sound_triangles, slots_at, final_reading, brought_reading, Broken, Missing, first_welded, first_kept, Copies, from_welded, from-kept, in_quad, There, SlotEnds, own, copy, none_welded, KeepsEqual, flat_corner, two_copies, CopiedTo}

-- ---- slots by their numbers

pub slots_length : (n : ℕ) (cs : List Corner) → length (nooks n cs) ≡ length cs
unfolding nooks
slots_length n [] = refl
slots_length n (c ∷ cs) = ap suc (slots_length (suc n) cs)

-- there is one of each number
slot-of : (n : ℕ) (cs : List Corner) (j : ℕ) → j < length cs → (k : Kept) × Memᴰ k (nooks n cs) × (k.which ≡ n + j)
unfolding nooks
slot-of n [] j h = absurd (omega arith)
slot-of n (c ∷ cs) zero h = (nook n c, mathlib.Core.List.Memᴰ.head refl, omega arith)
slot-of n (c ∷ cs) (suc j) h = let r = slot-of (suc n) cs j (omega arith) in (r.0, mathlib.Core.List.Memᴰ.tail r.1, omega (arith, r.2))

-- and what it is mapped to stands at that number
record Mapped {X : Type 0} (F : Kept → X) (d : X) (n : ℕ) (l : List X) (k : Kept) : Type 0 where
  from : n ≤ k.which
  at : (j : ℕ) → k.which ≡ n + j → get_or l j d ≡ F k

mapped : {X : Type 0} (F : Kept → X) (d : X) (n : ℕ) (cs : List Corner) → Every (Mapped F d n (map F (nooks n cs))) (nooks n cs)
unfolding nooks
mapped F d n [] = every_nil
mapped F d n (c ∷ cs) = every_cons {x = nook n c} (record { from = omega arith; at = here }) (every_map past (mapped F d (suc n) cs))
  where
    here : (j : ℕ) → n ≡ n + j → get_or (F (nook n c) ∷ map F (nooks (suc n) cs)) j d ≡ F (nook n c)
    here zero e = refl
    here (suc j) e = absurd (omega arith)

    past : (k : Kept) → Mapped F d (suc n) (map F (nooks (suc n) cs)) k → Mapped F d n (F (nook n c) ∷ map F (nooks (suc n) cs)) k
    past k M = record { from = omega (arith, M.from); at = there }
      where
        there : (j : ℕ) → k.which ≡ n + j → get_or (F (nook n c) ∷ map F (nooks (suc n) cs)) j d ≡ F k
        there zero e = absurd (omega (arith, M.from))
        there (suc j) e = M.at j (omega arith)

face-at : (G : Face → List Reading) (n : ℕ) (m : List (List Corner)) (f : ℕ) → f < length m → get_or (map G (numbered n m)) f [] ≡ G (record { number = n + f; corners = get_or m f [] })
unfolding numbered
face-at G n [] f h = absurd (omega arith)
face-at G n (c ∷ m) zero h = ap (λ (k : ℕ). G (record { number = k; corners = c })) (omega arith)
face-at G n (c ∷ m) (suc f) h = face-at G (suc n) m f (omega arith) ∙ ap (λ (k : ℕ). G (record { number = k; corners = get_or m f [] })) (omega arith)

-- a face that has a slot is there
pub in-range : (m : List (List Corner)) (f : ℕ) → 0 < length (slots_at m f) → f < length m
unfolding usable nooks
in-range [] f h = absurd (omega arith)
in-range (c ∷ m) zero h = omega arith
in-range (c ∷ m) (suc f) h = omega (arith, in-range m f h)

some-there : {X : Type 0} (l : List X) (x : X) → Memᴰ x l → 0 < length l
some-there [] x h = absurd (mathlib.Core.List.Memᴰ.not-nil h)
some-there (y ∷ l) x h = omega arith

-- ---- triangles in their faces

-- a triangle's three corners
thirds : (K : Kept → Type 0) (t : Triangle) → K t.a → K t.b → K t.c → (i : Third) → K (kept t i)
unfolding kept
thirds K t p q r one = p
thirds K t p q r two = q
thirds K t p q r three = r

-- what holds of the slots of a face holds of the corners that its triangles keep
kept-slots : (K : Kept → Type 0) (f : ℕ) (cs : List Corner) → Every K (nooks 0 (usable cs)) → Every (λ t. (i : Third) → K (kept t i)) (pieces f cs)
unfolding pieces quad pair settled make usable nooks
kept-slots K f [] h = every_nil
kept-slots K f (c0 ∷ []) h = every_nil
kept-slots K f (c0 ∷ c1 ∷ []) h = every_nil
kept-slots K f (c0 ∷ c1 ∷ c2 ∷ []) (every_cons p0 (every_cons p1 (every_cons p2 h))) = every_cons (thirds K _ p0 p1 p2) every_nil
kept-slots K f (c0 ∷ c1 ∷ c2 ∷ c3 ∷ []) (every_cons p0 (every_cons p1 (every_cons p2 (every_cons p3 h)))) =
    every-cond (cut02 c0 c1 c2 c3)
    (every_cons (thirds K _ p0 p1 p2) (every_cons (thirds K _ p0 p2 p3) every_nil))
    (every_cons (thirds K _ p0 p1 p3) (every_cons (thirds K _ p1 p2 p3) every_nil))
kept-slots K f (c0 ∷ c1 ∷ c2 ∷ c3 ∷ c4 ∷ l) h = every_nil

-- a triangle of the mesh is one of its face's
placed-from : (n : ℕ) (m : List (List Corner)) → Every (λ t. (f : ℕ) × (t.face ≡ n + f) × Memᴰ t (pieces t.face (get_or m f []))) (triangles (numbered n m))
unfolding triangles numbered
placed-from n [] = every_nil
placed-from n (c ∷ m) =
    every_append
    (every-both (λ t p q. (0, omega (arith, p.name), subst (λ (k : ℕ). Memᴰ t (pieces k c)) (sym p.name) q)) (pieces-face n c) (every-mem (λ t. Memᴰ t (pieces n c)) (pieces n c) (λ t q. q)))
    (every_map (λ t r. (suc r.0, omega (arith, r.1), r.2)) (placed-from (suc n) m))

pub placed : (m : List (List Corner)) (t : Triangle) → Memᴰ t (all_triangles m) → Memᴰ t (pieces t.face (get_or m t.face []))
placed m t h =
    let r = every-at (placed-from 0 m) h in
    let e : r.0 ≡ t.face = omega (arith, r.1) in
    subst (λ (k : ℕ). Memᴰ t (pieces t.face (get_or m k []))) e r.2

-- and the other way round
in-mesh : (n : ℕ) (m : List (List Corner)) (f : ℕ) (t : Triangle) → Memᴰ t (pieces (n + f) (get_or m f [])) → Memᴰ t (triangles (numbered n m))
unfolding triangles numbered
in-mesh n [] f t h = let q : Memᴰ t [] = unfold pieces in h in absurd (mathlib.Core.List.Memᴰ.not-nil q)
in-mesh n (c ∷ m) zero t h = mathlib.Core.List.Memᴰ.append_left (triangles (numbered (suc n) m)) (subst (λ (k : ℕ). Memᴰ t (pieces k c)) (omega arith) h)
in-mesh n (c ∷ m) (suc f) t h = mathlib.Core.List.Memᴰ.append_right (pieces n c) (in-mesh (suc n) m f t (subst (λ (k : ℕ). Memᴰ t (pieces k (get_or m f []))) (omega arith) h))

-- a sound triangle is a triangle, and sound; and the other way round
pub sound_is : (ts : List Triangle) (t : Triangle) → Memᴰ t (sound ts) → Memᴰ t ts × (t.degenerate ≡ false)
unfolding sound is_sound
sound_is ts t h = (every-at (every-keep is_sound (every-mem (λ x. Memᴰ x ts) ts (λ x k. k))) h, not-true t.degenerate (every-at (keep-passes is_sound ts) h))
  where
    not-true : (b : Bool) → not b ≡ true → b ≡ false
    not-true true e = sym e
    not-true false e = refl

is-sound : (ts : List Triangle) (t : Triangle) → t.degenerate ≡ false → Memᴰ t ts → Memᴰ t (sound ts)
unfolding sound is_sound
is-sound ts t e h = mem-keep is_sound t h (ap not e)

-- an element is in its list
pub get_or-mem : {X : Type 0} (l : List X) (d : X) (i : ℕ) → i < length l → Memᴰ (get_or l i d) l
get_or-mem [] d i h = absurd (omega arith)
get_or-mem (x ∷ l) d zero h = mathlib.Core.List.Memᴰ.head refl
get_or-mem (x ∷ l) d (suc i) h = mathlib.Core.List.Memᴰ.tail (get_or-mem l d i (omega arith))

-- the first that passes is one of them
first-in : {X : Type 0} (p : X → Bool) (l : List X) (x : X) → first p l ≡ some x → Memᴰ x l
first-in p l x e = found_at (λ y. Memᴰ y l) x (each_map (λ y k. k.known) (first_found p (every-mem (λ y. Memᴰ y l) l (λ y k. k)))) e

-- ---- which slots are copied to

-- a triangle x among the triangles ts of a face: what step 9 copies to because of it
record Takes (ts : List Triangle) (x : Triangle) : Type 0 where
  broken : x.degenerate ≡ true → x.marked ≡ false → (i : ℕ) → takes_copy ts i ≡ true
  missed : x.degenerate ≡ false → x.marked ≡ true → takes_copy ts x.missing ≡ true

alike : (d e : Bool) → xor d e ≡ false → e ≡ true → d ≡ true
unfolding xor
alike true e h q = refl
alike false true h q = absurd (true≢false h)
alike false false h q = q

differ : (d e : Bool) → xor d e ≡ true → e ≡ false → d ≡ true
unfolding xor
differ true e h q = refl
differ false true h q = absurd (true≢false q)
differ false false h q = h

-- two triangles of which the first is degenerate by d, the second by e, and both are marked by m
module _ (x y : Triangle) (m d e : Bool) where
  abbrev found : Option Triangle
  found = cond (not d) (some x) (cond (not e) (some y) none)

  two-broken : d ≡ true → m ≡ false → (i : ℕ) → cond m (missed_by found i) d ≡ true
  two-broken h p i = λ z. cond (p z) (missed_by found i) (h z)

  -- the one that is found
  found_first : d ≡ false → found ≡ some x
  found_first h = ap (λ b. cond (not b) (some x) (cond (not e) (some y) none)) h

  found-second : d ≡ true → e ≡ false → found ≡ some y
  found-second p h = λ z. cond (not (p z)) (some x) (cond (not (h z)) (some y) none)

  two-missed : (t : Triangle) → found ≡ some t → m ≡ true → cond m (missed_by found t.missing) d ≡ true
  unfolding missed_by
  two-missed t h p = (λ z. cond (p z) (missed_by (h z) t.missing) d) ∙ eq-eqb t.missing t.missing refl

pair-takes : (s t : Triangle) → Every (Takes (pair s t)) (pair s t)
unfolding pair settled exactly_one takes_copy first is_sound
pair-takes s t =
    let d = s.degenerate in
    let e = t.degenerate in
    every_cons (record {
      broken = λ h p i. two-broken _ _ (xor d e) d e h p i;
      missed = λ h p. two-missed _ _ (xor d e) d e _ (found_first _ _ (xor d e) d e h) p;
    })
    (every_cons (record {
      broken = λ h p i. two-broken _ _ (xor d e) d e (alike d e p h) p i;
      missed = λ h p. two-missed _ _ (xor d e) d e _ (found-second _ _ (xor d e) d e (differ d e p h) h) p;
    })
    every_nil)

alone-takes : (x : Triangle) → x.marked ≡ false → Every (Takes (x ∷ [])) (x ∷ [])
unfolding takes_copy
alone-takes x n =
    every_cons (record {
      broken = λ h p i. λ z. cond (p z) (missed_by (first is_sound (x ∷ [])) i) (h z);
      missed = λ h p. absurd (true≢false (sym p ∙ n));
    })
    every_nil

either-takes : (b : Bool) (l k : List Triangle) → Every (Takes l) l → Every (Takes k) k → Every (Takes (cond b l k)) (cond b l k)
either-takes true l k p q = p
either-takes false l k p q = q

takes : (f : ℕ) (cs : List Corner) → Every (Takes (pieces f cs)) (pieces f cs)
unfolding pieces quad
takes f [] = every_nil
takes f (c0 ∷ []) = every_nil
takes f (c0 ∷ c1 ∷ []) = every_nil
takes f (c0 ∷ c1 ∷ c2 ∷ []) = alone-takes (make f false 3 (nook 0 c0) (nook 1 c1) (nook 2 c2)) (unfold make in refl)
takes f (c0 ∷ c1 ∷ c2 ∷ c3 ∷ []) = either-takes (cut02 c0 c1 c2 c3) _ _ (pair-takes _ _) (pair-takes _ _)
takes f (c0 ∷ c1 ∷ c2 ∷ c3 ∷ c4 ∷ l) = every_nil

-- ---- in a mesh

module _ (m : List (List Corner)) where
  -- the corners of a sound triangle are there
  pub there : (s : Spot) → Memᴰ s (spots (sound_triangles m)) → There m s
  there s h =
      let p = placed m s.tri (sound_is (all_triangles m) s.tri (corner-tri (sound_triangles m) s h)).0 in
      record { sound = h; slot = every-at (kept-slots (λ k. Memᴰ k (slots_at m s.tri.face)) s.tri.face (get_or m s.tri.face []) (every-mem _ (slots_at m s.tri.face) (λ k q. q))) p s.at }

  pub source_in : (f : ℕ) (k : Kept) (s : Spot) → Copies m f k s → Memᴰ s (spots (sound_triangles m))
  source_in f k s (from_welded B e) = first-in _ (spots (sound_triangles m)) s e
  source_in f k s (from-kept t M e) =
      let own-tri : s.tri ≡ t = eq_of (corner-tri (t ∷ []) s (first-in _ (spots (t ∷ [])) s e)) in
      subst (λ (x : Triangle). Memᴰ (record { tri = x; at = s.at }) (spots (sound_triangles m))) (sym own-tri) (corners-in (sound_triangles m) t s.at M.inside)
    where
      eq_of : Memᴰ s.tri (t ∷ []) → s.tri ≡ t
      eq_of (mathlib.Core.List.Memᴰ.head q) = q
      eq_of (mathlib.Core.List.Memᴰ.tail q) = absurd (mathlib.Core.List.Memᴰ.not-nil q)

  -- a corner of a degenerate triangle takes a slot
  pub broken-slot : (f : ℕ) (k : Kept) → Broken m f k → Memᴰ k (slots_at m f)
  broken-slot f k B =
      let t = B.tri in
      let p = placed m t B.inside in
      let q = every-at (kept-slots (λ k. Memᴰ k (slots_at m t.face)) t.face (get_or m t.face []) (every-mem _ (slots_at m t.face) (λ k q. q))) p B.at in
      subst (λ (g : ℕ). Memᴰ k (slots_at m g)) B.face (mathlib.Core.List.Memᴰ.cast (sym B.corner) q)

  -- whatever was brought
  module _ (bs : List Brought) where
    -- what slot i of face f has after step 9
    abbrev pub after : ℕ → ℕ → Reading
    after f i = get_or (get_or (frames_from (numbered 0 m) (sound_triangles m) bs) f []) i Absent

    -- by the triangles of its face
    final-is : (f : ℕ) (k : Kept) → Memᴰ k (slots_at m f) → after f k.which ≡ final_of bs (sound_triangles m) f (pieces f (get_or m f [])) k
    unfolding frames_from face_readings
    final-is f k q =
        ap (λ (l : List Reading). get_or l k.which Absent) (face-at (face_readings bs (sound_triangles m)) 0 m f (in-range m f (some-there (slots_at m f) k q)) ∙ ap (λ (g : ℕ). face_readings bs (sound_triangles m) (record { number = g; corners = get_or m f [] })) (omega arith))
        ∙ (every-at (mapped (final_of bs (sound_triangles m) f (pieces f (get_or m f []))) Absent 0 (usable (get_or m f []))) q).at k.which (omega arith)

    -- a corner of a sound triangle has what was brought
    pub own-after : (s : Spot) → There m s → after s.tri.face (slot_of s) ≡ reading bs s.tri.face (slot_of s)
    unfolding slot_of
    own-after s T =
        let f = s.tri.face in
        let q = sound_is (all_triangles m) s.tri (corner-tri (sound_triangles m) s T.sound) in
        final-is f (kept s.tri s.at) T.slot ∙ every-at (faces.own bs (sound_triangles m) f (get_or m f [])) (placed m s.tri q.0) q.1 s.at (kept s.tri s.at) refl

    -- a slot that is copied to, by what is found
    pub broken-after : (f : ℕ) (k : Kept) → Broken m f k → after f k.which ≡ copied false bs (first_welded m k.corner)
    unfolding from_sound
    broken-after f k B =
        let t = B.tri in
        let p = subst (λ (g : ℕ). Memᴰ t (pieces g (get_or m g []))) B.face (placed m t B.inside) in
        final-is f k (broken-slot f k B) ∙ (every-at (faces.ends bs (sound_triangles m) f (get_or m f [])) p).broken B.degenerate B.plain k

    missing-after : (f : ℕ) (t : Triangle) (k : Kept) → Missing m f t k → after f k.which ≡ copied true bs (first_kept t k.corner)
    missing-after f t k M =
        let q = sound_is (all_triangles m) t M.inside in
        let p = subst (λ (g : ℕ). Memᴰ t (pieces g (get_or m g []))) M.face (placed m t q.0) in
        final-is f k M.slot
        ∙ (ap (λ (i : ℕ). final_of bs (sound_triangles m) f (pieces f (get_or m f [])) (nook i k.corner)) M.which ∙ (every-at (faces.ends bs (sound_triangles m) f (get_or m f [])) p).missed q.1 M.marked k.corner)

    -- a copy is a copy of what was brought to the source
    pub copy-after : (f : ℕ) (k : Kept) (s : Spot) (c : Copies m f k s) → after f k.which ≡ copy_of (in_quad c) (reading bs s.tri.face (slot_of s))
    unfolding copied in_quad
    copy-after f k s (from_welded B e) = broken-after f k B ∙ ap (copied false bs) e
    copy-after f k s (from-kept t M e) = missing-after f t k M ∙ ap (copied true bs) e

  module _ (h : Float) where
    -- what step 7 brings
    abbrev pub bs : List Brought
    bs = brought_all h (sound_triangles m) (marks (sound_triangles m) (links (sound_triangles m)))

    -- the final reading of a corner of a sound triangle is what was brought
    pub own-reading : (s : Spot) → There m s → final_reading h m s.tri.face (slot_of s) ≡ brought_reading h m s.tri.face (slot_of s)
    unfolding frames frames_of
    own-reading s T = own-after bs s T

    pub broken-reading : (f : ℕ) (k : Kept) → Broken m f k → final_reading h m f k.which ≡ copied false bs (first_welded m k.corner)
    unfolding frames frames_of
    broken-reading f k B = broken-after bs f k B

    pub copies : (f : ℕ) (k : Kept) (s : Spot) (c : Copies m f k s) → final_reading h m f k.which ≡ copy_of (in_quad c) (final_reading h m s.tri.face (slot_of s))
    unfolding frames frames_of
    copies f k s c = copy-after bs f k s c ∙ ap (copy_of (in_quad c)) (sym (own-after bs s (there s (source_in f k s c))))

    pub sources : (f : ℕ) (k : Kept) (s : Spot) → Copies m f k s → There m s × (final_reading h m s.tri.face (slot_of s) ≡ brought_reading h m s.tri.face (slot_of s))
    sources f k s c = let T = there s (source_in f k s c) in (T, own-reading s T)

  -- ---- no source is a target

  pub source_stays : (s : Spot) → Memᴰ s (spots (sound_triangles m)) → takes_copy (pieces s.tri.face (get_or m s.tri.face [])) (slot_of s) ≡ false
  source_stays s h =
      let q = sound_is (all_triangles m) s.tri (corner-tri (sound_triangles m) s h) in
      let f = s.tri.face in
      every-at (sources-stay f (get_or m f [])) (corners-in (sound (pieces f (get_or m f []))) s.tri s.at (is-sound (pieces f (get_or m f [])) s.tri q.1 (placed m s.tri q.0)))

  pub broken-takes : (f : ℕ) (k : Kept) → Broken m f k → takes_copy (pieces f (get_or m f [])) k.which ≡ true
  broken-takes f k B =
      let p = subst (λ (g : ℕ). Memᴰ B.tri (pieces g (get_or m g []))) B.face (placed m B.tri B.inside) in
      (every-at (takes f (get_or m f [])) p).broken B.degenerate B.plain k.which

  pub target-takes : (f : ℕ) (k : Kept) (s : Spot) → Copies m f k s → takes_copy (pieces f (get_or m f [])) k.which ≡ true
  target-takes f k s (from_welded B e) = broken-takes f k B
  target-takes f k s (from-kept t M e) =
      let q = sound_is (all_triangles m) t M.inside in
      let p = subst (λ (g : ℕ). Memᴰ t (pieces g (get_or m g []))) M.face (placed m t q.0) in
      ap (takes_copy (pieces f (get_or m f []))) M.which ∙ (every-at (takes f (get_or m f [])) p).missed q.1 M.marked

  pub never_targets : (f : ℕ) (k : Kept) (s : Spot) → Copies m f k s → (l : Kept) (r : Spot) → Copies m s.tri.face l r → l.which ≡ slot_of s → ⊥
  never_targets f k s c l r d e = true≢false (sym (target-takes s.tri.face l r d) ∙ (ap (takes_copy (pieces s.tri.face (get_or m s.tri.face []))) e ∙ source_stays s (source_in f k s c)))

  -- ---- the missing corner of a marked quad

  keeps-at : (f : ℕ) (cs : List Corner) (t : Triangle) → first is_sound (pieces f cs) ≡ some t → length (usable cs) ≡ 4 → t.marked ≡ true → (k : Kept) → Memᴰ k (nooks 0 (usable cs)) → k.which ≡ t.missing → keeps_at t k.corner ≡ true
  unfolding pieces usable
  keeps-at f [] t e n q k h w = absurd (omega arith)
  keeps-at f (c0 ∷ []) t e n q k h w = absurd (omega arith)
  keeps-at f (c0 ∷ c1 ∷ []) t e n q k h w = absurd (omega arith)
  keeps-at f (c0 ∷ c1 ∷ c2 ∷ []) t e n q k h w = absurd (omega arith)
  keeps-at f (c0 ∷ c1 ∷ c2 ∷ c3 ∷ []) t e n q k h w = every-at (marked-keeps f c0 c1 c2 c3 t e q) h (eq-eqb k.which t.missing w)
  keeps-at f (c0 ∷ c1 ∷ c2 ∷ c3 ∷ c4 ∷ l) t e n q k h w = absurd (omega arith)

  pub keeps_equal : (t : Triangle) → Memᴰ t (sound_triangles m) → t.marked ≡ true → KeepsEqual m t
  unfolding keeps_at
  keeps_equal t h q =
      let f = t.face in
      let cs = get_or m f [] in
      let s = sound_is (all_triangles m) t h in
      let p = placed m t s.0 in
      let M = every-at (faces.misses f cs) p in
      let four = M.quad q in
      let k = slot-of 0 (usable cs) t.missing (omega (arith, M.begins.small, four)) in
      let w : k.0.which ≡ t.missing = omega (arith, k.2) in
      let x = first_some (λ s. equals (corner_of s).place k.0.corner.place) (spots (t ∷ [])) (keeps-at f cs t ((every-at (faces.ends [] [] f cs) p).found s.1 q) four q k.0 k.1 w) in
      record { corner = k.0; missing = record { inside = h; face = refl; marked = q; slot = k.1; which = w }; source = x.0; found = x.1 }

  -- ---- every slot

  module _ (h : Float) (f : ℕ) where
    abbrev cs : List Corner
    cs = get_or m f []

    settles : (x : Triangle) → Memᴰ x (pieces f cs) → x.face ≡ f → faces.Settles (SlotEnds h m f) x.degenerate x.marked x
    unfolding slot_of copied
    settles x p n =
        let all : Memᴰ x (all_triangles m) = in-mesh 0 m f x (subst (λ (g : ℕ). Memᴰ x (pieces g cs)) (omega arith) p) in
        record {
          own = λ d i.
              let s : Spot = record { tri = x; at = i } in
              let T = there s (corners-in (sound_triangles m) x i (is-sound (all_triangles m) x d all)) in
              own s T n refl (subst (λ (g : ℕ). final_reading h m g (slot_of s) ≡ brought_reading h m g (slot_of s)) n (own-reading h s T));
          broken = λ d q i.
              let B : Broken m f (kept x i) = record { tri = x; at = i; inside = all; face = n; degenerate = d; plain = q; corner = refl } in
              by-found (kept x i) B (first_welded m (kept x i).corner) refl;
          missed = λ d q.
              let K = keeps_equal x (is-sound (all_triangles m) x d all) q in
              copy K.corner K.source K.missing.which (subst (λ (g : ℕ). Copies m g K.corner K.source) n (from-kept x K.missing K.found));
        }
      where
        by-found : (k : Kept) → Broken m f k → (o : Option Spot) → first_welded m k.corner ≡ o → SlotEnds h m f k.which
        by-found k B none e = none_welded k refl B e (broken-reading h f k B ∙ ap (copied false (bs h)) e)
        by-found k B (some s) e = copy k s refl (from_welded B e)

    pub all_slots : (i : ℕ) → i < length (slots_at m f) → SlotEnds h m f i
    all_slots i l =
        faces.all_settled (SlotEnds h m f) f cs
        (every-both (λ x p q. settles x q p.name) (pieces-face f cs) (every-mem (λ x. Memᴰ x (pieces f cs)) (pieces f cs) (λ x q. q))) i (omega (arith, l, slots_length 0 (usable cs)))

-- ---- the example, computed

-- any triangle, for numbers past the last
abbrev d₀ : Triangle
d₀ = some-triangle (flat_corner 0 0 0 0)

abbrev broken-one : Triangle
broken-one = get_or (all_triangles two_copies) 2 d₀

abbrev sound-one : Triangle
sound-one = get_or (sound_triangles two_copies) 0 d₀

record Computed : Type 0 where
  three : length (all_triangles two_copies) ≡ 3
  degenerate : broken-one.degenerate ≡ true
  plain : broken-one.marked ≡ false
  face : broken-one.face ≡ 1
  which : (kept broken-one one).which ≡ 0
  sound : length (sound_triangles two_copies) ≡ 1
  marked : sound-one.marked ≡ true
  missing : sound-one.missing ≡ 3
  quad : sound-one.face ≡ 0
  found : first_welded two_copies (kept broken-one one).corner ≡ some (record { tri = sound-one; at = one })

computed : Computed
unfolding two_copies flat_corner Root'.root Root'.rooted Root'.sqrt Vector'.added Vector'.subtracted Vector'.scaled_by Vector'.negated Vector'.dot Vector'.length_of Vector'.equals Vector'.abs Vector'.counts Vector'.spans Vector'.points Vector'.direction Vector'.or_zero Vector'.unit_of Space'.equals Lists'.keep Lists'.first Mesh'.kept Mesh'.corner_of Step1Cut'.cut02 Step1Cut'.across² Step1Cut'.apart² Step2Degenerate'.flat Step2Degenerate'.exactly_one Step3Tangents'.turn Step3Tangents'.raw_s Step3Tangents'.raw_t Step3Tangents'.sign_of Step3Tangents'.tangent_at Step3Tangents'.first_order Step3Tangents'.unsure Step3Tangents'.area Triangles'.make Triangles'.settled Triangles'.pair Triangles'.agree Triangles'.quad Triangles'.pieces Triangles'.triangles Step4Order'.spots Step4Order'.is_sound Step4Order'.sound Step4Order'.same_bits Step4Order'.same_vector Step4Order'.same_numbers Step4Order'.welded Frames'.numbered is_nan add sub mul div neg lt le eq to_bits of_bits round to_unsigned to_signed of_int size units xor
computed = record { three = refl; degenerate = refl; plain = refl; face = refl; which = refl; sound = refl; marked = refl; missing = refl; quad = refl; found = refl }

pub occur : CopiedTo two_copies 0 3 × CopiedTo two_copies 1 0
occur =
    let C = computed in
    let K = keeps_equal two_copies sound-one (get_or-mem (sound_triangles two_copies) d₀ 0 (omega (arith, C.sound))) C.marked in
    let B : Broken two_copies 1 (kept broken-one one) = record { tri = broken-one; at = one; inside = get_or-mem (all_triangles two_copies) d₀ 2 (omega (arith, C.three)); face = C.face; degenerate = C.degenerate; plain = C.plain; corner = refl } in (
      (K.corner, K.source, K.missing.which ∙ C.missing, subst (λ (f : ℕ). Copies two_copies f K.corner K.source) C.quad (from-kept sound-one K.missing K.found)),
      (kept broken-one one, record { tri = sound-one; at = one }, C.which, from_welded B C.found),
    )

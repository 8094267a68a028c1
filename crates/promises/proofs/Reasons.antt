-- Why a slot is absent. Assumes nothing.
use Prim.Native.Nat.{ℕ, suc, ◌≤◌}
use native.Mathlib.Omega.{arith}
use mathlib.Core.Path.{◌≡◌, refl, sym, ◌∙◌, ap, subst}
use mathlib.Core.Bool.{Bool, true, false, cond, ◌&&◌, true≢false}
use mathlib.Core.List.Memᴰ
use mathlib.Core.List.{List, [], ◌∷◌, Memᴰ}
use mathlib.Core.Option.{none, none-ne-some}
use lib.Dec.{eqb}
use lib.ListN.{length, get_or}
use lib.Ieee.{Float}
use borrow.Author.Tests.{eq-eqb, eqb-true}
use Rattle.tangent.specs.declared.Evaluated.{Evaluated}
use Rattle.tangent.specs.declared.Reading.{Reading}
use Rattle.tangent.specs.declared.Reading.TheVariants.{Absent, Single, Combined, Copied, Filled}
use Rattle.tangent.specs.Space.{copied as copy_from, copy_of}
use Rattle.tangent.specs.Slot.{ten_words, present, words}
use Rattle.lists.specs.Every.{Every, every_nil, every_cons}
use Rattle.definition.specs.declared.Corner.{Corner}
use Rattle.definition.specs.declared.Kept.{Kept}
use Rattle.definition.specs.declared.Triangle.{Triangle}
use Rattle.definition.specs.Mesh.{Spot, slot_of, same_spot}
use Rattle.definition.specs.Triangles.{nook, settled, pair, quad, usable, pieces}
use Rattle.definition.specs.Step1Cut.{cut02}
use Rattle.definition.specs.Step4Order.{is_sound, sound, spots}
use Rattle.definition.specs.Step5Links.{links}
use Rattle.definition.specs.Step6Groups.{Mark, grouped}
use Rattle.definition.specs.Step7Sums.{brought_all}
use Rattle.definition.specs.Step9Copies.{copied, nooks}
use Rattle.bits.proofs.Bools.{and_left, and_right}
use Rattle.definition.specs.Names.{Names}
use Rattle.laws.proofs.Part.{has_some, mem-keep, every_map, every-keep, keep-passes}
use Rattle.laws.proofs.Shuffled.{every-mem}
use Rattle.laws.proofs.Numbers.{names-keep, triangles-names}
use Rattle.laws.proofs.Targets.{takes_copy}
use Rattle.laws.proofs.Mutual.{every-at, spots-apart, apart-inj}
use Rattle.laws.proofs.Closed.{links-sound}
use Rattle.laws.proofs.Laws.{at_least_one, marks-inside}
use Rattle.promises.specs.Faithful.{all_triangles, sound_triangles, final_reading, brought_reading, SlotEnds, own, copy as copied-to, none_welded, Broken, first_welded, Copies, from_welded, from-kept, in_quad}
use Rattle.promises.specs.Origins.{origin_word, marks_of, reaching}
use Rattle.promises.specs.Reasons.{Unwelded, CopiesAbsent, Unreached, Reason, unwelded, copies_absent, unreached, Promised}
use Rattle.promises.proofs.StepNine as nine
use Rattle.promises.proofs.Origins as origins

-- ---- absent readings

-- word 10 is 0 of an absent reading alone
absent-of : (r : Reading) → origin_word (words r) ≡ 0 → r ≡ Absent
unfolding words present ten_words
absent-of Absent q = refl
absent-of (Single e o) q = absurd (omega (arith, q))
absent-of (Combined e o) q = absurd (omega (arith, q))
absent-of (Copied e o) q = absurd (omega (arith, q))
absent-of (Filled e o) q = absurd (omega (arith, q))

-- a copy of what is there is not absent
no_copy : (quad : Bool) (e : Evaluated) (o : Bool) → copy_from e o quad ≡ Absent → ⊥
unfolding copy_from words present ten_words
no_copy true e o p = let z : ◌≡◌ {A = ℕ} 4 0 = ap (λ (r : Reading). origin_word (words r)) p in omega (arith, z)
no_copy false e o p = let z : ◌≡◌ {A = ℕ} 3 0 = ap (λ (r : Reading). origin_word (words r)) p in omega (arith, z)

copy-absent : (quad : Bool) (r : Reading) → copy_of quad r ≡ Absent → r ≡ Absent
unfolding copy_of
copy-absent quad Absent p = refl
copy-absent quad (Single e o) p = absurd (no_copy quad e o p)
copy-absent quad (Combined e o) p = absurd (no_copy quad e o p)
copy-absent quad (Copied e o) p = absurd (no_copy quad e o p)
copy-absent quad (Filled e o) p = absurd (no_copy quad e o p)

-- ---- faces

-- the triangles of a face are all marked, or none is
pieces-marked : (f : ℕ) (cs : List Corner) → (b : Bool) × Every (λ x. x.marked ≡ b) (pieces f cs)
unfolding pieces quad pair settled
pieces-marked f [] = (false, every_nil)
pieces-marked f (c0 ∷ []) = (false, every_nil)
pieces-marked f (c0 ∷ c1 ∷ []) = (false, every_nil)
pieces-marked f (c0 ∷ c1 ∷ c2 ∷ []) = (_, every_cons refl every_nil)
pieces-marked f (c0 ∷ c1 ∷ c2 ∷ c3 ∷ []) = either (cut02 c0 c1 c2 c3) (_, every_cons refl (every_cons refl every_nil)) (_, every_cons refl (every_cons refl every_nil))
  where
    either : (b : Bool) {l k : List Triangle} → (c : Bool) × Every (λ x. x.marked ≡ c) l → (c : Bool) × Every (λ x. x.marked ≡ c) k → (c : Bool) × Every (λ x. x.marked ≡ c) (cond b l k)
    either true p q = p
    either false p q = q
pieces-marked f (c0 ∷ c1 ∷ c2 ∷ c3 ∷ c4 ∷ l) = (false, every_nil)

-- slots of one number are one
after : (n : ℕ) (l : List Corner) → Every (λ k. n ≤ k.which) (nooks n l)
unfolding nooks
after n [] = every_nil
after n (c ∷ l) = every_cons {x = nook n c} (omega arith) (every_map (λ k h. omega (arith, h)) (after (suc n) l))

one-slot : (n : ℕ) (l : List Corner) (j k : Kept) → Memᴰ j (nooks n l) → Memᴰ k (nooks n l) → j.which ≡ k.which → j ≡ k
unfolding nooks
one-slot n [] j k h i e = absurd (Memᴰ.not-nil h)
one-slot n (c ∷ l) j k (Memᴰ.head p) (Memᴰ.head q) e = p ∙ sym q
one-slot n (c ∷ l) j k (Memᴰ.head p) (Memᴰ.tail i) e = let a = every-at (after (suc n) l) i in absurd (too-low n (ap (λ (x : Kept). x.which) p) a e)
  where
    too-low : (n : ℕ) {x y : ℕ} → x ≡ n → suc n ≤ y → x ≡ y → ⊥
    too-low n p a e = omega (arith, p, a, e)
one-slot n (c ∷ l) j k (Memᴰ.tail h) (Memᴰ.head q) e = let a = every-at (after (suc n) l) h in absurd (too-low n (ap (λ (x : Kept). x.which) q) a (sym e))
  where
    too-low : (n : ℕ) {x y : ℕ} → x ≡ n → suc n ≤ y → x ≡ y → ⊥
    too-low n p a e = omega (arith, p, a, e)
one-slot n (c ∷ l) j k (Memᴰ.tail h) (Memᴰ.tail i) e = one-slot (suc n) l j k h i e

-- ---- in a mesh

none_in : {X : Type 0} {x : X} {l : List X} → Memᴰ x l → length l ≡ 0 → ⊥
none_in (Memᴰ.head q) e = omega (arith, e)
none_in (Memᴰ.tail i) e = omega (arith, e)

module _ (m : List (List Corner)) where
  abbrev ss : List Triangle
  ss = sound_triangles m

  names : Names ss
  unfolding sound
  names = names-keep is_sound (triangles-names 0 m)

  module _ (f i : ℕ) where
    -- a mark on the slot is among those that reach it
    is-reaching : (k : Mark) → Memᴰ k (marks_of m) → k.spot.tri.face ≡ f → slot_of k.spot ≡ i → Memᴰ k (reaching m f i)
    unfolding reaching
    is-reaching k h g j = mem-keep _ k h (λ z. eq-eqb k.spot.tri.face f g z && eq-eqb (slot_of k.spot) i j z)

    -- and the other way round
    reach-known : (k : Mark) → Memᴰ k (reaching m f i) → Memᴰ k (marks_of m) × (k.spot.tri.face ≡ f) × (slot_of k.spot ≡ i)
    unfolding reaching
    reach-known k h =
        let p = every-at (keep-passes _ (marks_of m)) h in
        (every-at (every-keep _ (every-mem (λ x. Memᴰ x (marks_of m)) (marks_of m) (λ x j. j))) h, eqb-true _ _ (and_left _ _ p), eqb-true _ _ (and_right (eqb k.spot.tri.face f) _ p))

    -- a corner whose triangle isn't `group_with_any` has a mark
    has-mark : (s : Spot) → Memᴰ s (spots ss) → s.tri.any ≡ false → (k : Mark) × Memᴰ k (marks_of m) × (k.spot ≡ s)
    unfolding grouped
    has-mark s h e =
        let p = has_some (λ (k : Mark). same_spot k.spot s) (marks_of m) (at_least_one ss (links ss) s h e) in
        (p.0, p.1.among, apart-inj (spots-apart names) p.0.spot s (every-at (marks-inside ss (links ss) (links-sound ss)) p.1.among) h p.1.passes)

    -- where nothing reached the slot, all its triangles are
    only-any : length (reaching m f i) ≡ 0 → (s : Spot) → Memᴰ s (spots ss) → s.tri.face ≡ f → slot_of s ≡ i → s.tri.any ≡ true
    only-any z s h g j = go s.tri.any refl
      where
        go : (b : Bool) → s.tri.any ≡ b → b ≡ true
        go true e = refl
        go false e =
            let k = has-mark s h e in
            absurd (none_in (is-reaching k.0 k.1 (ap (λ (t : Spot). t.tri.face) k.2 ∙ g) (ap slot_of k.2 ∙ j)) z)

  -- every absent slot has a reason
  module _ (h : Float) (f i : ℕ) where
    -- what nothing reached is absent
    pub reach-zero : length (reaching m f i) ≡ 0 → brought_reading h m f i ≡ Absent
    reach-zero e = absent-of (brought_reading h m f i) ((origins.origins).reached h m f i ∙ ((origins.origins).times h m f i ∙ e))

    -- and the other way round
    pub zero-reach : brought_reading h m f i ≡ Absent → length (reaching m f i) ≡ 0
    unfolding words
    zero-reach e = sym ((origins.origins).times h m f i) ∙ sym ((origins.origins).reached h m f i) ∙ ap (λ (r : Reading). origin_word (words r)) e

    by_end : final_reading h m f i ≡ Absent → SlotEnds h m f i → Reason h m f i
    by_end e (own s T g j q) =
        let z = zero-reach (sym q ∙ e) in
        unreached (record { spot = s; there = T; face = g; slot = j; all_any = only-any f i z; no_group = λ k n g' j'. none_in (is-reaching f i k n g' j') z })
    by_end e (copied-to k s w c) =
        copies_absent (record { corner = k; source = s; which = w; copies = c; absent = copy-absent (in_quad c) _ (sym (nine.copies m h f k s c) ∙ (ap (final_reading h m f) w ∙ e)) })
    by_end e (none_welded k w B n q) = unwelded (record { corner = k; which = w; broken = B; alone = n })

    -- and is absent by it
    by-reason : Reason h m f i → final_reading h m f i ≡ Absent
    unfolding copied copy_of
    by-reason (unwelded u) = ap (final_reading h m f) (sym u.which) ∙ (nine.broken-reading m h f u.corner u.broken ∙ ap (copied false (brought_all h ss (marks_of m))) u.alone)
    by-reason (copies_absent c) = ap (final_reading h m f) (sym c.which) ∙ (nine.copies m h f c.corner c.source c.copies ∙ ap (copy_of (in_quad c.copies)) c.absent)
    by-reason (unreached u) =
        (λ z. final_reading h m (sym u.face z) (sym u.slot z)) ∙ (nine.own-reading m h u.spot u.there
        ∙ ((λ z. brought_reading h m (u.face z) (u.slot z)) ∙ reach-zero (none-at _ (λ k n. let r = reach-known f i k n in u.no_group k r.0 r.1 r.2))))
      where
        none-at : (l : List Mark) → ((k : Mark) → Memᴰ k l → ⊥) → length l ≡ 0
        none-at [] never = refl
        none-at (k ∷ l) never = absurd (never k (Memᴰ.head refl))

  -- ---- no two together

  stays : (f i : ℕ) → Unreached m f i → takes_copy (pieces f (get_or m f [])) i ≡ false
  stays f i u = (λ z. takes_copy (pieces (sym u.face z) (get_or m (sym u.face z) [])) (sym u.slot z)) ∙ nine.source_stays m u.spot u.there.sound

  not_1_3 : (f i : ℕ) → Unwelded m f i → Unreached m f i → ⊥
  not_1_3 f i w u = true≢false (sym (nine.broken-takes m f w.corner w.broken) ∙ (ap (takes_copy (pieces f (get_or m f []))) w.which ∙ stays f i u))

  not_2_3 : (h : Float) (f i : ℕ) → CopiesAbsent h m f i → Unreached m f i → ⊥
  not_2_3 h f i c u = true≢false (sym (nine.target-takes m f c.corner c.source c.copies) ∙ (ap (takes_copy (pieces f (get_or m f []))) c.which ∙ stays f i u))

  in-face : (f : ℕ) (t : Triangle) → Memᴰ t (all_triangles m) → t.face ≡ f → Memᴰ t (pieces f (get_or m f []))
  in-face f t h e = subst (λ (g : ℕ). Memᴰ t (pieces g (get_or m g []))) e (nine.placed m t h)

  not-copied : (f : ℕ) (j k : Kept) (s : Spot) → j.which ≡ k.which → Broken m f j → first_welded m j.corner ≡ none → Copies m f k s → ⊥
  not-copied f j k s w B n (from_welded C e) =
      let same = one-slot 0 (usable (get_or m f [])) j k (nine.broken-slot m f j B) (nine.broken-slot m f k C) w in
      none-ne-some s (sym n ∙ (ap (λ (x : Kept). first_welded m x.corner) same ∙ e))
  not-copied f j k s w B n (from-kept t M e) =
      let p = pieces-marked f (get_or m f []) in
      let a = every-at p.1 (in-face f B.tri B.inside B.face) in
      let b = every-at p.1 (in-face f t (nine.sound_is (all_triangles m) t M.inside).0 M.face) in
      true≢false (sym M.marked ∙ (b ∙ (sym a ∙ B.plain)))

pub reasons : Promised
reasons = record {
  why = λ h m f i l e. by_end m h f i e (nine.all_slots m h f i l);
  so_absent = λ h m f i. by-reason m h f i;
  not_1_2 = λ h m f i w c. not-copied m f w.corner c.corner c.source (w.which ∙ sym c.which) w.broken w.alone c.copies;
  not_1_3 = not_1_3;
  not_2_3 = λ h m f i. not_2_3 m h f i;
}

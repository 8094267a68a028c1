-- A slot is reached at most twice: a face has at most two triangles, and no corner is grouped twice. Assumes nothing.
use Prim.Native.Nat.{ℕ, ◌≤◌}
use native.Mathlib.Omega.{arith}
use mathlib.Core.Path.{◌≡◌, refl, sym, ◌∙◌, ap, subst}
use mathlib.Core.Bool.{Bool, true, false, cond, ◌&&◌, beq, true≢false}
use mathlib.Core.List.{List, [], ◌∷◌, Memᴰ}
use lib.Dec.{eqb}
use lib.ListN.{length, length-map}
use borrow.Author.Tests.{eqb-true, eq-eqb}
use lib.Ieee.{Float}
use Rattle.definition.specs.declared.Corner.{Corner}
use Rattle.definition.specs.declared.Triangle.{Triangle}
use Rattle.lists.specs.Lists.{keep}
use Rattle.definition.specs.Mesh.{Face, Third, one, two, three, Spot, kept, slot_of, same_third, same_triangle, same_spot}
use Rattle.definition.specs.Step1Cut.{cut02}
use Rattle.definition.specs.Triangles.{make, settled, pair, nook, quad, pieces, triangles}
use Rattle.definition.specs.Step4Order.{is_sound, sound, spots}
use Rattle.definition.specs.Step5Links.{Link, links}
use Rattle.definition.specs.Step6Groups.{Mark, marks}
use Rattle.definition.specs.Step7Sums.{bring, brought_all}
use Rattle.definition.specs.Frames.{numbered}
use Rattle.lists.specs.Every.{Every, every_nil, every_cons}
use Rattle.laws.proofs.Part.{every_append, every_map, every-keep, every-pair, keep-passes, keep-map}
use Rattle.bits.proofs.Bools.{and_left, and_right, beq-refl}
use Rattle.definition.specs.Names.{Names}
use Rattle.laws.proofs.Mutual.{every-at, one_name, corner-tri}
use Rattle.laws.proofs.Closed.{Between, links-sound}
use Rattle.laws.proofs.Laws.{Once, once-nil, once-cons, at_most_one, marks-inside}
use Rattle.laws.proofs.Numbers.{names-keep, triangles-names}
use Rattle.laws.proofs.Closed.{spots-every}

-- ---- a triangle's three corners are three of its face
pub record Plain (t : Triangle) : Type 0 where
  pub slots : (i j : Third) → eqb (kept t i).which (kept t j).which ≡ same_third i j

module _ (n : ℕ) (b : Bool) (m i j k : ℕ) (c d e : Corner) where
  make-plain : eqb i j ≡ false → eqb i k ≡ false → eqb j i ≡ false → eqb j k ≡ false → eqb k i ≡ false → eqb k j ≡ false → Plain (make n b m (nook i c) (nook j d) (nook k e))
  unfolding make kept same_third
  make-plain ij ik ji jk ki kj = record {
    slots = λ x y. elim x as (λ (x : Third). eqb (kept (make n b m (nook i c) (nook j d) (nook k e)) x).which (kept (make n b m (nook i c) (nook j d) (nook k e)) y).which ≡ same_third x y) [
      | one ↦ elim y as (λ (y : Third). eqb (kept (make n b m (nook i c) (nook j d) (nook k e)) one).which (kept (make n b m (nook i c) (nook j d) (nook k e)) y).which ≡ same_third one y) [ one ↦ eq-eqb i i refl | two ↦ ij | three ↦ ik ]
      | two ↦ elim y as (λ (y : Third). eqb (kept (make n b m (nook i c) (nook j d) (nook k e)) two).which (kept (make n b m (nook i c) (nook j d) (nook k e)) y).which ≡ same_third two y) [ one ↦ ji | two ↦ eq-eqb j j refl | three ↦ jk ]
      | three ↦ elim y as (λ (y : Third). eqb (kept (make n b m (nook i c) (nook j d) (nook k e)) three).which (kept (make n b m (nook i c) (nook j d) (nook k e)) y).which ≡ same_third three y) [ one ↦ ki | two ↦ kj | three ↦ eq-eqb k k refl ]
    ];
  }

settled_plain : (t : Triangle) (m o : Bool) → Plain t → Plain (settled t m o)
unfolding settled kept
settled_plain t m o h = record {
  slots = λ x y. elim x as (λ (x : Third). eqb (kept (settled t m o) x).which (kept (settled t m o) y).which ≡ same_third x y) [
    | one ↦ elim y as (λ (y : Third). eqb (kept (settled t m o) one).which (kept (settled t m o) y).which ≡ same_third one y) [ one ↦ h.slots one one | two ↦ h.slots one two | three ↦ h.slots one three ]
    | two ↦ elim y as (λ (y : Third). eqb (kept (settled t m o) two).which (kept (settled t m o) y).which ≡ same_third two y) [ one ↦ h.slots two one | two ↦ h.slots two two | three ↦ h.slots two three ]
    | three ↦ elim y as (λ (y : Third). eqb (kept (settled t m o) three).which (kept (settled t m o) y).which ≡ same_third three y) [ one ↦ h.slots three one | two ↦ h.slots three two | three ↦ h.slots three three ]
  ];
}

pair-plain : (s t : Triangle) → Plain s → Plain t → Every Plain (pair s t)
unfolding pair
pair-plain s t h k = every_cons (settled_plain s _ _ h) (every_cons (settled_plain t _ _ k) every_nil)

either-plain : (b : Bool) {l k : List Triangle} → Every Plain l → Every Plain k → Every Plain (cond b l k)
either-plain true h k = h
either-plain false h k = k

pieces-plain : (n : ℕ) (cs : List Corner) → Every Plain (pieces n cs)
unfolding pieces quad
pieces-plain n [] = every_nil
pieces-plain n (c0 ∷ []) = every_nil
pieces-plain n (c0 ∷ c1 ∷ []) = every_nil
pieces-plain n (c0 ∷ c1 ∷ c2 ∷ []) = every_cons (make-plain n false 3 0 1 2 c0 c1 c2 refl refl refl refl refl refl) every_nil
pieces-plain n (c0 ∷ c1 ∷ c2 ∷ c3 ∷ []) =
    either-plain (cut02 c0 c1 c2 c3)
    (pair-plain _ _ (make-plain n false 3 0 1 2 c0 c1 c2 refl refl refl refl refl refl) (make-plain n true 1 0 2 3 c0 c2 c3 refl refl refl refl refl refl))
    (pair-plain _ _ (make-plain n false 2 0 1 3 c0 c1 c3 refl refl refl refl refl refl) (make-plain n true 0 1 2 3 c1 c2 c3 refl refl refl refl refl refl))
pieces-plain n (c0 ∷ c1 ∷ c2 ∷ c3 ∷ c4 ∷ l) = every_nil

pub triangles-plain : (fs : List Face) → Every Plain (triangles fs)
unfolding triangles
triangles-plain [] = every_nil
triangles-plain (f ∷ fs) = every_append (pieces-plain f.number f.corners) (triangles-plain fs)

once-keep : (p : Mark → Bool) {l : List Mark} → Once l → Once (keep p l)
unfolding keep
once-keep p once-nil = once-nil
once-keep p (once-cons {m} {ms} h r) = go (p m) (every-keep p h) (once-keep p r)
  where
    go : (b : Bool) → Every (λ k. same_spot m.spot k.spot ≡ false) (keep p ms) → Once (keep p ms) → Once (cond b (m ∷ keep p ms) (keep p ms))
    go true g s = once-cons g s
    go false g s = s

-- ---- two corners of one slot are corners of the first and the second triangle of a face
module _ (ss : List Triangle) (ls : List Link) (B : Between ss ls) (names : Names ss) (plain : Every Plain ss) (f i : ℕ) where
  -- a mark on a corner of the triangles, in slot i of face f
  pub record InSlot (m : Mark) : Type 0 where
    pub inside : Memᴰ m.spot (spots ss)
    pub of-face : m.spot.tri.face ≡ f
    pub of-slot : slot_of m.spot ≡ i

  plain_at : (s : Spot) → Memᴰ s (spots ss) → Plain s.tri
  plain_at s h = every-at (spots-every plain) h

  -- so of two marks that are both of the first triangle, or both of the second, each is the other
  clash : (m k : Mark) → InSlot m → InSlot k → m.spot.tri.second ≡ k.spot.tri.second → same_spot m.spot k.spot ≡ true
  unfolding same_spot same_triangle slot_of
  clash m k a b e =
      let s = m.spot in
      let t = k.spot in
      let name : same_triangle s.tri t.tri ≡ true = ap (λ (x : Bool). x && beq s.tri.second t.tri.second) (eq-eqb s.tri.face t.tri.face (a.of-face ∙ sym b.of-face)) ∙ (ap (λ (x : Bool). beq x t.tri.second) e ∙ beq-refl t.tri.second) in
      let same = one_name names s.tri t.tri (corner-tri ss s a.inside) (corner-tri ss t b.inside) name in
      let place : same_third s.at t.at ≡ true =
      sym ((plain_at t b.inside).slots s.at t.at)
      ∙ eq-eqb (kept t.tri s.at).which (kept t.tri t.at).which (ap (λ (x : Triangle). (kept x s.at).which) (sym same) ∙ (a.of-slot ∙ sym b.of-slot)) in
      ap (λ (x : Bool). x && same_third s.at t.at) name ∙ place

  apart : (m k : Mark) → InSlot m → InSlot k → same_spot m.spot k.spot ≡ false → m.spot.tri.second ≡ k.spot.tri.second → ⊥
  apart m k a b h e = true≢false (sym (clash m k a b e) ∙ h)

  -- of three Bools two are equal
  no-three : (a b c : Bool) → (a ≡ b → ⊥) → (a ≡ c → ⊥) → (b ≡ c → ⊥) → ⊥
  no-three true true c f g h = f refl
  no-three false false c f g h = f refl
  no-three true false true f g h = g refl
  no-three false true false f g h = g refl
  no-three true false false f g h = h refl
  no-three false true true f g h = h refl

  at_most_two : {ms : List Mark} → Once ms → Every InSlot ms → length ms ≤ 2
  at_most_two once-nil every_nil = omega arith
  at_most_two (once-cons h once-nil) (every_cons a every_nil) = omega arith
  at_most_two (once-cons h (once-cons k once-nil)) (every_cons a (every_cons b every_nil)) = omega arith
  at_most_two (once-cons {m = x} (every_cons xy (every_cons xz h)) (once-cons {m = y} (every_cons yz k) (once-cons {m = z} l r))) (every_cons a (every_cons b (every_cons c q))) =
      absurd (no-three x.spot.tri.second y.spot.tri.second z.spot.tri.second (apart x y a b xy) (apart x z a c xz) (apart y z b c yz))

  -- whether a mark is in the slot
  in-slot : Mark → Bool
  in-slot m = eqb m.spot.tri.face f && eqb (slot_of m.spot) i

  marks-twice : length (keep in-slot (marks ss ls)) ≤ 2
  unfolding in-slot
  marks-twice =
      at_most_two (once-keep in-slot (at_most_one ss ls B))
      (every_map
      (λ m h. record {
        inside = h.0;
        of-face = eqb-true m.spot.tri.face f (and_left (eqb m.spot.tri.face f) (eqb (slot_of m.spot) i) h.1);
        of-slot = eqb-true (slot_of m.spot) i (and_right (eqb m.spot.tri.face f) (eqb (slot_of m.spot) i) h.1);
      })
      (every-pair (every-keep in-slot (marks-inside ss ls B)) (keep-passes in-slot (marks ss ls))))

  brought-twice : (h : Float) → length (keep (λ b. eqb b.face f && eqb b.slot i) (brought_all h ss (marks ss ls))) ≤ 2
  unfolding brought_all bring in-slot
  brought-twice h =
      let ms = marks ss ls in
      subst (λ (n : ℕ). n ≤ 2) (sym (ap length (keep-map (λ b. eqb b.face f && eqb b.slot i) (bring h ss ms) ms) ∙ length-map (keep in-slot ms) (bring h ss ms))) marks-twice

-- At most two things are brought to slot number i of face f, for every mesh and every threshold.
pub twice : (h : Float) (m : List (List Corner)) (f i : ℕ) → let ss = sound (triangles (numbered 0 m)) in length (keep (λ b. eqb b.face f && eqb b.slot i) (brought_all h ss (marks ss (links ss)))) ≤ 2
unfolding sound
twice h m f i = brought-twice (sound (triangles (numbered 0 m))) (links (sound (triangles (numbered 0 m)))) (links-sound (sound (triangles (numbered 0 m)))) (names-keep is_sound (triangles-names 0 m)) (every-keep is_sound (triangles-plain (numbered 0 m))) f i h

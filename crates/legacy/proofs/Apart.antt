-- Two corners of a sound triangle are not at equal positions, so no side has welded ends once corners are merged. Assumes nothing.
use Prim.Native.Nat.{ℕ, suc, ◌<◌}
use native.Mathlib.Omega.{arith}
use mathlib.Core.Path.{◌≡◌, refl, sym, ap, ◌∙◌}
use mathlib.Core.Bool.{Bool, true, false, not, ◌&&◌, ◌||◌, true≢false}
use mathlib.Core.List.{List, [], ◌∷◌}
use mathlib.Core.Option.{none}
use lib.Dec.{T, eqb}
use lib.ListN.{length, get_or, take, length-append}
use lib.Ieee as Ieee
use lib.Ieee.{Float, nan, binary32, fits}
use borrow.Author.Tests.{eqb-true}
use Rattle.bits.specs.Word.{is_finite}
use Rattle.bits.proofs.Bools.{and_left, and_right, or_left, or_right}
use Rattle.bits.proofs.Nan.{unlike-itself}
use Rattle.math.specs.declared.Vec3.{Vec3}
use Rattle.math.specs.Vector.{equals}
use Rattle.lists.specs.Every.{Every, every_nil, every_cons}
use Rattle.definition.specs.declared.Corner.{Corner}
use Rattle.definition.specs.declared.Kept.{Kept}
use Rattle.definition.specs.declared.Triangle.{Triangle}
use Rattle.definition.specs.Mesh.{Third, one, two, three, Spot, after, kept, corner_of}
use Rattle.definition.specs.Handed.{Handed, mesh_of, corner_count}
use Rattle.definition.specs.Desk.{finite_vector, not_finite}
use Rattle.definition.specs.Step1Cut.{cut02}
use Rattle.definition.specs.Step2Degenerate.{flat}
use Rattle.definition.specs.Triangles.{make, settled, pair, quad, usable, pieces, triangles}
use Rattle.definition.specs.Step4Order.{is_sound, sound, broken, welded}
use Rattle.definition.specs.Step4Old.{tag_of}
use Rattle.definition.specs.Frames.{triangles_of, numbered}
use Rattle.laws.proofs.Part.{every_append, every-cond, every-keep, every_map}
use Rattle.laws.proofs.Pieces.{pieces-of}
use Rattle.laws.proofs.Bridge.{every-get_or}
use Rattle.laws.proofs.Sharp.{Real, accepted-real}
use Rattle.view.specs.Rows.{row, spot_at, spot_row}
use Rattle.view.specs.Records.{From}
use Rattle.view.specs.Weld.{Sharp}
use Rattle.view.proofs.Rows.{row_lt, spot_is}
use Rattle.copies.proofs.Firsts.{sound-below}
use Rattle.merge.proofs.Recornered.{marked, tags-weld, one_corner}
use Rattle.legacy.proofs.Rows.{Near}
use Rattle.legacy.proofs.Merged.{ys, into, xs, us, into-below, sound-long, us-at, corner-left, near}

-- ---- positions of finite numbers are equal to themselves

eq-own : (x : Float) → is_finite x ≡ true → Ieee.eq x x ≡ true
unfolding Ieee.ne is_finite
eq-own x h = go (Ieee.eq x x) refl
  where
    go : (b : Bool) → Ieee.eq x x ≡ b → Ieee.eq x x ≡ true
    go true e = e
    go false e = absurd (true≢false (sym h ∙ ap is_finite (unlike-itself x (ap not e))))

own-place : (v : Vec3) → finite_vector v ≡ true → equals v v ≡ true
unfolding finite_vector equals
own-place v e =
    let xy = and_left (is_finite v.x && is_finite v.y) (is_finite v.z) e in
    λ k. eq-own v.x (and_left (is_finite v.x) (is_finite v.y) xy) k && eq-own v.y (and_right (is_finite v.x) (is_finite v.y) xy) k && eq-own v.z (and_right (is_finite v.x && is_finite v.y) (is_finite v.z) e) k

-- ---- the ends of a sound triangle's sides are at different positions

record Ends (t : Triangle) : Type 0 where
  apart : t.degenerate ≡ false → (i : Third) → equals (kept t i).corner.place (kept t (after i)).corner.place ≡ false

make-ends : (f : ℕ) (s : Bool) (m : ℕ) (a b c : Kept) → Ends (make f s m a b c)
unfolding make flat kept after
make-ends f s m a b c = record {
  apart = λ e i.
      let ab = equals a.corner.place b.corner.place in
      let bc = equals b.corner.place c.corner.place in
      let ca = equals c.corner.place a.corner.place in
      elim i as (λ (j : Third). equals (kept (make f s m a b c) j).corner.place (kept (make f s m a b c) (after j)).corner.place ≡ false) [ one ↦ or_left ab bc (or_left (ab || bc) ca e) | two ↦ or_right ab bc (or_left (ab || bc) ca e) | three ↦ or_right (ab || bc) ca e ];
}

settled-ends : (t : Triangle) (m o : Bool) → Ends t → Ends (settled t m o)
unfolding settled kept after
settled-ends t m o E = record { apart = λ e i. elim i as (λ (j : Third). equals (kept (settled t m o) j).corner.place (kept (settled t m o) (after j)).corner.place ≡ false) [ one ↦ E.apart e one | two ↦ E.apart e two | three ↦ E.apart e three ] }

two_ends : (s t : Triangle) → Ends s → Ends t → Every Ends (pair s t)
unfolding pair
two_ends s t E F = every_cons (settled-ends s _ _ E) (every_cons (settled-ends t _ _ F) every_nil)

face-ends : (f : ℕ) (cs : List Corner) → Every Ends (pieces f cs)
unfolding pieces quad
face-ends f [] = every_nil
face-ends f (c0 ∷ []) = every_nil
face-ends f (c0 ∷ c1 ∷ []) = every_nil
face-ends f (c0 ∷ c1 ∷ c2 ∷ []) = every_cons (make-ends _ _ _ _ _ _) every_nil
face-ends f (c0 ∷ c1 ∷ c2 ∷ c3 ∷ []) = every-cond (cut02 c0 c1 c2 c3) (two_ends _ _ (make-ends _ _ _ _ _ _) (make-ends _ _ _ _ _ _)) (two_ends _ _ (make-ends _ _ _ _ _ _) (make-ends _ _ _ _ _ _))
face-ends f (c0 ∷ c1 ∷ c2 ∷ c3 ∷ c4 ∷ l) = every_nil

-- and its corners are of finite numbers, in a mesh that is accepted
record Firm (t : Triangle) : Type 0 where
  ends : Ends t
  real : (i : Third) → Real (kept t i).corner

both-firm : {l : List Triangle} (n : ℕ) → Every Ends l → Every (λ t. (i : Third) → Real (kept t i).corner) l → Every Firm l
both-firm n every_nil every_nil = every_nil
both-firm n (every_cons E h) (every_cons R k) = every_cons (record { ends = E; real = R }) (both-firm n h k)

all-firm : (n : ℕ) (m : List (List Corner)) → Every (λ cs. Every Real (usable cs)) m → Every Firm (triangles (numbered n m))
unfolding triangles numbered
all-firm n [] every_nil = every_nil
all-firm n (c ∷ m) (every_cons h r) = every_append (both-firm n (face-ends n c) (every_map (λ t O. O.corners) (pieces-of n Real c h))) (all-firm (suc n) m r)

module _ (mesh : Handed) (d : Triangle) (held : (i : ℕ) → T (fits binary32 (get_or mesh.positions i nan))) (good : not_finite mesh ≡ none) where
  abbrev ts : List Triangle
  ts = triangles_of mesh

  firm : (t : ℕ) → t < length (ys ts) → Firm (get_or (ys ts) t d)
  firm t h = every-get_or all t d h
    where
      each : Every Firm ts
      each = all-firm 0 (mesh_of mesh) (accepted-real mesh.positions mesh.normals mesh.texture held 0 mesh.sizes good)

      all : Every Firm (ys ts)
      all = unfold sound broken in every_append (every-keep is_sound each) (every-keep (λ x. x.degenerate) each)

  -- no side has welded ends
  pub sharp-left : ((t : ℕ) → t < length (ys ts) → From mesh.positions mesh.normals mesh.texture (corner_count (take (get_or (ys ts) t d).face mesh.sizes)) (get_or (ys ts) t d)) → Sharp (us ts) d
  sharp-left F = record { apart = λ t i h. one_side t i (omega (arith, h, sound-long ts d, length-append (sound ts) (broken ts))) h }
    where
      at : (t : ℕ) (i : Third) → t < length (ys ts) → t < length (us ts) → corner_of (spot_at (us ts) d t i) ≡ marked (spot_row (ys ts) d (into ts (row t i)))
      at t i h g = ap (λ (x : Triangle). corner_of (record { tri = x; at = i })) (us-at ts d t g) ∙ ap corner_of (sym (spot_is (xs ts) d t i)) ∙ corner-left ts d d (row t i) (row_lt t (length (ys ts)) i h)

      one_side : (t : ℕ) (i : Third) → t < length (ys ts) → t < length (us ts) → welded (corner_of (spot_at (us ts) d t i)) (corner_of (spot_at (us ts) d t (after i))) ≡ false
      one_side t i h g =
          (λ z. welded (at t i h g z) (at t (after i) h g z))
          ∙ tags-weld (tag_of A) (tag_of B) (corner_of A) (corner_of B) one
          ∙ go (eqb (tag_of A) (tag_of B)) refl
        where
          A : Spot
          A = spot_row (ys ts) d (into ts (row t i))

          B : Spot
          B = spot_row (ys ts) d (into ts (row t (after i)))

          one : tag_of A ≡ tag_of B → corner_of A ≡ corner_of B
          one = one_corner mesh.positions mesh.normals mesh.texture mesh.sizes (ys ts) d F (into ts (row t i)) (into ts (row t (after i))) (into-below ts (row t i) (row_lt t (length (ys ts)) i h)) (into-below ts (row t (after i)) (row_lt t (length (ys ts)) (after i) h))

          -- positions equal to that of corner j
          same : (j : Third) → Near (kept (get_or (ys ts) t d) j).corner.place (corner_of (spot_row (ys ts) d (into ts (row t j)))).place
          same j p = near ts d (row t j) (row_lt t (length (ys ts)) j h) p ∙ (unfold corner_of in ap (λ (s : Spot). equals p (corner_of s).place) (spot_is (ys ts) d t j))

          go : (b : Bool) → eqb (tag_of A) (tag_of B) ≡ b → eqb (tag_of A) (tag_of B) ≡ false
          go false e = e
          go true e =
              let a = (kept (get_or (ys ts) t d) i).corner.place in
              absurd (true≢false (sym (own-place a ((firm t h).real i).bounded) ∙ sym (same i a) ∙ ap (λ (c : Corner). equals a c.place) (one (eqb-true (tag_of A) (tag_of B) e)) ∙ same (after i) a ∙ (firm t h).ends.apart (sound-below ts d t (omega (arith, g, sound-long ts d))) i))

-- What step 9 asks of step 4, of the triangles that the old edition leaves: each corner of a face is seen as the row that its rows are merged with. Assumes nothing.
use Prim.Native.Nat.{ℕ, zero, suc, ◌+◌, ◌*◌, ◌/◌, ◌%◌, ◌<◌}
use native.Mathlib.Omega.{arith}
use mathlib.Core.Path.{◌≡◌, refl, sym, ap, ◌∙◌}
use mathlib.Core.Bool.{Bool, true, false, cond, ◌&&◌, true≢false}
use mathlib.Core.List.{List, [], ◌∷◌}
use mathlib.Core.Option.{Option, none, some}
use lib.Dec.{eqb}
use lib.ListN.{length, get_or, take}
use borrow.Author.Tests.{eqb-true, eq-eqb}
use Rattle.bits.proofs.Bools.{and_left, and_right}
use Rattle.math.specs.declared.Vec3.{Vec3}
use Rattle.math.specs.Vector.{equals}
use Rattle.lists.specs.Lists.{first}
use Rattle.definition.specs.declared.Corner.{Corner}
use Rattle.definition.specs.declared.Kept.{Kept}
use Rattle.definition.specs.declared.Triangle.{Triangle}
use Rattle.definition.specs.Mesh.{Third, Spot, kept, corner_of, slot_of}
use Rattle.definition.specs.Handed.{Handed, corner_at, corner_count}
use Rattle.definition.specs.Triangles.{nook}
use Rattle.definition.specs.Frames.{triangles_of}
use Rattle.definition.specs.FramesOld.{seen_as, seen}
use Rattle.definition.specs.Step4Order.{spots}
use Rattle.definition.specs.Step4Old.{tag_of, tagged}
use Rattle.view.specs.Rows.{row, third, spot_at, spot_row}
use Rattle.view.specs.Records.{From}
use Rattle.view.proofs.Rows.{row_lt, tri-lt, spot_is, spots-at, spots-length}
use Rattle.copies.specs.Copies.{Left}
use Rattle.merge.proofs.Recornered.{marked, one_corner}
use Rattle.legacy.proofs.Merged.{ys, corners, into, xs, us, vs, like, long, whole, sound-long, broken-long, corner-left, corner-is, near}
use Rattle.legacy.proofs.Alike.{Same, one-row, own-rows, merged-alike}

-- ---- the first that passes, by its place

data FirstIs (p : Spot → Bool) (l : List Spot) (z : Spot) : Option Spot → Type 0 where
  missing : ((k : ℕ) → k < length l → p (get_or l k z) ≡ false) → FirstIs p l z none
  found : (k : ℕ) → k < length l → p (get_or l k z) ≡ true → FirstIs p l z (some (get_or l k z))

first_is : (p : Spot → Bool) (l : List Spot) (z : Spot) → FirstIs p l z (first p l)
unfolding first
first_is p [] z = missing (λ k h. absurd (omega arith))
first_is p (s ∷ l) z = go (p s) refl (first p l) (first_is p l z)
  where
    later : (o : Option Spot) → p s ≡ false → FirstIs p l z o → FirstIs p (s ∷ l) z o
    later o e (missing f) = missing (λ k. elim k as (λ (i : ℕ). i < length (s ∷ l) → p (get_or (s ∷ l) i z) ≡ false) [ zero ↦ (λ h. e) | suc j ↦ (λ h. f j (omega (arith, h))) ])
    later o e (found k h q) = found (suc k) (omega (arith, h)) q

    go : (b : Bool) → p s ≡ b → (o : Option Spot) → FirstIs p l z o → FirstIs p (s ∷ l) z (cond b (some s) o)
    go true e o F = found 0 (omega arith) e
    go false e o F = later o e F

-- rows that are merged alike, under what is the same of both
same-under : (M : ℕ → Corner) (r q a b : ℕ) → M r ≡ M q → Same r q a b → M a ≡ M b
same-under M r q a b e (one-row x) = refl
same-under M r q a b e own-rows = e

module _ (mesh : Handed) (d : Triangle) where
  abbrev ts : List Triangle
  ts = triangles_of mesh

  abbrev sp : List Spot
  sp = spots (xs ts)

  -- the test by which a corner of a face is seen
  abbrev test : ℕ → ℕ → Spot → Bool
  test f w s = eqb s.tri.face f && eqb (slot_of s) w

  -- a row of what is left that passes: its face and its corner of it
  face-of : (k f w : ℕ) → test f w (spot_row (xs ts) d k) ≡ true → (get_or (ys ts) (k / 3) d).face ≡ f
  face-of k f w h = sym (like ts d (k / 3)).face ∙ eqb-true _ f (and_left (eqb (get_or (xs ts) (k / 3) d).face f) (eqb (slot_of (spot_row (xs ts) d k)) w) h)

  which-of : (k f w : ℕ) → test f w (spot_row (xs ts) d k) ≡ true → (kept (get_or (ys ts) (k / 3) d) (third (k % 3))).which ≡ w
  unfolding slot_of
  which-of k f w h = sym ((like ts d (k / 3)).which (third (k % 3))) ∙ eqb-true _ w (and_right (eqb (get_or (xs ts) (k / 3) d).face f) (eqb (slot_of (spot_row (xs ts) d k)) w) h)

  -- the rows of what is left
  spot-at : (k : ℕ) → k < length sp → (k < 3 * length (ys ts)) × (get_or sp k (spot_row (xs ts) d 0) ≡ spot_row (xs ts) d k)
  spot-at k h = let z = spots-length (xs ts) in let y = long ts d in (omega (arith, z, y, h), spots-at (xs ts) d (spot_row (xs ts) d 0) k (omega (arith, z, h)))

  module _ (F : (t : ℕ) → t < length (ys ts) → From mesh.positions mesh.normals mesh.texture (corner_count (take (get_or (ys ts) t d).face mesh.sizes)) (get_or (ys ts) t d)) where
    -- rows of one corner of a face have what is merged in common
    alike-left : (k j : ℕ) → k < 3 * length (ys ts) → j < 3 * length (ys ts) → tag_of (spot_row (ys ts) d k) ≡ tag_of (spot_row (ys ts) d j) → corner_of (spot_row (xs ts) d k) ≡ corner_of (spot_row (xs ts) d j)
    alike-left k j a b e =
        let c = one_corner mesh.positions mesh.normals mesh.texture mesh.sizes (ys ts) d F k j a b e in
        let z = spots-length (ys ts) in
        corner-left ts d d k a
        ∙ same-under (λ x. marked (spot_row (ys ts) d x)) k j (into ts k) (into ts j) (λ i. tagged (e i) (c i)) (merged-alike (corners ts) k j (corner-is ts d k a ∙ c ∙ sym (corner-is ts d j b)) (length (spots (ys ts))) (omega (arith, z, a)) (omega (arith, z, b)))
        ∙ sym (corner-left ts d d j b)

    seen-left : (t : ℕ) (i : Third) → t < length (ys ts) → (seen sp (get_or (ys ts) t d).face (kept (get_or (ys ts) t d) i)).corner ≡ (kept (get_or (xs ts) t d) i).corner
    unfolding seen seen_as corner_of
    seen-left t i h = go _ (first_is (test f w) sp (spot_row (xs ts) d 0))
      where
        f : ℕ
        f = (get_or (ys ts) t d).face

        w : ℕ
        w = (kept (get_or (ys ts) t d) i).which

        k₀ : row t i < 3 * length (ys ts)
        k₀ = row_lt t (length (ys ts)) i h

        in-it : row t i < length sp
        in-it = let z = spots-length (xs ts) in let y = long ts d in omega (arith, z, y, k₀)

        -- its own row passes
        passes : test f w (get_or sp (row t i) (spot_row (xs ts) d 0)) ≡ true
        passes = ap (test f w) ((spot-at (row t i) in-it).1 ∙ spot_is (xs ts) d t i) ∙ (unfold slot_of in (λ z. eq-eqb (get_or (xs ts) t d).face f (like ts d t).face z && eq-eqb (kept (get_or (xs ts) t d) i).which w ((like ts d t).which i) z))

        go : (o : Option Spot) → FirstIs (test f w) sp (spot_row (xs ts) d 0) o → (seen_as (kept (get_or (ys ts) t d) i) o).corner ≡ (kept (get_or (xs ts) t d) i).corner
        go o (missing g) = absurd (true≢false (sym passes ∙ g (row t i) in-it))
        go o (found k g q) =
            let s = spot-at k g in
            let p = sym (ap (test f w) s.1) ∙ q in
            ap corner_of s.1
            ∙ alike-left k (row t i) s.0 k₀ (tags k p)
            ∙ ap corner_of (spot_is (xs ts) d t i)
          where
            tags : (k : ℕ) → test f w (spot_row (xs ts) d k) ≡ true → tag_of (spot_row (ys ts) d k) ≡ tag_of (spot_row (ys ts) d (row t i))
            tags k p =
                let a : tag_of (spot_row (ys ts) d k) ≡ tag_of (spot_at (ys ts) d t i) = unfold tag_of slot_of in (λ z. 4 * face-of k f w p z + which-of k f w p z + 1) in
                a ∙ sym (ap tag_of (spot_is (ys ts) d t i))

    place-left : (f j : ℕ) (p : Vec3) → let k = nook j (corner_at mesh.positions mesh.normals mesh.texture (corner_count (take f mesh.sizes) + j)) in equals p (seen sp f k).corner.place ≡ equals p k.corner.place
    unfolding seen seen_as tagged
    place-left f j p = go _ (first_is (test f j) sp (spot_row (xs ts) d 0))
      where
        c : Corner
        c = corner_at mesh.positions mesh.normals mesh.texture (corner_count (take f mesh.sizes) + j)

        go : (o : Option Spot) → FirstIs (test f j) sp (spot_row (xs ts) d 0) o → equals p (seen_as (nook j c) o).corner.place ≡ equals p c.place
        go o (missing g) = refl
        go o (found k g q) =
            let s = spot-at k g in
            let e = sym (ap (test f j) s.1) ∙ q in
            ap (λ (x : Corner). equals p x.place) (ap corner_of s.1 ∙ corner-left ts d d k s.0)
            ∙ near ts d k s.0 p
            ∙ ap (λ (x : Corner). equals p x.place) (own k s.0 e)
          where
            own : (k : ℕ) → k < 3 * length (ys ts) → test f j (spot_row (xs ts) d k) ≡ true → corner_of (spot_row (ys ts) d k) ≡ c
            own k a e = unfold corner_of in ((F (k / 3) (tri-lt k (length (ys ts)) a)).corner (third (k % 3)) ∙ (λ z. corner_at mesh.positions mesh.normals mesh.texture (corner_count (take (face-of k f j e z) mesh.sizes) + which-of k f j e z)))

    same_left : (f : ℕ) (k : Kept) → (seen sp f k).which ≡ k.which
    unfolding seen
    same_left f k = go (first (test f k.which) sp)
      where
        go : (o : Option Spot) → (seen_as k o).which ≡ k.which
        go none = unfold seen_as in refl
        go (some s) = unfold seen_as in refl

    pub left-seen : Left mesh d (us ts) (vs ts) (seen sp)
    left-seen = record {
      sound_count = sound-long ts d;
      broken_count = broken-long ts d;
      face = λ t h. ap (λ (l : List Triangle). (get_or l t d).face) (whole ts d) ∙ (like ts d t).face;
      which = λ t i h. ap (λ (l : List Triangle). (kept (get_or l t d) i).which) (whole ts d) ∙ (like ts d t).which i;
      seen = λ t i h. let z = ap length (whole ts d) ∙ long ts d in seen-left t i (omega (arith, z, h)) ∙ ap (λ (l : List Triangle). (kept (get_or l t d) i).corner) (sym (whole ts d));
      same = same_left;
      place = place-left;
    }

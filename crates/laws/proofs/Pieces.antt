-- Steps 1 to 4 in a shuffle: the triangles of a mesh are a part of the triangles of the larger one. Assumes nothing.
use Prim.Native.Nat.{ℕ, suc, ◌*◌, ◌≤◌}
use native.Mathlib.Omega.{arith}
use mathlib.Core.Path.{◌≡◌, refl}
use mathlib.Core.Bool.{Bool, true, false, cond}
use mathlib.Core.List.{List, [], ◌∷◌, map}
use lib.Dec.{eqb}
use lib.ListN.{length, length-append}
use Rattle.definition.specs.declared.Corner.{Corner}
use Rattle.definition.specs.declared.Kept.{Kept}
use Rattle.definition.specs.declared.Triangle.{Triangle}
use Rattle.definition.specs.Mesh.{Face, Third, one, two, three, Spot, kept}
use Rattle.definition.specs.Step1Cut.{cut02}
use Rattle.definition.specs.Step3Tangents.{quad_way, area}
use Rattle.definition.specs.Step4Order.{is_sound, sound, spots}
use Rattle.definition.specs.Triangles.{make, settled, agree, pair, nook, quad, usable, pieces, triangles}
use Rattle.definition.specs.Frames.{numbered}
use Rattle.lists.specs.Every.{Every, every_nil, every_cons}
use Rattle.laws.proofs.Part.{Part, nothing, mine, other, all-mine, all-other, part-append, part-keep, every_map, every-cond}
use Rattle.laws.proofs.World.{World, OursT, TheirsT, moved, moved_spot, OursS, TheirsS}

-- a triangle of face n whose corners are all Q
pub record Of (n : ℕ) (Q : Corner → Type 0) (t : Triangle) : Type 0 where
  pub name : t.face ≡ n
  pub corners : (i : Third) → Q (kept t i).corner

module _ (n : ℕ) (Q : Corner → Type 0) where
  make-of : (b : Bool) (m i j k : ℕ) {c d e : Corner} → Q c → Q d → Q e → Of n Q (make n b m (nook i c) (nook j d) (nook k e))
  unfolding make kept
  make-of b m i j k {c} {d} {e} p q r = record { name = refl; corners = λ x. elim x as (λ (y : Third). Q (kept (make n b m (nook i c) (nook j d) (nook k e)) y).corner) [ one ↦ p | two ↦ q | three ↦ r ] }

  settled-of : (t : Triangle) (m o : Bool) → Of n Q t → Of n Q (settled t m o)
  unfolding settled kept
  settled-of t m o h = record { name = h.name; corners = λ x. elim x as (λ (y : Third). Q (kept (settled t m o) y).corner) [ one ↦ h.corners one | two ↦ h.corners two | three ↦ h.corners three ] }

  pair_of : (s t : Triangle) → Of n Q s → Of n Q t → Every (Of n Q) (pair s t)
  unfolding pair
  pair_of s t h k = every_cons (settled-of s _ _ h) (every_cons (settled-of t _ _ k) every_nil)

  quad-of : (c0 c1 c2 c3 : Corner) → Q c0 → Q c1 → Q c2 → Q c3 → Every (Of n Q) (quad n c0 c1 c2 c3)
  unfolding quad
  quad-of c0 c1 c2 c3 p0 p1 p2 p3 =
      every-cond (cut02 c0 c1 c2 c3)
      (pair_of _ _ (make-of false 3 0 1 2 p0 p1 p2) (make-of true 1 0 2 3 p0 p2 p3))
      (pair_of _ _ (make-of false 2 0 1 3 p0 p1 p3) (make-of true 0 1 2 3 p1 p2 p3))

  pub pieces-of : (cs : List Corner) → Every Q (usable cs) → Every (Of n Q) (pieces n cs)
  unfolding pieces usable
  pieces-of [] h = every_nil
  pieces-of (c0 ∷ []) h = every_nil
  pieces-of (c0 ∷ c1 ∷ []) h = every_nil
  pieces-of (c0 ∷ c1 ∷ c2 ∷ []) (every_cons p0 (every_cons p1 (every_cons p2 h))) = every_cons (make-of false 3 0 1 2 p0 p1 p2) every_nil
  pieces-of (c0 ∷ c1 ∷ c2 ∷ c3 ∷ []) (every_cons p0 (every_cons p1 (every_cons p2 (every_cons p3 h)))) = quad-of c0 c1 c2 c3 p0 p1 p2 p3
  pieces-of (c0 ∷ c1 ∷ c2 ∷ c3 ∷ c4 ∷ l) h = every_nil

map-cond' : {X Y : Type 0} (f : X → Y) (b : Bool) (l k : List X) → cond b (map f l) (map f k) ≡ map f (cond b l k)
map-cond' f true l k = refl
map-cond' f false l k = refl

-- a face, under its number there
pub record OursF (w : World) (f : Face) : Type 0 where
  pub corners : Every w.OursC (usable f.corners)

pub record TheirsF (w : World) (f : Face) : Type 0 where
  pub name : (n : ℕ) → eqb f.number (w.rho n) ≡ false
  pub corners : Every w.TheirsC (usable f.corners)

module _ (w : World) where
  unfoldable pub moved_face : Face → Face
  moved_face f = record { number = w.rho f.number; corners = f.corners }

  pair-moved : (s t : Triangle) → pair (moved w s) (moved w t) ≡ map (moved w) (pair s t)
  unfolding pair settled agree quad_way area moved
  pair-moved s t = refl

  make-moved : (n : ℕ) (b : Bool) (m : ℕ) (x y z : Kept) → make (w.rho n) b m x y z ≡ moved w (make n b m x y z)
  unfolding make moved
  make-moved n b m x y z = refl

  quad-moved : (n : ℕ) (c0 c1 c2 c3 : Corner) → quad (w.rho n) c0 c1 c2 c3 ≡ map (moved w) (quad n c0 c1 c2 c3)
  unfolding quad
  quad-moved n c0 c1 c2 c3 = simp (make-moved, pair-moved) (map-cond' (moved w) (cut02 c0 c1 c2 c3) _ _)

  pub pieces-moved : (n : ℕ) (cs : List Corner) → pieces (w.rho n) cs ≡ map (moved w) (pieces n cs)
  unfolding pieces
  pieces-moved n [] = refl
  pieces-moved n (c0 ∷ []) = refl
  pieces-moved n (c0 ∷ c1 ∷ []) = refl
  pieces-moved n (c0 ∷ c1 ∷ c2 ∷ []) = rw make-moved
  pieces-moved n (c0 ∷ c1 ∷ c2 ∷ c3 ∷ []) = quad-moved n c0 c1 c2 c3
  pieces-moved n (c0 ∷ c1 ∷ c2 ∷ c3 ∷ c4 ∷ l) = refl

  of-ours : (n : ℕ) (t : Triangle) → Of n w.OursC t → OursT w t
  of-ours n t h = record { corners = h.corners }

  of-theirs : (n : ℕ) → ((k : ℕ) → eqb n (w.rho k) ≡ false) → (t : Triangle) → Of n w.TheirsC t → TheirsT w t
  of-theirs n e t h = record { name = λ k. rw h.name (e k); corners = h.corners }

  abbrev pub Triangles : List Triangle → List Triangle → Type 0
  Triangles l k = Part (moved w) (OursT w) (TheirsT w) l k

  pieces-ours : (f : Face) → OursF w f → Triangles (pieces f.number f.corners) (pieces (w.rho f.number) f.corners)
  pieces-ours f o = rw (pieces-moved f.number f.corners) (all-mine (moved w) (OursT w) (TheirsT w) (every_map (of-ours f.number) (pieces-of f.number w.OursC f.corners o.corners)))

  pieces-theirs : (f : Face) → TheirsF w f → Triangles [] (pieces f.number f.corners)
  pieces-theirs f o = all-other (moved w) (OursT w) (TheirsT w) (every_map (of-theirs f.number o.name) (pieces-of f.number w.TheirsC f.corners o.corners))

  -- step 1 to 3
  pub triangles-part : {l k : List Face} → Part moved_face (OursF w) (TheirsF w) l k → Triangles (triangles l) (triangles k)
  unfolding triangles moved_face
  triangles-part nothing = nothing
  triangles-part (mine {x = f} o r) = part-append (pieces-ours f o) (triangles-part r)
  triangles-part (other {y = f} o r) = part-append (pieces-theirs f o) (triangles-part r)

  -- step 4: sound triangles
  pub sound-part : {l k : List Triangle} → Triangles l k → Triangles (sound l) (sound k)
  unfolding sound is_sound moved
  sound-part r = part-keep is_sound is_sound (λ x o. refl) r

  abbrev pub Spots : List Spot → List Spot → Type 0
  Spots l k = Part (moved_spot w) (OursS w) (TheirsS w) l k

  pub spots-part : {l k : List Triangle} → Triangles l k → Spots (spots l) (spots k)
  unfolding spots moved_spot
  spots-part nothing = nothing
  spots-part (mine o r) = mine o (mine o (mine o (spots-part r)))
  spots-part (other o r) = other o (other o (other o (spots-part r)))

-- ---- a face has two triangles at most

pub few-cond : (b : Bool) (l k : List Triangle) → length l ≤ 2 → length k ≤ 2 → length (cond b l k) ≤ 2
few-cond true l k p q = p
few-cond false l k p q = q

pub pieces-few : (f : ℕ) (cs : List Corner) → length (pieces f cs) ≤ 2
unfolding pieces quad pair
pieces-few f [] = omega arith
pieces-few f (c0 ∷ []) = omega arith
pieces-few f (c0 ∷ c1 ∷ []) = omega arith
pieces-few f (c0 ∷ c1 ∷ c2 ∷ []) = omega arith
pieces-few f (c0 ∷ c1 ∷ c2 ∷ c3 ∷ []) = few-cond (cut02 c0 c1 c2 c3) _ _ (omega arith) (omega arith)
pieces-few f (c0 ∷ c1 ∷ c2 ∷ c3 ∷ c4 ∷ l) = omega arith

pub triangles-few : (n : ℕ) (m : List (List Corner)) → length (triangles (numbered n m)) ≤ 2 * length m
unfolding triangles numbered
triangles-few n [] = omega arith
triangles-few n (c ∷ m) =
    let a = pieces-few n c in
    let b = triangles-few (suc n) m in
    let e = length-append (pieces n c) (triangles (numbered (suc n) m)) in
    omega (arith, a, b, e)

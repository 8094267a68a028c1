-- One mesh's triangles inside a larger mesh, where its faces have other numbers: what the names and the corners say. Assumes nothing.
use Prim.Native.Nat.{ℕ, zero, suc}
use mathlib.Core.Path.{◌≡◌, refl, sym, ◌∙◌, ap}
use mathlib.Core.Bool.{false}
use lib.Dec.{eqb, eqb-zero-suc, eqb-suc-zero, eqb-suc-suc}
use lib.Ieee.{Float, binary32, to_bits}
use Rattle.math.specs.declared.Vec3.{Vec3}
use Rattle.definition.specs.declared.Corner.{Corner}
use Rattle.definition.specs.declared.Triangle.{Triangle}
use Rattle.definition.specs.Mesh.{Third, one, two, three, Spot, next, prior, kept, corner_of, slot_of, same_triangle, same_spot}
use Rattle.definition.specs.Step4Order.{same_bits, same_vector, same_numbers, welded}

-- ---- the tests are symmetric

pub eqb-sym : (m n : ℕ) → eqb m n ≡ eqb n m
eqb-sym zero zero = refl
eqb-sym zero (suc n) = eqb-zero-suc n ∙ sym (eqb-suc-zero n)
eqb-sym (suc m) zero = eqb-suc-zero m ∙ sym (eqb-zero-suc m)
eqb-sym (suc m) (suc n) = eqb-suc-suc m n ∙ (eqb-sym m n ∙ sym (eqb-suc-suc n m))

pub bits-sym : (x y : Float) → same_bits x y ≡ same_bits y x
unfolding same_bits
bits-sym x y = eqb-sym (to_bits binary32 x) (to_bits binary32 y)

pub vector-sym : (a b : Vec3) → same_vector a b ≡ same_vector b a
unfolding same_vector
vector-sym a b = rw (bits-sym a.x b.x, bits-sym a.y b.y, bits-sym a.z b.z)

pub welded-sym : (c d : Corner) → welded c d ≡ welded d c
unfolding welded same_numbers
welded-sym c d = rw (vector-sym c.place d.place, vector-sym c.normal d.normal, bits-sym c.u d.u, bits-sym c.v d.v, eqb-sym c.tag d.tag)

-- ---- a mesh inside another

-- Face n of ours is face rho n there. Ours and Theirs are the corners of the two meshes: none of one is welded to one of the other.
pub record World : Type 1 where
  pub rho : ℕ → ℕ
  pub inj : (m n : ℕ) → eqb (rho m) (rho n) ≡ eqb m n
  pub OursC : Corner → Type 0
  pub TheirsC : Corner → Type 0
  pub apart : (c d : Corner) → OursC c → TheirsC d → welded c d ≡ false

-- a triangle of ours
pub record OursT (w : World) (t : Triangle) : Type 0 where
  pub corners : (i : Third) → w.OursC (kept t i).corner

-- a triangle of theirs: its face isn't one of ours
pub record TheirsT (w : World) (t : Triangle) : Type 0 where
  pub name : (n : ℕ) → eqb t.face (w.rho n) ≡ false
  pub corners : (i : Third) → w.TheirsC (kept t i).corner

module _ (w : World) where
  unfoldable pub moved : Triangle → Triangle
  moved t =
      record {
        face = w.rho t.face;
        second = t.second;
        missing = t.missing;
        a = t.a;
        b = t.b;
        c = t.c;
        degenerate = t.degenerate;
        marked = t.marked;
        any = t.any;
        orientation = t.orientation;
        tangent = t.tangent;
      }

  unfoldable pub moved_spot : Spot → Spot
  moved_spot s = record { tri = moved s.tri; at = s.at }

  abbrev pub OursS : Spot → Type 0
  OursS s = OursT w s.tri

  abbrev pub TheirsS : Spot → Type 0
  TheirsS s = TheirsT w s.tri

  pub next-moved : (s : Spot) → next (moved_spot s) ≡ moved_spot (next s)
  unfolding next moved_spot
  next-moved s = refl

  pub prior-moved : (s : Spot) → prior (moved_spot s) ≡ moved_spot (prior s)
  unfolding prior moved_spot
  prior-moved s = refl

  pub next-ours : (s : Spot) → OursS s → OursS (next s)
  unfolding next
  next-ours s o = o

  pub next-theirs : (s : Spot) → TheirsS s → TheirsS (next s)
  unfolding next
  next-theirs s h = h

  pub prior-theirs : (s : Spot) → TheirsS s → TheirsS (prior s)
  unfolding prior
  prior-theirs s h = h

  pub kept-moved : (t : Triangle) (i : Third) → kept (moved t) i ≡ kept t i
  unfolding kept moved
  kept-moved t one = refl
  kept-moved t two = refl
  kept-moved t three = refl

  pub corner-moved : (s : Spot) → corner_of (moved_spot s) ≡ corner_of s
  unfolding corner_of moved_spot
  corner-moved s = ap (λ k. k.corner) (kept-moved s.tri s.at)

  pub slot-moved : (s : Spot) → slot_of (moved_spot s) ≡ slot_of s
  unfolding slot_of moved_spot
  slot-moved s = ap (λ k. k.which) (kept-moved s.tri s.at)

  -- names say the same of ours
  pub tri-moved : (s t : Triangle) → same_triangle (moved s) (moved t) ≡ same_triangle s t
  unfolding same_triangle moved
  tri-moved s t = rw (w.inj s.face t.face)

  pub spot-moved : (s t : Spot) → same_spot (moved_spot s) (moved_spot t) ≡ same_spot s t
  unfolding same_spot moved_spot
  spot-moved s t = rw (tri-moved s.tri t.tri)

  -- and none of ours is one of theirs
  pub tri-theirs : (s t : Triangle) → TheirsT w t → same_triangle (moved s) t ≡ false
  unfolding same_triangle moved
  tri-theirs s t h = rw (eqb-sym (w.rho s.face) t.face, h.name s.face)

  pub theirs-tri : (s t : Triangle) → TheirsT w t → same_triangle t (moved s) ≡ false
  unfolding same_triangle moved
  theirs-tri s t h = rw (h.name s.face)

  pub spot-theirs : (s t : Spot) → TheirsS t → same_spot (moved_spot s) t ≡ false
  unfolding same_spot moved_spot
  spot-theirs s t h = rw (tri-theirs s.tri t.tri h)

  pub theirs-spot : (s t : Spot) → TheirsS t → same_spot t (moved_spot s) ≡ false
  unfolding same_spot moved_spot
  theirs-spot s t h = rw (theirs-tri s.tri t.tri h)

  -- corners: ours and theirs are never welded
  pub corner-ours : (s : Spot) → OursS s → w.OursC (corner_of s)
  unfolding corner_of
  corner-ours s h = h.corners s.at

  pub corner-theirs : (s : Spot) → TheirsS s → w.TheirsC (corner_of s)
  unfolding corner_of
  corner-theirs s h = h.corners s.at

  pub weld-theirs : (c : Corner) (t : Spot) → w.OursC c → TheirsS t → welded c (corner_of t) ≡ false
  weld-theirs c t o h = w.apart c (corner_of t) o (corner-theirs t h)

  pub weld-ours : (c : Corner) (s : Spot) → w.TheirsC c → OursS s → welded c (corner_of s) ≡ false
  weld-ours c s o h = welded-sym c (corner_of s) ∙ w.apart (corner_of s) c (corner-ours s h) o

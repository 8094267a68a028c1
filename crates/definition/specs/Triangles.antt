-- Steps 1 to 3 together: the triangles of a face, and of all faces. Definitions only.
use Rattle.std.specs.Prelude.{ℕ, Bool, true, false, cond, not, ◌&&◌, ◌||◌, List, [], ◌∷◌, ◌++◌}
use Rattle.std.specs.Bool.{beq}
use Rattle.std.specs.Float.Ieee as Ieee
use Rattle.bits.specs.Single.{zeroᶠ}
use Rattle.tangent.specs.Space.{zero_tangent}
use Rattle.definition.specs.declared.Corner.{Corner}
use Rattle.definition.specs.declared.Kept.{Kept}
use Rattle.definition.specs.declared.Triangle.{Triangle}
use Rattle.definition.specs.Mesh.{Face}
use Rattle.definition.specs.Step1Cut.{cut02}
use Rattle.definition.specs.Step2Degenerate.{flat, exactly_one}
use Rattle.definition.specs.Step3Tangents.{turn, raw_s, raw_t, first_order, unsure, quad_way}

-- corner number i of its face, with its values
abbrev pub nook : ℕ → Corner → Kept
nook i c = record { which = i; corner = c }

-- a triangle of three kept corners by itself; a degenerate one has the zero tangent, and neither `group_with_any` nor orientation is set
unfoldable pub make : ℕ → Bool → ℕ → Kept → Kept → Kept → Triangle
make f second missing a b c =
    let d = flat a.corner b.corner c.corner in
    let w = turn a.corner b.corner c.corner in
    let s = raw_s a.corner b.corner c.corner in
    let t = raw_t a.corner b.corner c.corner in
    let g = cond d zero_tangent (first_order w s t) in
    record {
      face = f;
      second = second;
      missing = missing;
      a = a;
      b = b;
      c = c;
      degenerate = d;
      marked = false;
      any = not d && unsure w s t g;
      orientation = not d && Ieee.lt zeroᶠ w;
      tangent = g;
    }

-- the same triangle with the mark m and the orientation o
unfoldable pub settled : Triangle → Bool → Bool → Triangle
settled t m o =
    record {
      face = t.face;
      second = t.second;
      missing = t.missing;
      a = t.a;
      b = t.b;
      c = t.c;
      degenerate = t.degenerate;
      marked = m;
      any = t.any;
      orientation = o;
      tangent = t.tangent;
    }

-- whether each keeps its own orientation: one is degenerate, or they agree
unfoldable pub agree : Triangle → Triangle → Bool
agree s t = s.degenerate || t.degenerate || beq s.orientation t.orientation

-- the two triangles of a quad: marked by step 2; where both are sound, of one orientation by step 3
unfoldable pub pair : Triangle → Triangle → List Triangle
pair s t =
    let m = exactly_one s.degenerate t.degenerate in
    settled s m (cond (agree s t) s.orientation (quad_way s t)) ∷ settled t m (cond (agree s t) t.orientation (quad_way s t)) ∷ []

-- 'Cut 02 misses corners 3 and 1; the other cut misses 2 and 0. Missing 0, 1, 2, 3 keeps corners 123, 023, 013, 012.'
unfoldable pub quad : ℕ → Corner → Corner → Corner → Corner → List Triangle
quad f c0 c1 c2 c3 =
    cond (cut02 c0 c1 c2 c3)
    (pair (make f false 3 (nook 0 c0) (nook 1 c1) (nook 2 c2)) (make f true 1 (nook 0 c0) (nook 2 c2) (nook 3 c3)))
    (pair (make f false 2 (nook 0 c0) (nook 1 c1) (nook 3 c3)) (make f true 0 (nook 1 c1) (nook 2 c2) (nook 3 c3)))

-- the corners of a face that take slots: 'other faces take no slot and no frame depends on their numbers'
unfoldable pub usable : List Corner → List Corner
usable [] = []
usable (c0 ∷ []) = []
usable (c0 ∷ c1 ∷ []) = []
usable (c0 ∷ c1 ∷ c2 ∷ []) = c0 ∷ c1 ∷ c2 ∷ []
usable (c0 ∷ c1 ∷ c2 ∷ c3 ∷ []) = c0 ∷ c1 ∷ c2 ∷ c3 ∷ []
usable (c0 ∷ c1 ∷ c2 ∷ c3 ∷ c4 ∷ l) = []

-- the triangles of face number f: one of a face of three corners, two of a face of four, none of any other
unfoldable pub pieces : ℕ → List Corner → List Triangle
pieces f [] = []
pieces f (c0 ∷ []) = []
pieces f (c0 ∷ c1 ∷ []) = []
pieces f (c0 ∷ c1 ∷ c2 ∷ []) = make f false 3 (nook 0 c0) (nook 1 c1) (nook 2 c2) ∷ []
pieces f (c0 ∷ c1 ∷ c2 ∷ c3 ∷ []) = quad f c0 c1 c2 c3
pieces f (c0 ∷ c1 ∷ c2 ∷ c3 ∷ c4 ∷ l) = []

-- all triangles, in slot order
unfoldable pub triangles : List Face → List Triangle
triangles [] = []
triangles (f ∷ m) = pieces f.number f.corners ++ triangles m

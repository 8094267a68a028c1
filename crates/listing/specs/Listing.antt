-- What the list of triangles is in columns. Definitions only.
use Rattle.std.specs.Prelude.{ℕ, ◌+◌, ◌*◌, ◌≤◌, ◌≡◌, Bool, cond, List, [], ◌∷◌, ◌++◌, eqb, length, take, Float}
use Rattle.std.specs.Bool.{beq}
use Rattle.table.specs.Columns.{rows_of}
use Rattle.definition.specs.declared.Triangle.{Triangle}
use Rattle.lists.specs.Lists.{keep}
use Rattle.definition.specs.Handed.{handed, Handed, mesh_from, corner_count, slot_count}
use Rattle.definition.specs.Triangles.{triangles}
use Rattle.definition.specs.Step4Order.{sound, broken}
use Rattle.definition.specs.Frames.{triangles_of, numbered}
use Rattle.view.specs.Frame.{Only}
use Rattle.view.specs.Records.{From, Held, record_columns}

-- those that are degenerate, or those that aren't
unfoldable pub pick : Bool → List Triangle → List Triangle
pick want ts = keep (λ t. beq t.degenerate want) ts

-- the triangles of the lists, from face number f on, whose corners start at number i
unfoldable pub rest_from : List Float → List Float → List Float → ℕ → ℕ → List ℕ → List Triangle
rest_from ps ns ts f i sizes = triangles (numbered f (mesh_from ps ns ts i sizes))

-- what a part of the work leaves: the triangles xs added after the first `tris`, r in all
pub record Added (rows : ℕ) (mesh : Handed) (xs : List Triangle) (tris r : ℕ) (w u : List ℕ) : Type 0 where
  pub count : r ≡ tris + length xs
  pub only : Only record_columns rows w u
  pub held : (ys : List Triangle) (d : Triangle) → length ys ≡ tris → Held rows mesh ys d w → Held rows mesh (ys ++ xs) d u

-- what storing one triangle, if the pass asks for it, leaves: it is added, for lists of which it is a triangle
abbrev pub One : ℕ → Bool → ℕ → ℕ → ℕ → ℕ → Triangle → List ℕ → List ℕ → Type 0
One rows want tris r base slot x w u = (mesh : Handed) → base ≡ corner_count (take x.face mesh.sizes) → slot ≡ slot_count (take x.face mesh.sizes) → From mesh.positions mesh.normals mesh.texture base x → Added rows mesh (pick want (x ∷ [])) tris r w u

-- what a face's triangles xs leave: those that the pass asks for are added, for sizes of which it is face number f
pub record Done (rows : ℕ) (want : Bool) (ps ns ts : List Float) (f base slot : ℕ) (xs : List Triangle) (tris r : ℕ) (w u : List ℕ) : Type 0 where
  pub count : r ≡ tris + length (pick want xs)
  pub added : (sizes : List ℕ) → base ≡ corner_count (take f sizes) → slot ≡ slot_count (take f sizes) → Added rows (handed sizes ps ns ts) (pick want xs) tris r w u

-- what the two passes leave, for the triangles xs of all faces: sound ones first, then degenerate ones
pub record Listed (mesh : Handed) (n m : ℕ) (w u : List ℕ) : Type 0 where
  pub sound_count : n ≡ length (sound (triangles_of mesh))
  pub count : m ≡ length (sound (triangles_of mesh) ++ broken (triangles_of mesh))
  pub fits : 3 * length (sound (triangles_of mesh) ++ broken (triangles_of mesh)) ≤ rows_of (length mesh.sizes)
  pub only : Only record_columns (rows_of (length mesh.sizes)) w u
  pub held : (d : Triangle) → Held (rows_of (length mesh.sizes)) mesh (sound (triangles_of mesh) ++ broken (triangles_of mesh)) d u

-- how many triangles a face of size n has
unfoldable pub pieces_of : ℕ → ℕ
pieces_of n = cond (eqb n 3) 1 (cond (eqb n 4) 2 0)

-- how many triangles there are
unfoldable pub piece_count : List ℕ → ℕ
piece_count [] = 0
piece_count (n ∷ sizes) = pieces_of n + piece_count sizes

-- The column of vertices: step 4's welding. Definitions only.
use Rattle.std.specs.Prelude.{ℕ, ◌<◌, ◌≡◌, Bool, true, false, List, eqb, length}
use Rattle.table.specs.Table.{cell}
use Rattle.table.specs.Columns.{vertex_column}
use Rattle.definition.specs.declared.Triangle.{Triangle}
use Rattle.definition.specs.Mesh.{Third, after, corner_of}
use Rattle.definition.specs.Step4Order.{welded}
use Rattle.view.specs.Rows.{row, spot_at, spot_row}

-- v is the first number that passes: what a search finds
pub record First (p : ℕ → Bool) (v : ℕ) : Type 0 where
  pub passes : p v ≡ true
  pub least : (k : ℕ) → k < v → p k ≡ false

-- 'Corners are welded to the first in that list with the same bits in all eight numbers': at the row of each corner of the triangles stands the row of the first corner welded to it
abbrev pub Vertices : ℕ → List Triangle → Triangle → List ℕ → Type 0
Vertices rows xs d w = (t : ℕ) (i : Third) → t < length xs → First (λ k. welded (corner_of (spot_at xs d t i)) (corner_of (spot_row xs d k))) (cell rows vertex_column (row t i) w)

-- what the steps above ask of it: two words are equal exactly where the corners are welded
abbrev pub Welds : ℕ → List Triangle → Triangle → List ℕ → Type 0
Welds rows ss d w = (t u : ℕ) (i j : Third) → t < length ss → u < length ss → eqb (cell rows vertex_column (row t i) w) (cell rows vertex_column (row u j) w) ≡ welded (corner_of (spot_at ss d t i)) (corner_of (spot_at ss d u j))

-- and of the triangles: no side has welded ends, so that three corners of a triangle have three vertices
pub record Sharp (ss : List Triangle) (d : Triangle) : Type 0 where
  pub apart : (t : ℕ) (i : Third) → t < length ss → welded (corner_of (spot_at ss d t i)) (corner_of (spot_at ss d t (after i))) ≡ false

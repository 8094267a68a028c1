-- The columns of contributions: what a corner brings to a sum of step 7. Definitions only.
use Rattle.std.specs.Prelude.{ℕ, ◌<◌, ◌≡◌, List, [], ◌∷◌, length}
use Rattle.bits.specs.Word.{number}
use Rattle.math.specs.declared.Vec3.{Vec3}
use Rattle.tangent.specs.Slot.{vector_of}
use Rattle.table.specs.Table.{cell}
use Rattle.table.specs.Columns.{sx_column, sy_column, sz_column, tx_column, ty_column, tz_column, opening_column}
use Rattle.definition.specs.declared.Triangle.{Triangle}
use Rattle.definition.specs.Mesh.{Third, Spot, corner_of}
use Rattle.definition.specs.Step7Sums.{projected, opening}
use Rattle.view.specs.Rows.{row, spot_at}

-- the vector in the three columns of s, at row r
unfoldable pub s_at : ℕ → ℕ → List ℕ → Vec3
s_at rows r w = vector_of (cell rows sx_column r w) (cell rows sy_column r w) (cell rows sz_column r w)

-- and in those of t
unfoldable pub t_at : ℕ → ℕ → List ℕ → Vec3
t_at rows r w = vector_of (cell rows tx_column r w) (cell rows ty_column r w) (cell rows tz_column r w)

-- row r holds what the corner s brings: both directions of its triangle's tangent, projected with its normal, and its angle
pub record Brings (rows : ℕ) (w : List ℕ) (r : ℕ) (s : Spot) : Type 0 where
  pub along : s_at rows r w ≡ projected (corner_of s).normal s.tri.tangent.s
  pub up : t_at rows r w ≡ projected (corner_of s).normal s.tri.tangent.t
  pub angle : number (cell rows opening_column r w) ≡ opening s

-- the columns hold what each corner of the triangles brings
abbrev pub Contributed : ℕ → List Triangle → Triangle → List ℕ → Type 0
Contributed rows ss d w = (t : ℕ) (i : Third) → t < length ss → Brings rows w (row t i) (spot_at ss d t i)

-- those columns
abbrev pub contribution_columns : List ℕ
contribution_columns = sx_column ∷ sy_column ∷ sz_column ∷ tx_column ∷ ty_column ∷ tz_column ∷ opening_column ∷ []

-- What storing a corner's contribution leaves. Definitions only.
use Rattle.std.specs.Prelude.{ℕ, ◌*◌, ◌<◌, ◌≡◌, false, List, eqb, Float}
use Rattle.bits.specs.Word.{number}
use Rattle.math.specs.declared.Vec3.{Vec3}
use Rattle.tangent.specs.declared.RawTangentSpace.{RawTangentSpace}
use Rattle.table.specs.Table.{cell}
use Rattle.table.specs.Columns.{opening_column}
use Rattle.definition.specs.declared.Triangle.{Triangle}
use Rattle.definition.specs.Handed.{vector_at}
use Rattle.definition.specs.Mesh.{Third}
use Rattle.definition.specs.Step7Sums.{projected}
use Rattle.sums.specs.Sums.{opening_at}
use Rattle.view.specs.Frame.{Only}
use Rattle.view.specs.Rows.{row}
use Rattle.view.specs.Records.{Reads}
use Rattle.view.specs.Contributions.{s_at, t_at, Brings, contribution_columns}

-- row k has what it had
pub record Same (rows k : ℕ) (w u : List ℕ) : Type 0 where
  pub along : s_at rows k u ≡ s_at rows k w
  pub up : t_at rows k u ≡ t_at rows k w
  pub angle : cell rows opening_column k u ≡ cell rows opening_column k w

-- the two directions and the angle stand in row r, the other rows of their columns have what they had, and so have the other columns
pub record Stored (rows r : ℕ) (s t : Vec3) (a : Float) (w u : List ℕ) : Type 0 where
  pub along : s_at rows r u ≡ s
  pub up : t_at rows r u ≡ t
  pub angle : number (cell rows opening_column r u) ≡ a
  pub others : (k : ℕ) → k < rows → eqb r k ≡ false → Same rows k w u
  pub only : Only contribution_columns rows w u

-- what the corner at row r brings, of a triangle with the tangent g, with its neighbours at rows q and p, by the numbers in column k
abbrev pub Brought : ℕ → ℕ → List Float → List Float → RawTangentSpace → ℕ → ℕ → ℕ → List ℕ → List ℕ → Type 0
Brought rows k ps ns g r q p w u =
    let n = vector_at ns (cell rows k r w) in
    Stored rows r (projected n g.s) (projected n g.t) (opening_at n (vector_at ps (cell rows k r w)) (vector_at ps (cell rows k q w)) (vector_at ps (cell rows k p w))) w u

-- the three corners of triangle t bring what they should, where the columns tell of it; the rows before them have what they had
pub record Turn (rows k : ℕ) (ps ns : List Float) (t : ℕ) (w u : List ℕ) : Type 0 where
  pub brings : (x : Triangle) → Reads rows k ps ns w t x → (i : Third) → Brings rows u (row t i) (record { tri = x; at = i })
  pub before : (k : ℕ) → k < 3 * t → Same rows k w u
  pub only : Only contribution_columns rows w u

-- The tags of the corners in the column TAG. Definitions only.
use Rattle.std.specs.Prelude.{ℕ, ◌<◌, ◌≡◌, List, eqb, length}
use Rattle.table.specs.Table.{cell}
use Rattle.table.specs.Columns.{tag_column}
use Rattle.definition.specs.declared.Triangle.{Triangle}
use Rattle.definition.specs.Mesh.{Third, corner_of}
use Rattle.definition.specs.Step4Order.{welded}
use Rattle.view.specs.Rows.{row, spot_at}

-- at the row of each corner of the triangles ss stands its tag, and two of these are equal exactly where the corners are welded
pub record Tagged (rows : ℕ) (ss : List Triangle) (d : Triangle) (w : List ℕ) : Type 0 where
  pub tags : (t : ℕ) (i : Third) → t < length ss → cell rows tag_column (row t i) w ≡ (corner_of (spot_at ss d t i)).tag
  pub alone : (t u : ℕ) (i j : Third) → t < length ss → u < length ss → eqb (corner_of (spot_at ss d t i)).tag (corner_of (spot_at ss d u j)).tag ≡ welded (corner_of (spot_at ss d t i)) (corner_of (spot_at ss d u j))

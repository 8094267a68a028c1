-- What steps 1 to 5 of the old edition leave. Definitions only.
use Rattle.std.specs.Prelude.{ℕ, ◌*◌, ◌≤◌, ◌<◌, ◌≡◌, List, ◌++◌, length, get_or}
use Rattle.std.proofs.Math.Option.{none}
use Rattle.tangent.specs.Slot.{flag}
use Rattle.table.specs.Table.{cell}
use Rattle.table.specs.Columns.{rows_of, link_column, orientation_column}
use Rattle.definition.specs.declared.Triangle.{Triangle}
use Rattle.definition.specs.Handed.{Handed}
use Rattle.definition.specs.Desk.{not_finite}
use Rattle.definition.specs.Frames.{triangles_of}
use Rattle.definition.specs.Step4Order.{sound, broken}
use Rattle.definition.specs.Step5Old.{old_links}
use Rattle.view.specs.Frame.{Only}
use Rattle.view.specs.Records.{record_columns}
use Rattle.view.specs.Links.{Linked}
use Rattle.merge.specs.Rows.{merge_columns}
use Rattle.merge.specs.Names.{name_columns}
use Rattle.neighbors.specs.Sides.{step_columns}
use Rattle.legacy.specs.Four.{sound_left, Four}

-- the columns that step 4 writes
abbrev pub four_columns : List ℕ
four_columns = merge_columns ++ name_columns

-- the columns that steps 1 to 5 write
abbrev pub old_linked_columns : List ℕ
old_linked_columns = record_columns ++ (four_columns ++ step_columns)

-- what step 4 left, the orientations of the sound triangles, and their links
pub record OldFive (rows : ℕ) (mesh : Handed) (d : Triangle) (u : List ℕ) : Type 0 where
  pub four : Four rows mesh d u
  pub way : (t : ℕ) → t < length (sound_left mesh) → cell rows orientation_column t u ≡ flag (get_or (sound_left mesh) t d).orientation
  pub linked : Linked rows (sound_left mesh) d (old_links (sound_left mesh)) u

-- n sound triangles and m in all, in columns from the list w to u; what they stand for, where refusal 4 does not catch the lists
pub record LeftByOldFive (mesh : Handed) (n m : ℕ) (w u : List ℕ) : Type 0 where
  pub sound_count : n ≡ length (sound (triangles_of mesh))
  pub count : m ≡ length (sound (triangles_of mesh) ++ broken (triangles_of mesh))
  pub fits : 3 * length (sound (triangles_of mesh) ++ broken (triangles_of mesh)) ≤ rows_of (length mesh.sizes)
  pub only : Only old_linked_columns (rows_of (length mesh.sizes)) w u
  pub range : (r : ℕ) → r < 3 * n → cell (rows_of (length mesh.sizes)) link_column r u ≤ 3 * n
  pub stands : not_finite mesh ≡ none → (d : Triangle) → OldFive (rows_of (length mesh.sizes)) mesh d u

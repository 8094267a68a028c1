-- What steps 1 to 5 leave. Definitions only.
use Rattle.std.specs.Prelude.{ℕ, ◌*◌, ◌≤◌, ◌<◌, ◌≡◌, List, ◌++◌, length}
use Rattle.std.proofs.Math.Option.{none}
use Rattle.table.specs.Table.{cell}
use Rattle.table.specs.Columns.{rows_of, link_column}
use Rattle.definition.specs.Frames.{triangles_of}
use Rattle.definition.specs.declared.Triangle.{Triangle}
use Rattle.definition.specs.Handed.{Handed}
use Rattle.definition.specs.Desk.{not_finite}
use Rattle.definition.specs.Step4Order.{sound, broken}
use Rattle.view.specs.Frame.{Only}
use Rattle.view.specs.Records.{record_columns}
use Rattle.view.specs.Links.{Five}
use Rattle.weld.specs.Welding.{weld_columns}
use Rattle.neighbors.specs.Sides.{step_columns}

-- the columns that steps 1 to 5 write
abbrev pub linked_columns : List ℕ
linked_columns = record_columns ++ (weld_columns ++ step_columns)

-- n sound triangles and m in all, in columns from the list w to u; what they stand for, where refusal 4 does not catch the lists
pub record LeftByFive (mesh : Handed) (n m : ℕ) (w u : List ℕ) : Type 0 where
  pub sound_count : n ≡ length (sound (triangles_of mesh))
  pub count : m ≡ length (sound (triangles_of mesh) ++ broken (triangles_of mesh))
  pub fits : 3 * length (sound (triangles_of mesh) ++ broken (triangles_of mesh)) ≤ rows_of (length mesh.sizes)
  pub only : Only linked_columns (rows_of (length mesh.sizes)) w u
  pub range : (r : ℕ) → r < 3 * n → cell (rows_of (length mesh.sizes)) link_column r u ≤ 3 * n
  pub stands : not_finite mesh ≡ none → (d : Triangle) → Five (rows_of (length mesh.sizes)) mesh (triangles_of mesh) d u

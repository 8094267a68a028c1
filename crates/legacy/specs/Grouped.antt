-- What steps 1 to 6 of the old edition leave. Definitions only.
use Rattle.std.specs.Prelude.{ℕ, ◌*◌, ◌≤◌, ◌≡◌, List, ◌++◌, length}
use Rattle.std.proofs.Math.Option.{none}
use Rattle.table.specs.Columns.{rows_of}
use Rattle.definition.specs.declared.Triangle.{Triangle}
use Rattle.definition.specs.Handed.{Handed}
use Rattle.definition.specs.Desk.{not_finite}
use Rattle.definition.specs.Frames.{triangles_of}
use Rattle.definition.specs.Step4Order.{sound, broken}
use Rattle.definition.specs.Step5Old.{old_links}
use Rattle.definition.specs.Step6Groups.{marks}
use Rattle.view.specs.Frame.{Only}
use Rattle.view.specs.Groups.{Grouping, InOrder}
use Rattle.grouped.specs.Grouped.{grouped_columns}
use Rattle.grouped.specs.declared.MeshCounts.{MeshCounts}
use Rattle.legacy.specs.Four.{sound_left, Four}
use Rattle.legacy.specs.Links.{old_linked_columns}

-- the columns that all six steps write; NEXT, column 20, is none of step 6's
abbrev pub old_columns : List ℕ
old_columns = old_linked_columns ++ grouped_columns

-- what step 4 left, and the groups of the sound triangles
pub record OldSix (rows : ℕ) (mesh : Handed) (d : Triangle) (c : MeshCounts) (u : List ℕ) : Type 0 where
  pub four : Four rows mesh d u
  pub members : c.members ≡ length (marks (sound_left mesh) (old_links (sound_left mesh)))
  pub grouping : Grouping rows (sound_left mesh) d (marks (sound_left mesh) (old_links (sound_left mesh))) c.groups u
  pub in_order : InOrder rows (sound_left mesh) c.groups c.members u

-- the counts, which fit into the rows, what is altered from the list w to u, and what the columns stand for, where refusal 4 does not catch the lists
pub record LeftByOldSix (mesh : Handed) (c : MeshCounts) (w u : List ℕ) : Type 0 where
  pub sound_count : c.sound ≡ length (sound (triangles_of mesh))
  pub count : c.all ≡ length (sound (triangles_of mesh) ++ broken (triangles_of mesh))
  pub fits : 3 * length (sound (triangles_of mesh) ++ broken (triangles_of mesh)) ≤ rows_of (length mesh.sizes)
  pub few : c.groups ≤ rows_of (length mesh.sizes)
  pub small : c.members ≤ rows_of (length mesh.sizes)
  pub only : Only old_columns (rows_of (length mesh.sizes)) w u
  pub stands : not_finite mesh ≡ none → (d : Triangle) → OldSix (rows_of (length mesh.sizes)) mesh d c u

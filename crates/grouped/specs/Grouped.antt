-- What steps 1 to 6 leave. Definitions only.
use Rattle.std.specs.Prelude.{ℕ, ◌*◌, ◌≤◌, ◌<◌, ◌≡◌, List, ◌++◌, length}
use Rattle.std.proofs.Math.Option.{none}
use Rattle.table.specs.Table.{cell}
use Rattle.table.specs.Columns.{rows_of, orientation_column}
use Rattle.definition.specs.Frames.{triangles_of}
use Rattle.definition.specs.declared.Triangle.{Triangle}
use Rattle.definition.specs.Handed.{Handed}
use Rattle.definition.specs.Desk.{not_finite}
use Rattle.definition.specs.Step4Order.{sound, broken}
use Rattle.definition.specs.Step5Links.{Link, links}
use Rattle.definition.specs.Step6Groups.{marks}
use Rattle.definition.specs.Names.{Names}
use Rattle.laws.proofs.Closed.{Between}
use Rattle.view.specs.Frame.{Only}
use Rattle.view.specs.Weld.{Sharp}
use Rattle.view.specs.Links.{Five}
use Rattle.view.specs.Groups.{Grouping, InOrder}
use Rattle.grouped.specs.Links.{linked_columns}
use Rattle.groups.specs.Walk.{walk_columns}
use Rattle.groups.specs.Marks.{Asked}
use Rattle.members.specs.Members.{order_columns}
use Rattle.grouped.specs.declared.MeshCounts.{MeshCounts}

-- the columns that step 6 and the sorting of its members write
abbrev pub grouped_columns : List ℕ
grouped_columns = walk_columns ++ order_columns

-- the columns that all six steps write
abbrev pub six_columns : List ℕ
six_columns = linked_columns ++ grouped_columns

-- what step 6 leaves of the sound triangles ss and the links ls, in columns from the list w to u
pub record Grouped (rows : ℕ) (ss : List Triangle) (d : Triangle) (ls : List Link) (c : MeshCounts) (w u : List ℕ) : Type 0 where
  pub members : c.members ≡ length (marks ss ls)
  pub grouping : Grouping rows ss d (marks ss ls) c.groups u
  -- the orientations of the triangles past them stand
  pub rest : (t : ℕ) → length ss ≤ t → t < rows → cell rows orientation_column t u ≡ cell rows orientation_column t w
  pub in_order : InOrder rows ss c.groups c.members u

-- of n sound triangles and m in all, whatever they are: the counts, which fit into the rows, what is altered, and the groups
pub record SidesGrouped (rows n m : ℕ) (c : MeshCounts) (w u : List ℕ) : Type 0 where
  pub sound_is : c.sound ≡ n
  pub all_is : c.all ≡ m
  pub few : c.groups ≤ rows
  pub small : c.members ≤ rows
  pub only : Only grouped_columns rows w u
  pub groups : (ss : List Triangle) (d : Triangle) (ls : List Link) → Between ss ls → length ss ≡ n → Names ss → Sharp ss d → Asked rows ss d ls w → Grouped rows ss d ls c w u

-- what the columns stand for, for the triangles xs of all faces: there is a list, the one after step 5, with the triangles, vertices and links, which differs only in step 6's columns, and those have the groups
pub record Six (rows : ℕ) (mesh : Handed) (xs : List Triangle) (d : Triangle) (c : MeshCounts) (u : List ℕ) : Type 0 where
  pub linked : List ℕ
  pub five : Five rows mesh xs d linked
  pub only : Only grouped_columns rows linked u
  pub members : c.members ≡ length (marks (sound xs) (links (sound xs)))
  pub grouping : Grouping rows (sound xs) d (marks (sound xs) (links (sound xs))) c.groups u
  -- the orientations of degenerate triangles stand
  pub rest : (t : ℕ) → length (sound xs) ≤ t → t < rows → cell rows orientation_column t u ≡ cell rows orientation_column t linked
  pub in_order : InOrder rows (sound xs) c.groups c.members u

-- the counts, which fit into the rows, what is altered from the list w to u, and what the columns stand for, where refusal 4 does not catch the lists
pub record LeftBySix (mesh : Handed) (c : MeshCounts) (w u : List ℕ) : Type 0 where
  pub sound_count : c.sound ≡ length (sound (triangles_of mesh))
  pub count : c.all ≡ length (sound (triangles_of mesh) ++ broken (triangles_of mesh))
  pub fits : 3 * length (sound (triangles_of mesh) ++ broken (triangles_of mesh)) ≤ rows_of (length mesh.sizes)
  pub few : c.groups ≤ rows_of (length mesh.sizes)
  pub small : c.members ≤ rows_of (length mesh.sizes)
  pub only : Only six_columns (rows_of (length mesh.sizes)) w u
  pub stands : not_finite mesh ≡ none → (d : Triangle) → Six (rows_of (length mesh.sizes)) mesh (triangles_of mesh) d c u

-- Steps 7 to 9 for either edition: what they ask of steps 1 to 6, and what they leave. Definitions only.
use Rattle.std.specs.Prelude.{ℕ, ◌<◌, ◌≡◌, List, [], ◌∷◌, ◌++◌, length, get_or, Float}
use Rattle.tangent.specs.declared.Reading.TheVariants.{Absent}
use Rattle.table.specs.Columns.{joined_column}
use Rattle.definition.specs.declared.Kept.{Kept}
use Rattle.definition.specs.declared.Triangle.{Triangle}
use Rattle.definition.specs.Handed.{Handed, handed, mesh_of}
use Rattle.definition.specs.Names.{Names}
use Rattle.definition.specs.Frames.{triangles_of}
use Rattle.definition.specs.Step4Order.{sound, broken}
use Rattle.definition.specs.Step5Links.{Link}
use Rattle.definition.specs.Step6Groups.{marks}
use Rattle.definition.specs.Step7Sums.{brought_all}
use Rattle.laws.proofs.Closed.{Between}
use Rattle.view.specs.Frame.{Only}
use Rattle.view.specs.Records.{Tells, Corners, Reads}
use Rattle.view.specs.Weld.{Vertices, Sharp}
use Rattle.view.specs.Groups.{Grouping, InOrder}
use Rattle.view.specs.Contributions.{contribution_columns}
use Rattle.view.specs.Answer.{Shows, Slotted, final_seen}
use Rattle.grouped.specs.declared.MeshCounts.{MeshCounts}
use Rattle.copies.specs.Copies.{Left}

-- What steps 1 to 6 left of a mesh: its own triangles in the columns; the sound ones us and the degenerate ones vs as step 4 left them, each corner seen so; the links ls of step 5, and the groups over them. The numbers of the corners of us stand in column k.
pub record Ready (rows k : ℕ) (mesh : Handed) (c : MeshCounts) (us vs : List Triangle) (see : ℕ → Kept → Kept) (ls : List Link) (d : Triangle) (w : List ℕ) : Type 0 where
  pub sound_count : length (sound (triangles_of mesh)) ≡ c.sound
  pub count : length (sound (triangles_of mesh) ++ broken (triangles_of mesh)) ≡ c.all
  pub own : Tells rows mesh (sound (triangles_of mesh) ++ broken (triangles_of mesh)) d w
  pub corners : Corners rows mesh (sound (triangles_of mesh) ++ broken (triangles_of mesh)) d w
  pub left : Left mesh d us vs see
  pub vertices : Vertices rows (us ++ vs) d w
  pub tells : Tells rows mesh us d w
  pub reads : (t : ℕ) → t < length us → Reads rows k mesh.positions mesh.normals w t (get_or us t d)
  pub slotted : (t : ℕ) → t < length us → Slotted mesh.sizes (get_or us t d)
  pub between : Between us ls
  pub names : Names us
  pub sharp : Sharp us d
  pub members : c.members ≡ length (marks us ls)
  pub grouping : Grouping rows us d (marks us ls) c.groups w
  pub in_order : InOrder rows us c.groups c.members w

-- the columns that steps 7 to 9 write
abbrev pub last_columns : List ℕ
last_columns = contribution_columns ++ (joined_column ∷ [])

-- What they leave, from the work list w to z and the answer list a to u: where steps 1 to 6 left that, and the answer list showed absent slots, it shows the final readings.
pub record Finished (rows k : ℕ) (c : MeshCounts) (ps ns : List Float) (h : Float) (w z a u : List ℕ) : Type 0 where
  pub final : (sizes : List ℕ) (ts : List Float) (us vs : List Triangle) (see : ℕ → Kept → Kept) (ls : List Link) (d : Triangle) (a₀ : List ℕ)
      → Ready rows k (handed sizes ps ns ts) c us vs see ls d w
      → Shows sizes (λ f i. Absent) a₀ a
      → Shows sizes (final_seen see (brought_all h us (marks us ls)) us (mesh_of (handed sizes ps ns ts))) a₀ u
  pub only : Only last_columns rows w z

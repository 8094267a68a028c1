-- What the columns stand for after step 4 of the old edition. Definitions only.
use Rattle.std.specs.Prelude.{ℕ, ◌<◌, List, ◌++◌, length, get_or}
use Rattle.table.specs.Columns.{next_column}
use Rattle.definition.specs.declared.Triangle.{Triangle}
use Rattle.definition.specs.Handed.{Handed}
use Rattle.definition.specs.Names.{Names}
use Rattle.definition.specs.Frames.{triangles_of}
use Rattle.definition.specs.FramesOld.{seen}
use Rattle.definition.specs.Step4Order.{sound, broken, spots}
use Rattle.definition.specs.Step4Old.{merged}
use Rattle.view.specs.Records.{Tells, Corners, Reads}
use Rattle.view.specs.Weld.{Vertices, Sharp}
use Rattle.copies.specs.Copies.{Left}

-- the triangles as step 4 leaves them: all, the sound ones, the degenerate ones
abbrev pub all_left : Handed → List Triangle
all_left mesh = merged (sound (triangles_of mesh)) (broken (triangles_of mesh))

abbrev pub sound_left : Handed → List Triangle
sound_left mesh = sound (all_left mesh)

abbrev pub broken_left : Handed → List Triangle
broken_left mesh = broken (all_left mesh)

-- what stands of the mesh's own triangles, sound ones first, and of those that are left: their vertices; no two sound ones of one name, and no side with welded ends; positions and normals by the corner numbers in column NEXT; and what each corner of a face is seen as
pub record Four (rows : ℕ) (mesh : Handed) (d : Triangle) (w : List ℕ) : Type 0 where
  pub tells : Tells rows mesh (sound (triangles_of mesh) ++ broken (triangles_of mesh)) d w
  pub corners : Corners rows mesh (sound (triangles_of mesh) ++ broken (triangles_of mesh)) d w
  pub vertices : Vertices rows (sound_left mesh ++ broken_left mesh) d w
  pub names : Names (sound_left mesh)
  pub sharp : Sharp (sound_left mesh) d
  pub told : Tells rows mesh (sound_left mesh) d w
  pub reads : (t : ℕ) → t < length (sound_left mesh) → Reads rows next_column mesh.positions mesh.normals w t (get_or (sound_left mesh) t d)
  pub left : Left mesh d (sound_left mesh) (broken_left mesh) (seen (spots (all_left mesh)))

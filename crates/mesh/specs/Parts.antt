-- A face's corner as one number, and the part of a list that belongs to a face. Definitions only.
use Rattle.std.specs.Prelude.{ℕ, ◌*◌, ◌/◌, ◌%◌, ◌≤◌, ◌≡◌, Bool, cond, ◌||◌, List, [], eqb, leb, ltb, length, get_or, take, drop, Float}
use Rattle.definition.specs.Handed.{Handed, handed, corner_count}
use Rattle.definition.specs.Limits.{face_limit}
use Rattle.definition.specs.Desk.{too_many, misfit}
use Rattle.mesh.specs.declared.Mesh.{Mesh}
use Rattle.mesh.specs.declared.Span.{Span}

-- the mesh that was handed in
abbrev pub given : Mesh → Handed
given m = handed m.sizes.now m.positions.now m.normals.now m.texture.now

-- of 'face times 4 plus corner, one number': the face
abbrev pub face_of : ℕ → ℕ
face_of n = n / 4

-- and the corner
abbrev pub vertex_in : ℕ → ℕ
vertex_in n = n % 4

-- the part of a list, `width` numbers a corner, where the numbers of face number f stand
unfoldable pub part_of : ℕ → List Float → List ℕ → ℕ → List Float
part_of width xs sizes f = take (width * get_or sizes f 0) (drop (width * corner_count (take f sizes)) xs)

-- 'a face number of F or above .. get[s] the empty part'
unfoldable pub part_or_none : ℕ → List Float → List ℕ → ℕ → List Float
part_or_none width xs sizes f = cond (leb (length sizes) f) [] (part_of width xs sizes f)

-- lists that fit each other
pub record Fits (mesh : Handed) : Type 0 where
  pub few : length mesh.sizes ≤ face_limit
  pub positions : length mesh.positions ≡ 3 * corner_count mesh.sizes
  pub normals : length mesh.normals ≡ 3 * corner_count mesh.sizes
  pub texture : length mesh.texture ≡ 2 * corner_count mesh.sizes

-- 'lists that 1 or 2 below would catch'
unfoldable pub caught : Handed → Bool
caught mesh = too_many mesh.sizes || misfit mesh

-- 'a face number of F or above, or lists that 1 or 2 below would catch, get the empty part'
unfoldable pub handed_back : ℕ → List Float → Handed → ℕ → List Float
handed_back width xs mesh f = cond (caught mesh) [] (part_or_none width xs mesh.sizes f)

-- how many numbers a corner has in a list: 0 stands for positions, 1 for normals, 2 for texture coordinates, and another number for no list
unfoldable pub width_of : ℕ → ℕ
width_of list = cond (ltb list 2) 3 (cond (eqb list 2) 2 0)

-- a part of no numbers
abbrev pub nowhere : Span
nowhere = record { from = 0; count = 0 }

-- where the part stands: behind the numbers of the corners before the face, and so many numbers as its corners have
unfoldable pub span_of : Handed → ℕ → ℕ → Span
span_of mesh list f =
    cond (caught mesh || leb (length mesh.sizes) f) nowhere
    (record { from = width_of list * corner_count (take f mesh.sizes); count = width_of list * get_or mesh.sizes f 0 })

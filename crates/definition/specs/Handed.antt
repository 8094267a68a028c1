-- Document 01, 'What is handed in and what comes back': the lists handed in, as a mesh. Definitions only.
use Rattle.std.specs.Prelude.{ℕ, zero, suc, ◌+◌, ◌*◌, Bool, cond, ◌||◌, List, [], ◌∷◌, eqb, get_or, Float}
use Rattle.std.specs.Float.{nan}
use Rattle.math.specs.declared.Vec3.{Vec3}
use Rattle.math.specs.Vector.{vec}
use Rattle.definition.specs.declared.Corner.{Corner}

-- a mesh as it is handed in: 'face sizes .., positions and normals (three single-precision numbers a corner), texture coordinates (two)'
pub record Handed : Type 0 where
  pub sizes : List ℕ
  pub positions : List Float
  pub normals : List Float
  pub texture : List Float

-- these lists as a mesh
abbrev pub handed : List ℕ → List Float → List Float → List Float → Handed
handed sizes ps ns ts = record { sizes = sizes; positions = ps; normals = ns; texture = ts }

-- a call: a mesh, a threshold, and the answer list and the work list that are lent
pub record Call : Type 0 where
  pub mesh : Handed
  pub threshold : Float
  pub answer : List ℕ
  pub work : List ℕ

-- a call of these
abbrev pub call : Handed → Float → List ℕ → List ℕ → Call
call mesh h answer work = record { mesh = mesh; threshold = h; answer = answer; work = work }

-- the three numbers of corner number i, of positions or normals. (Past a list's end there is a NaN; such lists are refused.)
unfoldable pub vector_at : List Float → ℕ → Vec3
vector_at xs i = vec (get_or xs (i * 3) nan) (get_or xs (i * 3 + 1) nan) (get_or xs (i * 3 + 2) nan)

-- corner number i: 'positions and normals (three single-precision numbers a corner), texture coordinates (two)'
unfoldable pub corner_at : List Float → List Float → List Float → ℕ → Corner
corner_at ps ns ts i =
    record {
      place = vector_at ps i;
      normal = vector_at ns i;
      u = get_or ts (i * 2) nan;
      v = get_or ts (i * 2 + 1) nan;
      tag = 0;
    }

-- n corners from number i on
unfoldable pub corners_from : List Float → List Float → List Float → ℕ → ℕ → List Corner
corners_from ps ns ts i zero = []
corners_from ps ns ts i (suc n) = corner_at ps ns ts i ∷ corners_from ps ns ts (suc i) n

-- 'Corners stand in face order and a face of size n has n of them': the faces of these sizes, from corner number i on
unfoldable pub mesh_from : List Float → List Float → List Float → ℕ → List ℕ → List (List Corner)
mesh_from ps ns ts i [] = []
mesh_from ps ns ts i (n ∷ sizes) = corners_from ps ns ts i n ∷ mesh_from ps ns ts (i + n) sizes

-- the faces of a mesh
abbrev pub mesh_of : Handed → List (List Corner)
mesh_of mesh = mesh_from mesh.positions mesh.normals mesh.texture 0 mesh.sizes

-- the sizes that take slots: 3 and 4
unfoldable pub used : ℕ → Bool
used n = eqb n 3 || eqb n 4

-- the slots of a face of size n: n where n is 3 or 4, and none else
unfoldable pub slots_of : ℕ → ℕ
slots_of n = cond (used n) n 0

-- 'C is the sum of all sizes'
unfoldable pub corner_count : List ℕ → ℕ
corner_count [] = 0
corner_count (n ∷ sizes) = n + corner_count sizes

-- 'S, the number of slots, is the sum of the sizes that are 3 or 4'
unfoldable pub slot_count : List ℕ → ℕ
slot_count [] = 0
slot_count (n ∷ sizes) = slots_of n + slot_count sizes

-- One island's faces in lists of their own. Definitions only.
use Rattle.std.specs.Prelude.{ℕ, ◌+◌, ◌*◌, ◌≤◌, ◌<◌, ◌≡◌, Bool, List, length, get_or, take, drop, Float}
use Rattle.std.specs.Float.{nan}
use Rattle.definition.specs.declared.Corner.{Corner}
use Rattle.definition.specs.Handed.{mesh_of, Handed, mesh_from, corner_count}
use Rattle.islands.specs.Together.{picked}
use Rattle.apart.specs.Call.{number_entries}
use Rattle.apart.specs.Lists.{Past}

-- from corner b of the last three lists there stand the numbers of n corners that stand from corner a in the first three
pub record Alike (ps ns ts xs ys zs : List Float) (a b n : ℕ) : Type 0 where
  pub positions : (j : ℕ) → j < 3 * n → get_or xs (3 * b + j) nan ≡ get_or ps (3 * a + j) nan
  pub normals : (j : ℕ) → j < 3 * n → get_or ys (3 * b + j) nan ≡ get_or ns (3 * a + j) nan
  pub texture : (j : ℕ) → j < 2 * n → get_or zs (2 * b + j) nan ≡ get_or ts (2 * a + j) nan

-- the parts of the list of an island's numbers, for a mesh of n faces: positions stand first, then normals, then texture coordinates
abbrev pub normals_in : ℕ → List Float → List Float
normals_in n xs = drop (12 * n) xs

abbrev pub texture_in : ℕ → List Float → List Float
texture_in n xs = drop (24 * n) xs

-- faces of these sizes, their corners' numbers in one list
abbrev pub mesh_in : ℕ → List Float → List ℕ → List (List Corner)
mesh_in n xs sizes = mesh_from xs (normals_in n xs) (texture_in n xs) 0 sizes

-- u becomes v: the z corners from number `base` on are copied, behind c others
pub record Laid (ps ns ts : List Float) (n base c z : ℕ) (u v : List Float) : Type 0 where
  pub comes : Alike ps ns ts v (normals_in n v) (texture_in n v) base c z
  pub stays : Alike u (normals_in n u) (texture_in n u) v (normals_in n v) (texture_in n v) 0 0 c
  pub past : Past nan (number_entries * n) u v

-- of the first f faces of a mesh those that pass q are gathered: k of them, with c corners, in the lists ss and xs
pub record Gathered (q : ℕ → Bool) (mesh : Handed) (f k c : ℕ) (ss : List ℕ) (xs : List Float) : Type 0 where
  pub few : k ≤ f
  pub low : c ≤ 4 * k
  pub corners : c ≡ corner_count (take k ss)
  pub faces : mesh_in (length mesh.sizes) xs (take k ss) ≡ picked q 0 (take f (mesh_of mesh))

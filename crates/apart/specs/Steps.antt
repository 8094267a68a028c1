-- What one step leaves for the next: before the first island, for the base, and after an island. Definitions only.
use Rattle.std.specs.Prelude.{ℕ, ◌*◌, ◌≤◌, ◌<◌, ◌≡◌, false, not, List, length, get_or, take, Float}
use Rattle.std.proofs.Math.Option.{none}
use Rattle.std.specs.Float.{nan}
use Rattle.mesh.specs.Parts.{Fits}
use Rattle.bits.specs.Word.{is_finite}
use Rattle.tangent.specs.Slot.{slot_words}
use Rattle.definition.specs.Limits.{face_limit, work_words}
use Rattle.definition.specs.Handed.{handed, mesh_of, Handed, corner_count, slot_count}
use Rattle.definition.specs.Desk.{shown, not_finite, no_normal, verdict}
use Rattle.islands.specs.Islands.{island_of}
use Rattle.apart.specs.Call.{number_entries}
use Rattle.apart.specs.Lists.{Past}
use Rattle.apart.specs.Order.{among, Linked, Begun}
use Rattle.apart.specs.Gather.{normals_in, texture_in}
use Rattle.apart.specs.Scatter.{words_for, Put, Placed}

-- the order of their faces
pub record Ready (mesh : Handed) (order : List ℕ) : Type 0 where
  pub fits : Fits mesh
  pub long : 4 * length mesh.sizes ≤ length order
  pub linked : Linked (length mesh.sizes) (island_of (mesh_of mesh)) 0 order
  pub begun : Begun mesh.sizes (length mesh.sizes) order

-- no number is a NaN or infinity, and every corner has a normal
pub record Good (mesh : Handed) (h : Float) : Type 0 where
  pub threshold : not (is_finite h) ≡ false
  pub corners : not_finite mesh ≡ none
  pub normals : no_normal mesh ≡ none

-- the base accepts k faces with c corners, whose sizes and numbers are the first in these lists, for a mesh of n faces
pub record Fit (n k c : ℕ) (h : Float) (ss : List ℕ) (xs : List Float) (frames work : List ℕ) : Type 0 where
  pub few : n ≤ face_limit
  pub low : c ≤ 4 * n
  pub faces : k ≤ length ss
  pub long : number_entries * n ≤ length xs
  pub corners : c ≡ corner_count (take k ss)
  pub accepted : verdict (shown (handed (take k ss) (take (3 * c) xs) (take (3 * c) (normals_in n xs)) (take (2 * c) (texture_in n xs))) h (length frames) (length work)) ≡ none

-- the lists that are lent are long enough for the mesh, and the work list is cleared
pub record Room (sizes a w ss : List ℕ) (xs : List Float) (fs : List ℕ) : Type 0 where
  pub answer : slot_words * slot_count sizes ≤ length a
  pub work : work_words * length sizes ≤ length w
  pub blank : (x : ℕ) → x < work_words * length sizes → get_or w x 0 ≡ 0
  pub faces : length sizes ≤ length ss
  pub numbers : number_entries * length sizes ≤ length xs
  pub frames : slot_words * (4 * length sizes) ≤ length fs

-- the lists of its own are as they were but for their first entries, which islands stood in
pub record Kept (n : ℕ) (ss ss' : List ℕ) (xs xs' : List Float) (fs fs' : List ℕ) : Type 0 where
  pub sizes : Past 0 n ss ss'
  pub numbers : Past nan (number_entries * n) xs xs'
  pub frames : Past 0 (slot_words * (4 * n)) fs fs'

-- island t is done: a becomes b
abbrev pub Done : Handed → Float → ℕ → List ℕ → List ℕ → Type 0
Done mesh h t a b = let m = mesh_of mesh in Put (among (island_of m) t) mesh.sizes (words_for h m) (length mesh.sizes) a b

-- the islands below t are done: a becomes b
abbrev pub DoneBelow : Handed → Float → ℕ → List ℕ → List ℕ → Type 0
DoneBelow mesh h t a b = let m = mesh_of mesh in Placed mesh.sizes (words_for h m) (island_of m) t a b

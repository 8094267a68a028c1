-- The examination of groups and orientations. rows of the columns, n sound triangles, w the work list, L, G, O the words handed in. Definitions only.
use Rattle.std.specs.Prelude.{ℕ, ◌-◌, ◌/◌, ◌≡◌, List, ◌∷◌}
use Rattle.table.specs.Table.{cell}
use Rattle.table.specs.Columns.{orientation_column, any_column, vertex_column, head_column, next_column}
use Rattle.neighbors.specs.Sides.{end_row}
use Rattle.asked.specs.Lowest.{Stage}
use Rattle.asked.specs.Links.{Equal}
use Rattle.asked.specs.Groups.{group_word, way_word, Together, Connected}
use Rattle.asked.specs.Objections.{Applies}
use Rattle.firsts.specs.Firsts.{first_columns}
use Rattle.fellows.specs.declared.Shared.{Shared}
use Rattle.fellows.specs.declared.Shared.TheVariants.{Vertex, Way}

-- what the members of a group must share: the vertex of the corner at row r, or the orientation of its triangle
abbrev pub shared : ℕ → List ℕ → List ℕ → Shared → ℕ → ℕ
shared rows w O Vertex r = cell rows vertex_column r w
shared rows w O Way r = way_word O r

-- the corner at row r is in a group, and has another value than the first of that group
pub record UnlikeFirst (rows : ℕ) (w G O : List ℕ) (share : Shared) (r : ℕ) : Type 0 where
  pub some : group_word G r ≡ 0 → ⊥
  pub differs : shared rows w O share (cell rows head_column r w - 1) ≡ shared rows w O share r → ⊥

-- neither triangle is `group_with_any`, and they have one orientation
pub record FirmPair (any : ℕ → ℕ) (O : List ℕ) (r q : ℕ) : Type 0 where
  pub near : any (r / 3) ≡ 0
  pub far : any (q / 3) ≡ 0
  pub same : way_word O r ≡ way_word O q

-- each end of the linked sides r and q is in one group
abbrev pub EndsTogether : List ℕ → ℕ → ℕ → Type 0
EndsTogether G r q = Together G r (end_row q) × Together G (end_row r) q

-- the objections, by what the columns hold
abbrev pub applies_here : ℕ → ℕ → List ℕ → List ℕ → List ℕ → List ℕ → ℕ → ℕ → Type 0
applies_here rows n w L G O = Applies n (Equal (λ x. cell rows vertex_column x w)) (λ t. cell rows any_column t w) (λ t. cell rows orientation_column t w) L G O

-- number and place are those of the first of objections 6 to 8 that applies, or 0 where none does
pub record Words (rows n : ℕ) (w G O : List ℕ) (number place : ℕ) : Type 0 where
  pub stage : (L : List ℕ) → Stage (applies_here rows n w L G O) 13 6 9 number place

-- of objections 9 to 11
pub record Beside (rows n : ℕ) (w L G O : List ℕ) (number place : ℕ) : Type 0 where
  pub stage : Stage (applies_here rows n w L G O) 13 9 12 number place

-- of objections 6 to 12; and where none applies every group is connected
pub record OnGroups (rows n : ℕ) (w L G O : List ℕ) (number place : ℕ) : Type 0 where
  pub stage : Stage (applies_here rows n w L G O) 13 6 13 number place
  pub connected : number ≡ 0 → Connected n L G

-- the columns that are written
abbrev pub group_columns : List ℕ
group_columns = next_column ∷ first_columns

-- What the columns stand for in the midst of step 6. Definitions only.
use Rattle.std.specs.Prelude.{ℕ, ◌+◌, ◌*◌, ◌≤◌, ◌<◌, ◌≡◌, Bool, true, not, List, eqb, length, get_or}
use Rattle.tangent.specs.Slot.{flag}
use Rattle.table.specs.Table.{cell}
use Rattle.table.specs.Columns.{columns, orientation_column, any_column, group_column, met_column}
use Rattle.definition.specs.declared.Triangle.{Triangle}
use Rattle.definition.specs.Mesh.{Third, one, Spot, same_spot}
use Rattle.definition.specs.Step5Links.{Link}
use Rattle.definition.specs.Step6Groups.{Mark, grouped, facing, marks}
use Rattle.view.specs.Frame.{Only}
use Rattle.view.specs.Rows.{row, spot_at}
use Rattle.view.specs.Weld.{Welds}
use Rattle.view.specs.Links.{Linked}
use Rattle.view.specs.Groups.{Grouping, Begins, Ordered, Free}
use Rattle.groups.specs.Walk.{walk_columns, State, ungrouped}

-- a corner that stands in a row
pub record Place (ss : List Triangle) (d : Triangle) (s : Spot) : Type 0 where
  pub tri : ℕ
  pub at : Third
  pub inside : tri < length ss
  pub is : s ≡ spot_at ss d tri at

-- what the walks only read: vertices, links, `group_with_any`
pub record Fixed (rows : ℕ) (ss : List Triangle) (d : Triangle) (ls : List Link) (w : List ℕ) : Type 0 where
  pub vertex : Welds rows ss d w
  pub link : Linked rows ss d ls w
  pub any : (t : ℕ) → t < length ss → eqb (cell rows any_column t w) 0 ≡ not (get_or ss t d).any

-- the mark m stands as member j, as the row of its corner; its group's number is group + 1, and groups started at gs
pub record Stands (rows : ℕ) (ss : List Triangle) (d : Triangle) (gs : List Spot) (w : List ℕ) (j : ℕ) (m : Mark) : Type 0 where
  pub tri : ℕ
  pub at : Third
  pub inside : tri < length ss
  pub is : m.spot ≡ spot_at ss d tri at
  pub member : cell rows met_column j w ≡ row tri at
  pub group : ℕ
  pub known : group < length gs
  pub number : cell rows group_column (row tri at) w ≡ group + 1
  pub start : m.start ≡ get_or gs group (spot_at ss d 0 one)
  pub way : m.orientation ≡ m.start.tri.orientation

-- the orientation's word: a flag; the triangle has it for a group that has it, and by itself, so that an untouched `group_with_any` one keeps its own
pub record Faces (ms : List Mark) (t : Triangle) (x : ℕ) : Type 0 where
  pub way : Bool
  pub word : x ≡ flag way
  pub is : facing ms t way ≡ way
  pub own : facing ms t t.orientation ≡ way

-- w stands for the marks ms, n of them, of groups that started at gs; w₀ is the list before step 6
pub record Marked (rows : ℕ) (ss : List Triangle) (d : Triangle) (ls : List Link) (w₀ : List ℕ) (ms : List Mark) (gs : List Spot) (w : List ℕ) (n : ℕ) : Type 0 where
  pub fixed : Fixed rows ss d ls w
  pub only : Only walk_columns rows w₀ w
  pub long : columns * rows ≤ length w
  pub count : n ≡ length ms
  pub room : n + ungrouped rows w ≤ rows
  pub group : Free rows ss d ms w
  pub faces : (t : ℕ) → t < length ss → Faces ms (get_or ss t d) (cell rows orientation_column t w)
  pub rest : (t : ℕ) → length ss ≤ t → t < rows → cell rows orientation_column t w ≡ cell rows orientation_column t w₀
  pub stands : (j : ℕ) (e : Mark) → j < length ms → Stands rows ss d gs w j (get_or ms j e)
  pub order : Ordered rows ms w

-- where groups started: each start is a corner of the triangles, in a group, and no other start
pub record Starts (ss : List Triangle) (d : Triangle) (ms : List Mark) (gs : List Spot) : Type 0 where
  pub place : (q : ℕ) → q < length gs → Place ss d (get_or gs q (spot_at ss d 0 one))
  pub in_group : (q : ℕ) → q < length gs → grouped ms (get_or gs q (spot_at ss d 0 one)) ≡ true
  pub apart : (p q : ℕ) → p < length gs → q < length gs → same_spot (get_or gs p (spot_at ss d 0 one)) (get_or gs q (spot_at ss d 0 one)) ≡ eqb p q

-- the state of the whole step
pub record Grouped (rows : ℕ) (ss : List Triangle) (d : Triangle) (ls : List Link) (w₀ : List ℕ) (ms : List Mark) (gs : List Spot) (s : State) : Type 0 where
  pub marked : Marked rows ss d ls w₀ ms gs s.work s.members
  pub starts : Starts ss d ms gs
  pub groups : s.groups ≡ length gs
  pub begins : Begins rows s.groups ms s.work
  pub few : s.groups ≤ rows

-- ---- the whole step

-- what step 6 asks of the columns: vertices, links, and each triangle's `group_with_any` and orientation
pub record Asked (rows : ℕ) (ss : List Triangle) (d : Triangle) (ls : List Link) (w : List ℕ) : Type 0 where
  pub welds : Welds rows ss d w
  pub linked : Linked rows ss d ls w
  pub any : (t : ℕ) → t < length ss → eqb (cell rows any_column t w) 0 ≡ not (get_or ss t d).any
  pub way : (t : ℕ) → t < length ss → cell rows orientation_column t w ≡ flag (get_or ss t d).orientation

-- what it leaves, from the list w to u: the definition's marks, in so many groups
pub record Walked (rows : ℕ) (ss : List Triangle) (d : Triangle) (ls : List Link) (w u : List ℕ) (groups count : ℕ) : Type 0 where
  pub count_is : count ≡ length (marks ss ls)
  pub grouping : Grouping rows ss d (marks ss ls) groups u
  -- the orientations of other triangles stand
  pub rest : (t : ℕ) → length ss ≤ t → t < rows → cell rows orientation_column t u ≡ cell rows orientation_column t w

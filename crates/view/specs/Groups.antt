-- The columns of groups: step 6. Definitions only.
use Rattle.std.specs.Prelude.{ℕ, ◌+◌, ◌*◌, ◌≤◌, ◌<◌, ◌≡◌, cond, not, ◌||◌, List, eqb, leb, ltb, length, get_or}
use Rattle.std.proofs.Math.Seq.{slice}
use Rattle.tangent.specs.Slot.{flag}
use Rattle.table.specs.Table.{cell, column}
use Rattle.lists.specs.Loops.{list_of}
use Rattle.table.specs.Columns.{orientation_column, group_column, met_column, order_column, begin_column}
use Rattle.definition.specs.declared.Corner.{Corner}
use Rattle.definition.specs.declared.Triangle.{Triangle}
use Rattle.lists.specs.Lists.{keep, has}
use Rattle.definition.specs.Mesh.{Third, one, two, three, corner_of, same_triangle, same_spot}
use Rattle.definition.specs.Step4Order.{welded}
use Rattle.definition.specs.Step6Groups.{Mark, grouped, facing, members}
use Rattle.view.specs.Rows.{row, spot_at}

-- the number of the group of member j, from 1 on
abbrev pub number_of : ℕ → List ℕ → ℕ → ℕ
number_of rows w j = cell rows group_column (cell rows met_column j w) w

-- member j is the mark m: where its corner stands, and what the columns say there
pub record Member (rows : ℕ) (ss : List Triangle) (d : Triangle) (groups : ℕ) (w : List ℕ) (j : ℕ) (m : Mark) : Type 0 where
  pub tri : ℕ
  pub at : Third
  pub inside : tri < length ss
  pub is : m.spot ≡ spot_at ss d tri at
  pub member : cell rows met_column j w ≡ row tri at
  pub way : cell rows orientation_column tri w ≡ flag m.orientation
  pub some : 0 < number_of rows w j
  pub known : number_of rows w j ≤ groups
  -- what is welded to the start is welded to the member's own corner
  pub vertex : (c : Corner) → welded (corner_of m.start) c ≡ welded (corner_of m.spot) c

-- where the members of each group begin, among the marks ms
pub record Begins (rows groups : ℕ) (ms : List Mark) (w : List ℕ) : Type 0 where
  -- the members of group number q + 1 begin where the column says: those from there on are of that group or a later one
  pub begin : (q j : ℕ) → q < groups → j < length ms → leb (cell rows begin_column q w) j ≡ ltb q (number_of rows w j)
  -- the first of them is there, has that number, and is the corner at which the group started
  pub begun : (q : ℕ) → q < groups → cell rows begin_column q w < length ms
  pub number : (q : ℕ) → q < groups → number_of rows w (cell rows begin_column q w) ≡ q + 1
  pub start : (q : ℕ) (e : Mark) → q < groups → (get_or ms (cell rows begin_column q w) e).spot ≡ (get_or ms (cell rows begin_column q w) e).start

-- members stand in the order made, group by group
abbrev pub Ordered : ℕ → List Mark → List ℕ → Type 0
Ordered rows ms w = (j k : ℕ) → j ≤ k → k < length ms → number_of rows w j ≤ number_of rows w k

-- a corner's word is 0 exactly where it is in no group
abbrev pub Free : ℕ → List Triangle → Triangle → List Mark → List ℕ → Type 0
Free rows ss d ms w = (t : ℕ) (i : Third) → t < length ss → eqb (cell rows group_column (row t i) w) 0 ≡ not (grouped ms (spot_at ss d t i))

-- the columns stand for the marks ms, of so many groups
pub record Grouping (rows : ℕ) (ss : List Triangle) (d : Triangle) (ms : List Mark) (groups : ℕ) (w : List ℕ) : Type 0 where
  pub few : length ms ≤ rows
  -- members stand in the order made, group by group
  pub member : (j : ℕ) (e : Mark) → j < length ms → Member rows ss d groups w j (get_or ms j e)
  pub order : Ordered rows ms w
  -- equal numbers, one group
  pub same : (j k : ℕ) (e : Mark) → j < length ms → k < length ms → eqb (number_of rows w j) (number_of rows w k) ≡ same_spot (get_or ms j e).start (get_or ms k e).start
  pub one_start : (j k : ℕ) (e : Mark) → j < length ms → k < length ms → number_of rows w j ≡ number_of rows w k → (get_or ms j e).start ≡ (get_or ms k e).start
  -- where the members of each group begin
  pub begins : Begins rows groups ms w
  -- a corner's word is 0 exactly where it is in no group
  pub free : Free rows ss d ms w
  -- the final orientation of each triangle: of a `group_with_any` one that of the group that touched it first, or its own where none did
  pub way : (t : ℕ) → t < length ss → cell rows orientation_column t w ≡ flag (facing ms (get_or ss t d) (get_or ss t d).orientation)
  -- whether a triangle has a corner in member j's group
  pub among : (j : ℕ) (e : Mark) (t : ℕ) → j < length ms → t < length ss → has (λ k. same_triangle k.spot.tri (get_or ss t d)) (members ms (get_or ms j e)) ≡ (eqb (cell rows group_column (row t one) w) (number_of rows w j) || (eqb (cell rows group_column (row t two) w) (number_of rows w j) || eqb (cell rows group_column (row t three) w) (number_of rows w j)))

-- where the members of group number q + 1 begin, and past the last group where all members end
abbrev pub begin_at : ℕ → ℕ → ℕ → List ℕ → ℕ → ℕ
begin_at rows groups count w q = cond (ltb q groups) (cell rows begin_column q w) count

-- the members of each group in triangle order: the rows of its corners, in rising order
abbrev pub InOrder : ℕ → List Triangle → ℕ → ℕ → List ℕ → Type 0
InOrder rows ss groups count w = (q : ℕ) → q < groups → slice (begin_at rows groups count w q) (begin_at rows groups count w (q + 1)) (column rows order_column w) ≡ keep (λ r. eqb (cell rows group_column r w) (q + 1)) (list_of (3 * length ss) (λ k. k))

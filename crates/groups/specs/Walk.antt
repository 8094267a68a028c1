-- The walk of a group as a function on the work list. Definitions only.
use Rattle.std.specs.Prelude.{ℕ, zero, suc, ◌+◌, ◌*◌, ◌/◌, ◌%◌, ◌≤◌, ◌<◌, ◌≡◌, Bool, cond, not, ◌&&◌, List, [], ◌∷◌, length, eqb, Option, Some, None}
use Rattle.lists.specs.Zeros.{zeros}
use Rattle.table.specs.Table.{cell, put, column, filled_to}
use Rattle.table.specs.Columns.{columns, vertex_column, link_column, orientation_column, any_column, group_column, met_column, begin_column}
use Rattle.view.specs.Frame.{Only}
use Rattle.neighbors.specs.Links.{link_of}
use Rattle.groups.specs.declared.GroupCounts.{GroupCounts}
use Rattle.groups.specs.declared.Group.{Group}

-- the columns that the walks write
abbrev pub walk_columns : List ℕ
walk_columns = group_column ∷ orientation_column ∷ met_column ∷ begin_column ∷ []

-- the corner of triangle t that has vertex v, 3 where none has
unfoldable pub corner_of : ℕ → ℕ → ℕ → List ℕ → ℕ
corner_of rows t v w =
    cond (eqb (cell rows vertex_column (3 * t) w) v) 0
    (cond (eqb (cell rows vertex_column (3 * t + 1) w) v) 1
    (cond (eqb (cell rows vertex_column (3 * t + 2) w) v) 2 3))

-- a triangle that goes with any group, and of which no corner is in one
unfoldable pub untouched : ℕ → ℕ → List ℕ → Bool
untouched rows t w =
    not (eqb (cell rows any_column t w) 0) && (eqb (cell rows group_column (3 * t) w) 0 && (eqb (cell rows group_column (3 * t + 1) w) 0 && eqb (cell rows group_column (3 * t + 2) w) 0))

-- the orientation o taken by such a triangle
unfoldable pub adopted : ℕ → ℕ → ℕ → List ℕ → List ℕ
adopted rows t o w = cond (untouched rows t w) (put rows orientation_column t o w) w

-- what entering a triangle gives: the corner or a stop, and the work list after it
pub record Entered : Type 0 where
  pub entry : Option ℕ
  pub work : List ℕ

-- the walk stops there
abbrev pub stopped : List ℕ → Entered
stopped w = record { entry = None; work = w }

-- corner i is marked with group g, and its row is member n
abbrev pub marked : ℕ → ℕ → ℕ → ℕ → ℕ → List ℕ → Entered
marked rows t g n i w = record { entry = Some i; work = put rows group_column (3 * t + i) g (put rows met_column n (3 * t + i) w) }

-- triangle t entered by group g of vertex v and orientation o, with n members so far
unfoldable pub enter : ℕ → ℕ → ℕ → ℕ → ℕ → ℕ → List ℕ → Entered
enter rows t g v o n w =
    cond (eqb (corner_of rows t v w) 3) (stopped w)
    (cond (eqb (cell rows group_column (3 * t + corner_of rows t v w) w) 0)
    (cond (eqb (cell rows orientation_column t (adopted rows t o w)) o)
    (marked rows t g n (corner_of rows t v w) (adopted rows t o w))
    (stopped (adopted rows t o w)))
    (stopped w))

-- the walk's state: the work list, and the number of members
pub record Walk : Type 0 where
  pub work : List ℕ
  pub count : ℕ

-- the state of these two
abbrev pub walk : List ℕ → ℕ → Walk
walk w n = record { work = w; count = n }

-- where a side leads, given the corner step: to the triangle of the side beyond
abbrev pub follow : (Walk → ℕ → Walk) → Walk → Option ℕ → Walk
follow step s None = s
follow step s (Some u) = step s (u / 3)

-- a side step, given the corner step
unfoldable pub side : ℕ → (Walk → ℕ → Walk) → Walk → ℕ → Walk
side rows step s k = follow step s (link_of (cell rows link_column k s.work))

-- a corner step once triangle t is entered: the side before the corner, and then the one after it
abbrev pub go_on : ℕ → (Walk → ℕ → Walk) → ℕ → ℕ → Option ℕ → List ℕ → Walk
go_on rows step t n None w = walk w n
go_on rows step t n (Some i) w = side rows step (side rows step (walk w (n + 1)) (3 * t + (i + 2) % 3)) (3 * t + i)

-- a corner step, in at most m entries deep
unfoldable pub corner : ℕ → ℕ → ℕ → ℕ → ℕ → Walk → ℕ → Walk
corner rows g v o zero s t = s
corner rows g v o (suc m) s t =
    go_on rows (corner rows g v o m) t s.count
    (enter rows t g v o s.count s.work).entry
    (enter rows t g v o s.count s.work).work

-- the ungrouped corners
unfoldable pub ungrouped : ℕ → List ℕ → ℕ
ungrouped rows w = zeros (column rows group_column w)

-- what a step asks: room for the columns and the members, a group that is no 0, and links that lead to sides of the triangles
pub record Ready (rows tris g n : ℕ) (w : List ℕ) : Type 0 where
  pub long : columns * rows ≤ length w
  pub few : rows < 4294967295
  pub fits : 3 * tris ≤ rows
  pub some : 0 < g
  pub room : n + ungrouped rows w ≤ rows
  pub links : (k : ℕ) → k < 3 * tris → cell rows link_column k w ≤ 3 * tris

-- what a step from s to u ensures: it is what `said` gives at any depth above the number of ungrouped corners; each member is one ungrouped corner less, and other columns stand
pub record Steps (rows : ℕ) (s u : Walk) (said : ℕ → Walk) : Type 0 where
  pub is : (n : ℕ) → ungrouped rows s.work < n → u ≡ said n
  pub fewer : ungrouped rows u.work ≤ ungrouped rows s.work
  pub same : u.count + ungrouped rows u.work ≡ s.count + ungrouped rows s.work
  pub only : Only walk_columns rows s.work u.work

-- the state of the whole: the work list, and the counts of groups and of members
pub record State : Type 0 where
  pub work : List ℕ
  pub groups : ℕ
  pub members : ℕ

-- the state of a list and the code's counts
abbrev pub state : List ℕ → GroupCounts → State
state w c = record { work = w; groups = c.groups; members = c.members }

-- the state after a walk, the last of g groups
abbrev pub started : ℕ → Walk → State
started g s = record { work = s.work; groups = g; members = s.count }

-- the list with the place at which the members of one more group begin
abbrev pub begun : ℕ → State → List ℕ
begun rows s = put rows begin_column s.groups s.members s.work

-- no group starts at corner k: its triangle is `group_with_any`, or else the corner is in a group; nothing is stored
pub data Shut (rows k : ℕ) (w : List ℕ) : List ℕ → Type 0 where
  of_any : (cell rows any_column (k / 3) w ≡ 0 → ⊥) → Shut rows k w w
  in_group : cell rows any_column (k / 3) w ≡ 0 → (cell rows group_column k w ≡ 0 → ⊥) → Shut rows k w w

-- the group that starts there, with where its members begin stored in u
pub record Opened (rows k : ℕ) (s : GroupCounts) (g : Group) (w u : List ℕ) : Type 0 where
  pub any : cell rows any_column (k / 3) w ≡ 0
  pub free : cell rows group_column k w ≡ 0
  pub group : g ≡ record { number = s.groups + 1; vertex = cell rows vertex_column k w; orientation = cell rows orientation_column (k / 3) w }
  pub begun : u ≡ put rows begin_column s.groups s.members w

-- the turn of corner k
unfoldable pub turn : ℕ → ℕ → State → State
turn rows k s =
    cond (eqb (cell rows any_column (k / 3) s.work) 0)
    (cond (eqb (cell rows group_column k s.work) 0)
    (started (s.groups + 1)
    (corner rows (s.groups + 1) (cell rows vertex_column k s.work) (cell rows orientation_column (k / 3) s.work) (rows + 1) (walk (begun rows s) s.members) (k / 3)))
    s)
    s

-- what a turn ensures
pub record Turned (rows tris k : ℕ) (s u : State) : Type 0 where
  pub is : u ≡ turn rows k s
  pub few : u.groups ≤ k + 1
  pub ready : Ready rows tris (u.groups + 1) u.members u.work
  pub only : Only walk_columns rows s.work u.work

-- no corner is in a group
abbrev pub cleared : ℕ → List ℕ → List ℕ
cleared rows w = filled_to rows group_column (λ _. 0) w rows

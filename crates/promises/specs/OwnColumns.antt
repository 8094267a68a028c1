-- Request E11 once more, of the words that steps 1 to 6 leave in the work list w: the first n triangles are the sound ones, in columns of so many rows. Definitions only.
use Rattle.std.specs.Prelude.{ℕ, suc, ◌+◌, ◌*◌, ◌-◌, ◌/◌, ◌≤◌, ◌<◌, ◌≡◌, not, List, [], ◌∷◌, ◌++◌, eqb, length, get_or, take}
use Rattle.std.proofs.Math.Option.{none}
use Rattle.tangent.specs.Slot.{flag}
use Rattle.table.specs.Table.{cell, put}
use Rattle.lists.specs.Lists.{run}
use Rattle.lists.specs.Loops.{up_to}
use Rattle.table.specs.Columns.{rows_of, columns, orientation_column, any_column, vertex_column, link_column, group_column, met_column, begin_column}
use Rattle.definition.specs.declared.Triangle.{Triangle}
use Rattle.definition.specs.Handed.{Handed}
use Rattle.definition.specs.Desk.{not_finite}
use Rattle.definition.specs.Frames.{triangles_of}
use Rattle.definition.specs.Mesh.{Third, after, before}
use Rattle.definition.specs.Step4Order.{sound, spots}
use Rattle.definition.specs.Step5Links.{links}
use Rattle.definition.specs.Step6Groups.{Mark, grouped, start_at}
use Rattle.view.specs.Frame.{Only}
use Rattle.view.specs.Rows.{row, spot_at}
use Rattle.view.specs.Groups.{number_of}
use Rattle.std.specs.Prelude.{Some}
use Rattle.groups.specs.Walk.{Entered, enter, State, turn, Ready, Turned as TurnDone, cleared}
use Rattle.grouped.specs.declared.MeshCounts.{MeshCounts}
use Rattle.flat.specs.Places.{places_column}
use Rattle.grouped.specs.Links.{LeftByFive}
use Rattle.grouped.specs.Grouped.{LeftBySix}
use Rattle.asked.specs.Meaning.{way_of}
use Rattle.promises.specs.OwnLinks.{marks_of, way_after}

-- the side at row r is linked with the side at row q
abbrev pub Leads : ℕ → List ℕ → ℕ → ℕ → Type 0
Leads rows w r q = cell rows link_column r w ≡ suc q

-- the side i of triangle t and the side j of triangle u have the same two vertices, run opposite ways
abbrev pub Turned : ℕ → List ℕ → ℕ → Third → ℕ → Third → Type 0
Turned rows w t i u j = (cell rows vertex_column (row t i) w ≡ cell rows vertex_column (row u (after j)) w) × (cell rows vertex_column (row t (after i)) w ≡ cell rows vertex_column (row u j) w)

pub record LinkWords (rows n : ℕ) (w : List ℕ) : Type 0 where
  -- a link joins two sides with the same two vertices, run opposite ways
  pub across : (t u : ℕ) (i j : Third) → t < n → u < n → Leads rows w (row t i) (row u j) → Turned rows w t i u j
  -- links are mutual
  pub back : (t u : ℕ) (i j : Third) → t < n → u < n → Leads rows w (row t i) (row u j) → Leads rows w (row u j) (row t i)
  -- no side is linked twice
  pub once : (t u v : ℕ) (i j k : Third) → t < n → u < n → v < n → Leads rows w (row t i) (row v k) → Leads rows w (row u j) (row v k) → row t i ≡ row u j
  -- no two unlinked sides with the same two vertices, run opposite ways, are left over
  pub none_left : (t u : ℕ) (i j : Third) → t < n → u < n → cell rows link_column (row t i) w ≡ 0 → cell rows link_column (row u j) w ≡ 0 → Turned rows w t i u j → ⊥

-- two corners are in one group
pub record Together (rows : ℕ) (w : List ℕ) (r q : ℕ) : Type 0 where
  pub same : cell rows group_column r w ≡ cell rows group_column q w
  pub some : cell rows group_column r w ≡ 0 → ⊥

-- what member j was met from: its corner is the one at which its group began, or an earlier member k of its group has a side that ends in their corner (the side at its row, or the side before that) and is linked with a side of j's triangle
pub data MetFrom (rows : ℕ) (w : List ℕ) (j : ℕ) : Type 0 where
  start : cell rows met_column (cell rows begin_column (number_of rows w j - 1) w) w ≡ cell rows met_column j w → MetFrom rows w j
  member : (k t : ℕ) (i : Third) (q : ℕ) → k < j → number_of rows w k ≡ number_of rows w j → cell rows met_column k w ≡ row t i → Leads rows w (row t i) q → q / 3 ≡ cell rows met_column j w / 3 → MetFrom rows w j
  member_before : (k t : ℕ) (i : Third) (q : ℕ) → k < j → number_of rows w k ≡ number_of rows w j → cell rows met_column k w ≡ row t i → Leads rows w (row t (before i)) q → q / 3 ≡ cell rows met_column j w / 3 → MetFrom rows w j

pub record GroupWords (rows n count : ℕ) (w : List ℕ) : Type 0 where
  -- one vertex per group. (A corner has one word, so it is in at most one group.)
  pub one_vertex : (t u : ℕ) (i j : Third) → t < n → u < n → Together rows w (row t i) (row u j) → cell rows vertex_column (row t i) w ≡ cell rows vertex_column (row u j) w
  -- one final orientation per group
  pub one_way : (t u : ℕ) (i j : Third) → t < n → u < n → Together rows w (row t i) (row u j) → cell rows orientation_column t w ≡ cell rows orientation_column u w
  -- every corner of a triangle that isn't `group_with_any` is in a group
  pub some : (t : ℕ) (i : Third) → t < n → cell rows any_column t w ≡ 0 → cell rows group_column (row t i) w ≡ 0 → ⊥
  -- two triangles that aren't `group_with_any`, of one orientation and with a linked side, have each end of that side in one group. (The other end: `back`.)
  pub one_group : (t u : ℕ) (i j : Third) → t < n → u < n → Leads rows w (row t i) (row u j) → cell rows any_column t w ≡ 0 → cell rows any_column u w ≡ 0 → cell rows orientation_column t w ≡ cell rows orientation_column u w → Together rows w (row t i) (row u (after j))
  -- every group is connected
  pub connected : (j : ℕ) → j < count → MetFrom rows w j

-- what the columns say besides, so that they are lists as request E10 asks for them; way: the orientations of step 3
pub record Besides (rows n count : ℕ) (way : ℕ → ℕ) (w : List ℕ) : Type 0 where
  -- links name sides of the triangles
  pub range : (r : ℕ) → r < 3 * n → cell rows link_column r w ≤ 3 * n
  -- a triangle's corners have three vertices
  pub sharp : (r q : ℕ) → r < 3 * n → q < 3 * n → r / 3 ≡ q / 3 → cell rows vertex_column r w ≡ cell rows vertex_column q w → r ≡ q
  -- orientations are 0 or 1, and those of triangles that aren't `group_with_any` are step 3's
  pub flags : (t : ℕ) → t < n → cell rows orientation_column t w ≤ 1
  pub keeps : (t : ℕ) → t < n → cell rows any_column t w ≡ 0 → cell rows orientation_column t w ≡ way t
  -- members are corners of the triangles, in groups, and each corner that is in a group is a member
  pub below : (j : ℕ) → j < count → cell rows met_column j w < 3 * n
  pub some : (j : ℕ) → j < count → number_of rows w j ≡ 0 → ⊥
  pub is_member : (r : ℕ) → r < 3 * n → (cell rows group_column r w ≡ 0 → ⊥) → (j : ℕ) × (j < count) × (cell rows met_column j w ≡ r)
  -- no corner is a member twice
  pub once : (j k : ℕ) → j < count → k < count → cell rows met_column j w ≡ cell rows met_column k w → j ≡ k
  -- each group begins at one of its members
  pub begins : (j : ℕ) → j < count → cell rows begin_column (number_of rows w j - 1) w < count
  pub begins_in : (j : ℕ) → j < count → number_of rows w (cell rows begin_column (number_of rows w j - 1) w) ≡ number_of rows w j

-- all of it, of n sound triangles and so many members; way: the orientations of step 3
pub record OwnWords (rows n count : ℕ) (way : ℕ → ℕ) (w : List ℕ) : Type 0 where
  pub links : LinkWords rows n w
  pub groups : GroupWords rows n count w
  pub besides : Besides rows n count way w

-- the promise: of whatever steps 1 to 6 leave (the contract of `grouped::group_mesh`), where refusal 4 does not catch the lists; d is any triangle, for numbers past the last
unfoldable pub Promised : Type 0
Promised = (mesh : Handed) (c : MeshCounts) (w u : List ℕ) → LeftBySix mesh c w u → not_finite mesh ≡ none → (d : Triangle) → OwnWords (rows_of (length mesh.sizes)) c.sound c.members (way_of (sound (triangles_of mesh)) d) u

-- ---- while step 6 goes on: of the code's work list, whatever mesh or none it stands for

-- what no step of step 6 changes any more, from the list w to the list u, of n triangles
pub record StandsFast (rows n : ℕ) (w u : List ℕ) : Type 0 where
  -- a corner that is in a group stays in that group
  pub group : (t : ℕ) (i : Third) → t < n → (cell rows group_column (row t i) w ≡ 0 → ⊥) → cell rows group_column (row t i) u ≡ cell rows group_column (row t i) w
  -- 'a triangle's orientation never changes after its first corner is grouped'
  pub settled : (t : ℕ) (i : Third) → t < n → (cell rows group_column (row t i) w ≡ 0 → ⊥) → cell rows orientation_column t u ≡ cell rows orientation_column t w
  -- nor ever that of a triangle that isn't `group_with_any`; and which triangles are stands
  pub own : (t : ℕ) → t < n → cell rows any_column t w ≡ 0 → cell rows orientation_column t u ≡ cell rows orientation_column t w
  pub any : (t : ℕ) → t < n → cell rows any_column t u ≡ cell rows any_column t w

-- triangle t was entered by group g of orientation o: where a corner of it was grouped then, it is in that group and its triangle has that orientation
abbrev pub GroupedThere : ℕ → ℕ → ℕ → ℕ → Entered → Type 0
GroupedThere rows t g o e = (i : ℕ) → e.entry ≡ Some i → (cell rows group_column (3 * t + i) e.work ≡ g) × (cell rows orientation_column t e.work ≡ o)

-- a list that step 6 may be called with: room for the columns, and links that name sides of the n triangles (the `requires` of `build_4_rule_groups`)
pub record Walkable (rows n : ℕ) (w : List ℕ) : Type 0 where
  pub fits : 3 * n ≤ rows
  pub long : columns * rows ≤ length w
  pub few : rows < 4294967295
  pub links : (k : ℕ) → k < 3 * n → cell rows link_column k w ≤ 3 * n

-- from the list w to the list u by single steps: a triangle is entered (`groups::enter_at`, which both walks call), or where a group begins is stored
pub data Later (rows n : ℕ) (w : List ℕ) : List ℕ → Type 0 where
  now : Later rows n w w
  entered : (u : List ℕ) (t g v o count : ℕ) → t < n → Ready rows n g count u → Later rows n w u → Later rows n w (enter rows t g v o count u).work
  begun : (u : List ℕ) (q count : ℕ) → q < rows → Later rows n w u → Later rows n w (put rows begin_column q count u)

-- the list after the turns of the first k corners, from the list w: each turn as `start_at` of either walk ensures it (the flat one with zeros for its places), and after all 3n of them what `is` of both `walk_all` says
abbrev pub moment_of : ℕ → List ℕ → ℕ → List ℕ
moment_of rows w k = (up_to k (turn rows) (record { work = cleared rows w; groups = 0; members = 0 })).work

-- the marks that the definition has made by then
abbrev pub marks_by : List Triangle → ℕ → List Mark
marks_by ss k = run (start_at ss (links ss)) [] (take k (spots ss))

-- what the list u says of the triangles ss when the marks ms have been made
pub record Says (rows : ℕ) (ss : List Triangle) (d : Triangle) (ms : List Mark) (u : List ℕ) : Type 0 where
  -- these are the first of all marks: a moment in the sense of OwnLinks.antt
  pub moment : (later : List Mark) × (marks_of ss ≡ ms ++ later)
  -- a corner's word is 0 exactly where it is in no group yet
  pub group : (t : ℕ) (i : Third) → t < length ss → eqb (cell rows group_column (row t i) u) 0 ≡ not (grouped ms (spot_at ss d t i))
  -- a triangle's word is the orientation that the last mark on it gave it, or step 3's
  pub way : (t : ℕ) → t < length ss → cell rows orientation_column t u ≡ flag (way_after ms (get_or ss t d))

-- the promise, of every moment of step 6
pub record AtEveryMoment : Type 0 where
  -- a turn (what `start_at` of either walk ensures) is made of such single steps alone, and so is the way from any turn to any later one
  pub one_turn : (rows n k : ℕ) (s u : State) → k < 3 * n → s.groups ≤ k → Ready rows n (s.groups + 1) s.members s.work → TurnDone rows n k s u → Later rows n s.work u.work
  pub turns : (rows n : ℕ) (w : List ℕ) → Walkable rows n w → (k j : ℕ) → k ≤ j → j ≤ 3 * n → Later rows n (moment_of rows w k) (moment_of rows w j)
  -- over any number of single steps: 'a triangle's orientation never changes after its first corner is grouped'
  pub fast : (rows n : ℕ) (w u : List ℕ) → 3 * n ≤ rows → Later rows n w u → StandsFast rows n w u
  pub enters : (rows n t g v o count : ℕ) (w : List ℕ) → t < n → Ready rows n g count w → GroupedThere rows t g o (enter rows t g v o count w)
  -- and of a mesh that refusal 4 does not catch, over the list l that steps 1 to 5 leave (x: l, or l with other words in the column where the flat walk keeps its places): after each turn the words are those of the definition's marks so far
  pub says : (mesh : Handed) (n m : ℕ) (w l x : List ℕ) → LeftByFive mesh n m w l → not_finite mesh ≡ none → Walkable (rows_of (length mesh.sizes)) n l → Only (places_column ∷ []) (rows_of (length mesh.sizes)) l x
      → (d : Triangle) (k : ℕ) → k ≤ 3 * n → Says (rows_of (length mesh.sizes)) (sound (triangles_of mesh)) d (marks_by (sound (triangles_of mesh)) k) (moment_of (rows_of (length mesh.sizes)) x k)

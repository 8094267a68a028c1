-- Steps 7 and 8 by the words of the columns: slots are reached member by member, group by group. Definitions only.
use Rattle.std.specs.Prelude.{ℕ, suc, ◌+◌, ◌-◌, ◌/◌, List, eqb, Float}
use Rattle.lists.specs.Loops.{up_to}
use Rattle.table.specs.Table.{cell}
use Rattle.table.specs.Columns.{slot_column, orientation_column, met_column}
use Rattle.slots.specs.Slots.{reached_at}
use Rattle.members.specs.Members.{begin_of}
use Rattle.tangent.specs.declared.Evaluated.{Evaluated}
use Rattle.subgroups.specs.Subgroups.{value_of}
use Rattle.subgroups.specs.Spans.{summed}

-- the slot of the corner at row r is reached by what that corner brings, as a member of the group of n that stands from a place on; with its triangle's orientation
unfoldable pub reach_row : ℕ → Float → ℕ → ℕ → List ℕ → ℕ → List ℕ → List ℕ
reach_row rows h from n w r a = reached_at (cell rows slot_column r w) (value_of rows h r from n w) (eqb (cell rows orientation_column (r / 3) w) 1) a

-- the group that stands from one place to another: its members as they were met
unfoldable pub reach_group : ℕ → Float → ℕ → ℕ → List ℕ → List ℕ → List ℕ
reach_group rows h from to w a = up_to (to - from) (λ k. reach_row rows h from (to - from) w (cell rows met_column (from + k) w)) a

-- all groups in the order they started
unfoldable pub reach_all : ℕ → Float → ℕ → ℕ → List ℕ → List ℕ → List ℕ
reach_all rows h groups count w a = up_to groups (λ q. reach_group rows h (begin_of rows groups count w q) (begin_of rows groups count w (suc q)) w) a

-- the slot of the corner at row r is reached by g
unfoldable pub reach_with : ℕ → List ℕ → Evaluated → ℕ → List ℕ → List ℕ
reach_with rows w g r a = reached_at (cell rows slot_column r w) g (eqb (cell rows orientation_column (r / 3) w) 1) a

-- the members of a group as they were met, all with its one sum
unfoldable pub reach_whole : ℕ → ℕ → ℕ → List ℕ → List ℕ → List ℕ
reach_whole rows from to w a = up_to (to - from) (λ k. reach_with rows w (summed rows from (to - from) w) (cell rows met_column (from + k) w)) a

-- The sorting of each group's members. Definitions only.
use Rattle.std.specs.Prelude.{ℕ, suc, ◌≤◌, ◌<◌, min, cond, List, [], ◌∷◌, ltb}
use Rattle.table.specs.Table.{cell}
use Rattle.table.specs.Columns.{lower_column, higher_column, order_column, spare_column, begin_column}
use Rattle.sort.specs.Sort.{SortedPart}

-- where the members of group number q + 1 begin, at most where all end; past the last group, where all end
unfoldable pub begin_of : ℕ → ℕ → ℕ → List ℕ → ℕ → ℕ
begin_of rows groups count w q = cond (ltb q groups) (min (cell rows begin_column q w) count) count

-- one part is sorted, if there is one
pub data Sorts (rows from to : ℕ) (w : List ℕ) : List ℕ → Type 0 where
  idle : to ≤ from → Sorts rows from to w w
  sorts : {u : List ℕ} → from < to → SortedPart rows from to w u → Sorts rows from to w u

-- the parts of the first q groups are sorted, one after the other
pub data Sorting (rows groups count : ℕ) (w : List ℕ) : ℕ → List ℕ → Type 0 where
  unsorted : Sorting rows groups count w 0 w
  next : {q : ℕ} {u v : List ℕ} → Sorting rows groups count w q u → Sorts rows (begin_of rows groups count u q) (begin_of rows groups count u (suc q)) u v → Sorting rows groups count w (suc q) v

-- the columns that are written
abbrev pub order_columns : List ℕ
order_columns = lower_column ∷ higher_column ∷ order_column ∷ spare_column ∷ []

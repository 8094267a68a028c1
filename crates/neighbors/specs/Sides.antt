-- The sides before they are linked: their ends, and the order that the sort leaves. Definitions only.
use Rattle.std.specs.Prelude.{ℕ, ◌+◌, ◌*◌, ◌-◌, ◌%◌, ◌<◌, min, max, ◌≡◌, cond, List, [], ◌∷◌, eqb}
use Rattle.table.specs.Table.{cell, put}
use Rattle.lists.specs.Loops.{up_to}
use Rattle.table.specs.Columns.{vertex_column, link_column, lower_column, higher_column, order_column, spare_column}
use Rattle.view.specs.Frame.{Only}
use Rattle.sort.specs.Sort.{SortedPart}

-- the row of the corner in which the side of row r ends: the next of the same triangle
unfoldable pub end_row : ℕ → ℕ
end_row r = cond (eqb (r % 3) 2) (r - 2) (r + 1)

-- the lower of the words of column k for the corners in which the side of row r ends
abbrev pub lower_end : ℕ → ℕ → List ℕ → ℕ → ℕ
lower_end rows k w r = min (cell rows k r w) (cell rows k (end_row r) w)

-- the higher one
abbrev pub higher_end : ℕ → ℕ → List ℕ → ℕ → ℕ
higher_end rows k w r = max (cell rows k r w) (cell rows k (end_row r) w)

-- the side of row r: its ends by column k, its place in the order before the sort, no link
unfoldable pub with_side : ℕ → ℕ → ℕ → List ℕ → List ℕ
with_side rows k r w = put rows link_column r 0 (put rows order_column r r (put rows higher_column r (higher_end rows k w r) (put rows lower_column r (lower_end rows k w r) w)))

-- the columns that hold the sides
abbrev pub side_columns : List ℕ
side_columns = link_column ∷ order_column ∷ higher_column ∷ lower_column ∷ []

-- n sides are there, with their ends by column k, from the list w to u
pub record Sided (rows k n : ℕ) (w u : List ℕ) : Type 0 where
  pub lower : (r : ℕ) → r < n → cell rows lower_column r u ≡ lower_end rows k w r
  pub higher : (r : ℕ) → r < n → cell rows higher_column r u ≡ higher_end rows k w r
  pub order : (r : ℕ) → r < n → cell rows order_column r u ≡ r
  pub empty : (r : ℕ) → r < n → cell rows link_column r u ≡ 0
  pub only : Only side_columns rows w u

-- the columns that step 5 writes
abbrev pub step_columns : List ℕ
step_columns = link_column ∷ order_column ∷ higher_column ∷ lower_column ∷ spare_column ∷ []

-- the sides of so many triangles, put in and sorted, from the list w to v
pub record Sorted (rows tris : ℕ) (w v : List ℕ) : Type 0 where
  pub put_in : List ℕ
  pub is : put_in ≡ up_to (3 * tris) (with_side rows vertex_column) w
  pub sorted : SortedPart rows 0 (3 * tris) put_in v

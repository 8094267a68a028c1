-- A group whose members all join one another: the hulls of their directions, and the one sum. Definitions only.
use Rattle.std.specs.Prelude.{ℕ, ◌+◌, ◌/◌, ◌<◌, ◌≡◌, true, cond, List, eqb, Float}
use Rattle.tangent.specs.declared.Evaluated.{Evaluated}
use Rattle.lists.specs.Loops.{up_to}
use Rattle.table.specs.Table.{cell}
use Rattle.table.specs.Columns.{any_column, met_column, order_column}
use Rattle.definition.specs.Step7Sums.{empty_sum, finish}
use Rattle.view.specs.Contributions.{s_at, t_at}
use Rattle.hulls.specs.Hull.{nothing, widened}
use Rattle.subgroups.specs.declared.Span.{Span}
use Rattle.subgroups.specs.Subgroups.{peer_at, joins_by, add_row}

-- the corner at row r taken in; one of a `group_with_any` triangle is left out
unfoldable pub absorbed : ℕ → List ℕ → ℕ → Span → Span
absorbed rows w r b = cond (eqb (cell rows any_column (r / 3) w) 1) b (record { s = widened b.s (s_at rows r w); t = widened b.t (t_at rows r w) })

-- the p-th as met, then the p-th in triangle order
unfoldable pub absorbed_at : ℕ → List ℕ → ℕ → Span → Span
absorbed_at rows w p b = absorbed rows w (cell rows order_column p w) (absorbed rows w (cell rows met_column p w) b)

-- the hulls of the n members from a place on
unfoldable pub span_of : ℕ → ℕ → ℕ → List ℕ → Span
span_of rows from n w = up_to n (λ k. absorbed_at rows w (from + k)) (record { s = nothing; t = nothing })

-- each of the n members joins each, as met and in triangle order
abbrev pub Whole : ℕ → Float → ℕ → ℕ → List ℕ → Type 0
Whole rows h from n w = (j k : ℕ) → j < n → k < n → joins_by h (peer_at rows (cell rows met_column (from + j) w) w) (peer_at rows (cell rows order_column (from + k) w) w) ≡ true

-- the sum of all n, made a tangent space, and how many added to it
unfoldable pub summed : ℕ → ℕ → ℕ → List ℕ → Evaluated
summed rows from n w = finish (up_to n (λ k. add_row rows w (cell rows order_column (from + k) w)) empty_sum)

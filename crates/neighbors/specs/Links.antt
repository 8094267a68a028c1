-- The linking of sides, as a function on the words of the work list. Definitions only.
use Rattle.std.specs.Prelude.{ℕ, zero, suc, ◌+◌, ◌*◌, ◌-◌, ◌≤◌, ◌<◌, Bool, cond, not, ◌&&◌, List, eqb, length, Option, Some, None}
use Rattle.table.specs.Table.{cell, put}
use Rattle.table.specs.Columns.{columns, vertex_column, link_column, lower_column, higher_column, order_column}

-- what a link word says: 0 is none, else it is the row of the side beyond and one
unfoldable pub link_of : ℕ → Option ℕ
link_of zero = None
link_of (suc u) = Some u

-- the side at place a of the order
abbrev pub side_at : ℕ → List ℕ → ℕ → ℕ
side_at rows w a = cell rows order_column a w

-- two sides have the same ends
unfoldable pub same_ends : ℕ → ℕ → ℕ → List ℕ → Bool
same_ends rows s u w = eqb (cell rows lower_column s w) (cell rows lower_column u w) && eqb (cell rows higher_column s w) (cell rows higher_column u w)

-- side u is unlinked and starts at another vertex than side s
unfoldable pub suits : ℕ → ℕ → ℕ → List ℕ → Bool
suits rows s u w = eqb (cell rows link_column u w) 0 && not (eqb (cell rows vertex_column s w) (cell rows vertex_column u w))

-- the first of m places from b on that has the same ends and suits; none past the last of the same ends
unfoldable pub seek : ℕ → (ℕ → Bool) → (ℕ → Bool) → (ℕ → ℕ) → ℕ → Option ℕ
seek zero same suit side b = None
seek (suc m) same suit side b = cond (same b) (cond (suit b) (Some (side b)) (seek m same suit side (suc b))) None

-- the mate of the side at place a, among the places from b up to n
unfoldable pub mate_from : ℕ → ℕ → ℕ → List ℕ → ℕ → Option ℕ
mate_from rows n a w b =
    seek (n - b)
    (λ b. same_ends rows (side_at rows w a) (side_at rows w b) w)
    (λ b. suits rows (side_at rows w a) (side_at rows w b) w)
    (side_at rows w)
    b

-- its mate among all later places
abbrev pub mate_of : ℕ → ℕ → ℕ → List ℕ → Option ℕ
mate_of rows n a w = mate_from rows n a w (a + 1)

-- side s and its mate are linked, each to the other
abbrev pub join : ℕ → ℕ → Option ℕ → List ℕ → List ℕ
join rows s None w = w
join rows s (Some u) w = put rows link_column u (s + 1) (put rows link_column s (u + 1) w)

-- the turn of place a: where its side is unlinked, it takes its mate
unfoldable pub turn : ℕ → ℕ → ℕ → List ℕ → List ℕ
turn rows n a w = cond (eqb (cell rows link_column (side_at rows w a) w) 0) (join rows (side_at rows w a) (mate_of rows n a w) w) w

-- there is room for the columns, the order names sides below n, and so does every link word that names one
pub record Ready (rows n : ℕ) (w : List ℕ) : Type 0 where
  pub long : columns * rows ≤ length w
  pub few : rows < 4294967295
  pub fits : n ≤ rows
  pub order : (k : ℕ) → k < n → cell rows order_column k w < n
  pub links : (k : ℕ) → k < n → cell rows link_column k w ≤ n

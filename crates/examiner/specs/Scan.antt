-- A scan of the sides in their order, for two that are left over. Definitions only.
use Rattle.std.specs.Prelude.{ℕ, ◌+◌, ◌≤◌, ◌<◌, min, max, ◌≡◌, true, false, List}
use Rattle.table.specs.Table.{cell}
use Rattle.table.specs.Columns.{vertex_column, order_column}
use Rattle.neighbors.specs.Links.{same_ends}
use Rattle.neighbors.specs.Sides.{end_row}
use Rattle.asked.specs.Links.{Equal, link_word, Opposed, LeftOver}

-- the order X of the sides below n, by the numbers E of which equal ones are equal ends
pub record OrderOf (n : ℕ) (vertex E X : ℕ → ℕ) : Type 0 where
  pub sharp : (r : ℕ) → r < n → vertex r ≡ vertex (end_row r) → ⊥
  pub below : (a : ℕ) → a < n → X a < n
  pub rises : (a b : ℕ) → a < b → b < n → E (X a) ≤ E (X b)
  pub steps : (a b : ℕ) → a < b → b < n → E (X a) ≡ E (X b) → X a ≤ X b
  pub lower : (r s : ℕ) → r < n → s < n → E r ≡ E s → min (vertex r) (vertex (end_row r)) ≡ min (vertex s) (vertex (end_row s))
  pub higher : (r s : ℕ) → r < n → s < n → E r ≡ E s → max (vertex r) (vertex (end_row r)) ≡ max (vertex s) (vertex (end_row s))
  pub equal : (r s : ℕ) → r < n → s < n → min (vertex r) (vertex (end_row r)) ≡ min (vertex s) (vertex (end_row s)) → max (vertex r) (vertex (end_row r)) ≡ max (vertex s) (vertex (end_row s)) → E r ≡ E s
  pub found : (r : ℕ) → r < n → (a : ℕ) × (a < n) × (X a ≡ r)

-- the side is unlinked
abbrev pub FreeIn : List ℕ → ℕ → Type 0
FreeIn L r = link_word L r ≡ 0

-- `first` is the first unlinked side of the last run of equal ends that has one, among the places below a
pub record RunOf (L : List ℕ) (E X : ℕ → ℕ) (a first : ℕ) : Type 0 where
  pub is_free : FreeIn L first
  pub spot : ℕ
  pub before : spot < a
  pub is : X spot ≡ first
  pub top : (c : ℕ) → c < a → FreeIn L (X c) → E (X c) ≤ E first
  pub least : (c : ℕ) → c < a → FreeIn L (X c) → E (X c) ≡ E first → first ≤ X c

pub data FirstOf (n : ℕ) (L : List ℕ) (E X : ℕ → ℕ) (a first : ℕ) : Type 0 where
  nothing : first ≡ n → ((c : ℕ) → c < a → FreeIn L (X c) → ⊥) → FirstOf n L E X a first
  side : first < n → RunOf L E X a first → FirstOf n L E X a first

-- after the places below a: that side, and the lowest side that is left over among them (n: none)
pub record ScannedTo (n : ℕ) (vertex : ℕ → ℕ) (L : List ℕ) (E X : ℕ → ℕ) (a first best : ℕ) : Type 0 where
  pub first_is : FirstOf n L E X a first
  pub low : best ≤ n
  pub here : best < n → LeftOver n (Equal vertex) L best
  pub least : (c e : ℕ) → c < a → e < a → FreeIn L (X c) → FreeIn L (X e) → Opposed (Equal vertex) (X c) (X e) → best ≤ X c

-- the columns have these vertices, and their ends are equal where the numbers E are
pub record Reads (rows n : ℕ) (w : List ℕ) (vertex E : ℕ → ℕ) : Type 0 where
  pub vertices : (r : ℕ) → r < n → cell rows vertex_column r w ≡ vertex r
  pub like : (r s : ℕ) → r < n → s < n → same_ends rows r s w ≡ true → E r ≡ E s
  pub unlike : (r s : ℕ) → r < n → s < n → same_ends rows r s w ≡ false → E r ≡ E s → ⊥

-- a turn of the scan in the columns, at place a, from one pair of sides to another
pub record Turns (rows n : ℕ) (w L : List ℕ) (a first best first' best' : ℕ) : Type 0 where
  pub turns : (vertex E : ℕ → ℕ) → Reads rows n w vertex E → OrderOf n vertex E (λ a. cell rows order_column a w) → ScannedTo n vertex L E (λ a. cell rows order_column a w) a first best → ScannedTo n vertex L E (λ a. cell rows order_column a w) (a + 1) first' best'

-- all of them
pub record Scans (rows n : ℕ) (w L : List ℕ) (a first best : ℕ) : Type 0 where
  pub scans : (vertex E : ℕ → ℕ) → Reads rows n w vertex E → OrderOf n vertex E (λ a. cell rows order_column a w) → ScannedTo n vertex L E (λ a. cell rows order_column a w) a first best

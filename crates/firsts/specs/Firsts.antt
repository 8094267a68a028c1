-- The lowest row of each group, found by a sort of the rows by their group's word. n rows, G the words of the groups. Definitions only.
use Rattle.std.specs.Prelude.{ℕ, ◌+◌, ◌≤◌, ◌<◌, ◌≡◌, List, [], ◌∷◌, get_or}
use Rattle.table.specs.Table.{cell}
use Rattle.table.specs.Columns.{lower_column, higher_column, order_column, spare_column, head_column}
use Rattle.view.specs.Frame.{Only}

-- the rows have one word
abbrev pub Alike : List ℕ → ℕ → ℕ → Type 0
Alike G r q = get_or G r 0 ≡ get_or G q 0

-- the column of the order has every row below n, by rising words, and rows of one word in rising order
pub record InOrder (rows n : ℕ) (G w : List ℕ) : Type 0 where
  pub below : (a : ℕ) → a < n → cell rows order_column a w < n
  pub rises : (a b : ℕ) → a < b → b < n → get_or G (cell rows order_column a w) 0 ≤ get_or G (cell rows order_column b w) 0
  pub steps : (a b : ℕ) → a < b → b < n → Alike G (cell rows order_column a w) (cell rows order_column b w) → cell rows order_column a w ≤ cell rows order_column b w
  pub found : (r : ℕ) → r < n → (a : ℕ) × (a < n) × (cell rows order_column a w ≡ r)

-- the columns that the sort needs
abbrev pub sort_columns : List ℕ
sort_columns = lower_column ∷ higher_column ∷ order_column ∷ spare_column ∷ []

-- the rows are put in order, from the list w to u
pub record Orders (rows n : ℕ) (G w u : List ℕ) : Type 0 where
  pub in_order : InOrder rows n G u
  pub only : Only sort_columns rows w u

-- f is the first of the run in which r is next: `first`, if that is a row of r's word, or else r itself
pub data Runs (n : ℕ) (G : List ℕ) (first r : ℕ) : ℕ → Type 0 where
  begins : (first < n → Alike G first r → ⊥) → Runs n G first r r
  goes_on : first < n → Alike G first r → Runs n G first r first

-- h is one more than the lowest row of r's word
pub record Right (n : ℕ) (G : List ℕ) (r h : ℕ) : Type 0 where
  pub first : ℕ
  pub is : h ≡ first + 1
  pub low : first ≤ r
  pub alike : Alike G first r
  pub least : (e : ℕ) → e < n → Alike G e r → first ≤ e

-- at each row stands the lowest row of its word, and one
pub record Firsts (rows n : ℕ) (G w : List ℕ) : Type 0 where
  pub right : (r : ℕ) → r < n → Right n G r (cell rows head_column r w)

-- from the list w, which is in order, to u
pub record Heads (rows n : ℕ) (G w u : List ℕ) : Type 0 where
  pub firsts : Firsts rows n G u
  pub only : Only (head_column ∷ []) rows w u

-- the columns that all of it writes
abbrev pub first_columns : List ℕ
first_columns = head_column ∷ lower_column ∷ higher_column ∷ order_column ∷ spare_column ∷ []

-- Words stored in columns: what is left of each column. Assumes nothing.
use Prim.Native.Nat.{ℕ, ◌+◌, ◌*◌, ◌≤◌, ◌<◌}
use mathlib.Core.Path.{◌≡◌, refl, ◌∙◌, ap}
use mathlib.Core.Bool.{false, cond}
use mathlib.Core.List.{List, [], ◌∷◌, ◌++◌}
use lib.Dec.{eqb}
use lib.ListN.{length}
use lib.Seq.{sets}
use Rattle.table.specs.Table.{column}
use Rattle.table.specs.Columns.{columns}
use Rattle.table.proofs.Laws.{column-sets}
use Rattle.lists.specs.Every.{Every, every_nil, every_cons}
use Rattle.view.specs.Frame.{outside, Only}
use Rattle.view.specs.Stores.{Entry, storing}
use Rattle.view.proofs.Frame.{only-sets}

-- an entry of one of the columns ks that fits into its column
pub record Fitting (ks : List ℕ) (rows : ℕ) (e : Entry) : Type 0 where
  pub inside : e.row + length e.words ≤ rows
  pub below : e.column < columns
  pub among : outside ks e.column ≡ false

-- what entries leave of column k
unfoldable pub within : ℕ → List Entry → List ℕ → List ℕ
within k [] c = c
within k (e ∷ es) c = within k es (cond (eqb e.column k) (sets c e.row e.words) c)

module _ (ks : List ℕ) (rows : ℕ) where
  pub storing-column : (k : ℕ) {es : List Entry} → Every (Fitting ks rows) es → (w : List ℕ) → column rows k (storing rows es w) ≡ within k es (column rows k w)
  unfolding storing within
  storing-column k every_nil w = refl
  storing-column k (every_cons {x} {l} f r) w = storing-column k r (sets w (x.column * rows + x.row) x.words) ∙ ap (within k l) (column-sets rows k x.column x.row x.words w f.inside)

  pub storing-only : {es : List Entry} → Every (Fitting ks rows) es → (w u : List ℕ) → Only ks rows w u → Only ks rows w (storing rows es u)
  unfolding storing
  storing-only every_nil w u O = O
  storing-only (every_cons {x} f r) w u O = storing-only r w _ (only-sets ks rows w u x.column x.row x.words f.among f.below f.inside O)

pub storing-append : (rows : ℕ) (es fs : List Entry) (w : List ℕ) → storing rows fs (storing rows es w) ≡ storing rows (es ++ fs) w
unfolding storing
storing-append rows [] fs w = refl
storing-append rows (e ∷ es) fs w = storing-append rows es fs _

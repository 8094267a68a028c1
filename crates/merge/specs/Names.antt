-- After step 4 of the old edition: each row's tag, the first row with that tag, and the corner that the row is merged with. Definitions only.
use Rattle.std.specs.Prelude.{◌≡◌, ℕ, suc, ◌+◌, ◌*◌, ◌/◌, ◌%◌, ◌<◌, false, cond, List, [], ◌∷◌, ◌==◌, nat_eq, nat_le, slice_index}
use Rattle.table.specs.Table.{cell, column}
use Rattle.table.specs.Columns.{tag_column, into_column, corner_column, name_column, vertex_column, head_column, next_column}
use Rattle.view.specs.Frame.{Only}
use Rattle.view.specs.Weld.{First}

-- which corner of its face the corner i of a triangle is, where the triangle misses one
unfoldable pub which_in : ℕ → ℕ → ℕ
which_in missing i = cond (nat_le missing i) (i + 1) i

-- the tag of row q, where the column of the names is ns: 'face times 4 plus corner', and 1
unfoldable pub tag_in : List ℕ → ℕ → ℕ
tag_in ns q = 4 * slice_index ns (3 * (q / 3)) + which_in (slice_index ns (3 * (q / 3) + 2)) (q % 3) + 1

-- the row that row r is merged with
abbrev pub merged_with : ℕ → List ℕ → ℕ → ℕ
merged_with rows w r = slice_index (column rows into_column w) r

-- its tag
unfoldable pub tag_at : ℕ → List ℕ → ℕ → ℕ
tag_at rows w r = tag_in (column rows name_column w) (merged_with rows w r)

-- the number of its corner
unfoldable pub corner_into : ℕ → List ℕ → ℕ → ℕ
corner_into rows w r = slice_index (column rows corner_column w) (merged_with rows w r)

-- the word that stands at tag t once the first r rows are done, K their tags: 0 where no row has it, else the first that has it, and one
pub data Head (K : ℕ → ℕ) (r t : ℕ) : ℕ → Type 0 where
  absent : ((k : ℕ) → k < r → (t == K k) ≡ false) → Head K r t 0
  found : (v : ℕ) → v < r → First (λ k. nat_eq t (K k)) v → Head K r t (suc v)

-- after the first r rows: hs is the column of heads, vs that of the vertices
pub record Finding (K : ℕ → ℕ) (rows r : ℕ) (hs vs : List ℕ) : Type 0 where
  pub heads : (t : ℕ) → t < rows → Head K r t (slice_index hs t)
  pub firsts : (k : ℕ) → k < r → First (λ j. nat_eq (K k) (K j)) (slice_index vs k)

-- the tags, as they stand in their column
abbrev pub tags : ℕ → List ℕ → ℕ → ℕ
tags rows w k = slice_index (column rows tag_column w) k

-- the same of the work list's columns
abbrev pub FindingIn : ℕ → ℕ → List ℕ → Type 0
FindingIn rows r w = Finding (tags rows w) rows r (column rows head_column w) (column rows vertex_column w)

-- what finding the first rows alters
abbrev pub find_columns : List ℕ
find_columns = vertex_column ∷ head_column ∷ []

-- what naming rows alters
abbrev pub name_columns : List ℕ
name_columns = tag_column ∷ next_column ∷ vertex_column ∷ head_column ∷ []

-- what `name_rows` ensures
pub record Named (rows n : ℕ) (w u : List ℕ) : Type 0 where
  pub tag : (r : ℕ) → r < n → cell rows tag_column r u ≡ tag_at rows w r
  pub corner : (r : ℕ) → r < n → cell rows next_column r u ≡ corner_into rows w r
  pub vertex : (r : ℕ) → r < n → First (λ k. nat_eq (tags rows u r) (tags rows u k)) (cell rows vertex_column r u)
  pub only : Only name_columns rows w u

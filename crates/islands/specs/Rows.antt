-- The corners of the faces of 3 or 4 in rows, four a face, and what uniting their faces leaves. Definitions only.
use Rattle.std.specs.Prelude.{ℕ, ◌+◌, ◌*◌, ◌-◌, ◌/◌, ◌≤◌, ◌<◌, ◌≡◌, true, cond, List, [], ◌∷◌, ◌++◌, length, get_or, set, take, drop}
use Rattle.definition.specs.Handed.{mesh_of, Handed, used, corner_count}
use Rattle.lists.specs.Loops.{list_of}
use Rattle.table.specs.Table.{cell}
use Rattle.table.specs.Columns.{corner_column, name_column, vertex_column}
use Rattle.unions.specs.Unions.{Beyond, Downward, Level}
use Rattle.islands.specs.Islands.{no_island, island_of}

-- n is the number of a corner of face g, which is of 3 or 4
pub record NamesCorner (sizes : List ℕ) (g n : ℕ) : Type 0 where
  pub below : g < length sizes
  pub counts : used (get_or sizes g 0) ≡ true
  pub from : corner_count (take g sizes) ≤ n
  pub to : n < corner_count (take g sizes) + get_or sizes g 0

-- corner number n of face g stands at row r
pub record Stands (k : ℕ) (C N : ℕ → ℕ) (g n r : ℕ) : Type 0 where
  pub row : r < 4 * k
  pub face : N (r / 4) ≡ g
  pub corner : C r ≡ n

-- the first f faces are listed: k of them are of 3 or 4, N has their numbers, and C the numbers of their corners, four rows a face
pub record FacesListed (sizes : List ℕ) (f k : ℕ) (C N : ℕ → ℕ) : Type 0 where
  pub few : k ≤ f
  pub among : (r : ℕ) → r < 4 * k → NamesCorner sizes (N (r / 4)) (C r)
  pub all : (g n : ℕ) → g < f → NamesCorner sizes g n → (r : ℕ) × Stands k C N g n r

-- the columns of the work list: the corner at a row, the face at a row, the face of a corner's row, the vertex of a corner's row
abbrev pub corner_row : ℕ → List ℕ → ℕ → ℕ
corner_row rows w r = cell rows corner_column r w

abbrev pub face_row : ℕ → List ℕ → ℕ → ℕ
face_row rows w j = cell rows name_column j w

abbrev pub vertex_row : ℕ → List ℕ → ℕ → ℕ
vertex_row rows w r = cell rows vertex_column r w

-- the columns that are stored in by listing
abbrev pub list_columns : List ℕ
list_columns = corner_column ∷ name_column ∷ []

-- face number f of a size, whose corners start at number base, as number k of those of 3 or 4; a face of three has its last corner twice
abbrev pub added : ℕ → ℕ → ℕ → ℕ → ℕ → List ℕ → List ℕ
added rows k f base size w =
    let at = corner_column * rows + 4 * k in
    set (set (set (set (set w at base) (at + 1) (base + 1)) (at + 2) (base + 2)) (at + 3) (base + (size - 1))) (name_column * rows + k) f

-- what uniting the faces of the first n rows with those of their vertices leaves of the parents p: q
pub record Woven (count : ℕ) (fs vs : ℕ → ℕ) (p q : List ℕ) (n : ℕ) : Type 0 where
  pub beyond : Beyond count p q
  pub down : Downward count q
  pub onto : (l : ℕ → ℕ) → Level count p l → ((r : ℕ) → r < n → l (fs (r / 4)) ≡ l (fs (vs r / 4))) → Level count q l
  pub joined : (l : ℕ → ℕ) → Level count q l → (r : ℕ) → r < n → l (fs (r / 4)) ≡ l (fs (vs r / 4))

-- what may be read at row r
pub record Readable (count rows n : ℕ) (fs vs : ℕ → ℕ) : Type 0 where
  pub near : (r : ℕ) → r < n → fs (r / 4) < count
  pub low : (r : ℕ) → r < n → vs r ≤ r

-- the faces that are not of 3 or 4 get FFFFFFFF, and the others keep their numbers
pub record Struck (sizes p q : List ℕ) : Type 0 where
  pub beyond : Beyond (length sizes) p q
  pub each : (f : ℕ) → f < length sizes → get_or q f 0 ≡ cond (used (get_or sizes f 0)) (get_or p f 0) no_island

-- the numbers of all faces, and what stood behind them
unfoldable pub labelled : Handed → List ℕ → List ℕ
labelled mesh labels = list_of (length mesh.sizes) (island_of (mesh_of mesh)) ++ drop (length mesh.sizes) labels

-- Step 4's welding by buckets: a corner's bucket, chains of rows, and what stands in the columns. Definitions only.
use Rattle.std.specs.Prelude.{ℕ, suc, ◌+◌, ◌*◌, ◌/◌, ◌%◌, ◌≤◌, ◌<◌, ◌≡◌, Bool, true, false, List, [], ◌∷◌, ◌++◌, get_or, Float}
use Rattle.bits.specs.Word.{word}
use Rattle.table.specs.Table.{cell, put, column}
use Rattle.table.specs.Columns.{corner_column, vertex_column, head_column, next_column}
use Rattle.definition.specs.declared.Corner.{Corner}
use Rattle.definition.specs.Handed.{corner_at}
use Rattle.definition.specs.Step4Order.{welded}
use Rattle.view.specs.Frame.{Only}
use Rattle.view.specs.Records.{three_of}
use Rattle.view.specs.Weld.{First}

-- ---- buckets

-- a word mixed into a number: the halves of a product, added
unfoldable pub mix : ℕ → ℕ → ℕ
mix h x = let p = (h + x) % 0x1_0000_0000 * 0x9e37_79b1 in (p / 0x1_0000_0000 + p) % 0x1_0000_0000

-- words mixed into a number, one after the other
unfoldable pub mixture : ℕ → List ℕ → ℕ
mixture h [] = h
mixture h (x ∷ l) = mixture (mix h x) l

-- the eight words of a corner
abbrev pub words_of : Corner → List ℕ
words_of c = three_of c.place ++ (three_of c.normal ++ (word c.u ∷ word c.v ∷ []))

-- the bucket of a corner, one of `rows`: its eight words say which
unfoldable pub bucket_of : ℕ → Corner → ℕ
bucket_of rows c = mixture 0 (words_of c) % rows

-- ---- chains

-- a chain from a word on, by the list xs of the words that come next: 0 is its end; a word q + 1 stands for row q, and the next word is that of row q in xs, which is at most q
pub data Chain (xs : List ℕ) : ℕ → Type 0 where
  end : Chain xs 0
  link : (q : ℕ) → get_or xs q 0 ≤ q → Chain xs (get_or xs q 0) → Chain xs (suc q)

-- what a walk along a chain finds from a word on: the word of the first row there that passes; 0 where there is none
pub data Finds (xs : List ℕ) (test : ℕ → Bool) : ℕ → ℕ → Type 0 where
  ended : Finds xs test 0 0
  here : (q : ℕ) → test q ≡ true → Finds xs test (suc q) (suc q)
  further : (q s : ℕ) → test q ≡ false → Finds xs test (get_or xs q 0) s → Finds xs test (suc q) s

-- ---- columns

-- the corner of row r, where the column of the corners' numbers is cs
abbrev pub corner_in : List Float → List Float → List Float → List ℕ → ℕ → Corner
corner_in ps ns ts cs r = corner_at ps ns ts (get_or cs r 0)

-- after the first r rows: vs is the column of vertices, hs that of the buckets' heads, xs that of the words that come next, and C the corner of each row
pub record Going (C : ℕ → Corner) (rows r : ℕ) (vs hs xs : List ℕ) : Type 0 where
  -- the vertex of each row is the first that is welded to it
  pub firsts : (q : ℕ) → q < r → First (λ k. welded (C q) (C k)) (get_or vs q 0)
  -- each bucket has a chain, of none but these rows
  pub low : (b : ℕ) → b < rows → get_or hs b 0 ≤ r
  pub chain : (b : ℕ) → b < rows → Chain xs (get_or hs b 0)
  -- in the bucket of each row its vertex is found
  pub finds : (q : ℕ) → q < r → Finds xs (λ k. welded (C q) (C k)) (get_or hs (bucket_of rows (C q)) 0) (suc (get_or vs q 0))

-- the same of the work list's columns
abbrev pub GoingIn : ℕ → ℕ → List Float → List Float → List Float → List ℕ → Type 0
GoingIn rows r ps ns ts w = Going (corner_in ps ns ts (column rows corner_column w)) rows r (column rows vertex_column w) (column rows head_column w) (column rows next_column w)

-- row r, put first into bucket b, is its own vertex
abbrev pub put_first : ℕ → ℕ → ℕ → List ℕ → List ℕ
put_first rows r b w = put rows vertex_column r r (put rows head_column b (r + 1) (put rows next_column r (cell rows head_column b w) w))

-- the columns that are stored in
abbrev pub weld_columns : List ℕ
weld_columns = vertex_column ∷ head_column ∷ next_column ∷ []

-- the corner of row r
abbrev pub corner_row : List Float → List Float → List Float → ℕ → List ℕ → ℕ → Corner
corner_row ps ns ts rows w r = corner_at ps ns ts (cell rows corner_column r w)

-- what welding the corners of the first n rows ensures: the vertex of each row is the first row with the same bits in all eight numbers, and all but three columns is as it was
pub record Welded (rows n : ℕ) (ps ns ts : List Float) (w u : List ℕ) : Type 0 where
  pub first : (r : ℕ) → r < n → First (λ k. welded (corner_row ps ns ts rows w r) (corner_row ps ns ts rows w k)) (cell rows vertex_column r u)
  pub only : Only weld_columns rows w u

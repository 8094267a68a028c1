-- A list of words as a table of columns of `rows` rows. Definitions only.
use Rattle.std.specs.Prelude.{ℕ, ◌+◌, ◌*◌, List, get_or, set, take, drop}
use Rattle.std.proofs.lemmas.List.Edits.{sets}
use Rattle.lists.specs.Loops.{list_of}

-- the word at row i of column k
abbrev pub cell : ℕ → ℕ → ℕ → List ℕ → ℕ
cell rows k i w = get_or w (k * rows + i) 0

-- the list with v at row i of column k
abbrev pub put : ℕ → ℕ → ℕ → ℕ → List ℕ → List ℕ
put rows k i v w = set w (k * rows + i) v

-- column k, a list of `rows` words
unfoldable pub column : ℕ → ℕ → List ℕ → List ℕ
column rows k w = take rows (drop (k * rows) w)

-- the list with h 0, h 1, .. h (n - 1) in the first n rows of column j
abbrev pub filled_to : ℕ → ℕ → (ℕ → ℕ) → List ℕ → ℕ → List ℕ
filled_to rows j h w n = sets w (j * rows + 0) (list_of n h)

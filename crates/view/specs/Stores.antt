-- Words stored in columns. Definitions only.
use Rattle.std.specs.Prelude.{ℕ, ◌+◌, ◌*◌, List, [], ◌∷◌}
use Rattle.std.proofs.lemmas.List.Edits.{sets}

-- words that are stored from a row of a column on
pub record Entry : Type 0 where
  pub column : ℕ
  pub row : ℕ
  pub words : List ℕ

-- entries stored one after the other
unfoldable pub storing : ℕ → List Entry → List ℕ → List ℕ
storing rows [] w = w
storing rows (e ∷ es) w = storing rows es (sets w (e.column * rows + e.row) e.words)

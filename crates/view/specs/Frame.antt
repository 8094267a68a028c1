-- What a step leaves alone. Definitions only.
use Rattle.std.specs.Prelude.{ℕ, ◌*◌, ◌≡◌, Bool, true, false, cond, List, [], ◌∷◌, eqb, length, drop}
use Rattle.table.specs.Table.{column}
use Rattle.table.specs.Columns.{columns}

-- k is none of the columns
abbrev pub outside : List ℕ → ℕ → Bool
outside [] k = true
outside (x ∷ l) k = cond (eqb x k) false (outside l k)

-- u is w but for the columns ks: the other columns, what stands past all of them, and the length are as they were
pub record Only (ks : List ℕ) (rows : ℕ) (w u : List ℕ) : Type 0 where
  pub others : (k : ℕ) → outside ks k ≡ true → column rows k u ≡ column rows k w
  pub rest : drop (columns * rows) u ≡ drop (columns * rows) w
  pub size : length u ≡ length w

-- each of the columns ks is one of js
abbrev pub covered : List ℕ → List ℕ → Bool
covered [] js = true
covered (k ∷ ks) js = cond (outside js k) false (covered ks js)

-- none of the columns ks is one of js
abbrev pub disjoint : List ℕ → List ℕ → Bool
disjoint [] js = true
disjoint (k ∷ ks) js = cond (outside js k) (disjoint ks js) false

-- Zeros counted. Definitions only.
use Rattle.std.specs.Prelude.{ℕ, zero, suc, List, [], ◌∷◌}

-- how many of a list's words are 0
unfoldable pub zeros : List ℕ → ℕ
zeros [] = zero
zeros (zero ∷ l) = suc (zeros l)
zeros (suc x ∷ l) = zeros l

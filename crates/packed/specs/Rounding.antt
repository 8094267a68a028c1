-- The nearest whole number, ties to even. Definitions only.
use Rattle.std.specs.Prelude.{ℕ, ◌+◌, ◌*◌, ◌/◌, ◌%◌, ◌≤◌, ◌≡◌, Bool, cond, ◌&&◌, ◌||◌, eqb, ltb}

-- whether n / d is nearer to the number past its whole part than to that, or as near and the whole part is odd
unfoldable pub rounds_up : ℕ → ℕ → Bool
rounds_up n d = ltb d (2 * (n % d)) || (eqb d (2 * (n % d)) && eqb (n / d % 2) 1)

-- 'the whole number nearest to' n / d, 'ties to even'
unfoldable pub nearest : ℕ → ℕ → ℕ
nearest n d = n / d + cond (rounds_up n d) 1 0

-- What makes q the whole number nearest to n / d: 'at most half a unit' away on either side, and even where it is half a unit. All times 2 d, over whole numbers.
pub record NearestWhole (n d q : ℕ) : Type 0 where
  pub above : 2 * n ≤ 2 * (q * d) + d
  pub below : 2 * (q * d) ≤ 2 * n + d
  pub even_above : 2 * n ≡ 2 * (q * d) + d → q % 2 ≡ 0
  pub even_below : 2 * (q * d) ≡ 2 * n + d → q % 2 ≡ 0

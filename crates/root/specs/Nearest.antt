-- What makes a value of binary32 the nearest to a root. Definitions only.
use Rattle.std.specs.Prelude.{ℕ, ◌+◌, ◌*◌, ◌^◌, ◌<◌, false, T, Float}
use Rattle.std.specs.Float.{binary32}
use Rattle.std.specs.Float.Ieee.{fits}
use Rattle.std.specs.Float.Ieee.Exact.{HasValue}

-- y is a value of binary32, finite and not negative, and it is q units of 2 ^ -149
abbrev pub Units : Float → ℕ → Type 0
Units y q = T (fits binary32 y) × HasValue y false q (2 ^ 149)

-- p units of 2 ^ -149 are nearer to the root of n units of 2 ^ -298 than any other value of binary32 is: the root lies on p's side of the midpoint between the two, never on it
pub record Nearest (n p : ℕ) : Type 0 where
  pub above : (y : Float) (q : ℕ) → Units y q → p < q → 4 * n < (p + q) * (p + q)
  pub below : (y : Float) (q : ℕ) → Units y q → q < p → (p + q) * (p + q) < 4 * n

-- z is the value of binary32 that is nearest to the root of n units of 2 ^ -298
pub record NearestRoot (z : Float) (n : ℕ) : Type 0 where
  pub p : ℕ
  pub units : Units z p
  pub nearest : Nearest n p

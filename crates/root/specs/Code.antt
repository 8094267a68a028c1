-- How the code goes about the root: what its private functions are asked and answer. Nothing that a reader has to believe. Definitions only.
use Rattle.std.specs.Prelude.{ℕ, ◌+◌, ◌*◌, ◌<◌, ◌≤◌, Bool, ◌&&◌, nat_le, nat_lt}

-- m has 24 digits, and m * 2 ^ a units of 2 ^ -298 lie between the least and the greatest value of binary32 that is above zero and finite
pub record Digits (m a : ℕ) : Type 0 where
  pub least : 8388608 ≤ m
  pub most : m < 16777216
  pub low : 126 ≤ a
  pub high : a ≤ 402

-- n lies between the squares of r - 1/2 and r + 1/2
abbrev pub certain : ℕ → ℕ → Bool
certain n r = nat_lt (r * r) (n + r) && nat_le n (r * r + r)

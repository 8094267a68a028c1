-- Numbers as the real numbers are, and the cosines among them. Definitions only.
use Rattle.std.specs.Prelude.{◌≡◌, ℕ, zero, suc, ◌+◌, ◌-◌, ◌*◌, ◌^◌, ◌<◌, ◌≤◌, ◌⊎◌, ℤ, pos}

-- numbers that are added, multiplied and ordered as the real numbers are
pub record Numbers : Type 1 where
  pub R : Type 0
  pub nought : R
  pub one : R
  pub plus : R → R → R
  pub times : R → R → R
  pub under : R → R → Type 0
  pub plus_assoc : (a b d : R) → plus (plus a b) d ≡ plus a (plus b d)
  pub plus_comm : (a b : R) → plus a b ≡ plus b a
  pub plus_nought : (a : R) → plus nought a ≡ a
  pub times_assoc : (a b d : R) → times (times a b) d ≡ times a (times b d)
  pub times_comm : (a b : R) → times a b ≡ times b a
  pub times_one : (a : R) → times one a ≡ a
  pub times_nought : (a : R) → times nought a ≡ nought
  pub times_plus : (a b d : R) → times (plus a b) d ≡ plus (times a d) (times b d)
  pub irrefl : (a : R) → under a a → ⊥
  pub trans : (a b d : R) → under a b → under b d → under a d
  pub total : (a b : R) → under a b ⊎ ((a ≡ b) ⊎ under b a)
  pub plus_under : (a b d : R) → under a b → under (plus d a) (plus d b)
  pub times_under : (a b d : R) → under nought d → under a b → under (times d a) (times d b)
  pub above : under nought one

-- the number n
unfoldable pub count : (F : Numbers) → ℕ → F.R
count F zero = F.nought
count F (suc n) = F.plus F.one (count F n)

-- x(k) is the cosine of k/1024 of a half turn, k up to 512: 1 at no angle, 0 at a quarter turn, above 0 between, and twice the square is 1 more than the cosine of twice the angle,
-- which past a quarter turn is that of what is left of the half turn, with its sign changed
pub record Cosines (F : Numbers) (x : ℕ → F.R) : Type 0 where
  pub first : x 0 ≡ F.one
  pub quarter : x 512 ≡ F.nought
  pub positive : (k : ℕ) → k < 512 → F.under F.nought (x k)
  pub double : (k : ℕ) → k ≤ 256 → F.plus (F.times (x k) (x k)) (F.times (x k) (x k)) ≡ F.plus (x (2 * k)) F.one
  pub beyond : (k : ℕ) → 256 < k → k ≤ 512 → F.plus (F.plus (F.times (x k) (x k)) (F.times (x k) (x k))) (x (1024 - 2 * k)) ≡ F.one

-- 'nearest to 2^30 times the cosine', of a cosine y from 0 to 1: 2^64 y is less than 2^33 from 2^34 times the whole number z, which is not negative
unfoldable pub Near : (F : Numbers) → F.R → ℤ → Type 0
Near F y z = (n : ℕ) × (z ≡ pos n) × F.under (F.times (count F (2 ^ 64)) y) (count F (2 ^ 34 * n + 2 ^ 33)) × F.under (count F (2 ^ 34 * n)) (F.plus (F.times (count F (2 ^ 64)) y) (count F (2 ^ 33)))

-- Document 01, 'a table of 1,025 whole numbers c(0) to c(1024), c(k) nearest to 2^30 times the cosine of k/1024 of a half turn'. Definitions only.
use Rattle.std.specs.Prelude.{ℕ, ◌-◌, ◌*◌, ◌≤◌, ◌<◌, ◌≡◌, T, ℤ, neg_ℤ}
use Rattle.angle.specs.Table.{c}
use Rattle.angle.specs.Rule.{rules_of, NearestAt}
use Rattle.angle.specs.Cosine.{Numbers, Cosines, Near}

-- y(k) is the cosine of k/1024 of a half turn, for k up to 1024, in numbers that have a minus: 1 at no angle, 0 at a quarter turn, above 0 before it, its sign changed where the angle is taken from the half turn,
-- and twice the square is 1 more than the cosine of twice the angle. The real numbers and their cosines are such; nothing is rounded
pub record Whole (F : Numbers) (minus : F.R → F.R) (y : ℕ → F.R) : Type 0 where
  pub cancels : (a : F.R) → F.plus a (minus a) ≡ F.nought
  pub first : y 0 ≡ F.one
  pub quarter : y 512 ≡ F.nought
  pub positive : (k : ℕ) → k < 512 → F.under F.nought (y k)
  pub mirror : (k : ℕ) → k ≤ 1024 → y (1024 - k) ≡ minus (y k)
  pub double : (k : ℕ) → k ≤ 512 → F.plus (F.times (y k) (y k)) (F.times (y k) (y k)) ≡ F.plus (y (2 * k)) F.one

pub record Promised : Type 1 where
  -- The logic has no real numbers, so it is said of any numbers that are added, multiplied and ordered as they are (`Numbers` of angle/specs/Cosine.antt), and of any y that has the rules of the cosines.
  -- Up to a quarter turn 2^30 y(k) lies less than a half from c(k) (`Near`), so that no other whole number is as near; past it 2^30 times -y(k) lies less than a half from -c(k)
  pub nearest : (F : Numbers) (minus : F.R → F.R) (y : ℕ → F.R) → Whole F minus y → (k : ℕ) → (k ≤ 512 → Near F (y k) (c k)) × (512 ≤ k → k ≤ 1024 → Near F (minus (y k)) (neg_ℤ (c k)))
  -- The same of numbers without a minus, where x(k) is the cosine up to a quarter turn (`Cosines`), and what is past it is that of what is left of the half turn, with its sign changed
  pub up_to_quarter : (F : Numbers) (x : ℕ → F.R) → Cosines F x → (k : ℕ) → k ≤ 512 → Near F (x k) (c k)
  pub past_quarter : (F : Numbers) (x : ℕ → F.R) → Cosines F x → (k : ℕ) → 512 ≤ k → k ≤ 1024 → Near F (x (1024 - k)) (neg_ℤ (c k))
  -- Over whole numbers alone: each table of 64 binary digits that has document 01's four rules, whatever table it is, lies less than 2^33 from 2^34 c(k) at every k; and there is one
  pub finer : (x : ℕ → ℤ) → T (rules_of 64 x) → (k : ℕ) → k ≤ 1024 → NearestAt x k
  pub some : (x : ℕ → ℤ) × T (rules_of 64 x)

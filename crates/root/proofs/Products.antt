-- The product of two numbers that have bounds: its bound, and that it fits 64 bits. Assumes nothing.
use Rattle.std.proofs.Common.{ℕ, ◌*◌, ◌^◌, ◌≤◌, T, ltb, lt_of_le_of_lt, mul-le-mul, lit<, w64, Fits}

module _ (a b x y : ℕ) where
  pub product_le : x ≤ a → y ≤ b → x * y ≤ a * b
  product_le h k = mul-le-mul h k

  pub product-fits : T (ltb (a * b) (2 ^ 64)) → x ≤ a → y ≤ b → Fits w64 (x * y)
  product-fits t h k = record { fits = lt_of_le_of_lt (product_le h k) (lit< t) }

pub square-fits : (a x : ℕ) → T (ltb (a * a) (2 ^ 64)) → x ≤ a → Fits w64 (x * x)
square-fits a x t h = product-fits a a x x t h h

-- Numbers of 16 bits in two's complement. Assumes nothing.
use Prim.Native.Nat.{ℕ, ◌-◌, ◌%◌, ◌≤◌, ◌<◌}
use native.Mathlib.Omega.{arith}
use mathlib.Core.Path.{◌≡◌, refl, ap, ◌∙◌}
use mathlib.Core.Bool.{Bool, true, false, cond}
use borrow.Author.Tests.{lt-ltb, le-ltb}
use Rattle.packed.specs.Component.{full_scale, nothing, short_values, signed, amount}
use Rattle.packed.proofs.Rounding.{below_or_not}

-- from 0 up, and below 0
amount-low : (n : ℕ) → n < nothing → amount n ≡ n
unfolding amount
amount-low n h = ap (λ (t : Bool). cond t n (short_values - n)) (lt-ltb n nothing h)

amount-high : (n : ℕ) → nothing ≤ n → amount n ≡ short_values - n
unfolding amount
amount-high n h = ap (λ (t : Bool). cond t n (short_values - n)) (le-ltb n nothing h)

-- the amount of a number with a sign
pub amount-signed : (s : Bool) (q : ℕ) → q ≤ full_scale → amount (signed s q) ≡ q
unfolding signed
amount-signed false q h = amount-low q (omega arith)
amount-signed true q h =
    below_or_not 0 q (λ l. ap amount (wraps l) ∙ (amount-high (short_values - q) (omega arith) ∙ omega arith)) (λ g. ap amount (zero g) ∙ (amount-low 0 (omega arith) ∙ omega arith))
  where
    wraps : 0 < q → (short_values - q) % short_values ≡ short_values - q
    wraps l = omega arith

    zero : q ≤ 0 → (short_values - q) % short_values ≡ 0
    zero g = omega arith

-- no such number is -32,768
pub not-nothing : (s : Bool) (q : ℕ) → q ≤ full_scale → signed s q ≡ nothing → ⊥
unfolding signed
not-nothing false q h e = omega arith
not-nothing true q h e = omega arith

-- and each other one is such a number
pub record Signed (n : ℕ) : Type 0 where
  pub sign : Bool
  pub size : ℕ
  pub small : size ≤ full_scale
  pub is : signed sign size ≡ n

pub signed_all : (n : ℕ) → n < short_values → (n ≡ nothing → ⊥) → Signed n
unfolding signed
signed_all n h k =
    below_or_not n nothing (λ l. record { sign = false; size = n; small = omega arith; is = refl })
    (λ g. record { sign = true; size = short_values - n; small = omega (arith, k); is = omega (arith, k) })

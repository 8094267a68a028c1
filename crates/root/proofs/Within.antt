-- The whole number nearest to √n, for an n above 0, is the one p with p * p < n + p and n ≤ p * p + p: n lies between the squares of p - 1/2 and p + 1/2.
-- Assumes nothing.
use Rattle.std.proofs.Common.{◌≡◌, ℕ, zero, suc, ◌+◌, ◌*◌, ◌<◌, ◌≤◌, Bool, true, false, cond, not, T, ltb, le_refl, le_of_suc-le-suc, mul_assoc, suc-mul, mul_comm, add-mul, mul-le-mul, le_antisymm, one-mul, lt_of_not-le, mul-one, mul-suc, mul-add, not-le_of_lt, mul_left_comm, arith, ltb→lt, nltb→le}
use Rattle.root.specs.Root.{to_nearest}
use Rattle.root.proofs.Roots.{Is}

abbrev pub Within : ℕ → ℕ → Type 0
Within n p = (p * p < n + p) × (n ≤ p * p + p)

-- ---- the squares of q + 1/2, doubled, and of q + 1
pub half_up : (q : ℕ) → (2 * q + 1) * (2 * q + 1) ≡ 4 * (q * q) + 4 * q + 1
half_up q = simp (mul-add, add-mul, mul_assoc, mul_comm, mul_left_comm, mul-one, one-mul) (omega arith)

pub next : (q : ℕ) → suc q * suc q ≡ q * q + 2 * q + 1
next q = simp (suc-mul, mul-suc) (omega arith)

-- ---- there is only one
no-later : (n p q : ℕ) → n ≤ p * p + p → q * q < n + q → q ≤ p
no-later n p q h k = le_of_suc-le-suc (lt_of_not-le (λ (g : suc p ≤ q). not-le_of_lt k (far g)))
  where
    far : suc p ≤ q → n + q ≤ q * q
    far g =
        let a : suc p * q ≤ q * q = mul-le-mul g (le_refl q) in
        let b : p * suc p ≤ p * q = mul-le-mul (le_refl p) g in
        omega (arith, a, b, suc-mul p q, mul-suc p p, h)

pub only : (n p q : ℕ) → Within n p → Within n q → p ≡ q
only n p q h k = le_antisymm (no-later n q p k.1 h.0) (no-later n p q h.1 k.0)

-- ---- and it is the one that the definition rounds to, where n is not 0
above-square : (n q : ℕ) → 0 < n → q * q ≤ n → q * q < n + q
above-square n zero h k = omega arith
above-square n (suc q) h k = omega arith

pub within : (n q : ℕ) → 0 < n → Is n q → Within n (to_nearest q n)
within n q h i = go (ltb ((2 * q + 1) * (2 * q + 1)) (4 * n)) (ltb→lt ((2 * q + 1) * (2 * q + 1)) (4 * n)) (nltb→le ((2 * q + 1) * (2 * q + 1)) (4 * n))
  where
    go : (b : Bool) → (T b → (2 * q + 1) * (2 * q + 1) < 4 * n) → (T (not b) → 4 * n ≤ (2 * q + 1) * (2 * q + 1)) → Within n (cond b (suc q) q)
    go true l g = let x = l tt in (omega (arith, half_up q, next q, i.0, i.1), omega (arith, next q, i.1))
    go false l g = let x = g tt in (above-square n q h i.0, omega (arith, half_up q, i.0))

-- of 0 there is none
pub some : (n p : ℕ) → Within n p → 0 < n
some n zero h = omega arith
some n (suc p) h = omega (arith, next p, h.0)

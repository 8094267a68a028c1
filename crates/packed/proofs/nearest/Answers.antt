-- `packed::nearest` meets its contract. Assumes nothing.
use native.Mathlib.Omega.{arith}
use Prim.Native.Nat.{ℕ, ◌+◌, ◌*◌, ◌/◌, ◌%◌, ◌^◌, ◌<◌}
use native.Mathlib.Nat.{div-add-mod', mod-lt, mod-le, div-le_self, mod-eq_of_lt, one-mul}
use mathlib.Core.Path.{◌≡◌, sym, ◌∙◌, ap, subst}
use lib.Pow.{pow_pos, pow-lt}
use Rattle.packed.specs.Rounding.{NearestWhole}
use Rattle.packed.specs.Rounding as rounding
use Rattle.packed.proofs.Rounding.{rounded-down, rounded-up, rounded-even, nearest-only}
use Rattle.packed.proofs.nearest.Goals as goal

-- what the shift makes: a power of two
abbrev shifted : ℕ → ℕ
shifted k = 1 * 2 ^ k % 2 ^ 64

shifted-is : (k : ℕ) → k < 64 → shifted k ≡ 2 ^ k
shifted-is k h = ap (λ (x : ℕ). x % 2 ^ 64) (one-mul (2 ^ k)) ∙ mod-eq_of_lt (pow-lt h)

shifted-pos : (k : ℕ) → k < 64 → 0 < shifted k
shifted-pos k h = subst (λ (x : ℕ). 0 < x) (sym (shifted-is k h)) (pow_pos k)

-- a nearest number is the definition's
settled : (n k q : ℕ) → k < 64 → NearestWhole n (shifted k) q → q ≡ rounding.nearest n (2 ^ k)
settled n k q h e = nearest-only n (shifted k) q (shifted-pos k h) e ∙ ap (rounding.nearest n) (shifted-is k h)

pub nonzero_div-q : goal.nonzero_div-q
nonzero_div-q c = shifted-pos c.args.k c.requires.1

pub nonzero_rem-r : goal.nonzero_rem-r
nonzero_rem-r c = shifted-pos c.args.k c.requires.1

pub overflow_mul-r : goal.overflow_mul-r
overflow_mul-r c = omega (arith, mod-le c.args.n (shifted c.args.k))

pub returns-then-r-d : goal.returns-then-r-d
returns-then-r-d c =
    let n = c.args.n in
    let k = c.args.k in
    let h = c.requires.1 in
    settled n k (n / shifted k) h (rounded-down n (shifted k) (n / shifted k) (n % shifted k) (div-add-mod' n (shifted k)) (mod-lt n (shifted-pos k h)) (omega arith) (λ e. absurd (omega arith)))

pub overflow_mul-r-2 : goal.overflow_mul-r-2
overflow_mul-r-2 c = omega (arith, mod-le c.args.n (shifted c.args.k))

pub overflow_add-result : goal.overflow_add-result
overflow_add-result c = omega (arith, div-le_self c.args.n (shifted c.args.k))

pub returns-then-d-r : goal.returns-then-d-r
returns-then-d-r c =
    let n = c.args.n in
    let k = c.args.k in
    let h = c.requires.1 in
    settled n k (n / shifted k + 1) h (rounded-up n (shifted k) (n / shifted k) (n % shifted k) (div-add-mod' n (shifted k)) (mod-lt n (shifted-pos k h)) (omega arith) (λ e. absurd (omega arith)))

pub overflow_add-result-2 : goal.overflow_add-result-2
overflow_add-result-2 c = omega (arith, div-le_self c.args.n (shifted c.args.k))

pub returns : goal.returns
returns c =
    let n = c.args.n in
    let k = c.args.k in
    let h = c.requires.1 in
    settled n k (n / shifted k + n / shifted k % 2) h (rounded-even n (shifted k) (n / shifted k) (n % shifted k) (div-add-mod' n (shifted k)) (mod-lt n (shifted-pos k h)) (omega arith))

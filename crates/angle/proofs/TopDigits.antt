-- The 24 leading digits, by the count of a number's leading zeros. Assumes nothing.
use Rattle.std.proofs.Common.{◌≡◌, ℕ, suc, ◌+◌, ◌-◌, ◌*◌, ◌/◌, ◌%◌, ◌^◌, ◌<◌, ◌≤◌, false, pos, sym, ap, ◌∙◌, subst, lt_of_lt_of_le, le_of_suc-le-suc, lt_of_le_of_lt, mod-eq_of_lt, mul_assoc, le_antisymm, mul-lt-mul_of_pos_right, mul-one, div-mul-le_self, div-one, arith, lit<, lit≤, pow_pos, pow-add}
use native.Mathlib.Nat.{pow-succ'}
use lib.Count.{count_leading_zeros, leading_length}
use lib.Ieee.{binary32, of_int, size}
use lib.Ieee.Digits.{size-lt, size-le}
use lib.Ieee.Exact.{HasValue, round_exact}
use lib.Ieee.Fits.{kept-lt}
use Rattle.root.proofs.Scaling.{pow-cancel}
use Rattle.angle.specs.Angle.{top_digits}

double : (p n s : ℕ) → p ≤ 2 * n + 1 → n < s → p < 2 * s
double p n s h l = omega arith

pub zeros-size : (n : ℕ) → n < 2 ^ 32 → count_leading_zeros 32 n + size n ≡ 32
zeros-size n h =
    let l = leading_length 32 n h in
    let m = l.0 in
    let up : m ≤ size n = le_of_suc-le-suc (pow-cancel {a = m} {b = suc (size n)} (subst (λ (x : ℕ). 2 ^ m < x) (sym (pow-succ' 2 (size n))) (double (2 ^ m) n (2 ^ size n) l.3 (size-lt n)))) in
    ap (λ (x : ℕ). count_leading_zeros 32 n + x) (le_antisymm (size-le n m l.2) up) ∙ l.1

drop-is : (L s : ℕ) → L + s ≡ 32 → s - 24 ≡ 8 - L
drop-is L s e = omega arith

pub dropped : (n : ℕ) → n < 2 ^ 32 → size n - 24 ≡ 8 - count_leading_zeros 32 n
dropped n h = drop-is (count_leading_zeros 32 n) (size n) (zeros-size n h)

pub cut_off : (n : ℕ) → n < 2 ^ 32 → n / 2 ^ (8 - count_leading_zeros 32 n) * 2 ^ (8 - count_leading_zeros 32 n) % 2 ^ 32 ≡ top_digits n
cut_off n h =
    mod-eq_of_lt (lt_of_le_of_lt (div-mul-le_self n (2 ^ (8 - count_leading_zeros 32 n))) h)
    ∙ ap (λ (d : ℕ). n / 2 ^ d * 2 ^ d) (sym (dropped n h))

pub kept_whole : (n : ℕ) → n < 2 ^ 32 → 8 ≤ count_leading_zeros 32 n → n ≡ top_digits n
kept_whole n h l =
    let z : 8 - count_leading_zeros 32 n ≡ 0 = omega arith in
    sym (ap (λ (d : ℕ). n / 2 ^ d * 2 ^ d) (dropped n h ∙ z) ∙ mul-one (n / 1) ∙ div-one n)

-- ---- as a float of 24 digits the number kept is exact
pub exact : (n : ℕ) → n < 2 ^ 32 → HasValue (of_int binary32 (pos (top_digits n))) false (top_digits n) 1
unfolding of_int
exact n h =
    let d = size n - 24 in
    let q = n / 2 ^ d in
    let units : q * 2 ^ (d + 149) ≡ q * 2 ^ d * 2 ^ 149 = ap (λ (x : ℕ). q * x) (pow-add 2 d 149) ∙ sym (mul_assoc q (2 ^ d) (2 ^ 149)) in
    let small : q * 2 ^ d * 2 ^ 149 < 2 ^ 32 * 2 ^ 149 = mul-lt-mul_of_pos_right (lt_of_le_of_lt (div-mul-le_self n (2 ^ d)) h) (pow_pos 149) in
    round_exact binary32 false (top_digits n) 1 q (d + 149) (lit< tt) (kept-lt 24 n)
    (lt_of_lt_of_le (subst (λ (x : ℕ). x < 2 ^ 32 * 2 ^ 149) (sym units) small) (lit≤ tt))
    (sym (mul-one (q * 2 ^ (d + 149)) ∙ units))

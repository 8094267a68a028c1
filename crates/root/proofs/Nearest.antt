-- The definition `sqrt` gives the value of binary32 that is nearest to the real root, and there is never a tie. Assumes nothing.
use Rattle.std.proofs.Common.{◌≡◌, ℕ, zero, suc, ◌+◌, ◌-◌, ◌*◌, ◌/◌, ◌%◌, ◌^◌, ◌<◌, ◌≤◌, Bool, true, false, not, T, ltb, leb, ◌⊎◌, sym, ap, ◌∙◌, subst, inl, inr, true≢false, le_trans, le_of_eq, le_refl, lt_of_lt_of_le, not-suc-le-zero, lt_of_le_of_lt, le_of_lt, add-le-add, mul-le-mul_right, zero-lt-suc, mul_assoc, add-mul, eq-zero-or-pos, mul-le-mul, lt_of_mul-lt-mul_right, eq-or-lt_of_le, mul-lt-mul_of_pos_right, mul-pos, not-le_of_lt, arith, ltb→lt, leb→le, nltb→le, pow_pos, pow_mono, pow-add, lt-ltb}
use native.Mathlib.Nat.{mul-mul-mul_comm, eq_of_mul-eq-mul_right, pow-succ'}
use lib.Dec.{nleb→lt}
use lib.Ieee.{Float, nan, inf, fin, binary32, fits, up, down, lt, of_bits, to_bits, units}
use lib.Ieee.Bits.{of_bits-to_bits, of_bits-fits}
use lib.Ieee.Digits.{back}
use lib.Ieee.Fits.{up_pos}
use lib.Ieee.Exact.{HasValue, units_val}
use lib.Ieee.Positive.{den, den_pos, value→cross, positive_of_value}
use Rattle.bits.proofs.Zeros.{O}
use Rattle.root.specs.Root.{sqrt, root}
use Rattle.root.specs.Nearest.{Units, Nearest, NearestRoot}
use Rattle.root.proofs.Roots.{root-law}
use Rattle.root.proofs.Within.{Within, within, half_up, next}
use Rattle.root.proofs.Rooted.{four-pow}
use Rattle.root.proofs.Patterns.{Read, read-normal, read-subnormal, under-overflow}
use Rattle.root.proofs.Scaling.{scale, scaled, halves, nearest_of, pattern, spread, spread-root, zeros}
use Rattle.root.proofs.Signs.{in-range}

-- ---- whole numbers: p within M's root, and any other t
above_at : (M p t : ℕ) → Within M p → p < t → 4 * M < (p + t) * (p + t)
above_at M p t W h =
    let w : 2 * p + 1 ≤ p + t = omega arith in
    let x : (2 * p + 1) * (2 * p + 1) ≤ (p + t) * (p + t) = mul-le-mul w w in
    omega (arith, half_up p, W.1)

below_at : (M p t : ℕ) → Within M p → t < p → (p + t) * (p + t) < 4 * M
below_at M zero t W h = absurd (not-suc-le-zero h)
below_at M (suc r) t W h =
    let w : suc r + t ≤ 2 * r + 1 = omega arith in
    let x : (suc r + t) * (suc r + t) ≤ (2 * r + 1) * (2 * r + 1) = mul-le-mul w w in
    omega (arith, half_up r, next r, W.0)

-- ---- the same in units of u
square-by : (x y u : ℕ) → (x * u + y * u) * (x * u + y * u) ≡ (x + y) * (x + y) * (u * u)
square-by x y u = ap (λ (z : ℕ). z * z) (sym (add-mul x y u)) ∙ mul-mul-mul_comm (x + y) u (x + y) u

module _ (M p u : ℕ) (W : Within M p) (some : 0 < u) where
  above-by : (t : ℕ) → p * u < t * u → 4 * (M * (u * u)) < (p * u + t * u) * (p * u + t * u)
  above-by t h =
      lt_of_le_of_lt (le_of_eq (sym (mul_assoc 4 M (u * u))))
      (lt_of_lt_of_le (mul-lt-mul_of_pos_right (above_at M p t W (lt_of_mul-lt-mul_right u h)) (mul-pos some some)) (le_of_eq (sym (square-by p t u))))

  below_by : (t : ℕ) → t < p → (p * u + t * u) * (p * u + t * u) < 4 * (M * (u * u))
  below_by t h =
      lt_of_le_of_lt (le_of_eq (square-by p t u))
      (lt_of_lt_of_le (mul-lt-mul_of_pos_right (below_at M p t W h) (mul-pos some some)) (le_of_eq (mul_assoc 4 M (u * u))))

-- ---- numbers of 24 digits and their places: s * 2 ^ j is a multiple of 2 ^ k, or below all that have 24 digits at the place k
finer-or-less : (s j k : ℕ) → s < 16777216 → ((t : ℕ) × (s * 2 ^ j ≡ t * 2 ^ k)) ⊎ (s * 2 ^ j < 8388608 * 2 ^ k)
finer-or-less s j k h = go (leb k j) (leb→le k j) (nleb→lt k j)
  where
    twice : (x : ℕ) → 16777216 * x ≡ 8388608 * (2 * x)
    twice x = omega arith

    go : (b : Bool) → (T b → k ≤ j) → (T (not b) → j < k) → ((t : ℕ) × (s * 2 ^ j ≡ t * 2 ^ k)) ⊎ (s * 2 ^ j < 8388608 * 2 ^ k)
    go true l g = inl (s * 2 ^ (j - k), ap (λ (x : ℕ). s * x) (ap (λ (x : ℕ). 2 ^ x) (sym (back j k (l tt))) ∙ pow-add 2 (j - k) k) ∙ sym (mul_assoc s (2 ^ (j - k)) (2 ^ k)))
    go false l g =
        inr
        (lt_of_lt_of_le (mul-lt-mul_of_pos_right h (pow_pos j))
        (le_trans (le_of_eq (twice (2 ^ j) ∙ ap (λ (x : ℕ). 8388608 * x) (sym (pow-succ' 2 j)))) (mul-le-mul (le_refl 8388608) (pow_mono (g tt)))))

-- from the least number of 24 digits the gap below is half as wide; but there the root is no less than that number
least : (M u q : ℕ) → 2 ^ 46 ≤ M → 0 < u → q < 8388608 * u → (8388608 * u + q) * (8388608 * u + q) < 4 * (M * (u * u))
least M u q h some l =
    let w : 8388608 * u + q < 16777216 * u = omega arith in
    let P : 0 < 16777216 * u = mul-pos (zero-lt-suc 16777215) some in
    lt_of_le_of_lt (mul-le-mul (le_refl (8388608 * u + q)) (le_of_lt w))
    (lt_of_lt_of_le (mul-lt-mul_of_pos_right w P)
    (le_trans (le_of_eq (mul-mul-mul_comm 16777216 u 16777216 u))
    (le_trans (mul-le-mul_right (u * u) (four M h)) (le_of_eq (mul_assoc 4 M (u * u))))))
  where
    four : (M : ℕ) → 2 ^ 46 ≤ M → 16777216 * 16777216 ≤ 4 * M
    four M h = omega arith

module _ (M p k : ℕ) (W : Within M p) (lo : 8388608 ≤ p) (over : 2 ^ 46 ≤ M) where
  above-digits : (s j : ℕ) → s < 16777216 → p * 2 ^ k < s * 2 ^ j → 4 * (M * (2 ^ k * 2 ^ k)) < (p * 2 ^ k + s * 2 ^ j) * (p * 2 ^ k + s * 2 ^ j)
  above-digits s j h l = elim (finer-or-less s j k h) [
    | inl e ↦
        subst (λ (q : ℕ). p * 2 ^ k < q → 4 * (M * (2 ^ k * 2 ^ k)) < (p * 2 ^ k + q) * (p * 2 ^ k + q)) (sym e.1) (above-by M p (2 ^ k) W (pow_pos k) e.0) l
    | inr g ↦ absurd (not-le_of_lt (lt_of_lt_of_le g (mul-le-mul_right (2 ^ k) lo)) (le_of_lt l))
  ]

  -- what is below all that have 24 digits at this place
  less : (q : ℕ) → q < 8388608 * 2 ^ k → (p * 2 ^ k + q) * (p * 2 ^ k + q) < 4 * (M * (2 ^ k * 2 ^ k))
  less q l = elim (eq-or-lt_of_le lo) [
    | inl e ↦ subst (λ (x : ℕ). (x * 2 ^ k + q) * (x * 2 ^ k + q) < 4 * (M * (2 ^ k * 2 ^ k))) e (least M (2 ^ k) q over (pow_pos k) l)
    | inr g ↦
        let t-le : 8388608 ≤ p - 1 = omega arith in
        let t-lt : p - 1 < p = omega arith in
        let w : q ≤ (p - 1) * 2 ^ k = le_trans (le_of_lt l) (mul-le-mul_right (2 ^ k) t-le) in
        let v : p * 2 ^ k + q ≤ p * 2 ^ k + (p - 1) * 2 ^ k = add-le-add (le_refl (p * 2 ^ k)) w in
        lt_of_le_of_lt (mul-le-mul v v) (below_by M p (2 ^ k) W (pow_pos k) (p - 1) t-lt)
  ]

  below-digits : (s j : ℕ) → s < 16777216 → s * 2 ^ j < p * 2 ^ k → (p * 2 ^ k + s * 2 ^ j) * (p * 2 ^ k + s * 2 ^ j) < 4 * (M * (2 ^ k * 2 ^ k))
  below-digits s j h l = elim (finer-or-less s j k h) [
    | inl e ↦
        subst (λ (q : ℕ). q < p * 2 ^ k → (p * 2 ^ k + q) * (p * 2 ^ k + q) < 4 * (M * (2 ^ k * 2 ^ k))) (sym e.1)
        (λ (i : e.0 * 2 ^ k < p * 2 ^ k). below_by M p (2 ^ k) W (pow_pos k) e.0 (lt_of_mul-lt-mul_right (2 ^ k) i)) l
    | inr g ↦ less (s * 2 ^ j) g
  ]

-- ---- the digits of a value of binary32
above_zero : (x : Float) (n c : ℕ) → 0 < n → HasValue x false n c → lt O x ≡ true
unfolding lt
above_zero nan n c N v = absurd v
above_zero (inf s) n c N v = absurd v
above_zero (fin true m e) n c N v = absurd (true≢false v.0)
above_zero (fin false m e) n c N v = lt-ltb (0 * down e) (m * up e * 1) (more (down e) (m * up e) (mul-pos (ltb→lt 0 m (positive_of_value (fin false m e) n c v N)) (up_pos e)))
  where
    more : (d a : ℕ) → 0 < a → 0 * d < a * 1
    more d a h = omega arith

not_infinite : (x : Float) (n c : ℕ) → HasValue x false n c → x ≡ inf false → ⊥
not_infinite x n c v e = subst (λ (y : Float). HasValue y false n c) e v

pub read : (x : Float) (n c : ℕ) → T (fits binary32 x) → 0 < n → HasValue x false n c → (s : ℕ) × (h : ℕ) × Read x s h
unfolding of_bits
read x n c f N v =
    let b = to_bits binary32 x in
    let e : of_bits binary32 b ≡ x = of_bits-to_bits binary32 x f in
    let r = in-range x f (above_zero x n c N v) (λ (w : b ≡ 2139095040). not_infinite x n c v (sym e ∙ ap (of_bits binary32) w)) in
    go b e r.0 r.1 (ltb b 8388608) (ltb→lt b 8388608) (nltb→le b 8388608)
  where
    go : (b : ℕ) → of_bits binary32 b ≡ x → 0 < b → b < 2139095040 → (t : Bool) → (T t → b < 8388608) → (T (not t) → 8388608 ≤ b) → (s : ℕ) × (h : ℕ) × Read x s h
    go b e p q true l g = (b, 0, subst (λ (y : Float). Read y b 0) e (read-subnormal b p (l tt)))
    go b e p q false l g = (8388608 + b % 8388608, b / 8388608 - 1, subst (λ (y : Float). Read y (8388608 + b % 8388608) (b / 8388608 - 1)) e (read-normal b (g tt) q))

one_value : (x : Float) (a b c : ℕ) → HasValue x false a c → HasValue x false b c → a ≡ b
one_value x a b c h k = eq_of_mul-eq-mul_right (den x) (den_pos x) a b (sym (value→cross x a c h) ∙ value→cross x b c k)

digits : (y : Float) (q : ℕ) → Units y q → (s : ℕ) × (j : ℕ) × (s < 16777216) × (s * 2 ^ j ≡ q)
digits y q U = elim (eq-zero-or-pos q) [
  | inl z ↦ (0, 0, zero-lt-suc 16777215, sym z)
  | inr p ↦ let r = read y q (2 ^ 149) U.0 p U.1 in (r.0, r.1, r.2.few, one_value y (r.0 * 2 ^ r.1) q (2 ^ 149) r.2.value U.1)
]

-- ---- the theorem
nearest-of : (M p k : ℕ) → Within M p → 8388608 ≤ p → 2 ^ 46 ≤ M → Nearest (M * 4 ^ k) (p * 2 ^ k)
nearest-of M p k W lo over = subst (λ (f : ℕ). Nearest (M * f) (p * 2 ^ k)) (sym (four-pow k)) (record {
  above = λ y q U. let d = digits y q U in
      subst (λ (x : ℕ). p * 2 ^ k < x → 4 * (M * (2 ^ k * 2 ^ k)) < (p * 2 ^ k + x) * (p * 2 ^ k + x)) d.3 (above-digits M p k W lo over d.0 d.1 d.2);
  below = λ y q U. let d = digits y q U in
      subst (λ (x : ℕ). x < p * 2 ^ k → (p * 2 ^ k + x) * (p * 2 ^ k + x) < 4 * (M * (2 ^ k * 2 ^ k))) d.3 (below-digits M p k W lo over d.0 d.1 d.2);
})

pub nearest : (x : Float) (n : ℕ) → T (fits binary32 x) → 0 < n → HasValue x false n (2 ^ 298) → NearestRoot (sqrt x) n
nearest x n f N v =
    let r = read x n (2 ^ 298) f N v in
    let m = r.0 * 2 ^ zeros r.0 in
    let a = r.1 + 149 - zeros r.0 in
    let X = spread x r.0 r.1 r.2 in
    let S = scale m a X.digits in
    let M = scaled m a in
    let p = nearest_of M in
    let k = halves a in
    let e : m * 2 ^ a ≡ n = one_value x (m * 2 ^ a) n (2 ^ 298) X.value v in
    let is : sqrt x ≡ units binary32 false p k = spread-root x m a X ∙ S.root_is in
    record {
      p = p * 2 ^ k;
      units = (
        subst (λ (z : Float). T (fits binary32 z)) (pattern m a X.digits ∙ sym (spread-root x m a X)) (of_bits-fits binary32 (k * 8388608 + p)),
        subst (λ (z : Float). HasValue z false (p * 2 ^ k) (2 ^ 149)) (sym is) (units_val binary32 false p k (under-overflow p k S.small S.bound)),
      );
      nearest =
          subst (λ (z : ℕ). Nearest z (p * 2 ^ k)) (sym S.whole ∙ e)
          (nearest-of M p k (within M (root 24 M) (lt_of_lt_of_le (pow_pos 46) S.over) (root-law 24 M S.under)) S.large S.over);
    }

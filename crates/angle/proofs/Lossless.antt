-- Request E3 of document 02: of a number of binary32 above 1/2 and up to 1 the difference 1 - a and its half lose nothing, so that w is rounded once. Assumes nothing.
use Rattle.std.proofs.Common.{◌≡◌, ℕ, zero, suc, ◌+◌, ◌-◌, ◌*◌, ◌%◌, ◌^◌, ◌<◌, ◌≤◌, true, false, ◌&&◌, ◌||◌, T, eqb, ltb, leb, ℤ, pos, negsuc, sym, refl, ap, ◌∙◌, subst, true≢false, lt_of_lt_of_le, le_of_suc-le-suc, lt_of_le_of_lt, lt_irrefl, mul-le-mul_right, mul_assoc, mul_comm, add-mul, lt_of_not-le, mul_left_comm, arith, lit<, ltb→lt, pow_mono, pow-add, shl_lt}
use lib.Ieee.{Float, nan, inf, fin, binary32, fits, lt, eq, le, sub, add, div, neg, round, up, down}
use lib.Ieee.Exact.{HasValue, round_exact}
use lib.Ieee.Fits.{down_pos, and_l, and_r}
use lib.Ieee.Scale.{round_same}
use Rattle.angle.proofs.Unit.{I, test-le}
use Rattle.angle.proofs.Narrow.{H, II, taken-from, no-negative}

-- ---- a, from 1/2 to 1, is a number of 2 ^ -24: u / d, where d divides 2 ^ 24
record Parts (u d : ℕ) : Type 0 where
  w : ℕ
  whole : w * d ≡ 2 ^ 24
  most : u ≤ d
  least : d ≤ u * 2

under-25 : (n : ℕ) → 2 ^ n < 2 ^ 25 → n ≤ 24
under-25 n h = le_of_suc-le-suc (lt_of_not-le (λ (g : 25 ≤ n). lt_irrefl (2 ^ n) (lt_of_lt_of_le h (pow_mono g))))

divides : (n : ℕ) → n ≤ 24 → 2 ^ (24 - n) * 2 ^ n ≡ 2 ^ 24
divides n h =
    let e : 24 - n + n ≡ 24 = omega arith in
    sym (pow-add 2 (24 - n) n) ∙ ap (λ (k : ℕ). 2 ^ k) e

-- the tests of le H a and le a I, and the digits of a
parts : (m : ℕ) (e : ℤ) → T (fits binary32 (fin false m e)) → m * up e ≤ down e → down e ≤ m * up e * 2 → Parts (m * up e) (down e)
unfolding fits
parts zero e f h l = absurd (lt_irrefl 0 (lt_of_lt_of_le (down_pos e) (nothing (up e) (down e) l)))
  where
    nothing : (p d : ℕ) → d ≤ 0 * p * 2 → d ≤ 0
    nothing p d l = omega arith
parts (suc m) (pos k) f h l = record { w = 2 ^ 24; whole = refl; most = h; least = l }
parts (suc m) (negsuc n) f h l =
    let o = eqb (suc m % 2) 1 in
    let few = ltb→lt (suc m) (2 ^ 24) (and_r o (ltb (suc m) (2 ^ 24)) (and_l (o && ltb (suc m) (2 ^ 24)) (leb (2 ^ suc n) (2 ^ 149)) (and_l (o && ltb (suc m) (2 ^ 24) && leb (2 ^ suc n) (2 ^ 149)) (ltb (suc m * 1) (2 ^ 128 * 2 ^ suc n)) f))) in
    record { w = 2 ^ (24 - suc n); whole = divides (suc n) (under-25 (suc n) (lt_of_le_of_lt l (twice m few))); most = h; least = l }
  where
    twice : (m : ℕ) → suc m < 2 ^ 24 → suc m * 1 * 2 < 2 ^ 25
    twice m h = omega arith

-- ---- what is rounded is held
-- q / 2 ^ 24 and q / 2 ^ 25 for a q of at most 2 ^ 23
held-24 : (q : ℕ) → q < 2 ^ 24 → HasValue (round binary32 false q (2 ^ 24)) false q (2 ^ 24)
held-24 q h = round_exact binary32 false q (2 ^ 24) q 125 (lit< tt) h (lt_of_lt_of_le (shl_lt 24 125 h) (pow_mono {i = 149} {j = 277} (omega arith))) (sym (mul_assoc q (2 ^ 125) (2 ^ 24)))

held-25 : (q : ℕ) → q < 2 ^ 24 → HasValue (round binary32 false q (2 ^ 25)) false q (2 ^ 25)
held-25 q h = round_exact binary32 false q (2 ^ 25) q 124 (lit< tt) h (lt_of_lt_of_le (shl_lt 24 124 h) (pow_mono {i = 148} {j = 277} (omega arith))) (sym (mul_assoc q (2 ^ 124) (2 ^ 25)))

-- ---- the difference
pub record Lossless (a : Float) : Type 0 where
  -- a is g / 2 ^ 24, and what is left to 1 is q / 2 ^ 24
  pub g : ℕ
  pub q : ℕ
  pub one : g + q ≡ 2 ^ 24
  pub size : HasValue a false g (2 ^ 24)
  pub difference : HasValue (sub binary32 I a) false q (2 ^ 24)
  pub half : HasValue (div binary32 (sub binary32 I a) II) false q (2 ^ 25)

halved : (x : Float) (q : ℕ) → q < 2 ^ 24 → HasValue x false q (2 ^ 24) → HasValue (div binary32 x II) false q (2 ^ 25)
unfolding div
halved nan q h v = absurd v
halved (inf s) q h v = absurd v
halved (fin true m e) q h v = absurd (true≢false v.0)
halved (fin false m e) q h v =
    let u = m * up e in
    let d = down e in
    subst (λ (y : Float). HasValue y false q (2 ^ 25)) (sym (round_same binary32 false (u * 1) (2 * d) q (2 ^ 25) (lt_of_lt_of_le (down_pos e) (omega arith)) (lit< tt) (turn u d q (2 ^ 24) v.1))) (held-25 q h)
  where
    turn : (u d q k : ℕ) → u * k ≡ q * d → u * 1 * (2 * k) ≡ q * (2 * d)
    turn u d q k e = simp (mul_assoc, mul_comm, mul_left_comm) (omega arith)

-- 2 ^ 24 times (d - u) / d is (d - u) w
left_over : (u d w : ℕ) → w * d ≡ 2 ^ 24 → u ≤ d → d ≤ u * 2 → (u * w + (d - u) * w ≡ 2 ^ 24) × ((d - u) * w < 2 ^ 24)
left_over u d w e h l =
    let s : u * w + (d - u) * w ≡ 2 ^ 24 = sym (add-mul u (d - u) w) ∙ ap (λ (x : ℕ). x * w) (both u d h) ∙ mul_comm d w ∙ e in
    (s, less (u * w) ((d - u) * w) s (mul-le-mul_right w (more u d l)))
  where
    both : (u d : ℕ) → u ≤ d → u + (d - u) ≡ d
    both u d h = omega arith

    more : (u d : ℕ) → d ≤ u * 2 → d - u ≤ u
    more u d l = omega arith

    less : (x y : ℕ) → x + y ≡ 2 ^ 24 → y ≤ x → y < 2 ^ 24
    less x y e h = omega arith

pub lossless : (a : Float) → T (fits binary32 a) → T (le H a) → T (le a I) → Lossless a
unfolding lt eq le sub add neg
lossless nan f p q = absurd p
lossless (inf true) f p q = absurd p
lossless (inf false) f p q = absurd q
lossless (fin true m e) f p q = absurd (no-negative (down e) (m * up e * 2) p (down_pos e))
lossless (fin false m e) f p q =
    let u = m * up e in
    let d = down e in
    let h : u * 1 ≤ 1 * d = test-le (u * 1) (1 * d) (true || eqb (u * 1) 0) q in
    let l : 1 * d ≤ u * 2 = test-le (1 * d) (u * 2) (true || eqb (1 * d) 0) p in
    let r = parts m e f (omega arith) (omega arith) in
    let o = left_over u d r.w r.whole r.most r.least in
    let n = (d - u) * r.w in
    let v : HasValue (sub binary32 I (fin false m e)) false n (2 ^ 24) =
    subst (λ (y : Float). HasValue y false n (2 ^ 24))
    (sym (taken-from (1 * d) (u * 1) (1 * d) h ∙ round_same binary32 false (1 * d - u * 1) (1 * d) n (2 ^ 24) (lt_of_lt_of_le (down_pos e) (omega arith)) (lit< tt) (crossed u d r.w r.whole)))
    (held-24 n o.1) in
    record {
      g = u * r.w;
      q = n;
      one = o.0;
      size = (refl, ap (λ (x : ℕ). u * x) (sym r.whole) ∙ sym (mul_assoc u r.w d));
      difference = v;
      half = halved (sub binary32 I (fin false m e)) n o.1 v;
    }
  where
    crossed : (u d w : ℕ) → w * d ≡ 2 ^ 24 → (1 * d - u * 1) * 2 ^ 24 ≡ (d - u) * w * (1 * d)
    crossed u d w e =
        let x : 1 * d - u * 1 ≡ d - u = omega arith in
        let y : 1 * d ≡ d = omega arith in
        ap (λ (z : ℕ). z * 2 ^ 24) x ∙ ap (λ (z : ℕ). (d - u) * z) (sym e) ∙ sym (mul_assoc (d - u) w d) ∙ ap (λ (z : ℕ). (d - u) * w * z) (sym y)

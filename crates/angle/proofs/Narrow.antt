-- Request E3 of document 02: w, the root of (1 - a) / 2 for an a from 1/2 to 1, is from 0 to 1/2, and its A is at most 2 ^ 29, so that 2 ^ 30 - 2 B takes nothing from less. Assumes nothing.
use Rattle.std.proofs.Common.{◌≡◌, ℕ, suc, ◌+◌, ◌-◌, ◌*◌, ◌^◌, ◌<◌, ◌≤◌, Bool, true, false, ◌&&◌, ◌||◌, T, eqb, ltb, ℤ, pos, negsuc, sym, refl, ap, ◌∙◌, subst, inl, inr, true≢false, zero-le, le_trans, le_of_eq, lt_of_lt_of_le, le_of_suc-le-suc, lt_irrefl, mul-le-mul_right, mul_assoc, mul_comm, eq-zero-or-pos, mul-le-mul, mul-pos, lt_of_not-le, zero-mul, not-le_of_lt, le_of_mul-le-mul_right, arith, lit<, eqb→eq, pow_pos, le-ltb, lt-ltb}
use lib.IntN.{sub_ℕ}
use lib.Ieee.{Float, nan, inf, fin, binary32, fits, lt, eq, le, sub, add, sum, div, neg, round, up, down, to_unsigned, to_signed, mul}
use lib.Ieee.Exact.{HasValue}
use lib.Ieee.Fits.{down_pos, and_r, div-fits}
use lib.Ieee.Order.{round_mono, le_of_values}
use lib.Ieee.Positive.{positive_of_value, values_of_le}
use lib.Ieee.Scale.{finite, grid, round_val, round_under}
use Rattle.bits.proofs.Zeros.{O}
use Rattle.root.specs.Root.{sqrt}
use Rattle.root.proofs.Patterns.{finer}
use Rattle.root.proofs.Signs.{zero-stays}
use Rattle.root.proofs.Nearest.{nearest}
use Rattle.angle.specs.Angle.{greatest, way_of}
use Rattle.angle.proofs.Entries.{between, half-way, way-is}
use Rattle.angle.proofs.Unit.{I, -I, test-le, size_of}
use Rattle.angle.proofs.Toward.{G, toward}

-- 1/2, 1/4 and 2
abbrev pub H : Float
H = fin false 1 (negsuc 0)

abbrev Q : Float
Q = fin false 1 (negsuc 1)

abbrev pub II : Float
II = fin false 1 (pos 1)

round-H : round binary32 false 1 2 ≡ H
unfolding round
round-H = refl

round-Q : round binary32 false 1 4 ≡ Q
unfolding round
round-Q = refl

-- ---- 1 - a: a fraction of at most 1/2, rounded
pub taken-from : (a b c : ℕ) → b ≤ a → sum binary32 false a true b c ≡ round binary32 false (a - b) c
unfolding sum
taken-from a b c h = simp (le-ltb a b h)

-- no negative number is at least 1/2
pub no-negative : (d u : ℕ) → T (false || (eqb (1 * d) u && (false || eqb (1 * d) 0))) → 0 < d → ⊥
no-negative d u t h = let z = eqb→eq (1 * d) 0 (and_r (eqb (1 * d) u) (eqb (1 * d) 0) t) in omega arith

pub rest : (a : Float) → T (le H a) → T (le a I) → (n : ℕ) × (d : ℕ) × (0 < d) × (2 * n ≤ d) × (sub binary32 I a ≡ round binary32 false n d)
unfolding lt eq le sub add neg
rest nan p q = absurd p
rest (inf true) p q = absurd p
rest (inf false) p q = absurd q
rest (fin true m e) p q = absurd (no-negative (down e) (m * up e * 2) p (down_pos e))
rest (fin false m e) p q =
    let u = m * up e in
    let d = down e in
    let h : u * 1 ≤ 1 * d = test-le (u * 1) (1 * d) (true || eqb (u * 1) 0) q in
    let l : 1 * d ≤ u * 2 = test-le (1 * d) (u * 2) (true || eqb (1 * d) 0) p in
    (1 * d - u * 1, 1 * d, lt_of_lt_of_le (down_pos e) (omega arith), omega arith, taken-from (1 * d) (u * 1) (1 * d) h)

-- ---- a fraction from 0 to b, rounded: finite, and at most the float of b
finite-of : (x y : Float) → T (finite y) → T (le x y) → T (le O x) → T (finite x)
unfolding lt eq le
finite-of nan y f h l = absurd l
finite-of (inf true) y f h l = absurd l
finite-of (inf false) nan f h l = absurd f
finite-of (inf false) (inf s) f h l = absurd f
finite-of (inf false) (fin s m e) f h l = absurd h
finite-of (fin s m e) y f h l = tt

round-O : round binary32 false 0 1 ≡ O
unfolding round
round-O = refl

at_least : (a c : ℕ) → 0 < c → T (le O (round binary32 false a c))
at_least a c h = subst (λ (y : Float). T (le y (round binary32 false a c))) round-O (round_mono binary32 0 1 a c (lit< tt) h (omega arith))

record Rounded (x : Float) (b : ℕ) : Type 0 where
  g : ℕ
  value : HasValue x false g (2 ^ 149)
  most : b * g ≤ 2 ^ 149

rounded : (a c b : ℕ) (y : Float) → 0 < c → 0 < b → b * a ≤ c → T (finite y) → HasValue y false 1 b → round binary32 false 1 b ≡ y → Rounded (round binary32 false a c) b
rounded a c b y C B h f v e =
    let x = round binary32 false a c in
    let l : T (le x y) = subst (λ (z : Float). T (le x z)) e (round_mono binary32 a c 1 b C B (omega arith)) in
    let w = round_val binary32 a c (round_under binary32 a c (finite-of x y f l (at_least a c C))) in
    let g = grid binary32 a c in
    record {
      g = g;
      value = w;
      most =
          elim (eq-zero-or-pos g) [
            | inl z ↦ subst (λ (k : ℕ). b * k ≤ 2 ^ 149) (sym z) (none b (2 ^ 149))
            | inr p ↦ turn b g (2 ^ 149) (values_of_le x y g (2 ^ 149) 1 b (positive_of_value x g (2 ^ 149) w p) (positive_of_value y 1 b v (lit< tt)) w v l)
          ];
    }
  where
    none : (b k : ℕ) → b * 0 ≤ k
    none b k = omega arith

    turn : (b g k : ℕ) → g * b ≤ 1 * k → b * g ≤ k
    turn b g k h = omega arith

-- ---- (1 - a) / 2: a fraction of at most 1/4, rounded
halves : (x : Float) → Rounded x 2 → (n : ℕ) × (d : ℕ) × (0 < d) × (4 * n ≤ d) × (div binary32 x II ≡ round binary32 false n d)
unfolding div
halves nan r = absurd r.value
halves (inf s) r = absurd r.value
halves (fin true m e) r = absurd (true≢false r.value.0)
halves (fin false m e) r =
    let u = m * up e in
    let d = down e in
    (u * 1, 2 * d, lt_of_lt_of_le (down_pos e) (omega arith), quarter u d r.g (2 ^ 149) (pow_pos 149) r.value.1 r.most, refl)
  where
    quarter : (u d g k : ℕ) → 0 < k → u * k ≡ g * d → 2 * g ≤ k → 4 * (u * 1) ≤ 2 * d
    quarter u d g k K e h =
        let l : 2 * g * d ≤ k * d = mul-le-mul_right d h in
        let m : 2 * u * k ≤ d * k = subst (λ (x : ℕ). x ≤ d * k) (mul_assoc 2 g d ∙ ap (λ (x : ℕ). 2 * x) (sym e) ∙ sym (mul_assoc 2 u k)) (subst (λ (x : ℕ). 2 * g * d ≤ x) (mul_comm k d) l) in
        let n : 2 * u ≤ d = le_of_mul-le-mul_right m K in
        omega arith

-- ---- the root of a number up to 1/4 is a number up to 1/2
is_zero : (x : Float) → HasValue x false 0 (2 ^ 149) → eq x O ≡ true
unfolding eq
is_zero nan v = absurd v
is_zero (inf s) v = absurd v
is_zero (fin true m e) v = absurd (true≢false v.0)
is_zero (fin false m e) v = go (m * up e) (down e) (2 ^ 149) (pow_pos 149) v.1
  where
    go : (u d k : ℕ) → 0 < k → u * k ≡ 0 * d → (eqb (u * 1) (0 * d) && (true || eqb (u * 1) 0)) ≡ true
    go u d k K h = elim (eq-zero-or-pos u) [
      | inl z ↦ subst (λ (x : ℕ). (eqb (x * 1) (0 * d) && true) ≡ true) (sym z) (subst (λ (x : ℕ). (eqb 0 x && true) ≡ true) (sym (zero-mul d)) refl)
      | inr p ↦ absurd (lt_irrefl 0 (lt_of_lt_of_le (mul-pos p K) (le_of_eq (h ∙ zero-mul d))))
    ]

root-small : (x : Float) → T (fits binary32 x) → Rounded x 4 → Rounded (sqrt x) 2
unfolding fits
root-small x f r = elim (eq-zero-or-pos r.g) [
  | inl z ↦
      let v : HasValue x false 0 (2 ^ 149) = subst (λ (k : ℕ). HasValue x false k (2 ^ 149)) z r.value in
      subst (λ (y : Float). Rounded y 2) (zero-stays x (is_zero x v)) (record { g = 0; value = v; most = zero-le })
  | inr p ↦
      let n = nearest x (r.g * 2 ^ 149) f (mul-pos p (pow_pos 149)) (finer x r.g r.value) in
      record { g = n.p; value = n.units.1; most = below n.p r.g r.most (n.nearest.below H (2 ^ 148) (tt, (refl, refl))) }
]
  where
    over : (p k : ℕ) → 2 * k < 2 * p → k < p
    over p k h = omega arith

    both : (p k : ℕ) → k < p → 2 * k ≤ p + k
    both p k h = omega arith

    below : (p g : ℕ) → 4 * g ≤ 2 ^ 149 → (2 ^ 148 < p → (p + 2 ^ 148) * (p + 2 ^ 148) < 4 * (g * 2 ^ 149)) → 2 * p ≤ 2 ^ 149
    below p g h f = le_of_suc-le-suc (lt_of_not-le (λ (l : suc (2 ^ 149) ≤ 2 * p).
        let q : 2 ^ 148 < p = over p (2 ^ 148) l in
        let a : 2 ^ 149 ≤ p + 2 ^ 148 = both p (2 ^ 148) q in
        let b : 2 ^ 149 * 2 ^ 149 ≤ (p + 2 ^ 148) * (p + 2 ^ 148) = mul-le-mul a a in
        let c : 4 * g * 2 ^ 149 ≤ 2 ^ 149 * 2 ^ 149 = mul-le-mul_right (2 ^ 149) h in
        not-le_of_lt (f q) (le_trans (le_of_eq (sym (mul_assoc 4 g (2 ^ 149)))) (le_trans c b))))

-- ---- w
abbrev pub W : Float → Float
W a = sqrt (div binary32 (sub binary32 I a) II)

w-small : (a : Float) → T (le H a) → T (le a I) → Rounded (W a) 2
w-small a p q =
    let r = rest a p q in
    let x : Rounded (sub binary32 I a) 2 = subst (λ (z : Float). Rounded z 2) (sym r.4) (rounded r.0 r.1 2 H r.2 (lit< tt) r.3 tt (refl, refl) round-H) in
    let s = halves (sub binary32 I a) x in
    let y : Rounded (div binary32 (sub binary32 I a) II) 4 = subst (λ (z : Float). Rounded z 4) (sym s.4) (rounded s.0 s.1 4 Q s.2 (lit< tt) s.3 tt (refl, refl) round-Q) in
    root-small (div binary32 (sub binary32 I a) II) (div-fits binary32 (sub binary32 I a) II) y

-- what is above 1/2 is at least 1/2
pub above_half : (a : Float) → T (lt H a) → T (le H a)
unfolding le
above_half a t = go (lt H a) (eq H a) t
  where
    go : (x y : Bool) → T x → T (x || y)
    go true y t = tt
    go false y t = absurd t

above-minus : (x : Float) (g c : ℕ) → HasValue x false g c → T (le -I x)
unfolding lt eq le
above-minus nan g c v = absurd v
above-minus (inf s) g c v = absurd v
above-minus (fin true m e) g c v = absurd (true≢false v.0)
above-minus (fin false m e) g c v = go (1 * down e + m * up e * 1) (eqb (1 * down e) (m * up e * 1) && (false || eqb (1 * down e) 0)) (lt_of_lt_of_le (down_pos e) (omega arith))
  where
    go : (n : ℕ) (t : Bool) → 0 < n → T (ltb 0 n || t)
    go n t h = subst (λ (b : Bool). T (b || t)) (sym (lt-ltb 0 n h)) tt

not-under : (x : Float) (g c : ℕ) → HasValue x false g c → lt x O ≡ false
unfolding lt
not-under nan g c v = absurd v
not-under (inf s) g c v = absurd v
not-under (fin true m e) g c v = absurd (true≢false v.0)
not-under (fin false m e) g c v = le-ltb (m * up e * 1) (0 * down e) (omega arith)

-- w is from 0 to 1/2, and so from -1 to 1
pub record Small (w : Float) : Type 0 where
  pub least : T (le O w)
  pub most : T (le w H)
  pub above : T (le -I w)
  pub under : T (le w I)
  pub sign : lt w O ≡ false

pub narrow : (a : Float) → T (lt H a) → T (le a I) → Small (W a)
narrow a p q =
    let r = w-small a (above_half a p) q in
    let K = pow_pos 149 in
    record {
      least = le_of_values O (W a) 0 1 r.g (2 ^ 149) (lit< tt) K (refl, refl) r.value zero-le;
      most = le_of_values (W a) H r.g (2 ^ 149) 1 2 K (lit< tt) r.value (refl, refl) (twice r.g (2 ^ 149) r.most);
      above = above-minus (W a) r.g (2 ^ 149) r.value;
      under = le_of_values (W a) I r.g (2 ^ 149) 1 1 K (lit< tt) r.value (refl, refl) (once r.g (2 ^ 149) r.most);
      sign = not-under (W a) r.g (2 ^ 149) r.value;
    }
  where
    twice : (g k : ℕ) → 2 * g ≤ k → g * 2 ≤ 1 * k
    twice g k h = omega arith

    once : (g k : ℕ) → 2 * g ≤ k → g * 1 ≤ 1 * k
    once g k h = omega arith

-- ---- B is at most 2 ^ 29
pub half_turn : (w : Float) → Small w → way_of (to_signed 63 (mul binary32 w G)) ≤ 2 ^ 29
half_turn w s =
    let n = to_unsigned 64 (mul binary32 (size_of w) G) in
    let t = toward w n s.above s.under refl false s.sign in
    let u = 2 ^ 30 + n in
    let k = greatest 1023 (sub_ℕ u (2 ^ 30)) in
    let b = between u t.1 in
    subst (λ (X : ℤ). way_of X ≤ 2 ^ 29) (sym t.0) (subst (λ (x : ℕ). x ≤ 2 ^ 29) (way-is u k b) (half-way u k (omega arith) b))

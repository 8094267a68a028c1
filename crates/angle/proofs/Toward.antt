-- 2 ^ 30 times a number from -1 to 1, toward zero, by the whole part of 2 ^ 30 times its size. Assumes nothing.
use Rattle.std.proofs.Common.{◌≡◌, ℕ, ◌+◌, ◌-◌, ◌*◌, ◌/◌, ◌^◌, ◌<◌, ◌≤◌, min, Bool, true, false, cond, not, ◌||◌, T, eqb, ℤ, pos, neg_ℤ, sym, refl, ap, ◌∙◌, subst, zero-le, le_of_suc-le-suc, div-lt_iff_lt-mul, arith, lit<, lit≤, lt→ltb}
use mathlib.Core.Bool.{beq}
use native.Mathlib.Nat.{zero-div}
use lib.IntN.{sub_ℕ}
use lib.Ieee.{Float, nan, inf, fin, binary32, lt, eq, le, mul, neg, round, to_unsigned, to_signed, up, down}
use lib.Ieee.Fits.{down_pos}
use lib.Ieee.Order.{round_mono}
use lib.Ieee.Scale.{round_same}
use Rattle.bits.proofs.Negated.{round-neg}
use Rattle.bits.proofs.Zeros.{O}
use Rattle.angle.proofs.Above.{added, taken}
use Rattle.angle.proofs.Unit.{I, -I, test-le, Under, under, under-zero, negated, minus-nought, size_of, unit}

-- 2 ^ 30
abbrev pub G : Float
G = fin false 1 (pos 30)

mul-fin : (s : Bool) (m : ℕ) (e : ℤ) → mul binary32 (fin s m e) G ≡ round binary32 (not (beq s false)) (m * up e * (1 * 2 ^ 30)) (down e * 1)
unfolding mul
mul-fin s m e = refl

-- the product of what is below 0 is that of its size, negated
pub product-neg : (x : Float) → Under x → mul binary32 x G ≡ neg (mul binary32 (neg x) G)
unfolding neg
product-neg _ (under m e h) = mul-fin true m e ∙ round-neg binary32 (m * up e * (1 * 2 ^ 30)) (down e * 1) ∙ ap neg (sym (mul-fin false m e))

-- ---- 2 ^ 30 times a number from 0 to 1 is from 0 to 2 ^ 30
round-G : round binary32 false 1073741824 1 ≡ G
unfolding round
round-G = refl

round-O : round binary32 false 0 1 ≡ O
unfolding round
round-O = refl

round--O : round binary32 true 0 1 ≡ fin true 0 (pos 0)
unfolding round
round--O = refl

one_down : (e : ℤ) → 0 < down e * 1
one_down e = let p = down_pos e in omega arith

pub scaled : (x : Float) → T (le O x) → T (le x I) → T (le O (mul binary32 x G)) × T (le (mul binary32 x G) G)
unfolding lt eq le
scaled nan p q = absurd p
scaled (inf true) p q = absurd p
scaled (inf false) p q = absurd q
scaled (fin false m e) p q =
    let u = m * up e in
    let d = down e in
    let h : u * 1 ≤ 1 * d = test-le (u * 1) (1 * d) (true || eqb (u * 1) 0) q in (
      subst (λ (y : Float). T (le O y)) (sym (mul-fin false m e))
          (subst (λ (y : Float). T (le y (round binary32 false (u * (1 * 2 ^ 30)) (d * 1)))) round-O
          (round_mono binary32 0 1 (u * (1 * 2 ^ 30)) (d * 1) (lit< tt) (one_down e) (omega arith))),
      subst (λ (y : Float). T (le y G)) (sym (mul-fin false m e))
          (subst (λ (y : Float). T (le (round binary32 false (u * (1 * 2 ^ 30)) (d * 1)) y)) round-G
          (round_mono binary32 (u * (1 * 2 ^ 30)) (d * 1) 1073741824 1 (one_down e) (lit< tt) (omega arith))),
    )
scaled (fin true m e) p q =
    let z = minus-nought m e p in
    let y : mul binary32 (fin true m e) G ≡ fin true 0 (pos 0) =
    mul-fin true m e ∙ round_same binary32 true (m * up e * (1 * 2 ^ 30)) (down e * 1) 0 1 (one_down e) (lit< tt) (omega arith) ∙ round--O in
    (subst (λ (y : Float). T (le O y)) (sym y) tt, subst (λ (y : Float). T (le y G)) (sym y) tt)

-- ---- such a number is in the range of `truncating_f32_to_u64`, its whole part is at most 2 ^ 30, and with either sign it is that whole part toward zero
pub record Whole (y : Float) : Type 0 where
  pub above : T (lt (fin true 1 (pos 0)) y)
  pub under : T (lt y (fin false 1 (pos 64)))
  pub most : to_unsigned 64 y ≤ 2 ^ 30
  pub same : to_signed 63 y ≡ pos (to_unsigned 64 y)
  pub turned : to_signed 63 (neg y) ≡ neg_ℤ (pos (to_unsigned 64 y))

pub whole : (y : Float) → T (le O y) → T (le y G) → Whole y
unfolding lt eq le neg to_unsigned to_signed
whole nan p q = absurd p
whole (inf true) p q = absurd p
whole (inf false) p q = absurd q
whole (fin false m e) p q =
    let u = m * up e in
    let d = down e in
    let D = down_pos e in
    let h : u * 1 ≤ 1073741824 * d = test-le (u * 1) (1073741824 * d) (true || eqb (u * 1) 0) q in
    let w : u / d ≤ 1073741824 = le_of_suc-le-suc ((div-lt_iff_lt-mul {k = d} {x = u} {y = 1073741825} D).1 (omega arith)) in
    record {
      above = lt→ltb 0 (1 * d + u * 1) (omega arith);
      under = lt→ltb (u * 1) (18446744073709551616 * d) (omega arith);
      most = (capped (u / d) (2 ^ 64 - 1) w (lit≤ tt)).1;
      same = ap pos ((capped (u / d) (2 ^ 63 - 1) w (lit≤ tt)).0 ∙ sym (capped (u / d) (2 ^ 64 - 1) w (lit≤ tt)).0);
      turned = ap (λ (n : ℕ). neg_ℤ (pos n)) ((capped (u / d) (2 ^ 63) w (lit≤ tt)).0 ∙ sym (capped (u / d) (2 ^ 64 - 1) w (lit≤ tt)).0);
    }
  where
    capped : (x b : ℕ) → x ≤ 1073741824 → 1073741824 ≤ b → (min x b ≡ x) × (min x b ≤ 1073741824)
    capped x b h l = (omega arith, omega arith)
whole (fin true m e) p q =
    let D = down_pos e in
    let z = minus-nought m e p in
    let o : m * up e / down e ≡ 0 = ap (λ (k : ℕ). k / down e) z ∙ zero-div (down e) in
    record {
      above = lt→ltb (m * up e * 1) (1 * down e) (omega arith);
      under = lt→ltb 0 (m * up e * 1 + 18446744073709551616 * down e) (omega arith);
      most = zero-le;
      same = ap (λ (k : ℕ). neg_ℤ (pos (min k (2 ^ 63)))) o;
      turned = ap (λ (k : ℕ). pos (min k (2 ^ 63 - 1))) o;
    }

pub whole-unit : (y : Float) → T (le O y) → T (le y I) → Whole (mul binary32 y G)
whole-unit y p q = let s = scaled y p q in whole (mul binary32 y G) s.0 s.1

-- 2 ^ 30 times the number, toward zero, is 2 ^ 30 less than the whole part of its size's product added to 2 ^ 30, or taken from it
pub toward : (y : Float) (n : ℕ) → T (le -I y) → T (le y I) → n ≡ to_unsigned 64 (mul binary32 (size_of y) G)
    → (b : Bool) → lt y O ≡ b → (to_signed 63 (mul binary32 y G) ≡ sub_ℕ (cond b (2 ^ 30 - n) (2 ^ 30 + n)) (2 ^ 30)) × (cond b (2 ^ 30 - n) (2 ^ 30 + n) ≤ 2 ^ 31)
toward y n p q i true e =
    let u = under-zero y e p in
    let w = whole-unit (neg y) (negated y u).0 (negated y u).1 in
    let j : n ≡ to_unsigned 64 (mul binary32 (neg y) G) = i ∙ ap (λ (b : Bool). to_unsigned 64 (mul binary32 (cond b (neg y) y) G)) e in
    let l : n ≤ 2 ^ 30 = subst (λ (k : ℕ). k ≤ 2 ^ 30) (sym j) w.most in
    (ap (to_signed 63) (product-neg y u) ∙ w.turned ∙ ap (λ (k : ℕ). neg_ℤ (pos k)) (sym j) ∙ taken n (2 ^ 30) l, omega arith)
toward y n p q i false e =
    let s : T (le O y) = subst (λ (b : Bool). T (le O (cond b (neg y) y))) e (unit y p q).0 in
    let w = whole-unit y s q in
    let j : n ≡ to_unsigned 64 (mul binary32 y G) = i ∙ ap (λ (b : Bool). to_unsigned 64 (mul binary32 (cond b (neg y) y) G)) e in
    let l : n ≤ 2 ^ 30 = subst (λ (k : ℕ). k ≤ 2 ^ 30) (sym j) w.most in
    (w.same ∙ ap pos (sym j) ∙ added n (2 ^ 30), omega arith)

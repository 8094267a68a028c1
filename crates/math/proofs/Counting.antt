-- Where no component counts, the squared length is zero or NaN: so the first ground of request E6 is part of the second, and a vector points exactly where its squared length spans. Assumes nothing.
use mathlib.Core.Path.{◌≡◌, refl, sym, ap, ◌∙◌, subst}
use mathlib.Core.Bool.{Bool, true, false, not, cond, ◌||◌, true≢false}
use Prim.Native.Nat.{ℕ, zero, suc, ◌+◌, ◌*◌, ◌^◌, ◌≤◌, ◌<◌}
use native.Mathlib.Nat.{le_trans, le_of_eq, zero-lt-suc, mul-pos, mul-mul-mul_comm, mul-le-mul, zero-mul}
use native.Mathlib.Omega.{arith}
use lib.Dec.{T, nltb→le}
use lib.Pow.{pow_pos}
use lib.Ieee.{Float, nan, inf, fin, binary32, up, down, round, add, sum, mul, lt, eq, le, of_bits}
use lib.Ieee.Fits.{up_pos, down_pos}
use lib.Ieee.Order.{round_mono}
use Rattle.bits.specs.Word.{is_finite}
use Rattle.bits.specs.Single.{◌+ᶠ◌, ◌*ᶠ◌}
use Rattle.bits.proofs.Zeros.{O, side, zero_bits}
use Rattle.math.specs.declared.Vec3.{Vec3}
use Rattle.math.specs.Vector.{dot, abs, counts, spans, points}
use Rattle.math.proofs.Rounds.{Up, round_up, or-le}
use Rattle.math.proofs.Finite.{zero-equal}

-- a NaN, or at most 2 ^ -126 in size
abbrev Small : Float → Type 0
Small nan = T true
Small (inf s) = ⊥
Small (fin s m e) = m * up e * 2 ^ 126 ≤ down e

uncounted : (x : Float) → counts x ≡ false → Small x
unfolding counts abs lt of_bits
uncounted nan h = tt
uncounted (inf s) h = absurd (true≢false h)
uncounted (fin s m e) h = le_trans (nltb→le (1 * 1 * down e) (m * up e * 2 ^ 126) (subst (λ (b : Bool). T (not b)) (sym h) tt)) (le_of_eq (plain (down e)))
  where
    plain : (c : ℕ) → 1 * 1 * c ≡ c
    plain c = omega arith

-- a NaN, or the zero without a sign
abbrev Nought : Float → Type 0
Nought nan = T true
Nought (inf s) = ⊥
Nought (fin s m e) = (s ≡ false) × (m ≡ 0)

least : round binary32 false 1 (2 ^ 252) ≡ O
unfolding round
least = refl

nothing : (x : Float) → Up x → T (le x O) → Nought x
unfolding le lt eq
nothing nan u h = tt
nothing (inf true) u h = absurd (true≢false u)
nothing (inf false) u h = absurd h
nothing (fin true m e) u h = absurd (true≢false u)
nothing (fin false zero e) u h = (refl, refl)
nothing (fin false (suc m) e) u h = absurd (no (suc m * up e) (down e) (mul-pos (zero-lt-suc m) (up_pos e)) (or-le (suc m * up e * 1) (0 * 1 * down e) true h))
  where
    no : (a c : ℕ) → 0 < a → a * 1 ≤ 0 * 1 * c → ⊥
    no a c p h = omega arith

rounds-nought : (a c : ℕ) → 0 < c → a * 2 ^ 252 ≤ c → Nought (round binary32 false a c)
rounds-nought a c C h =
    nothing (round binary32 false a c) (round_up binary32 a c)
    (subst (λ (x : Float). T (le (round binary32 false a c) x)) least (round_mono binary32 a c 1 (2 ^ 252) C (pow_pos 252) (le_trans h (le_of_eq (once c)))))
  where
    once : (c : ℕ) → c ≡ 1 * c
    once c = omega arith

square-nought : (x : Float) → Small x → Nought (mul binary32 x x)
unfolding mul
square-nought nan h = tt
square-nought (inf s) h = absurd h
square-nought (fin true m e) h = rounds-nought (m * up e * (m * up e)) (down e * down e) (mul-pos (down_pos e) (down_pos e)) (le_trans (le_of_eq (sym (mul-mul-mul_comm (m * up e) (2 ^ 126) (m * up e) (2 ^ 126)))) (mul-le-mul h h))
square-nought (fin false m e) h = rounds-nought (m * up e * (m * up e)) (down e * down e) (mul-pos (down_pos e) (down_pos e)) (le_trans (le_of_eq (sym (mul-mul-mul_comm (m * up e) (2 ^ 126) (m * up e) (2 ^ 126)))) (mul-le-mul h h))

sum-nought : (x y : Float) → Nought x → Nought y → Nought (add binary32 x y)
unfolding add sum
sum-nought nan y p q = tt
sum-nought (inf s) y p q = absurd p
sum-nought (fin s m e) nan p q = tt
sum-nought (fin s m e) (inf t) p q = absurd q
sum-nought (fin true m e) (fin t n d) p q = absurd (true≢false p.0)
sum-nought (fin false m e) (fin true n d) p q = absurd (true≢false q.0)
sum-nought (fin false m e) (fin false n d) p q =
    rounds-nought (m * up e * down d + n * up d * down e) (down e * down d) (mul-pos (down_pos e) (down_pos d))
    (none (m * up e * down d) (n * up d * down e) (down e * down d) (gone m (up e) (down d) p.1) (gone n (up d) (down e) q.1))
  where
    gone : (m a b : ℕ) → m ≡ 0 → m * a * b ≡ 0
    gone m a b h = ap (λ (z : ℕ). z * a * b) h ∙ ap (λ (z : ℕ). z * b) (zero-mul a) ∙ zero-mul b

    none : (a b c : ℕ) → a ≡ 0 → b ≡ 0 → (a + b) * 2 ^ 252 ≤ c
    none a b c p q = le_trans (le_of_eq (ap (λ (z : ℕ). z * 2 ^ 252) (zero-sum a b p q) ∙ zero-mul (2 ^ 252))) (least-of c)
      where
        zero-sum : (a b : ℕ) → a ≡ 0 → b ≡ 0 → a + b ≡ 0
        zero-sum a b p q = omega arith

        least-of : (c : ℕ) → 0 ≤ c
        least-of c = omega arith

nought-spans : (q : Float) → Nought q → spans q ≡ false
unfolding spans is_finite
nought-spans nan h = unfold eq in refl
nought-spans (inf s) h = absurd h
nought-spans (fin s (suc m) e) h = absurd (no m h.1)
  where
    no : (m : ℕ) → suc m ≡ 0 → ⊥
    no m h = omega arith
nought-spans (fin s zero e) h = ap (λ (b : Bool). cond b false true) (ap (eq (fin s zero e)) zero_bits ∙ zero-equal (side (fin s zero e)))

-- a vector points exactly where its squared length spans
pub points-spans : (u : Vec3) → points u ≡ spans (dot u u)
unfolding points
points-spans u = go (counts u.x) (counts u.y) (counts u.z) refl refl refl
  where
    flat : counts u.x ≡ false → counts u.y ≡ false → counts u.z ≡ false → spans (dot u u) ≡ false
    flat a b c =
        unfold dot in
        nought-spans (u.x *ᶠ u.x +ᶠ u.y *ᶠ u.y +ᶠ u.z *ᶠ u.z)
        (sum-nought (u.x *ᶠ u.x +ᶠ u.y *ᶠ u.y) (u.z *ᶠ u.z)
        (sum-nought (u.x *ᶠ u.x) (u.y *ᶠ u.y) (square-nought u.x (uncounted u.x a)) (square-nought u.y (uncounted u.y b)))
        (square-nought u.z (uncounted u.z c)))

    go : (a b c : Bool) → counts u.x ≡ a → counts u.y ≡ b → counts u.z ≡ c → cond (a || b || c) (spans (dot u u)) false ≡ spans (dot u u)
    go true b c p q r = refl
    go false true c p q r = refl
    go false false true p q r = refl
    go false false false p q r = sym (flat p q r)

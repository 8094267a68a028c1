-- On which side of zero a number lies, by the three tests `x < 0.0`, `x == 0.0` and `0.0 < x`. Assumes nothing.
use mathlib.Core.Path.{◌≡◌, refl, sym, ap, ◌∙◌, subst}
use mathlib.Core.Bool.{Bool, true, false, beq, ◌&&◌, ◌||◌}
use Prim.Native.Nat.{ℕ, zero, suc, ◌+◌, ◌*◌, ◌<◌}
use native.Mathlib.Nat.{mul-pos, zero-lt-suc}
use native.Mathlib.Omega.{arith}
use borrow.Author.Tests.{lt-ltb, le-ltb, ne_eqb}
use lib.IntN.{ℤ, pos}
use lib.Dec.{eqb}
use lib.Ieee.{Float, nan, inf, fin, binary32, of_bits, lt, eq, up, down, below, level}
use lib.Ieee.Fits.{up_pos}

-- the zero without a sign, which is the number of the word 0
abbrev pub O : Float
O = fin false 0 (pos 0)

pub zero_bits : of_bits binary32 0 ≡ O
unfolding of_bits
zero_bits = refl

-- each kind of number, with what the tests say of it: below zero, equal to it, above it
pub data Side : Float → Bool → Bool → Bool → Type 0 where
  no_number : Side nan false false false
  zeros : (s : Bool) (e : ℤ) → Side (fin s zero e) false true false
  below-zero : (m : ℕ) (e : ℤ) → Side (fin true (suc m) e) true false false
  above_zero : (m : ℕ) (e : ℤ) → Side (fin false (suc m) e) false false true
  lowest : Side (inf true) true false false
  highest : Side (inf false) false false true

told : {x : Float} {l l' q q' g g' : Bool} → l ≡ l' → q ≡ q' → g ≡ g' → Side x l q g → Side x l' q' g'
told {x} {l} {l'} {q} {q'} {g} {g'} a b d k =
    subst (λ (t : Bool). Side x l' q' t) d (subst (λ (t : Bool). Side x l' t g) b (subst (λ (t : Bool). Side x t q g) a k))

none_below : (s : Bool) (a b : ℕ) → a ≡ 0 → b ≡ 0 → false ≡ below s a false b
none_below true a b p q = sym (le-ltb 0 (a + b) (omega arith))
none_below false a b p q = sym (le-ltb a b (omega arith))

none_above : (s : Bool) (a b : ℕ) → a ≡ 0 → b ≡ 0 → false ≡ below false b s a
none_above true a b p q = refl
none_above false a b p q = sym (le-ltb b a (omega arith))

all-level : (s : Bool) (a b : ℕ) → a ≡ 0 → b ≡ 0 → true ≡ level s a false b
all-level true a b p q = sym (ap (λ (k : ℕ). eqb k b && eqb k 0) p ∙ ap (λ (k : ℕ). eqb 0 k && true) q)
all-level false a b p q = sym (ap (λ (k : ℕ). eqb k b && true) p ∙ ap (λ (k : ℕ). eqb 0 k && true) q)

not-level : (s : Bool) (a b : ℕ) → 0 < a → b ≡ 0 → false ≡ level s a false b
not-level s a b p q = sym (ap (λ (t : Bool). t && (beq s false || eqb a 0)) (ne_eqb a b (λ e. omega arith)))

-- a number's size times a positive factor, as the tests have it
some : (m u : ℕ) → 0 < u → 0 < suc m * u * 1
some m u h = let p : 0 < suc m * u = mul-pos (zero-lt-suc m) h in omega arith

nothing : (u : ℕ) → 0 * u * 1 ≡ 0
nothing u = omega arith

nought : (d : ℕ) → 0 * d ≡ 0
nought d = omega arith

pub side : (x : Float) → Side x (lt x O) (eq x O) (lt O x)
unfolding lt eq
side nan = no_number
side (inf true) = lowest
side (inf false) = highest
side (fin s zero e) =
    told (none_below s (0 * up e * 1) (0 * down e) (nothing (up e)) (nought (down e))) (all-level s (0 * up e * 1) (0 * down e) (nothing (up e)) (nought (down e)))
    (none_above s (0 * up e * 1) (0 * down e) (nothing (up e)) (nought (down e))) (zeros s e)
side (fin true (suc m) e) =
    let p = some m (up e) (up_pos e) in
    let q = nought (down e) in
    told (sym (lt-ltb 0 (suc m * up e * 1 + 0 * down e) (omega arith))) (not-level true (suc m * up e * 1) (0 * down e) p q) refl (below-zero m e)
side (fin false (suc m) e) =
    let p = some m (up e) (up_pos e) in
    let q = nought (down e) in
    told (sym (le-ltb (suc m * up e * 1) (0 * down e) (omega arith))) (not-level false (suc m * up e * 1) (0 * down e) p q)
    (sym (lt-ltb (0 * down e) (suc m * up e * 1) (omega arith))) (above_zero m e)

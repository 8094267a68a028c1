-- The absolute value by tests against zero. Assumes nothing.
use mathlib.Core.Path.{◌≡◌, refl, sym}
use mathlib.Core.Bool.{Bool, true, false, true≢false}
use Prim.Native.Nat.{ℕ, ◌*◌}
use native.Mathlib.Omega.{arith}
use lib.IntN.{ℤ}
use lib.Dec.{T}
use lib.Ieee.{Float, fin, binary32, neg, lt, eq, fits, up, down}
use lib.Ieee.Back.{whole_unique}
use Rattle.bits.proofs.Zeros.{O, Side, no_number, zeros, below-zero, above_zero, lowest, highest, side}
use Rattle.math.specs.Vector.{abs}

negative-by : {x : Float} {l q g : Bool} → Side x l q g → l ≡ true → neg x ≡ abs x
unfolding neg abs
negative-by no_number h = absurd (true≢false (sym h))
negative-by (zeros s e) h = absurd (true≢false (sym h))
negative-by (below-zero m e) h = refl
negative-by (above_zero m e) h = absurd (true≢false (sym h))
negative-by lowest h = refl
negative-by highest h = absurd (true≢false (sym h))

pub negative : (x : Float) → lt x O ≡ true → neg x ≡ abs x
negative x h = negative-by (side x) h

-- a zero that fits is written in one way
one-zero : (s : Bool) (e : ℤ) → T (fits binary32 (fin s 0 e)) → O ≡ fin false 0 e
unfolding fits
one-zero s e t = whole_unique binary32 O (fin false 0 e) false 0 tt t (refl, refl) (refl, zero-times (up e) (down e))
  where
    zero-times : (a b : ℕ) → 0 * a * 1 ≡ 0 * b
    zero-times a b = omega arith

zeroed-by : {x : Float} {l q g : Bool} → Side x l q g → T (fits binary32 x) → q ≡ true → O ≡ abs x
unfolding abs
zeroed-by no_number f h = absurd (true≢false (sym h))
zeroed-by (zeros s e) f h = one-zero s e f
zeroed-by (below-zero m e) f h = absurd (true≢false (sym h))
zeroed-by (above_zero m e) f h = absurd (true≢false (sym h))
zeroed-by lowest f h = absurd (true≢false (sym h))
zeroed-by highest f h = absurd (true≢false (sym h))

pub zeroed : (x : Float) → T (fits binary32 x) → eq x O ≡ true → O ≡ abs x
zeroed x f h = zeroed-by (side x) f h

kept_by : {x : Float} {l q g : Bool} → Side x l q g → l ≡ false → q ≡ false → x ≡ abs x
unfolding abs
kept_by no_number h k = refl
kept_by (zeros s e) h k = absurd (true≢false k)
kept_by (below-zero m e) h k = absurd (true≢false h)
kept_by (above_zero m e) h k = refl
kept_by lowest h k = absurd (true≢false h)
kept_by highest h k = refl

pub kept : (x : Float) → lt x O ≡ false → eq x O ≡ false → x ≡ abs x
kept x h k = kept_by (side x) h k

-- The differences that the angle divides are not negative: c(k) >= X and c(k) > c(k+1), at the k of each cosine, and at that of E3's w. Assumes nothing.
use Rattle.std.proofs.Common.{suc, not, T, ℤ, ◌≤ℤ◌, ◌<ℤ◌, sym, refl, subst, arith}
use lib.Ieee.{Float, binary32, of_bits, is_nan, lt, le, neg, mul, to_unsigned}
use Rattle.bits.specs.Single.{halfᶠ, oneᶠ}
use Rattle.bits.proofs.Zeros.{O}
use Rattle.angle.specs.Table.{c}
use Rattle.angle.specs.Angle.{greatest, cut_cosine, toward_zero, whole_of, half_sine}
use Rattle.angle.proofs.Rules.{falling}
use Rattle.angle.proofs.Places.{greatest-holds}
use Rattle.angle.proofs.Entries.{X-small}
use Rattle.angle.proofs.Unit.{I, -I, size_of, cut_in}
use Rattle.angle.proofs.Toward.{G, toward}
use Rattle.angle.proofs.Narrow.{narrow}

-- what document 01's rule divides at X: c(k) - X is not negative, and c(k) - c(k+1) is above 0
pub Differences : ℤ → Type 0
Differences X = (X ≤ℤ c (greatest 1023 X)) × (c (suc (greatest 1023 X)) <ℤ c (greatest 1023 X))

-- X is at most c(0)
X-most : (y : Float) → T (le -I y) → T (le y I) → toward_zero y ≤ℤ c 0
unfolding of_bits
X-most y p q =
    let t = toward y (to_unsigned 64 (mul binary32 (size_of y) G)) p q refl (lt y O) refl in
    subst (λ (X : ℤ). X ≤ℤ c 0) (sym t.0) (X-small _ t.1)

differences : (y : Float) → T (le -I y) → T (le y I) → Differences (toward_zero y)
unfolding Differences
differences y p q =
    let g = greatest-holds 1023 (toward_zero y) (X-most y p q) in
    (g.reached, falling (greatest 1023 (toward_zero y)) (omega (arith, g.within)))

-- of a cut cosine
pub ordered : (x : Float) → T (not (is_nan x)) → Differences (whole_of x)
unfolding of_bits neg
ordered x p = differences (cut_cosine x) (cut_in x p).0 (cut_in x p).1

-- and of E3's w
pub ordered-half : (a : Float) → T (lt halfᶠ a) → T (le a oneᶠ) → Differences (toward_zero (half_sine a))
unfolding of_bits
ordered-half a p q = let s = narrow a p q in differences (half_sine a) s.above s.under

-- The NaN: which tests tell it, and which words are its patterns. Assumes nothing.
use mathlib.Core.Path.{◌≡◌, refl, sym, subst, ◌∙◌}
use mathlib.Core.Bool.{Bool, true, false, true≢false, not}
use Prim.Native.Nat.{ℕ, ◌%◌, ◌≤◌, ◌<◌}
use borrow.Author.Tests.{lt-ltb, le-ltb}
use lib.Dec.{T}
use lib.Ieee.{Float, nan, inf, fin, binary32, is_nan, nan_bits, of_bits, ne}
use lib.Ieee.Bits.{nan_bits_is, nan_bits_above}
use lib.Ieee.Compare.{differs_from_itself, nan_differs}
use Rattle.bits.proofs.Bools.{T-is}

-- a value that differs from itself is the NaN
pub unlike-itself : (x : Float) → ne x x ≡ true → x ≡ nan
unlike-itself x h = differs_from_itself x (T-is h)

-- and one that does not is no NaN
pub like-itself : (x : Float) → ne x x ≡ false → T (not (is_nan x))
unfolding is_nan
like-itself nan h = absurd (true≢false (sym nan_differs ∙ h))
like-itself (inf s) h = tt
like-itself (fin s m e) h = tt

pub is-nan : (x : Float) → is_nan x ≡ true → nan ≡ x
unfolding is_nan
is-nan nan h = refl
is-nan (inf s) h = absurd (subst (λ (b : Bool). T (not b)) h tt)
is-nan (fin s m e) h = absurd (subst (λ (b : Bool). T (not b)) h tt)

pub no_nan : (x : Float) → T (not (is_nan x)) → is_nan x ≡ false
unfolding is_nan
no_nan nan h = absurd h
no_nan (inf s) h = refl
no_nan (fin s m e) h = refl

-- ---- the patterns: a word whose size, its sign left out, is above the infinity's is a NaN's, and no other word is
pub nan_pattern : (w : ℕ) → 2139095040 < w % 2147483648 → nan ≡ of_bits binary32 w
nan_pattern w h = is-nan (of_bits binary32 w) (sym (nan_bits_is binary32 w) ∙ nan_bits_above binary32 w ∙ lt-ltb 2139095040 (w % 2147483648) h)

pub no-nan-pattern : (w : ℕ) → w % 2147483648 ≤ 2139095040 → T (not (nan_bits binary32 w))
no-nan-pattern w h = subst (λ (b : Bool). T (not b)) (sym (nan_bits_above binary32 w ∙ le-ltb 2139095040 (w % 2147483648) h)) tt

pub no-nan-number : (w : ℕ) → w % 2147483648 ≤ 2139095040 → T (not (is_nan (of_bits binary32 w)))
no-nan-number w h = subst (λ (b : Bool). T (not b)) (nan_bits_is binary32 w) (no-nan-pattern w h)

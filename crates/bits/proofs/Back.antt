-- From a number to its word and back, and from a word to its number and back. Assumes nothing.
use mathlib.Core.Path.{◌≡◌, sym, ap, ◌∙◌}
use Prim.Native.Nat.{ℕ, ◌%◌, ◌≤◌, ◌<◌, ◌^◌}
use lib.Dec.{T}
use lib.Ieee.{Float, binary32, fits, to_bits}
use lib.Ieee.Bits.{of_bits-to_bits, to_bits-of_bits, to_bits-lt, of_bits-fits}
use Rattle.bits.specs.Word.{word, number}
use Rattle.bits.proofs.Nan.{nan_pattern, no-nan-number}

-- the round trip of a number that binary32 holds, a NaN and the signs of zero included
pub number_word : (x : Float) → T (fits binary32 x) → number (word x) ≡ x
number_word x f = of_bits-to_bits binary32 x f

-- so equal words mean equal numbers
pub same_word : (x y : Float) → T (fits binary32 x) → T (fits binary32 y) → word x ≡ word y → x ≡ y
same_word x y f g e = sym (number_word x f) ∙ ap number e ∙ number_word y g

-- the round trip of a word that is no NaN's pattern
pub word_number : (w : ℕ) → w < 2 ^ 32 → w % 2147483648 ≤ 2139095040 → word (number w) ≡ w
word_number w h n = to_bits-of_bits binary32 w h (no-nan-number w n)

-- a NaN's pattern comes back as 7FC00000
pub word-nan : (w : ℕ) → 2139095040 < w % 2147483648 → word (number w) ≡ 0x7fc0_0000
unfolding to_bits
word-nan w h = ap word (sym (nan_pattern w h))

-- a word is a word of 32 bits, and what it stands for is a number that binary32 holds
pub word_lt : (x : Float) → T (fits binary32 x) → word x < 2 ^ 32
word_lt x f = to_bits-lt binary32 x f

pub number_fits : (w : ℕ) → T (fits binary32 (number w))
number_fits w = of_bits-fits binary32 w

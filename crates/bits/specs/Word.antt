-- A number and its 32 bits as one word. Document 01: 'Numbers are stored as their bits, and any NaN as 7FC00000.' Definitions only.
use Rattle.std.specs.Prelude.{Bool, true, false, ℕ, Float}
use Rattle.std.specs.Float.{nan, inf, fin, binary32}
use Rattle.std.specs.Float.Ieee.{of_bits, to_bits}

-- the bits of a number as a word; the one NaN, which has neither sign nor payload here, is 7FC00000
abbrev pub word : Float → ℕ
word x = to_bits binary32 x

-- the number whose bits a word is; each NaN's pattern is the one NaN
abbrev pub number : ℕ → Float
number w = of_bits binary32 w

-- neither a NaN nor an infinity
unfoldable pub is_finite : Float → Bool
is_finite nan = false
is_finite (inf s) = false
is_finite (fin s m e) = true

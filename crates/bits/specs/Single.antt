-- Document 01: 'All float work is IEEE 754 single precision, one rounding per operation, ..' Definitions only.
use Rattle.std.specs.Float.Ieee as Ieee
use Rattle.std.specs.Prelude.{Float}
use Rattle.std.specs.Float.{binary32}
use Rattle.bits.specs.Word.{number}

infixl 65 ◌+ᶠ◌
infixl 65 ◌-ᶠ◌
infixl 70 ◌*ᶠ◌
infixl 70 ◌/ᶠ◌
-- the sum, the difference, the product and the quotient, each rounded once to single precision
abbrev pub ◌+ᶠ◌ : Float → Float → Float
x +ᶠ y = Ieee.add binary32 x y

abbrev pub ◌-ᶠ◌ : Float → Float → Float
x -ᶠ y = Ieee.sub binary32 x y

abbrev pub ◌*ᶠ◌ : Float → Float → Float
x *ᶠ y = Ieee.mul binary32 x y

abbrev pub ◌/ᶠ◌ : Float → Float → Float
x /ᶠ y = Ieee.div binary32 x y

-- 0.0
abbrev pub zeroᶠ : Float
zeroᶠ = number 0

-- 1.0
abbrev pub oneᶠ : Float
oneᶠ = number 0x3f80_0000

-- -1.0
abbrev pub minus_oneᶠ : Float
minus_oneᶠ = Ieee.neg oneᶠ

-- 0.5
abbrev pub halfᶠ : Float
halfᶠ = number 0x3f00_0000

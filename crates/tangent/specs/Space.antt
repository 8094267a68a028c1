-- What the functions over a tangent space return. Definitions only.
use Rattle.std.specs.Prelude.{ℕ, ◌+◌, ◌%◌, Bool, cond, ◌&&◌, Float}
use Rattle.std.specs.Float.Ieee as Ieee
use Rattle.bits.specs.Single.{◌+ᶠ◌, ◌*ᶠ◌, zeroᶠ, halfᶠ}
use Rattle.math.specs.Vector as math
use Rattle.tangent.specs.declared.RawTangentSpace.{RawTangentSpace}
use Rattle.tangent.specs.declared.Evaluated.{Evaluated}
use Rattle.tangent.specs.declared.Reading.{Reading}
use Rattle.tangent.specs.declared.Reading.TheVariants.{Absent, Single, Combined, Copied, Filled}

-- 'The zero vector and the zero tangent are fixed values of their kinds'
abbrev pub zero_tangent : RawTangentSpace
zero_tangent = record { s = math.origin; t = math.origin; s_magnitude = zeroᶠ; t_magnitude = zeroᶠ }

-- equal by float comparison in all eight numbers
unfoldable pub equals : RawTangentSpace → RawTangentSpace → Bool
equals a b = math.equals a.s b.s && math.equals a.t b.t && Ieee.eq a.s_magnitude b.s_magnitude && Ieee.eq a.t_magnitude b.t_magnitude

-- half of the sum
unfoldable pub mean : Float → Float → Float
mean x y = halfᶠ *ᶠ (x +ᶠ y)

-- 'if the two are equal by float comparison, the earlier stays as it is'; else directions are added and brought to unit length, and each magnitude is half the sum of the two
unfoldable pub combine : RawTangentSpace → RawTangentSpace → RawTangentSpace
combine a b =
    cond (equals a b) a
    (record {
      s = math.unit_of (math.added a.s b.s);
      t = math.unit_of (math.added a.t b.t);
      s_magnitude = mean a.s_magnitude b.s_magnitude;
      t_magnitude = mean a.t_magnitude b.t_magnitude;
    })

-- a sum of two counts, as a word holds it: modulo 2 ^ 32 (promises/specs/Origins.antt: it is never that large)
abbrev pub counted : ℕ → ℕ → ℕ
counted m n = (m + n) % 4294967296

-- request E7: 'how many triangles .. stood in the subgroups behind it, summed when combined'
unfoldable pub united : Evaluated → Evaluated → Evaluated
united a b = record { space = combine a.space b.space; behind = counted a.behind b.behind }

-- 'A slot reached twice is combined .. The orientation is the later group's': a reading, reached once more with what a subgroup gave and an orientation
unfoldable pub reached : Reading → Evaluated → Bool → Reading
reached Absent v o = Single v o
reached (Single u w) v o = Combined (united u v) o
reached (Combined u w) v o = Combined (united u v) o
reached (Copied u w) v o = Combined (united u v) o
reached (Filled u w) v o = Combined (united u v) o

-- request E7: a copy of a reading that is there: '3 copied to a degenerate corner, 4 copied within a quad'
unfoldable pub copied : Evaluated → Bool → Bool → Reading
copied e o quad = cond quad (Filled e o) (Copied e o)

-- of any reading; 'a copy of an absent slot stays 0'
unfoldable pub copy_of : Bool → Reading → Reading
copy_of quad Absent = Absent
copy_of quad (Single e o) = copied e o quad
copy_of quad (Combined e o) = copied e o quad
copy_of quad (Copied e o) = copied e o quad
copy_of quad (Filled e o) = copied e o quad

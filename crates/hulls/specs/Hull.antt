-- The least and the greatest of floats, and a bound from below for the dot product of any two vectors between them. Definitions only.
use Rattle.std.specs.Prelude.{Bool, cond, ◌&&◌, Float}
use Rattle.std.specs.Float.Ieee as Ieee
use Rattle.std.specs.Float.{nan}
use Rattle.bits.specs.Single.{◌+ᶠ◌, ◌*ᶠ◌, zeroᶠ}
use Rattle.bits.specs.Word.{number}
use Rattle.math.specs.declared.Vec3.{Vec3}
use Rattle.math.specs.Vector.{vec}
use Rattle.hulls.specs.declared.Hull.{Hull}

-- the lesser of two; the NaN where they cannot be compared, which stays
unfoldable pub lesser : Float → Float → Float
lesser a x = cond (Ieee.le a x) a (cond (Ieee.lt x a) x nan)

-- the greater of two, likewise
unfoldable pub greater : Float → Float → Float
greater a x = cond (Ieee.le x a) a (cond (Ieee.lt a x) x nan)

-- the least product of two numbers from lo to hi
unfoldable pub lowest : Float → Float → Float
lowest lo hi = cond (Ieee.lt lo zeroᶠ) (cond (Ieee.lt zeroᶠ hi) (lo *ᶠ hi) (hi *ᶠ hi)) (lo *ᶠ lo)

-- what the dot product of two vectors between lo and hi is not below
unfoldable pub bound : Vec3 → Vec3 → Float
bound lo hi = (lowest lo.x hi.x +ᶠ lowest lo.y hi.y) +ᶠ lowest lo.z hi.z

-- 2.0 and -2.0
abbrev pub twoᶠ : Float
twoᶠ = number 0x4000_0000

abbrev pub minus_twoᶠ : Float
minus_twoᶠ = Ieee.neg twoᶠ

-- the hull of no vector
abbrev pub nothing : Hull
nothing = record { lo = vec twoᶠ twoᶠ twoᶠ; hi = vec minus_twoᶠ minus_twoᶠ minus_twoᶠ }

-- a vector taken into a hull
unfoldable pub widened : Hull → Vec3 → Hull
widened h v =
    record {
      lo = vec (lesser h.lo.x v.x) (lesser h.lo.y v.y) (lesser h.lo.z v.z);
      hi = vec (greater h.hi.x v.x) (greater h.hi.y v.y) (greater h.hi.z v.z);
    }

-- all that it took in lies between -2 and 2
unfoldable pub regular : Hull → Bool
regular h = Ieee.le minus_twoᶠ h.lo.x && Ieee.le minus_twoᶠ h.lo.y && Ieee.le minus_twoᶠ h.lo.z && Ieee.le h.hi.x twoᶠ && Ieee.le h.hi.y twoᶠ && Ieee.le h.hi.z twoᶠ

-- the dot product of any two of its vectors is above the threshold, by the bound
unfoldable pub above : Hull → Float → Bool
above h t = regular h && Ieee.lt t (bound h.lo h.hi)

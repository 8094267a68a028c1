-- What the vector's methods return: each float operation is IEEE 754's at single precision, in the order written. Definitions only.
use Rattle.std.specs.Prelude.{Bool, false, cond, ◌&&◌, ◌||◌, Option, None, Some, Float}
use Rattle.std.specs.Float.Ieee as Ieee
use Rattle.std.specs.Float.{nan, inf, fin}
use Rattle.bits.specs.Single.{◌+ᶠ◌, ◌-ᶠ◌, ◌*ᶠ◌, ◌/ᶠ◌, zeroᶠ, oneᶠ}
use Rattle.bits.specs.Word.{number, is_finite}
use Rattle.root.specs.Root.{sqrt}
use Rattle.math.specs.declared.Vec3.{Vec3}

-- the vector with these three components
abbrev pub vec : Float → Float → Float → Vec3
vec x y z = record { x = x; y = y; z = z }

-- 'The zero vector .. [is a] fixed value': 0.0 three times
abbrev pub origin : Vec3
origin = vec zeroᶠ zeroᶠ zeroᶠ

-- the sum, component by component
unfoldable pub added : Vec3 → Vec3 → Vec3
added u v = vec (u.x +ᶠ v.x) (u.y +ᶠ v.y) (u.z +ᶠ v.z)

-- the difference, component by component
unfoldable pub subtracted : Vec3 → Vec3 → Vec3
subtracted u v = vec (u.x -ᶠ v.x) (u.y -ᶠ v.y) (u.z -ᶠ v.z)

-- each component times k; k is the left operand, as in math.rs
unfoldable pub scaled_by : Vec3 → Float → Vec3
scaled_by u k = vec (k *ᶠ u.x) (k *ᶠ u.y) (k *ᶠ u.z)

-- each component with its sign turned
unfoldable pub negated : Vec3 → Vec3
negated u = vec (Ieee.neg u.x) (Ieee.neg u.y) (Ieee.neg u.z)

-- 'a dot product is (xx + yy) + zz'
unfoldable pub dot : Vec3 → Vec3 → Float
dot u v = (u.x *ᶠ v.x +ᶠ u.y *ᶠ v.y) +ᶠ u.z *ᶠ v.z

-- the root of the dot product with itself
unfoldable pub length_of : Vec3 → Float
length_of u = sqrt (dot u u)

-- equal by float comparison in each component
unfoldable pub equals : Vec3 → Vec3 → Bool
equals u v = Ieee.eq u.x v.x && Ieee.eq u.y v.y && Ieee.eq u.z v.z

-- the number without its sign
unfoldable pub abs : Float → Float
abs nan = nan
abs (inf s) = inf false
abs (fin s m e) = fin false m e

-- 'Absolute value is above zero only if strictly above bits 00800000'
unfoldable pub counts : Float → Bool
counts x = Ieee.lt (number 0x0080_0000) (abs x)

-- of a squared length: neither zero, infinite nor NaN
unfoldable pub spans : Float → Bool
spans q = cond (Ieee.eq q zeroᶠ) false (is_finite q)

-- a component counts, and the squared length spans; request E6: no direction 'exactly when no component counts, or the squared length is zero, infinite or NaN'
unfoldable pub points : Vec3 → Bool
points u = cond (counts u.x || counts u.y || counts u.z) (spans (dot u u)) false

-- 'Bringing to unit length shall answer with a direction or with the plain word that there is none': the vector scaled by 1 over its length
unfoldable pub direction : Vec3 → Option Vec3
direction u = cond (points u) (Some (scaled_by u (oneᶠ /ᶠ length_of u))) None

-- 'Every caller uses the zero vector for none'
unfoldable pub or_zero : Option Vec3 → Vec3
or_zero None = origin
or_zero (Some v) = v

-- a vector brought to unit length, as its callers have it
unfoldable pub unit_of : Vec3 → Vec3
unit_of u = or_zero (direction u)

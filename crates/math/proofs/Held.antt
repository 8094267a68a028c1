-- Sums and multiples are held, whatever they are made of, and so is a held vector at unit length. Assumes nothing.
use mathlib.Core.Bool.{Bool, true, false, cond}
use lib.Ieee.{Float, binary32}
use lib.Ieee.Fits.{add-fits, sub-fits, mul-fits}
use Rattle.bits.specs.Single.{oneᶠ, ◌/ᶠ◌}
use Rattle.bits.proofs.Back.{number_fits}
use Rattle.math.specs.declared.Vec3.{Vec3}
use Rattle.std.specs.Prelude.{None, Some}
use Rattle.math.specs.Vector.{origin, added, subtracted, scaled_by, length_of, points, direction, or_zero, unit_of}
use Rattle.math.specs.Held.{HeldVec}

pub origin-held : HeldVec origin
origin-held = record { x_held = number_fits 0; y_held = number_fits 0; z_held = number_fits 0 }

pub added-held : (u v : Vec3) → HeldVec (added u v)
unfolding added
added-held u v = record { x_held = add-fits binary32 u.x v.x; y_held = add-fits binary32 u.y v.y; z_held = add-fits binary32 u.z v.z }

pub subtracted-held : (u v : Vec3) → HeldVec (subtracted u v)
unfolding subtracted
subtracted-held u v = record { x_held = sub-fits binary32 u.x v.x; y_held = sub-fits binary32 u.y v.y; z_held = sub-fits binary32 u.z v.z }

pub scaled-held : (u : Vec3) (k : Float) → HeldVec (scaled_by u k)
unfolding scaled_by
scaled-held u k = record { x_held = mul-fits binary32 k u.x; y_held = mul-fits binary32 k u.y; z_held = mul-fits binary32 k u.z }

-- the zero vector or a multiple, whatever it was made of
pub unit-held : (u : Vec3) → HeldVec (unit_of u)
unfolding unit_of direction or_zero
unit-held u = go (points u)
  where
    go : (b : Bool) → HeldVec (or_zero (cond b (Some (scaled_by u (oneᶠ /ᶠ length_of u))) None))
    go true = scaled-held u (oneᶠ /ᶠ length_of u)
    go false = origin-held

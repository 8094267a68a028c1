-- Which vectors single precision holds: what every `Vec3` of the code is. Definitions only.
use Rattle.std.specs.Prelude.{T}
use Rattle.std.specs.Float.{binary32}
use Rattle.std.specs.Float.Ieee.{fits}
use Rattle.math.specs.declared.Vec3.{Vec3}

-- each component is a number of binary32, a NaN or an infinity
pub record HeldVec (v : Vec3) : Type 0 where
  pub x_held : T (fits binary32 v.x)
  pub y_held : T (fits binary32 v.y)
  pub z_held : T (fits binary32 v.z)

-- Which vectors are finite: what every direction is. Definitions only.
use Rattle.std.specs.Prelude.{T}
use Rattle.bits.specs.Word.{is_finite}
use Rattle.math.specs.declared.Vec3.{Vec3}

-- no component is a NaN or an infinity
pub record FiniteVec (v : Vec3) : Type 0 where
  pub x_finite : T (is_finite v.x)
  pub y_finite : T (is_finite v.y)
  pub z_finite : T (is_finite v.z)

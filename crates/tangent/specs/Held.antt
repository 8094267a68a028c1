-- Which tangent spaces and readings single precision holds: what every one of the code is. Definitions only.
use Rattle.std.specs.Prelude.{T}
use Rattle.std.specs.Float.{binary32}
use Rattle.std.specs.Float.Ieee.{fits}
use Rattle.math.specs.Held.{HeldVec}
use Rattle.tangent.specs.declared.RawTangentSpace.{RawTangentSpace}
use Rattle.tangent.specs.declared.Evaluated.{Evaluated}
use Rattle.tangent.specs.declared.Reading.{Reading}
use Rattle.tangent.specs.declared.Reading.TheVariants.{Absent, Single, Combined, Copied, Filled}

-- all eight numbers are numbers of binary32, NaNs or infinities
pub record HeldSpace (u : RawTangentSpace) : Type 0 where
  pub s_held : HeldVec u.s
  pub t_held : HeldVec u.t
  pub s_magnitude_held : T (fits binary32 u.s_magnitude)
  pub t_magnitude_held : T (fits binary32 u.t_magnitude)

-- a reading that is there has a held tangent space
pub data HeldReading : Reading → Type 0 where
  absent : HeldReading Absent
  single : {u : Evaluated} {o : _} → HeldSpace u.space → HeldReading (Single u o)
  combined : {u : Evaluated} {o : _} → HeldSpace u.space → HeldReading (Combined u o)
  copied : {u : Evaluated} {o : _} → HeldSpace u.space → HeldReading (Copied u o)
  filled : {u : Evaluated} {o : _} → HeldSpace u.space → HeldReading (Filled u o)

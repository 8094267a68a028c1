-- Which readings have finite directions. Definitions only.
use Rattle.math.specs.Held.{HeldVec}
use Rattle.math.specs.Finite.{FiniteVec}
use Rattle.tangent.specs.declared.RawTangentSpace.{RawTangentSpace}
use Rattle.tangent.specs.declared.Evaluated.{Evaluated}
use Rattle.tangent.specs.declared.Reading.{Reading}
use Rattle.tangent.specs.declared.Reading.TheVariants.{Absent, Single, Combined, Copied, Filled}

-- a direction: its numbers are numbers of binary32, and finite
pub record Pointing (u : RawTangentSpace) : Type 0 where
  pub s_held : HeldVec u.s
  pub t_held : HeldVec u.t
  pub s_finite : FiniteVec u.s
  pub t_finite : FiniteVec u.t

-- a reading that is there has finite directions
pub data FiniteReading : Reading → Type 0 where
  absent : FiniteReading Absent
  single : {u : Evaluated} {o : _} → Pointing u.space → FiniteReading (Single u o)
  combined : {u : Evaluated} {o : _} → Pointing u.space → FiniteReading (Combined u o)
  copied : {u : Evaluated} {o : _} → Pointing u.space → FiniteReading (Copied u o)
  filled : {u : Evaluated} {o : _} → Pointing u.space → FiniteReading (Filled u o)

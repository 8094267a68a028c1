-- `RawTangentSpace::combine` meets its contract, whatever the half is written as. Assumes nothing.
use mathlib.Core.Path.{◌≡◌}
use mathlib.Core.Bool.{Bool, false}
use Rattle.std.proofs.Common.{rules}
use lib.Ieee.{neg, of_bits}
use Rattle.math.specs.declared.Vec3.{Vec3}
use Rattle.math.specs.Vector as math
use Rattle.tangent.specs.declared.RawTangentSpace.{RawTangentSpace}
use Rattle.tangent.specs.Space as spec
use Rattle.math.specs.Vector.{equals as same_vectors}
use Rattle.tangent.specs.Space.{combine, mean, equals}
use Rattle.tangent.proofs.RawTangentSpace.combine.Goals as goal

-- the value with the two directions s and t
abbrev made : RawTangentSpace → RawTangentSpace → Vec3 → Vec3 → RawTangentSpace
made a b s t = record { s = s; t = t; s_magnitude = spec.mean a.s_magnitude b.s_magnitude; t_magnitude = spec.mean a.t_magnitude b.t_magnitude }

-- the steps on plain values: what each call gave, in the order of the code
mixed-is : (a b : RawTangentSpace) (q : Bool) (u s v t : Vec3)
    → q ≡ spec.equals a b → q ≡ false
    → u ≡ math.added a.s b.s → s ≡ math.unit_of u
    → v ≡ math.added a.t b.t → t ≡ math.unit_of v
    → made a b s t ≡ combine a b
unfolding combine
mixed-is a b q u s v t e f h₁ h₂ h₃ h₄ = cc

pub returns : goal.returns
unfolding mean equals same_vectors neg of_bits
returns c = mixed-is c.args.self c.args.rhs c.eq.result _ _ _ _ (search rules) c.if-eq.false c.add.ensures c.normalized_or_zero.ensures c.add-2.ensures c.normalized_or_zero-2.ensures

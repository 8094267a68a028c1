-- Step 7 with directions that are projected already. Definitions only.
use Rattle.std.specs.Prelude.{cond, Float}
use Rattle.std.specs.Float.Ieee as Ieee
use Rattle.bits.specs.Single.{◌+ᶠ◌, ◌*ᶠ◌, ◌/ᶠ◌, zeroᶠ}
use Rattle.angle.specs.Angle.{angle}
use Rattle.math.specs.declared.Vec3.{Vec3}
use Rattle.math.specs.Vector.{added, subtracted, scaled_by, dot}
use Rattle.tangent.specs.declared.RawTangentSpace.{RawTangentSpace}
use Rattle.tangent.specs.Space.{counted}
use Rattle.definition.specs.declared.Sum.{Sum}
use Rattle.definition.specs.Step7Sums.{projected}

-- the angle at p between the sides to q and to r, each projected with the normal n
unfoldable pub opening_at : Vec3 → Vec3 → Vec3 → Vec3 → Float
opening_at n p q r = angle (dot (projected n (subtracted q p)) (projected n (subtracted r p)))

-- one contribution more: a tangent space whose directions are projected, weighted by the angle w
unfoldable pub weighed_by : Sum → Float → RawTangentSpace → Sum
weighed_by z w g =
    record {
      angles = z.angles +ᶠ w;
      weighted =
          record {
            s = added z.weighted.s (scaled_by g.s w);
            t = added z.weighted.t (scaled_by g.t w);
            s_magnitude = z.weighted.s_magnitude +ᶠ w *ᶠ g.s_magnitude;
            t_magnitude = z.weighted.t_magnitude +ᶠ w *ᶠ g.t_magnitude;
          };
      behind = counted z.behind 1;
    }

-- a magnitude over the sum of the angles, where that is above zero
unfoldable pub per_angle : Float → Float → Float
per_angle magnitude angles = cond (Ieee.lt zeroᶠ angles) (magnitude /ᶠ angles) magnitude

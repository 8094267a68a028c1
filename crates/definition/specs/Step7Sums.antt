-- Step 7: for each member of a group its subgroup, and the sum of the subgroup's contributions. Definitions only.
use Rattle.std.specs.Prelude.{ℕ, Bool, cond, ◌&&◌, ◌||◌, List, map, eqb, Float}
use Rattle.std.proofs.Math.Option.{Option, none, some}
use Rattle.std.specs.Float.Ieee as Ieee
use Rattle.bits.specs.Single.{◌+ᶠ◌, ◌*ᶠ◌, ◌/ᶠ◌, zeroᶠ}
use Rattle.angle.specs.Angle.{angle}
use Rattle.math.specs.declared.Vec3.{Vec3}
use Rattle.math.specs.Vector.{added, subtracted, scaled_by, dot, unit_of}
use Rattle.tangent.specs.declared.RawTangentSpace.{RawTangentSpace}
use Rattle.tangent.specs.declared.Evaluated.{Evaluated}
use Rattle.tangent.specs.Space.{zero_tangent, counted}
use Rattle.definition.specs.declared.Corner.{Corner}
use Rattle.definition.specs.declared.Triangle.{Triangle}
use Rattle.definition.specs.declared.Sum.{Sum}
use Rattle.lists.specs.Lists.{keep, has, run}
use Rattle.definition.specs.Mesh.{Spot, next, prior, corner_of, slot_of, same_triangle}
use Rattle.definition.specs.Step6Groups.{Mark, members, corner_in}

-- v projected: v less n times their dot product, brought to unit length
unfoldable pub projected : Vec3 → Vec3 → Vec3
projected n v = unit_of (subtracted v (scaled_by n (dot n v)))

-- 'both projected cosines strictly above the threshold'
unfoldable pub close : Float → Vec3 → RawTangentSpace → RawTangentSpace → Bool
close h n a b = Ieee.lt h (dot (projected n a.s) (projected n b.s)) && Ieee.lt h (dot (projected n a.t) (projected n b.t))

-- 'either `group_with_any`, the same face, or both projected cosines strictly above the threshold'
unfoldable pub joins : Float → Vec3 → Triangle → Triangle → Bool
joins h n a b = a.any || b.any || eqb a.face b.face || close h n a.tangent b.tangent

-- 'For each member, the subgroup is those of its group ..., in triangle order'
unfoldable pub subgroup : Float → List Triangle → List Mark → Mark → List Triangle
subgroup h ss ms m =
    let g = members ms m in
    keep (λ t. has (λ k. same_triangle k.spot.tri t) g && joins h (corner_of m.spot).normal m.spot.tri t) ss

-- no contribution yet. (A sum is the struct of src/lib.rt: of the angles, and of the tangents weighted by them, and how many there were.)
abbrev pub empty_sum : Sum
empty_sum = record { angles = zeroᶠ; weighted = zero_tangent; behind = 0 }

-- the angle at a corner, between its two sides, each projected
unfoldable pub opening : Spot → Float
opening s =
    let n = (corner_of s).normal in
    let p = (corner_of s).place in
    let q = (corner_of (next s)).place in
    let r = (corner_of (prior s)).place in
    angle (dot (projected n (subtracted q p)) (projected n (subtracted r p)))

-- 'Contributions are weighted by the angle and summed in that order': one more, of the tangent t at a corner with the normal n and the angle w
unfoldable pub weighed : Sum → Float → Vec3 → RawTangentSpace → Sum
weighed z w n t =
    record {
      angles = z.angles +ᶠ w;
      weighted =
          record {
            s = added z.weighted.s (scaled_by (projected n t.s) w);
            t = added z.weighted.t (scaled_by (projected n t.t) w);
            s_magnitude = z.weighted.s_magnitude +ᶠ w *ᶠ t.s_magnitude;
            t_magnitude = z.weighted.t_magnitude +ᶠ w *ᶠ t.t_magnitude;
          };
      behind = counted z.behind 1;
    }

-- the contribution of the corner that was found
unfoldable pub add_spot : Sum → Option Spot → Sum
add_spot z none = z
add_spot z (some s) = weighed z (opening s) (corner_of s).normal s.tri.tangent

-- a triangle's contribution, at its corner welded to c; none of a `group_with_any` one (the crate's 'only valid triangles get to add')
unfoldable pub contribute : Corner → Sum → Triangle → Sum
contribute c z t = let r = add_spot z (corner_in c t) in cond t.any z r

-- the sum made a tangent space: directions to unit length, magnitudes over the sum of the angles where that is above zero; request E7: and how many triangles stood behind it, which are those that add
unfoldable pub finish : Sum → Evaluated
finish z =
    let k = Ieee.lt zeroᶠ z.angles in
    record {
      space =
          record {
            s = unit_of z.weighted.s;
            t = unit_of z.weighted.t;
            s_magnitude = cond k (z.weighted.s_magnitude /ᶠ z.angles) z.weighted.s_magnitude;
            t_magnitude = cond k (z.weighted.t_magnitude /ᶠ z.angles) z.weighted.t_magnitude;
          };
      behind = z.behind;
    }

-- 'as in `evaluate_tangent_space`': triangles in order, at the corner c
unfoldable pub evaluate : Corner → List Triangle → Evaluated
evaluate c ts = finish (run (contribute c) empty_sum ts)

-- what a member brings to its slot: the slot's face and corner, what its subgroup gave, its group's orientation
pub record Brought : Type 0 where
  pub face : ℕ
  pub slot : ℕ
  pub value : Evaluated
  pub orientation : Bool

-- what one member brings
unfoldable pub bring : Float → List Triangle → List Mark → Mark → Brought
bring h ss ms m =
    record {
      face = m.spot.tri.face;
      slot = slot_of m.spot;
      value = evaluate (corner_of m.start) (subgroup h ss ms m);
      orientation = m.orientation;
    }

-- all that is brought: 'Groups are taken in the order they started, members as they were met'
unfoldable pub brought_all : Float → List Triangle → List Mark → List Brought
brought_all h ss ms = map (bring h ss ms) ms

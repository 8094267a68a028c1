-- Step 3: 'First-order tangents, `group_with_any` and orientation follow `generate_triangle_info_list`.' Definitions only.
use Rattle.std.specs.Prelude.{Bool, cond, not, ◌&&◌, ◌||◌, Float}
use Rattle.std.specs.Float.Ieee as Ieee
use Rattle.bits.specs.Single.{◌-ᶠ◌, ◌*ᶠ◌, ◌/ᶠ◌, zeroᶠ, oneᶠ, minus_oneᶠ}
use Rattle.math.specs.declared.Vec3.{Vec3}
use Rattle.math.specs.Vector.{added, subtracted, scaled_by, length_of, unit_of, abs, counts, points}
use Rattle.tangent.specs.declared.RawTangentSpace.{RawTangentSpace}
use Rattle.tangent.specs.Space.{zero_tangent}
use Rattle.definition.specs.declared.Corner.{Corner}
use Rattle.definition.specs.declared.Triangle.{Triangle}

-- `signed_area_double`: twice the signed area in the texture
unfoldable pub turn : Corner → Corner → Corner → Float
turn c d e = (d.u -ᶠ c.u) *ᶠ (e.v -ᶠ c.v) -ᶠ (d.v -ᶠ c.v) *ᶠ (e.u -ᶠ c.u)

-- `s`, equation 18
unfoldable pub raw_s : Corner → Corner → Corner → Vec3
raw_s c d e = subtracted (scaled_by (subtracted d.place c.place) (e.v -ᶠ c.v)) (scaled_by (subtracted e.place c.place) (d.v -ᶠ c.v))

-- `t`, equation 19
unfoldable pub raw_t : Corner → Corner → Corner → Vec3
raw_t c d e = added (scaled_by (subtracted d.place c.place) (Ieee.neg (e.u -ᶠ c.u))) (scaled_by (subtracted e.place c.place) (d.u -ᶠ c.u))

-- `sign`: 1.0 where the signed area is above zero, and -1.0 else
unfoldable pub sign_of : Float → Float
sign_of w = cond (Ieee.lt zeroᶠ w) oneᶠ minus_oneᶠ

-- the tangent from twice the signed area w and the raw s and t: both to unit length, times the sign; their lengths over the absolute value of w
unfoldable pub tangent_at : Float → Vec3 → Vec3 → RawTangentSpace
tangent_at w s t =
    let k = sign_of w in
    record { s = scaled_by (unit_of s) k; t = scaled_by (unit_of t) k; s_magnitude = length_of s /ᶠ abs w; t_magnitude = length_of t /ᶠ abs w }

-- the first-order tangent of a sound triangle: the zero tangent where w, twice the signed area, doesn't count (a NaN doesn't)
unfoldable pub first_order : Float → Vec3 → Vec3 → RawTangentSpace
first_order w s t = let r = tangent_at w s t in cond (counts w) r zero_tangent

-- `group_with_any` of a sound triangle: w or one of its two magnitudes doesn't count (a NaN doesn't); request E6: 'a triangle whose s or t has none is also `group_with_any`'
unfoldable pub unsure : Float → Vec3 → Vec3 → RawTangentSpace → Bool
unsure w s t g = not (counts w && counts g.s_magnitude && counts g.t_magnitude && points s && points t)

-- `calculate_texture_area`: twice the area in the texture
unfoldable pub area : Triangle → Float
area t = abs (turn t.a.corner t.b.corner t.c.corner)

-- 'A quad of two sound triangles that disagree in orientation takes that of the second only if the second isn't `group_with_any` and the first's area isn't at least as large'
unfoldable pub quad_way : Triangle → Triangle → Bool
quad_way s t = cond (t.any || Ieee.le (area t) (area s)) s.orientation t.orientation

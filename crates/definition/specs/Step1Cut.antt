-- Step 1: 'Quads are cut by the shorter texture diagonal, (2,0) against (3,1), by squared length.' Definitions only.
use Rattle.std.specs.Prelude.{Bool, true, false, cond, Float}
use Rattle.std.specs.Float.Ieee as Ieee
use Rattle.bits.specs.Single.{◌+ᶠ◌, ◌-ᶠ◌, ◌*ᶠ◌}
use Rattle.math.specs.Vector.{subtracted, dot}
use Rattle.definition.specs.declared.Corner.{Corner}

-- the squared length of a diagonal in the texture
unfoldable pub across² : Corner → Corner → Float
across² c d = let x = c.u -ᶠ d.u in let y = c.v -ᶠ d.v in x *ᶠ x +ᶠ y *ᶠ y

-- the squared distance of two positions
unfoldable pub apart² : Corner → Corner → Float
apart² c d = let e = subtracted c.place d.place in dot e e

-- whether the cut is 02: its texture diagonal is shorter; 'Equal or unordered: by positions, where 02 is chosen if d[1] >= d[0]', d[0] that of (2,0) and d[1] that of (3,1)
unfoldable pub cut02 : Corner → Corner → Corner → Corner → Bool
cut02 c0 c1 c2 c3 =
    cond (Ieee.lt (across² c2 c0) (across² c3 c1)) true
    (cond (Ieee.lt (across² c3 c1) (across² c2 c0)) false
    (Ieee.le (apart² c2 c0) (apart² c3 c1)))

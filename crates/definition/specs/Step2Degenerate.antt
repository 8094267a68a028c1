-- Step 2: 'A triangle is degenerate if two positions compare equal; here -0.0 equals 0.0.' Definitions only.
use Rattle.std.specs.Prelude.{Bool, ◌||◌}
use Rattle.std.specs.Bool.{xor}
use Rattle.math.specs.Vector.{equals}
use Rattle.definition.specs.declared.Corner.{Corner}

-- two of the three positions are equal by float comparison
unfoldable pub flat : Corner → Corner → Corner → Bool
flat c d e = equals c.place d.place || equals d.place e.place || equals e.place c.place

-- 'A quad with exactly one such triangle has both marked': from whether each of the two is degenerate
unfoldable pub exactly_one : Bool → Bool → Bool
exactly_one s t = xor s t

-- Rows: row t stands for triangle number t, row 3t + i for its corner i and the side that runs from it. Definitions only.
use Rattle.std.specs.Prelude.{ℕ, zero, suc, ◌+◌, ◌*◌, ◌/◌, ◌%◌, List, get_or}
use Rattle.definition.specs.declared.Triangle.{Triangle}
use Rattle.definition.specs.Mesh.{Third, one, two, three, Spot}

-- the number of a corner in its triangle
unfoldable pub num : Third → ℕ
num one = 0
num two = 1
num three = 2

-- the corner of a number
unfoldable pub third : ℕ → Third
third zero = one
third (suc zero) = two
third (suc (suc n)) = three

-- the row of corner i of triangle number t, and of the side that runs from it
abbrev pub row : ℕ → Third → ℕ
row t i = 3 * t + num i

-- the corner (side) itself; d is any triangle, and stands for numbers past the last
abbrev pub spot_at : List Triangle → Triangle → ℕ → Third → Spot
spot_at ss d t i = record { tri = get_or ss t d; at = i }

-- the corner (side) of a row
abbrev pub spot_row : List Triangle → Triangle → ℕ → Spot
spot_row ss d r = spot_at ss d (r / 3) (third (r % 3))

-- What is read of a triangle in the columns. Definitions only.
use Rattle.std.specs.Prelude.{ℕ, ◌+◌, ◌*◌, Bool, List, eqb}
use Rattle.bits.specs.Word.{number}
use Rattle.tangent.specs.declared.RawTangentSpace.{RawTangentSpace}
use Rattle.tangent.specs.Slot.{vector_of}
use Rattle.table.specs.Table.{cell}
use Rattle.table.specs.Columns.{s_column, t_column, magnitude_column}

-- whether the quad of triangle t is marked
unfoldable pub marked_at : ℕ → List ℕ → ℕ → Bool
marked_at rows w t = eqb (cell rows magnitude_column (3 * t + 2) w) 1

-- the tangent in the columns of triangle t
unfoldable pub tangent_at : ℕ → ℕ → List ℕ → RawTangentSpace
tangent_at rows t w =
    record {
      s = vector_of (cell rows s_column (3 * t) w) (cell rows s_column (3 * t + 1) w) (cell rows s_column (3 * t + 2) w);
      t = vector_of (cell rows t_column (3 * t) w) (cell rows t_column (3 * t + 1) w) (cell rows t_column (3 * t + 2) w);
      s_magnitude = number (cell rows magnitude_column (3 * t) w);
      t_magnitude = number (cell rows magnitude_column (3 * t + 1) w);
    }

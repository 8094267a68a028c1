-- What the examination of links says of n triangles: objections 2 to 5. vertex: that of the corner at a row. Definitions only.
use Rattle.std.specs.Prelude.{ℕ, List}
use Rattle.asked.specs.Lowest.{Stage}
use Rattle.asked.specs.Links.{Equal}
use Rattle.asked.specs.Objections.{Applies}

-- number and place are those of the first of objections 2 to 5 that applies, or 0 where none does, whatever the other lists are
pub record OnLinks (n : ℕ) (vertex : ℕ → ℕ) (L : List ℕ) (number place : ℕ) : Type 0 where
  pub stage : (any way : ℕ → ℕ) (G O : List ℕ) → Stage (Applies n (Equal vertex) any way L G O) 13 2 6 number place

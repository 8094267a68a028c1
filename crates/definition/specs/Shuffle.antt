-- Two meshes shuffled into one: the words of demand 3. Definitions only.
use Rattle.std.specs.Prelude.{Bool, true, false}
use mathlib.Core.List.{List, [], ◌∷◌, flat_map}
use Rattle.definition.specs.declared.Corner.{Corner}
use Rattle.lists.specs.Lists.{has}
use Rattle.definition.specs.Triangles.{usable}
use Rattle.definition.specs.Step4Order.{welded}

-- m is a and b shuffled by the pattern p, each in its own order: true takes the next of a, false the next of b
pub data Shuffle {X : Type 0} : List Bool → List X → List X → List X → Type 0 where
  done : Shuffle [] [] [] []
  left : {p : List Bool} {x : X} {a b m : List X} → Shuffle p a b m → Shuffle (true ∷ p) (x ∷ a) b (x ∷ m)
  right : {p : List Bool} {x : X} {a b m : List X} → Shuffle p a b m → Shuffle (false ∷ p) a (x ∷ b) (x ∷ m)

-- the corners of a mesh's faces of three or four, degenerate faces included
unfoldable pub corners_of : List (List Corner) → List Corner
corners_of m = flat_map usable m

-- whether two meshes 'share' a welded corner among those
unfoldable pub shares : List (List Corner) → List (List Corner) → Bool
shares a b = has (λ c. has (welded c) (corners_of b)) (corners_of a)

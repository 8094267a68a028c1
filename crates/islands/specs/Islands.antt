-- Request E9: islands of faces, and the number that each face is given. Definitions only.
use Rattle.std.specs.Prelude.{ℕ, ◌≤◌, min, max, ◌≡◌, Bool, true, false, cond, List, [], eqb, length, get_or}
use Rattle.definition.specs.declared.Corner.{Corner}
use Rattle.definition.specs.Handed.{used}
use Rattle.lists.specs.Lists.{has}
use Rattle.definition.specs.Triangles.{usable}
use Rattle.definition.specs.Step4Order.{welded}
use Rattle.lists.specs.Loops.{up_to}

-- ---- what an island is

-- face number f of a mesh, and a face without corners past its end
abbrev pub face_at : List (List Corner) → ℕ → List Corner
face_at m f = get_or m f []

-- whether two faces are 'sharing a welded corner': corners of faces of 3 or 4, degenerate ones included, as demand 3 counts them
unfoldable pub touch : List Corner → List Corner → Bool
touch f g = has (λ c. has (welded c) (usable g)) (usable f)

-- the same of face numbers
unfoldable pub touches : List (List Corner) → ℕ → ℕ → Bool
touches m f g = touch (face_at m f) (face_at m g)

-- 'a chain of faces, each sharing a welded corner with the next, leads from one to the other'
pub data Chain (m : List (List Corner)) : ℕ → ℕ → Type 0 where
  alone : (f : ℕ) → Chain m f f
  onward : (f g h : ℕ) → touches m f g ≡ true → Chain m g h → Chain m f h

-- n is 'the lowest face number of its island', for the island of face f
pub record Lowest (m : List (List Corner)) (f n : ℕ) : Type 0 where
  pub joined : Chain m f n
  pub least : (g : ℕ) → Chain m f g → n ≤ g

-- whether a face is 'of 3 or 4 corners'
unfoldable pub counted : List (List Corner) → ℕ → Bool
counted m f = used (length (face_at m f))

-- 'and others FFFFFFFF'
abbrev pub no_island : ℕ
no_island = 0xFFFF_FFFF

-- 'It gives every such face the lowest face number of its island, and others FFFFFFFF'
pub data Given (m : List (List Corner)) (f : ℕ) : ℕ → Type 0 where
  lowest : (n : ℕ) → counted m f ≡ true → Lowest m f n → Given m f n
  other : counted m f ≡ false → Given m f no_island

-- ---- the same, computed

-- all faces with the higher of two numbers get the lower
unfoldable pub merge : ℕ → ℕ → (ℕ → ℕ) → ℕ → ℕ
merge a b l x = cond (eqb (l x) (max a b)) (min a b) (l x)

-- faces f and g have one number from now on, if they touch
unfoldable pub unite : List (List Corner) → ℕ → ℕ → (ℕ → ℕ) → ℕ → ℕ
unite m f g l = cond (touches m f g) (merge (l f) (l g) l) l

-- face f and each face before it
unfoldable pub unite_all : List (List Corner) → ℕ → (ℕ → ℕ) → ℕ → ℕ
unite_all m f l = up_to f (unite m f) l

-- each face begins with its own number; then all faces, one after the other
unfoldable pub lowest_of : List (List Corner) → ℕ → ℕ
lowest_of m = up_to (length m) (unite_all m) (λ x. x)

-- the number that face f is given
unfoldable pub island_of : List (List Corner) → ℕ → ℕ
island_of m f = cond (counted m f) (lowest_of m f) no_island

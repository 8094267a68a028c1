-- Step 4: 'Sound triangles come first, then degenerate ones, each in slot order', and the welding of corners. Definitions only.
use Rattle.std.specs.Prelude.{Bool, not, ◌&&◌, List, [], ◌∷◌, ◌++◌, eqb}
use Rattle.std.proofs.Math.Option.{Option}
use Rattle.std.specs.Float.Ieee as Ieee
use Rattle.bits.specs.Word.{word}
use Rattle.math.specs.declared.Vec3.{Vec3}
use Rattle.definition.specs.declared.Corner.{Corner}
use Rattle.definition.specs.declared.Triangle.{Triangle}
use Rattle.lists.specs.Lists.{keep, first}
use Rattle.definition.specs.Mesh.{one, two, three, Spot, corner_of}

-- a triangle that isn't degenerate
unfoldable pub is_sound : Triangle → Bool
is_sound t = not t.degenerate

-- the sound triangles, in slot order
unfoldable pub sound : List Triangle → List Triangle
sound ts = keep is_sound ts

-- the degenerate ones, in slot order
unfoldable pub broken : List Triangle → List Triangle
broken ts = keep (λ t. t.degenerate) ts

-- the corners of triangles (or the sides that run from them), triangle by triangle
unfoldable pub spots : List Triangle → List Spot
spots [] = []
spots (t ∷ ts) = record { tri = t; at = one } ∷ record { tri = t; at = two } ∷ record { tri = t; at = three } ∷ spots ts

-- all corners in the order of step 4: those of sound triangles first
unfoldable pub ordered : List Triangle → List Spot
ordered ts = spots (sound ts) ++ spots (broken ts)

-- 'the same bits': 'here -0.0 and 0.0 differ'
unfoldable pub same_bits : Ieee.Float → Ieee.Float → Bool
same_bits x y = eqb (word x) (word y)

-- the same bits in all three components
unfoldable pub same_vector : Vec3 → Vec3 → Bool
same_vector a b = same_bits a.x b.x && same_bits a.y b.y && same_bits a.z b.z

-- 'the same bits in all eight numbers'
unfoldable pub same_numbers : Corner → Corner → Bool
same_numbers c d = same_vector c.place d.place && same_vector c.normal d.normal && same_bits c.u d.u && same_bits c.v d.v

-- two corners are welded: the same bits in all eight numbers, and the same tag, which is 0 everywhere in edition 1
unfoldable pub welded : Corner → Corner → Bool
welded c d = same_numbers c d && eqb c.tag d.tag

-- 'Corners are welded to the first in that list with the same bits in all eight numbers'. Two corners are welded to one exactly where they are `welded` (laws/proofs/Weld.antt), which is what the steps below ask.
unfoldable pub welded_to : List Triangle → Corner → Option Spot
welded_to ts c = first (λ s. welded c (corner_of s)) (ordered ts)

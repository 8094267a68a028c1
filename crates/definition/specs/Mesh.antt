-- Faces, and the names of a triangle's corners and sides. Corners, kept corners and triangles are the structs of src/lib.rt. Definitions only.
use Rattle.std.specs.Prelude.{ℕ, Bool, true, false, ◌&&◌, List, eqb}
use Rattle.std.specs.Bool.{beq}
use Rattle.definition.specs.declared.Corner.{Corner}
use Rattle.definition.specs.declared.Kept.{Kept}
use Rattle.definition.specs.declared.Triangle.{Triangle}

-- a face: its number, counted from 0, and its corners
pub record Face : Type 0 where
  pub number : ℕ
  pub corners : List Corner

-- the three places of a triangle: its corners, and the sides that run from them to the next
pub data Third : Type 0 where
  one two three : Third

-- the place after a place
unfoldable pub after : Third → Third
after one = two
after two = three
after three = one

-- the place before a place
unfoldable pub before : Third → Third
before one = three
before two = one
before three = two

-- a corner of a triangle, or the side that runs from that corner to the next
pub record Spot : Type 0 where
  pub tri : Triangle
  pub at : Third

-- the next corner (side) of the same triangle
unfoldable pub next : Spot → Spot
next s = record { tri = s.tri; at = after s.at }

-- the corner (side) before it
unfoldable pub prior : Spot → Spot
prior s = record { tri = s.tri; at = before s.at }

-- the corner that a triangle keeps at a place
unfoldable pub kept : Triangle → Third → Kept
kept t one = t.a
kept t two = t.b
kept t three = t.c

-- the values of the corner
unfoldable pub corner_of : Spot → Corner
corner_of s = (kept s.tri s.at).corner

-- which corner of its face it is: its slot, counted within the face
unfoldable pub slot_of : Spot → ℕ
slot_of s = (kept s.tri s.at).which

-- the same place
unfoldable pub same_third : Third → Third → Bool
same_third one one = true
same_third one two = false
same_third one three = false
same_third two one = false
same_third two two = true
same_third two three = false
same_third three one = false
same_third three two = false
same_third three three = true

-- the same triangle, by its name: its face, and whether it is the second of that face
unfoldable pub same_triangle : Triangle → Triangle → Bool
same_triangle s t = eqb s.face t.face && beq s.second t.second

-- the same corner (side) of the same triangle
unfoldable pub same_spot : Spot → Spot → Bool
same_spot s t = same_triangle s.tri t.tri && same_third s.at t.at

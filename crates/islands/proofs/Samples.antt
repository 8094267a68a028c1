-- Small meshes, computed. Assumes nothing.
use Prim.Native.Nat.{ℕ}
use mathlib.Core.Path.{◌≡◌, refl}
use mathlib.Core.List.{List, [], ◌∷◌}
use lib.Ieee.{binary32, of_bits}
use Rattle.math.specs.Vector.{vec}
use Rattle.definition.specs.declared.Corner.{Corner}
use Rattle.lists.specs.Loops.{list_of, up_to}
use Rattle.islands.specs.Islands.{touch, touches, counted, no_island, merge, unite, unite_all, lowest_of, island_of}

-- a corner that only its texture coordinate tells apart
abbrev corner : ℕ → Corner
corner n = record { place = vec (of_bits binary32 0) (of_bits binary32 0) (of_bits binary32 0); normal = vec (of_bits binary32 0) (of_bits binary32 0) (of_bits binary32 0); u = of_bits binary32 n; v = of_bits binary32 0; tag = 0 }

-- faces 0 and 2 have no corner in common, and face 3 one with each; face 1 has five corners, all of face 4's among them; face 5 is one corner of face 4, three times
abbrev mesh : List (List Corner)
mesh =
    (corner 0 ∷ corner 1 ∷ corner 2 ∷ [])
    ∷ (corner 0 ∷ corner 7 ∷ corner 8 ∷ corner 9 ∷ corner 3 ∷ [])
    ∷ (corner 3 ∷ corner 4 ∷ corner 5 ∷ corner 6 ∷ [])
    ∷ (corner 2 ∷ corner 10 ∷ corner 3 ∷ [])
    ∷ (corner 7 ∷ corner 8 ∷ corner 9 ∷ [])
    ∷ (corner 8 ∷ corner 8 ∷ corner 8 ∷ [])
    ∷ []

pub six-faces : list_of 6 (island_of mesh) ≡ 0 ∷ no_island ∷ 0 ∷ 0 ∷ 4 ∷ 4 ∷ []
unfolding list_of island_of lowest_of unite_all unite merge up_to touches touch counted Rattle.definition.specs.Handed.used Rattle.lists.specs.Lists.has Rattle.definition.specs.Triangles.usable Rattle.definition.specs.Step4Order.welded Rattle.definition.specs.Step4Order.same_numbers Rattle.definition.specs.Step4Order.same_vector Rattle.definition.specs.Step4Order.same_bits lib.Ieee.to_bits of_bits
six-faces = refl

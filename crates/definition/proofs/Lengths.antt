-- How many corners a face has, and how many faces a mesh has. Assumes nothing.
use Prim.Native.Nat.{ℕ, zero, suc, ◌+◌}
use mathlib.Core.Path.{◌≡◌, refl, ap}
use mathlib.Core.List.{List, [], ◌∷◌}
use lib.ListN.{length}
use lib.Ieee.{Float}
use Rattle.definition.specs.Handed.{corners_from, mesh_from}

module _ (ps ns ts : List Float) where
  pub corners-length : (i n : ℕ) → length (corners_from ps ns ts i n) ≡ n
  unfolding corners_from
  corners-length i zero = refl
  corners-length i (suc n) = ap suc (corners-length (suc i) n)

  pub mesh-length : (i : ℕ) (sizes : List ℕ) → length (mesh_from ps ns ts i sizes) ≡ length sizes
  unfolding mesh_from
  mesh-length i [] = refl
  mesh-length i (n ∷ sizes) = ap suc (mesh-length (i + n) sizes)

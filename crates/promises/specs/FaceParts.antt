-- Document 01: 'When asked for, one face's numbers in one of the three lists are handed back as the part of the list where they stand, never a copy; a face number of F or above, or lists that 1 or 2 below would catch, get the empty part.' Of `mesh::span_of`, whose contract is the equation with `span_of`. Definitions only.
use Rattle.std.specs.Prelude.{ℕ, zero, suc, ◌+◌, ◌≤◌, ◌<◌, ◌≡◌, false, List, [], length, take, drop, Float}
use Rattle.definition.specs.Handed.{Handed}
use Rattle.mesh.specs.Parts.{caught, width_of, span_of, handed_back}

-- the list that a number stands for
unfoldable pub list_number : Handed → ℕ → List Float
list_number mesh zero = mesh.positions
list_number mesh (suc zero) = mesh.normals
list_number mesh (suc (suc zero)) = mesh.texture
list_number mesh (suc (suc (suc l))) = []

pub record Promised : Type 0 where
  -- the part lies in its list
  pub inside : (mesh : Handed) (l f : ℕ) → (span_of mesh l f).from + (span_of mesh l f).count ≤ length (list_number mesh l)
  -- what stands there is the face's numbers, or nothing
  pub numbers : (mesh : Handed) (l f : ℕ) → take (span_of mesh l f).count (drop (span_of mesh l f).from (list_number mesh l)) ≡ handed_back (width_of l) (list_number mesh l) mesh f
  -- the first face's part stands first, each next one behind the one before, and the last one ends where the list ends
  pub first : (mesh : Handed) (l : ℕ) → (span_of mesh l 0).from ≡ 0
  pub next : (mesh : Handed) (l f : ℕ) → suc f < length mesh.sizes → (span_of mesh l (suc f)).from ≡ (span_of mesh l f).from + (span_of mesh l f).count
  pub last : (mesh : Handed) (l f : ℕ) → caught mesh ≡ false → suc f ≡ length mesh.sizes → (span_of mesh l f).from + (span_of mesh l f).count ≡ length (list_number mesh l)

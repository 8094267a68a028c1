-- Proof that `list_faces` meets its contract. The invariant: the first f faces are listed. Assumes nothing.
use Prim.Native.Nat.{ℕ, ◌*◌, ◌-◌, ◌≤◌}
use mathlib.Core.Path.{◌≡◌}
use mathlib.Core.List.{List}
use lib.ListN.{length, take}
use Rattle.definition.specs.Handed.{corner_count}
use Rattle.view.specs.Frame.{Only}
use Rattle.islands.specs.Rows.{FacesListed, corner_row, face_row, list_columns}
use Rattle.islands.proofs.list_faces.Given as goal

-- after f faces, k of them listed, and base corners
pub record Going (sizes w : List ℕ) (k base f : ℕ) (u : List ℕ) : Type 0 where
  pub within : f ≤ length sizes
  pub sum : base ≡ corner_count (take f sizes)
  pub few : base ≤ 255 * f
  pub listed : FacesListed sizes f k (corner_row (6 * length sizes) u) (face_row (6 * length sizes) u)
  pub only : Only list_columns (6 * length sizes) w u

abbrev pub invariant-loop-f : goal.invariant-loop-f
invariant-loop-f l = Going l.sizes l.initial.work l.k l.base l.f l.work

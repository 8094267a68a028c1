-- Proof that `start_faces` meets its contract. The invariant: the first f faces have their starts. Assumes nothing.
use Prim.Native.Nat.{ℕ, ◌*◌, ◌≤◌}
use mathlib.Core.Path.{◌≡◌}
use mathlib.Core.List.{List}
use lib.ListN.{length, take}
use Rattle.definition.specs.Handed.{corner_count, slot_count}
use Rattle.apart.specs.Lists.{Past}
use Rattle.apart.specs.Order.{Begun}
use Rattle.apart.proofs.start_faces.Given as goal

-- after f faces with c corners and s slots
pub record Going (sizes w : List ℕ) (c s f : ℕ) (u : List ℕ) : Type 0 where
  pub within : f ≤ length sizes
  pub corners : c ≡ corner_count (take f sizes)
  pub slots : s ≡ slot_count (take f sizes)
  pub few : c ≤ 255 * f
  pub low : s ≤ 4 * f
  pub begun : Begun sizes f u
  pub past : Past 0 (4 * length sizes) w u

abbrev pub invariant-loop-f : goal.invariant-loop-f
invariant-loop-f l = Going l.sizes l.initial.order l.corners l.slots l.f l.order

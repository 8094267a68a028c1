-- `worth::slot_worth` meets its contract. Assumes nothing.
use Prim.Native.Nat.{ℕ}
use native.Mathlib.Omega.{arith}
use mathlib.Core.Path.{◌≡◌}
use mathlib.Core.List.{List}
use lib.ListN.{get_or}
use borrow.Author.Tests.{eq-eqb, ne_eqb}
use Rattle.worth.specs.Worth.{absent_slot, lost_slot, present_worth, worth}
use Rattle.worth.proofs.slot_worth.Goals as goal

-- word 0 is 0, or 1, or neither
module _ (slot : List ℕ) (r : ℕ) where
  of_none : get_or slot 0 0 ≡ 0 → r ≡ absent_slot → r ≡ worth slot
  unfolding worth
  of_none e h = simp (eq-eqb _ _ e) h

  of_one : get_or slot 0 0 ≡ 1 → r ≡ present_worth slot → r ≡ worth slot
  unfolding worth
  of_one e h = simp (ne_eqb (get_or slot 0 0) 0 (λ k. omega (arith, e, k)), eq-eqb _ _ e) h

  of_other : (get_or slot 0 0 ≡ 0 → ⊥) → (get_or slot 0 0 ≡ 1 → ⊥) → r ≡ lost_slot → r ≡ worth slot
  unfolding worth
  of_other f g h = simp (ne_eqb _ _ f, ne_eqb _ _ g) h

pub returns-then-slot-eq0 : goal.returns-then-slot-eq0
returns-then-slot-eq0 c = of_none c.args.slot.now _ (omega (arith, c.if-slot-eq0.true)) (omega arith)

pub returns-then-slot-eq1 : goal.returns-then-slot-eq1
returns-then-slot-eq1 c =
    of_one c.args.slot.now _ (omega (arith, c.if-slot-eq1.true)) c.present_worth.ensures

pub returns : goal.returns
returns c =
    of_other c.args.slot.now _ (λ k. omega (arith, k, c.if-slot-eq0.false)) (λ k. omega (arith, k, c.if-slot-eq1.false)) (omega arith)

-- The editions: at the corrected one all is what stood; a number that is no edition's is refused with 8 whatever else is wrong; where no row applies, the number is an edition's and no other row does. Assumes nothing.
use Prim.Native.Nat.{ℕ}
use mathlib.Core.Path.{◌≡◌, refl, sym, ◌∙◌, ap}
use mathlib.Core.Bool.{Bool, true, false, cond, not, ◌||◌}
use mathlib.Core.Logic.{◌⊎◌, inl, inr}
use mathlib.Core.List.{[], ◌∷◌, map}
use mathlib.Core.Option.{Option, none, some, none-ne-some}
use lib.Dec.{eqb}
use borrow.Author.Tests.{eqb-true}
use Rattle.lists.specs.Lists.{first}
use Rattle.definition.specs.Handed.{Call}
use Rattle.definition.specs.Frames.{frames}
use Rattle.definition.specs.FramesOld.{old_frames}
use Rattle.definition.specs.Desk.{Row, Shown, at_desk, table, verdict}
use Rattle.definition.specs.Outcome.{accepted, answered, outcome}
use Rattle.definition.specs.Editions.{corrected, old, edition_refusal, edition_row, is_edition, frames_in, table_in, verdict_in, accepted_in, outcome_in}

-- ---- the two editions

pub frames-corrected : frames_in corrected ≡ frames
unfolding frames_in
frames-corrected = refl

pub frames-old : frames_in old ≡ old_frames
unfolding frames_in
frames-old = refl

pub verdict-corrected : (x : Shown) → verdict_in corrected x ≡ verdict x
unfolding verdict_in verdict table_in first is_edition
verdict-corrected x = refl

pub accepted-corrected : (x : Call) → accepted_in corrected x ≡ accepted x
unfolding accepted_in accepted frames_in
accepted-corrected x = refl

pub outcome-corrected : (x : Call) → outcome_in corrected x ≡ outcome x
unfolding outcome_in outcome
outcome-corrected x = λ i. answered (verdict-corrected (at_desk x) i) (accepted-corrected x i) x.answer x.work

-- ---- the table

-- the numbers in their order
pub in-order-in : (e : ℕ) (x : Shown) → map (λ r. r.number) (table_in e x) ≡ 8 ∷ 1 ∷ 2 ∷ 3 ∷ 4 ∷ 7 ∷ 5 ∷ 6 ∷ []
unfolding table_in table map
in-order-in e x = refl

-- the verdict is the table's of before, where the number is an edition's
pub verdict-is : (e : ℕ) (x : Shown) → verdict_in e x ≡ cond (not (is_edition e)) (some (edition_row e)) (verdict x)
unfolding verdict_in verdict table_in first
verdict-is e x = refl

pub verdict-edition : (e : ℕ) (x : Shown) → is_edition e ≡ true → verdict_in e x ≡ verdict x
verdict-edition e x h = verdict-is e x ∙ ap (λ (b : Bool). cond (not b) (some (edition_row e)) (verdict x)) h

-- and that row where it is not
pub verdict-no-edition : (e : ℕ) (x : Shown) → is_edition e ≡ false → verdict_in e x ≡ some (edition_row e)
verdict-no-edition e x h = verdict-is e x ∙ ap (λ (b : Bool). cond (not b) (some (edition_row e)) (verdict x)) h

-- so such a call is refused with 8, whatever else is wrong with it, and nothing is altered
pub no_edition : (e : ℕ) (x : Call) → is_edition e ≡ false → outcome_in e x ≡ record { number = edition_refusal; place = 0; slots = 0; answer = x.answer; work = x.work }
unfolding outcome_in answered
no_edition e x h = ap (λ (o : Option Row). answered o (accepted_in e x) x.answer x.work) (verdict-no-edition e (at_desk x) h)

-- ---- no row applies

-- an edition's number is one of the two
pub one_of_two : (e : ℕ) → is_edition e ≡ true → (e ≡ corrected) ⊎ (e ≡ old)
unfolding is_edition
one_of_two e h = go (eqb e corrected) refl h
  where
    go : (b : Bool) → eqb e corrected ≡ b → (b || eqb e old) ≡ true → (e ≡ corrected) ⊎ (e ≡ old)
    go true p q = inl (eqb-true e corrected p)
    go false p q = inr (eqb-true e old q)

-- then the number is an edition's, and no row of before applies
pub none_in : (e : ℕ) (x : Shown) → verdict_in e x ≡ none → (is_edition e ≡ true) × (verdict x ≡ none)
none_in e x n = go (is_edition e) refl (sym (verdict-is e x) ∙ n)
  where
    go : (b : Bool) → is_edition e ≡ b → cond (not b) (some (edition_row e)) (verdict x) ≡ none → (is_edition e ≡ true) × (verdict x ≡ none)
    go true p q = (p, q)
    go false p q = absurd (none-ne-some (edition_row e) (sym q))

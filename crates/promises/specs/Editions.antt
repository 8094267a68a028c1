-- Request E13: 'An edition number other than 1 (corrected) or 2 is refused with 8, before all others; 01's table and demand 1 grow by it.' Definitions only.
-- (No public call has an edition yet; here is what one leaves behind by the definition.)
use Rattle.std.specs.Prelude.{ℕ, ◌*◌, ◌≤◌, ◌<◌, ◌≡◌, true, false, ◌⊎◌, [], ◌∷◌, map, length, take, drop, replicate}
use Rattle.std.proofs.Math.Option.{some}
use Rattle.tangent.specs.declared.Reading.{Reading}
use Rattle.tangent.specs.Slot.{slot_words}
use Rattle.definition.specs.Limits.{work_words}
use Rattle.definition.specs.Handed.{Call, mesh_of, slot_count}
use Rattle.definition.specs.Desk.{Shown, at_desk}
use Rattle.definition.specs.Outcome.{Result}
use Rattle.definition.specs.Editions.{corrected, edition_refusal, is_edition, frames_in, table_in, verdict_in, outcome_in}
use Rattle.view.specs.Answer.{slot_number, HasSlot, at_slot}
use Rattle.promises.specs.Calls.{Answers}
use Rattle.promises.specs.Demand1.{SlotTells}

-- z is what a call of edition e leaves behind
abbrev pub AnswersIn : ℕ → Call → Result → Type 0
AnswersIn e x z = z ≡ outcome_in e x

-- the definition's reading of slot i of face f in edition e, and `Absent` where there is no such slot
unfoldable pub reading_in : ℕ → Call → ℕ → ℕ → Reading
reading_in e x f i = at_slot (frames_in e x.threshold (mesh_of x.mesh)) f i

-- the call is refused with the number and the place of the first row that applies of the table with the edition's row, one of the numbers 1 to 8; nothing else is told, and both lists are as they were
pub record RefusedIn (e : ℕ) (x : Call) (z : Result) : Type 0 where
  pub row : verdict_in e (at_desk x) ≡ some (record { number = z.number; applies = true; place = z.place })
  pub low : 0 < z.number
  pub high : z.number ≤ edition_refusal
  pub nothing_else : z ≡ record { number = z.number; place = z.place; slots = 0; answer = x.answer; work = x.work }

-- the call is accepted: its number is an edition's; and `Taken` of Demand1.antt, with the edition's reading in each slot
pub record TakenIn (e : ℕ) (x : Call) (z : Result) : Type 0 where
  pub edition : is_edition e ≡ true
  pub number_0 : z.number ≡ 0
  pub place_0 : z.place ≡ 0
  pub slots_s : z.slots ≡ slot_count x.mesh.sizes
  pub slot : (f i : ℕ) → HasSlot x.mesh.sizes f i → SlotTells (take slot_words (drop (slot_words * slot_number x.mesh.sizes f i) z.answer)) (reading_in e x f i)
  pub answer_past : drop (slot_words * slot_count x.mesh.sizes) z.answer ≡ drop (slot_words * slot_count x.mesh.sizes) x.answer
  pub answer_length : length z.answer ≡ length x.answer
  pub work_zero : take (work_words * length x.mesh.sizes) z.work ≡ replicate (work_words * length x.mesh.sizes) 0
  pub work_past : drop (work_words * length x.mesh.sizes) z.work ≡ drop (work_words * length x.mesh.sizes) x.work
  pub work_length : length z.work ≡ length x.work

pub record Promised : Type 0 where
  -- demand 1, of every call whatever and every number in the edition's place
  pub demand_1 : (e : ℕ) (x : Call) (z : Result) → AnswersIn e x z → RefusedIn e x z ⊎ TakenIn e x z
  -- a number that is no edition's: 8, 0 and 0, and nothing altered, whatever else is wrong
  pub no_edition : (e : ℕ) (x : Call) (z : Result) → AnswersIn e x z → is_edition e ≡ false → z ≡ record { number = edition_refusal; place = 0; slots = 0; answer = x.answer; work = x.work }
  -- the corrected edition is the call as it stood
  pub as_before : (x : Call) (z : Result) → AnswersIn corrected x z → Answers x z
  -- the rows of the table stand in this order
  pub order : (e : ℕ) (x : Shown) → map (λ r. r.number) (table_in e x) ≡ 8 ∷ 1 ∷ 2 ∷ 3 ∷ 4 ∷ 7 ∷ 5 ∷ 6 ∷ []

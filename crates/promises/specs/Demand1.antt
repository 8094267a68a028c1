-- Demand 1 (README): 'Any lists whatever may be handed in. Each call ends, with frames or with one of the numbered refusals. A refusal alters no buffer. Absent is told apart from every number.' Definitions only.
-- (That a call ends is part of what every contract says; here is what it leaves behind.)
use Rattle.std.specs.Prelude.{ℕ, ◌*◌, ◌≤◌, ◌<◌, ◌≡◌, true, ◌⊎◌, List, length, take, drop, replicate}
use Rattle.std.proofs.Math.Option.{some}
use Rattle.tangent.specs.declared.Reading.{Reading}
use Rattle.tangent.specs.declared.Reading.TheVariants.{Absent}
use Rattle.tangent.specs.Slot.{slot_words, words}
use Rattle.definition.specs.Limits.{work_words, highest_refusal}
use Rattle.definition.specs.Handed.{Call, slot_count}
use Rattle.definition.specs.Desk.{at_desk, verdict}
use Rattle.definition.specs.Outcome.{Result}
use Rattle.view.specs.Answer.{slot_number, HasSlot}
use Rattle.promises.specs.Calls.{Answers, reading_at}

-- the call is refused with the number and the place of the first row of the table that applies, one of the numbers 1 to the highest; no slot is counted, and both lists are as they were
pub record Refused (x : Call) (z : Result) : Type 0 where
  pub row : verdict (at_desk x) ≡ some (record { number = z.number; applies = true; place = z.place })
  pub low : 0 < z.number
  pub high : z.number ≤ highest_refusal
  pub no_slots : z.slots ≡ 0
  pub same_answer : z.answer ≡ x.answer
  pub same_work : z.work ≡ x.work

-- a slot's words are those of a reading, and all zeros only where it is absent: no number, of whatever bits, reads like an absent one
pub record SlotTells (ws : List ℕ) (r : Reading) : Type 0 where
  pub words_are : ws ≡ words r
  pub absent_is : r ≡ Absent → ws ≡ replicate slot_words 0
  pub absent_alone : ws ≡ replicate slot_words 0 → r ≡ Absent

-- the call is accepted: 0, 0 and S; each slot tells the definition's reading; past S slots the answer list is as it was; the first 128F words of the work list are zero, and past them it is as it was; neither list changes its length
pub record Taken (x : Call) (z : Result) : Type 0 where
  pub number_0 : z.number ≡ 0
  pub place_0 : z.place ≡ 0
  pub slots_s : z.slots ≡ slot_count x.mesh.sizes
  pub slot : (f i : ℕ) → HasSlot x.mesh.sizes f i → SlotTells (take slot_words (drop (slot_words * slot_number x.mesh.sizes f i) z.answer)) (reading_at x f i)
  pub answer_past : drop (slot_words * slot_count x.mesh.sizes) z.answer ≡ drop (slot_words * slot_count x.mesh.sizes) x.answer
  pub answer_length : length z.answer ≡ length x.answer
  pub work_zero : take (work_words * length x.mesh.sizes) z.work ≡ replicate (work_words * length x.mesh.sizes) 0
  pub work_past : drop (work_words * length x.mesh.sizes) z.work ≡ drop (work_words * length x.mesh.sizes) x.work
  pub work_length : length z.work ≡ length x.work

-- the promise: of every call whatever
unfoldable pub Promised : Type 0
Promised = (x : Call) (z : Result) → Answers x z → Refused x z ⊎ Taken x z

-- What is promised of a verdict on every slot. Definitions only.
use Rattle.std.specs.Prelude.{ℕ, ◌/◌, ◌%◌, ◌≤◌, ◌<◌, ◌≡◌, Bool, true, false, List, length, get_or, drop}
use Rattle.bits.specs.Word.{number, is_finite}
use Rattle.math.specs.Vector.{counts}
use Rattle.tangent.specs.declared.Reading.{Reading}
use Rattle.tangent.specs.declared.Reading.TheVariants.{Absent}
use Rattle.tangent.specs.Slot.{slot_words}
use Rattle.packed.specs.Packer.{slot_at, slots_in}
use Rattle.packed.specs.Reader.{FirstFailing}
use Rattle.worth.specs.Worth.{absent_slot, good_slot, lost_slot, finite, counted, worth, count_below}
use Rattle.worth.specs.Meaning.{IsGood, Told, PacksWell, Alike}
use Rattle.worth.specs.Contract.{most_slots, good_at, not_judged, judge_left, Judges}
use Rattle.worth.specs.declared.Judged.{Judged}
use Rattle.definition.specs.Handed.{Call, mesh_of}
use Rattle.definition.specs.Shuffle.{Shuffle, shares}
use Rattle.definition.specs.Outcome.{Result}
use Rattle.view.specs.Answer.{HasSlot}
use Rattle.promises.specs.Calls.{Answers, reading_at}
use Rattle.promises.specs.Directions.{slot_in}
use Rattle.promises.specs.Demand3.{left_at, right_at}

-- each slot of an answer list is good
abbrev pub AllGood : List ℕ → Type 0
AllGood l = (s : ℕ) → s < slots_in l → worth (slot_at l s) ≡ good_slot

-- of one slot
pub record OneSlot : Type 0 where
  -- every slot has a verdict with its ground, and no ground has two
  pub told : (slot : List ℕ) → Told slot (worth slot)
  pub only : (slot : List ℕ) (k : ℕ) → Told slot k → k ≡ worth slot
  -- good exactly if word 0 is 1, the orientation word is 0 or 1, and both directions are finite, count, lie within 3F800008 and show in 16 bits
  pub good_is : (slot : List ℕ) → worth slot ≡ good_slot → IsGood slot
  pub is_good : (slot : List ℕ) → IsGood slot → worth slot ≡ good_slot
  -- a good slot is packed with its numbers, not all zero in either direction, and never as absent
  pub packs : (slot : List ℕ) → worth slot ≡ good_slot → PacksWell slot
  -- the tests of a component's bits are those of its number: it is finite, and it counts as document 01 says
  pub finite_is : (w : ℕ) → finite w ≡ is_finite (number w)
  pub counts_is : (w : ℕ) → finite w ≡ true → counted w ≡ counts (number w)
  -- the sign of a component tells nothing: -0.0 is as 0.0
  pub signs : (a b : List ℕ) → Alike a b → worth a ≡ worth b

-- of a call: l is the answer list that is handed in, v the lent list
pub record OneCall (l v : List ℕ) : Type 0 where
  -- the refusals, in their order
  pub broken : (length l % slot_words ≡ 0 → ⊥) → (judge_left l v).number ≡ 1
  pub endless : length l % slot_words ≡ 0 → most_slots < length l / slot_words → (judge_left l v).number ≡ 1
  pub tight : length l % slot_words ≡ 0 → length l / slot_words ≤ most_slots → length v < length l / slot_words → (judge_left l v).number ≡ 2
  pub fits : length l % slot_words ≡ 0 → length l / slot_words ≤ most_slots → length l / slot_words ≤ length v → (judge_left l v).number ≡ 0
  -- a refusal says 0 and 0 and alters nothing, and no call alters anything past the slots
  pub refused : ((judge_left l v).number ≡ 0 → ⊥) → judge_left l v ≡ not_judged (judge_left l v).number v
  pub past : drop (slots_in l) (judge_left l v).verdicts ≡ drop (slots_in l) v
  -- the verdict on every slot, and how many are good
  pub verdict : (judge_left l v).number ≡ 0 → (s : ℕ) → s < slots_in l → get_or (judge_left l v).verdicts s 0 ≡ worth (slot_at l s)
  pub count : (judge_left l v).number ≡ 0 → (judge_left l v).good ≡ count_below (slots_in l) (good_at l)
  -- the first is the lowest slot that is not good, or the number of slots
  pub first : (judge_left l v).number ≡ 0 → FirstFailing (slots_in l) (good_at l) (judge_left l v).first
  -- all are good exactly if the first is the number of slots, and exactly if so many are good
  pub all_first : (judge_left l v).number ≡ 0 → AllGood l → (judge_left l v).first ≡ slots_in l
  pub first_all : (judge_left l v).number ≡ 0 → (judge_left l v).first ≡ slots_in l → AllGood l
  pub all_count : (judge_left l v).number ≡ 0 → AllGood l → (judge_left l v).good ≡ slots_in l
  pub count_all : (judge_left l v).number ≡ 0 → (judge_left l v).good ≡ slots_in l → AllGood l

-- of a slot of an accepted call, whose reading is r
pub record AnswerWorth (slot : List ℕ) (r : Reading) : Type 0 where
  -- it is not lost
  pub not_lost : worth slot ≡ lost_slot → ⊥
  -- and absent exactly where its reading is
  pub absent : r ≡ Absent → worth slot ≡ absent_slot
  pub absent_only : worth slot ≡ absent_slot → r ≡ Absent

-- Demand 3 for verdicts: of three accepted calls, the third mesh a shuffle of the two others, the verdict on each slot of a face is the one that it had alone
pub record SameWorth (p : List Bool) (a b m : Call) (ra rb rm : Result) : Type 0 where
  pub first : (n i : ℕ) → HasSlot a.mesh.sizes n i → worth (slot_in m.mesh.sizes (left_at p n) i rm.answer) ≡ worth (slot_in a.mesh.sizes n i ra.answer)
  pub second : (n i : ℕ) → HasSlot b.mesh.sizes n i → worth (slot_in m.mesh.sizes (right_at p n) i rm.answer) ≡ worth (slot_in b.mesh.sizes n i rb.answer)

pub record WorthPromised : Type 0 where
  pub slot : OneSlot
  pub call : (l v : List ℕ) → OneCall l v
  -- demand 3: 'Shuffle two meshes that share no welded corner into one': each face gets the verdicts it had alone
  pub shuffled : (p : List Bool) (a b m : Call) (ra rb rm : Result) → Answers a ra → Answers b rb → Answers m rm → Shuffle p (mesh_of a.mesh) (mesh_of b.mesh) (mesh_of m.mesh) → shares (mesh_of a.mesh) (mesh_of b.mesh) ≡ false → a.threshold ≡ m.threshold → b.threshold ≡ m.threshold → ra.number ≡ 0 → rb.number ≡ 0 → rm.number ≡ 0 → SameWorth p a b m ra rb rm
  -- the verdict goes by the slot's words alone
  pub words_alone : (l m v u : List ℕ) (s t : ℕ) → (judge_left l v).number ≡ 0 → (judge_left m u).number ≡ 0 → s < slots_in l → t < slots_in m → slot_at l s ≡ slot_at m t → get_or (judge_left l v).verdicts s 0 ≡ get_or (judge_left m u).verdicts t 0
  -- any two outcomes that satisfy the contract are equal
  pub one_judging : (l v u t : List ℕ) (r s : Judged) → Judges l v r u → Judges l v s t → (r ≡ s) × (u ≡ t)
  -- of every accepted call, each slot
  pub answers : (x : Call) (z : Result) → Answers x z → z.number ≡ 0 → (f i : ℕ) → HasSlot x.mesh.sizes f i → AnswerWorth (slot_in x.mesh.sizes f i z.answer) (reading_at x f i)

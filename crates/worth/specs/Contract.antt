-- What the judge promises: result and lent list are the definition's, for every input. Definitions only.
use Rattle.std.specs.Prelude.{◌≡◌, ℕ, ◌%◌, ◌/◌, Bool, cond, List, ◌++◌, length, drop, eqb, leb, Result, Ok, Err}
use Rattle.lists.specs.Loops.{list_of}
use Rattle.tangent.specs.Slot.{slot_words}
use Rattle.packed.specs.Packer.{slot_at, slots_in}
use Rattle.packed.specs.Reader.{first_failing}
use Rattle.worth.specs.Worth.{absent_slot, good_slot, lost_slot, blank_slot, long_slot, short_slot, worth, count_below}
use Rattle.worth.specs.declared.Worth.{Worth}
use Rattle.worth.specs.declared.Worth.TheVariants.{Absent, Good, Lost, Blank, Long, Short}
use Rattle.worth.specs.declared.Refusal.{Refusal}
use Rattle.worth.specs.declared.Refusal.TheVariants.{Broken, TooShort}
use Rattle.worth.specs.declared.Seen.{Seen}
use Rattle.worth.specs.declared.Judged.{Judged}

-- the most slots whose number 32 bits hold
abbrev pub most_slots : ℕ
most_slots = 4294967295

-- so many words are whole slots
unfoldable pub whole : ℕ → Bool
whole words = eqb (words % slot_words) 0

-- there are no more of them than 32 bits count
unfoldable pub countable : ℕ → Bool
countable words = leb (words / slot_words) most_slots

-- there is room for a byte a slot
unfoldable pub roomy : ℕ → ℕ → Bool
roomy words room = leb (words / slot_words) room

-- the refusal of so many words with room for so many verdicts: 1 where they are not whole slots, or more than 32 bits count; 2 where there is too little room; 0 for none
unfoldable pub refusal : ℕ → ℕ → ℕ
refusal words room = cond (whole words) (cond (countable words) (cond (roomy words room) 0 2) 1) 1

-- the number of a refusal
abbrev pub number_of : Refusal → ℕ
number_of Broken = 1
number_of TooShort = 2

-- what is answered on so many words: how many slots they are, where nothing is refused
abbrev pub Counted : ℕ → ℕ → Result ℕ Refusal → Type 0
Counted words room (Ok n) = (0 ≡ refusal words room) × (n ≡ words / slot_words)
Counted words room (Err r) = number_of r ≡ refusal words room

-- what the judge returns, as C reads it
abbrev pub judged_of : Result Seen Refusal → Judged
judged_of (Ok s) = record { number = 0; good = s.good; first = s.first }
judged_of (Err r) = record { number = number_of r; good = 0; first = 0 }

-- the byte of a verdict
abbrev pub byte_of : Worth → ℕ
byte_of Absent = absent_slot
byte_of Good = good_slot
byte_of Lost = lost_slot
byte_of Blank = blank_slot
byte_of Long = long_slot
byte_of Short = short_slot

-- whether slot s of an answer list is good
unfoldable pub good_at : List ℕ → ℕ → Bool
good_at l s = eqb (worth (slot_at l s)) good_slot

-- a verdict on each of n slots
unfoldable pub verdicts_of : ℕ → List ℕ → List ℕ
verdicts_of n l = list_of n (λ s. worth (slot_at l s))

-- all that the judge leaves behind: a number, how many slots are good, the lowest that is not, and the lent list
pub record JudgeLeft : Type 0 where
  pub number : ℕ
  pub good : ℕ
  pub first : ℕ
  pub verdicts : List ℕ

-- a refusal alters nothing
unfoldable pub not_judged : ℕ → List ℕ → JudgeLeft
not_judged k v = record { number = k; good = 0; first = 0; verdicts = v }

-- a verdict on every slot, and past them nothing altered; the first is the number of slots where all are good
unfoldable pub all_judged : List ℕ → List ℕ → JudgeLeft
all_judged l v =
    record {
      number = 0;
      good = count_below (slots_in l) (good_at l);
      first = first_failing (slots_in l) (good_at l);
      verdicts = verdicts_of (slots_in l) l ++ drop (slots_in l) v;
    }

-- what judging the answer list l into a lent list leaves behind
unfoldable pub judge_left : List ℕ → List ℕ → JudgeLeft
judge_left l v = cond (eqb (refusal (length l) (length v)) 0) (all_judged l v) (not_judged (refusal (length l) (length v)) v)

-- all that a call leaves behind: what it returned, and the lent list
unfoldable pub after_judge : Judged → List ℕ → JudgeLeft
after_judge r v = record { number = r.number; good = r.good; first = r.first; verdicts = v }

-- The judge's contract. Handed in: the answer words l; lent: the list v, which it leaves as u; returned: r.
abbrev pub Judges : List ℕ → List ℕ → Judged → List ℕ → Type 0
Judges l v r u = after_judge r u ≡ judge_left l v

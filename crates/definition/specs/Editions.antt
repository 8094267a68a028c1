-- Request E13: the edition that the caller chooses, as a layer over the table and the outcome of the corrected one. No public call has it yet. Definitions only.
use Rattle.std.specs.Prelude.{ℕ, ◌*◌, Bool, cond, not, ◌||◌, List, ◌∷◌, ◌++◌, eqb, drop, Float}
use Rattle.std.proofs.Math.Option.{Option}
use Rattle.tangent.specs.declared.Reading.{Reading}
use Rattle.tangent.specs.Slot.{slot_words}
use Rattle.lists.specs.Lists.{first}
use Rattle.definition.specs.declared.Corner.{Corner}
use Rattle.definition.specs.Handed.{Call, mesh_of, slot_count}
use Rattle.definition.specs.Frames.{frames}
use Rattle.definition.specs.FramesOld.{old_frames}
use Rattle.definition.specs.Desk.{Row, Shown, at_desk, table}
use Rattle.definition.specs.Outcome.{Result, answer_words, accepted, answered}

-- the corrected edition's number
abbrev pub corrected : ℕ
corrected = 1

-- the old edition's number: the crate without its two corrected features
abbrev pub old : ℕ
old = 2

-- the refusal of any other number; with an edition it is the highest
abbrev pub edition_refusal : ℕ
edition_refusal = 8

-- whether a number is an edition's
unfoldable pub is_edition : ℕ → Bool
is_edition e = eqb e corrected || eqb e old

-- the readings of a mesh at a threshold, by edition. (A number that is none is refused; here it is taken like the corrected one's.)
unfoldable pub frames_in : ℕ → Float → List (List Corner) → List (List Reading)
frames_in e = cond (eqb e old) old_frames frames

-- 'An edition number other than 1 (corrected) or 2 is refused with 8'
abbrev pub edition_row : ℕ → Row
edition_row e = record { number = edition_refusal; applies = not (is_edition e); place = 0 }

-- the rows in their order: that one 'before all others'
unfoldable pub table_in : ℕ → Shown → List Row
table_in e x = edition_row e ∷ table x

-- the first row that applies
unfoldable pub verdict_in : ℕ → Shown → Option Row
verdict_in e x = first (λ r. r.applies) (table_in e x)

-- acceptance is what it was, but for the words of the slots, which are those of the edition's readings
unfoldable pub accepted_in : ℕ → Call → Result
accepted_in e x =
    record {
      number = (accepted x).number;
      place = (accepted x).place;
      slots = (accepted x).slots;
      answer = answer_words (frames_in e x.threshold (mesh_of x.mesh)) ++ drop (slot_words * slot_count x.mesh.sizes) x.answer;
      work = (accepted x).work;
    }

-- what a call of an edition leaves behind
unfoldable pub outcome_in : ℕ → Call → Result
outcome_in e x = answered (verdict_in e (at_desk x)) (accepted_in e x) x.answer x.work

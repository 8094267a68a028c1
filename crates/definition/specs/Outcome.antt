-- What comes back, for every input whatever: number, place and slot count, and the two lent lists at exit. Definitions only.
use Rattle.std.specs.Prelude.{ℕ, ◌*◌, length, drop, replicate}
use mathlib.Core.List.{List, ◌++◌, flat_map}
use Rattle.std.proofs.Math.Option.{Option, none, some}
use Rattle.tangent.specs.declared.Reading.{Reading}
use Rattle.tangent.specs.Slot as slot
use Rattle.tangent.specs.Slot.{slot_words}
use Rattle.definition.specs.Limits.{work_words}
use Rattle.definition.specs.Handed.{Call, mesh_of, slot_count}
use Rattle.definition.specs.Frames.{frames}
use Rattle.definition.specs.Desk.{Row, at_desk, verdict}

-- the words of all slots: 'Slots run by face, then by corner', each of them as many words as a slot has
unfoldable pub answer_words : List (List Reading) → List ℕ
answer_words rs = flat_map (flat_map slot.words) rs

-- the whole of what a call leaves behind: what it returns, and its two lists
pub record Result : Type 0 where
  pub number : ℕ
  pub place : ℕ
  pub slots : ℕ
  pub answer : List ℕ
  pub work : List ℕ

-- 'Acceptance returns 0, 0 and S, writes the first 10S answer words' (12S by request E7), 'sets the first 128F work words to zero and alters nothing past them'
unfoldable pub accepted : Call → Result
accepted x =
    record {
      number = 0;
      place = 0;
      slots = slot_count x.mesh.sizes;
      answer = answer_words (frames x.threshold (mesh_of x.mesh)) ++ drop (slot_words * slot_count x.mesh.sizes) x.answer;
      work = replicate (work_words * length x.mesh.sizes) 0 ++ drop (work_words * length x.mesh.sizes) x.work;
    }

-- 'A refusal returns its number, its place and a slot count of 0, and alters nothing'; without one the call is accepted
unfoldable pub answered : Option Row → Result → List ℕ → List ℕ → Result
answered none taken answer work = taken
answered (some r) taken answer work = record { number = r.number; place = r.place; slots = 0; answer = answer; work = work }

-- what a call leaves behind
unfoldable pub outcome : Call → Result
outcome x = answered (verdict (at_desk x)) (accepted x) x.answer x.work

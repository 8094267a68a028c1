-- What the call for frames and reasons promises: result and all lent lists are the definition's, for every input. Definitions only.
use Rattle.std.specs.Prelude.{ℕ, ◌≡◌, List, ◌++◌, ltb, length, drop}
use Rattle.std.proofs.Math.Option.{Option, none, some}
use Rattle.definition.specs.Handed.{Call, mesh_of, slot_count}
use Rattle.definition.specs.Desk.{Row, at_desk, verdict}
use Rattle.definition.specs.Frames.{frames}
use Rattle.definition.specs.Outcome.{answer_words, accepted}
use Rattle.islands.specs.Nine.{afterwards}
use Rattle.mikktspace.specs.declared.Outcome.{Outcome}
use Rattle.reasons.specs.Trial.{trial}
use Rattle.reasons.specs.Reasons.{reasons_of}

-- all that the call leaves behind: what it returns, and the three lists
pub record ReasonsLeft : Type 0 where
  pub number : ℕ
  pub place : ℕ
  pub slots : ℕ
  pub answer : List ℕ
  pub work : List ℕ
  pub reasons : List ℕ

-- these, of a call that was made
unfoldable pub left : Outcome → List ℕ → List ℕ → List ℕ → ReasonsLeft
left r answer work reasons = record { number = r.number; place = r.place; slots = r.slots; answer = answer; work = work; reasons = reasons }

-- the table, and then 9 where the list for the reasons has fewer than a byte a slot
unfoldable pub reasons_verdict : Call → ℕ → Option Row
reasons_verdict x room = afterwards (verdict (at_desk x)) (ltb room (slot_count x.mesh.sizes))

-- the reason of every slot of an accepted mesh
unfoldable pub reason_bytes : Call → List ℕ
reason_bytes x = reasons_of (slot_count x.mesh.sizes) (answer_words (frames x.threshold (mesh_of x.mesh))) (answer_words (trial (mesh_of x.mesh)))

-- acceptance: what the call for frames leaves, and a byte for each slot; past them nothing is altered
unfoldable pub accepted_reasons : Call → List ℕ → ReasonsLeft
accepted_reasons x reasons =
    record {
      number = 0;
      place = 0;
      slots = (accepted x).slots;
      answer = (accepted x).answer;
      work = (accepted x).work;
      reasons = reason_bytes x ++ drop (slot_count x.mesh.sizes) reasons;
    }

-- a refusal returns its number and its place, and alters nothing
unfoldable pub answered : Option Row → ReasonsLeft → List ℕ → List ℕ → List ℕ → ReasonsLeft
answered none taken answer work reasons = taken
answered (some r) taken answer work reasons = record { number = r.number; place = r.place; slots = 0; answer = answer; work = work; reasons = reasons }

-- what the call leaves behind, for every input
unfoldable pub reasons_outcome : Call → List ℕ → ReasonsLeft
reasons_outcome x reasons = answered (reasons_verdict x (length reasons)) (accepted_reasons x reasons) x.answer x.work reasons

-- The contract of the public call x with a list lent for the reasons: it returns r, and leaves the answer list as b, the work list as v and the reasons as k.
abbrev pub Explains : Call → List ℕ → Outcome → List ℕ → List ℕ → List ℕ → Type 0
Explains x reasons r b v k = left r b v k ≡ reasons_outcome x reasons

-- What the desk says of a mesh alone, for calls that have no threshold and no answer list. Definitions only.
use Rattle.std.specs.Prelude.{ℕ, ◌*◌}
use Rattle.std.proofs.Math.Option.{Option}
use Rattle.bits.specs.Single.{zeroᶠ}
use Rattle.tangent.specs.Slot.{slot_words}
use Rattle.definition.specs.Handed.{Handed}
use Rattle.definition.specs.Limits.{face_limit}
use Rattle.definition.specs.Desk.{shown, Row, verdict}

-- the words of the longest answer list that a mesh can need: four slots a face
abbrev pub longest_answer : ℕ
longest_answer = slot_words * (4 * face_limit)

-- the table is asked with a threshold of 0 and the longest answer list, so that rows 3 and 5 never apply
abbrev pub desk_verdict : Handed → ℕ → Option Row
desk_verdict mesh work = verdict (shown mesh zeroᶠ longest_answer work)

-- A call, for the promises to speak of: what is handed in, what is lent, and what it leaves behind. Definitions only.
use Rattle.std.specs.Prelude.{ℕ, ◌*◌, ◌≡◌, List, [], take, drop, get_or}
use Rattle.tangent.specs.declared.Reading.{Reading}
use Rattle.tangent.specs.declared.Reading.TheVariants.{Absent}
use Rattle.tangent.specs.Slot.{slot_words}
use Rattle.definition.specs.Handed.{Call, mesh_of, slots_of, slot_count}
use Rattle.definition.specs.Frames.{frames}
use Rattle.definition.specs.Outcome.{Result, outcome}

-- what a call leaves behind, by the definition
unfoldable pub leaves : Call → Result
leaves x = outcome x

-- z is what a call leaves behind: the form that the contract of the public call takes
abbrev pub Answers : Call → Result → Type 0
Answers x z = z ≡ leaves x

-- the definition's reading of slot i of face f, and `Absent` where there is no such slot
unfoldable pub reading_at : Call → ℕ → ℕ → Reading
reading_at x f i = get_or (get_or (frames x.threshold (mesh_of x.mesh)) f []) i Absent

-- the call is accepted: its number is 0
unfoldable pub Accepted : Call → Type 0
Accepted x = (leaves x).number ≡ 0

-- how many slots the first n faces take
unfoldable pub slots_before : List ℕ → ℕ → ℕ
slots_before sizes n = slot_count (take n sizes)

-- the words for face number n of an answer list: 'Slots run by face, then by corner'
unfoldable pub face_answer : List ℕ → List ℕ → ℕ → List ℕ
face_answer sizes answer n = take (slot_words * slots_of (get_or sizes n 0)) (drop (slot_words * slots_before sizes n) answer)

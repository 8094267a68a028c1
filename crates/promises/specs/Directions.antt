-- After request E6 every direction word of every answer, words 1 to 6 of a slot, is the word of a finite number: no NaN and no infinity. (The magnitudes, words 7 and 8, can still overflow. How far from unit length a direction can be is not said here: docs/DECISIONS.md, 'No direction (E6)'.) Definitions only.
use Rattle.std.specs.Prelude.{ℕ, ◌+◌, ◌*◌, ◌<◌, ◌≡◌, List, T, get_or, take, drop}
use Rattle.bits.specs.Word.{number, is_finite}
use Rattle.tangent.specs.Slot.{slot_words}
use Rattle.definition.specs.Outcome.{Result}
use Rattle.view.specs.Answer.{slot_number, HasSlot}
use Rattle.definition.specs.Handed.{Call}
use Rattle.promises.specs.Calls.{Answers}

-- the words of slot i of face f in an answer list
abbrev pub slot_in : List ℕ → ℕ → ℕ → List ℕ → List ℕ
slot_in sizes f i answer = take slot_words (drop (slot_words * slot_number sizes f i) answer)

-- words 1 to 6 of a slot are words of finite numbers
unfoldable pub FiniteWords : List ℕ → Type 0
FiniteWords slot = (k : ℕ) → k < 6 → T (is_finite (number (get_or slot (1 + k) 0)))

-- the promise: of every accepted call, each slot, present or absent
unfoldable pub Promised : Type 0
Promised = (x : Call) (z : Result) → Answers x z → z.number ≡ 0 → (f i : ℕ) → HasSlot x.mesh.sizes f i → FiniteWords (slot_in x.mesh.sizes f i z.answer)

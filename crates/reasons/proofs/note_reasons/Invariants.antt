-- `reasons::note_reasons` meets its contract. Assumes nothing.
use Prim.Native.Nat.{ℕ, ◌+◌, ◌*◌, ◌-◌}
use mathlib.Core.List.{List}
use lib.ListN.{get_or}
use Rattle.tangent.specs.Slot.{slot_words}
use Rattle.worth.proofs.Filling.{Filled}
use Rattle.reasons.specs.Reasons.{origin_word, reason_by}
use Rattle.reasons.proofs.note_reasons.Given as goal

-- what is stored for slot s
abbrev pub stored : List ℕ → ℕ → ℕ
stored l s = reason_by (get_or l (slot_words * s + origin_word) 0)

abbrev pub invariant-loop-s : goal.invariant-loop-s
invariant-loop-s l = Filled l.count (stored l.answer) l.initial.reasons l.reasons l.s

abbrev pub decreases-loop-s : goal.decreases-loop-s
decreases-loop-s l = l.count - l.s

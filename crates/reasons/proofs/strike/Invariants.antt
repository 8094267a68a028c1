-- `reasons::strike` meets its contract. Assumes nothing.
use Prim.Native.Nat.{ℕ, ◌*◌, ◌-◌}
use mathlib.Core.List.{List}
use lib.ListN.{get_or}
use Rattle.tangent.specs.Slot.{slot_words}
use Rattle.worth.proofs.Filling.{Filled}
use Rattle.reasons.specs.Reasons.{only_absent}
use Rattle.reasons.proofs.strike.Given as goal

-- what is stored for slot s
abbrev pub stored : List ℕ → List ℕ → ℕ → ℕ
stored l v s = only_absent (get_or l (slot_words * s) 0) (get_or v s 0)

abbrev pub invariant-loop-s : goal.invariant-loop-s
invariant-loop-s l = Filled l.count (stored l.answer l.initial.reasons) l.initial.reasons l.reasons l.s

abbrev pub decreases-loop-s : goal.decreases-loop-s
decreases-loop-s l = l.count - l.s

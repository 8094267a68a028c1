-- `reasons::fill` meets its contract. Assumes nothing.
use Prim.Native.Nat.{ℕ, ◌-◌}
use mathlib.Core.List.{List}
use Rattle.tangent.specs.Slot.{slot_words}
use Rattle.packed.proofs.Runs.{Run}
use Rattle.reasons.specs.Trial.{tried_words}
use Rattle.reasons.proofs.fill.Given as goal

-- what is stored for every slot
abbrev pub stored : ℕ → List ℕ
stored s = tried_words

abbrev pub invariant-loop-s : goal.invariant-loop-s
invariant-loop-s l = Run slot_words l.count stored l.initial.answer l.answer l.s

abbrev pub decreases-loop-s : goal.decreases-loop-s
decreases-loop-s l = l.count - l.s

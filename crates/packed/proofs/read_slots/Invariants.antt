-- `packed::read_slots` meets its contract. Assumes nothing.
use Prim.Native.Nat.{◌-◌}
use Rattle.packed.specs.Reader.{read_words, read_seven, seven_at}
use Rattle.packed.proofs.Runs.{Run}
use Rattle.packed.proofs.read_slots.Given as goal

abbrev pub invariant-loop-s : goal.invariant-loop-s
invariant-loop-s l = Run read_words l.count (λ k. read_seven (seven_at l.packed k)) l.initial.answer l.answer l.s

abbrev pub decreases-loop-s : goal.decreases-loop-s
decreases-loop-s l = l.count - l.s

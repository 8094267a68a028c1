-- `worth::judge_slots` meets its contract. Assumes nothing.
use Prim.Native.Nat.{◌-◌}
use Rattle.packed.specs.Packer.{slot_at}
use Rattle.worth.specs.Worth.{worth}
use Rattle.worth.proofs.Filling.{Filled}
use Rattle.worth.proofs.judge_slots.Given as goal

abbrev pub invariant-loop-s : goal.invariant-loop-s
invariant-loop-s l = Filled l.count (λ k. worth (slot_at l.answer k)) l.initial.verdicts l.verdicts l.s

abbrev pub decreases-loop-s : goal.decreases-loop-s
decreases-loop-s l = l.count - l.s

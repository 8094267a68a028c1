-- `packed::pack_slots` meets its contract. Assumes nothing.
use Prim.Native.Nat.{◌-◌}
use Rattle.packed.specs.Packer.{packed_words, packed_slot, slot_at}
use Rattle.packed.proofs.Runs.{Run}
use Rattle.packed.proofs.pack_slots.Given as goal

abbrev pub invariant-loop-s : goal.invariant-loop-s
invariant-loop-s l = Run packed_words l.count (λ k. packed_slot (slot_at l.answer k)) l.initial.packed l.packed l.s

abbrev pub decreases-loop-s : goal.decreases-loop-s
decreases-loop-s l = l.count - l.s

-- `packed::pack_slots` meets its contract. Assumes nothing.
use native.Mathlib.Omega.{arith}
use Prim.Native.Nat.{ℕ}
use mathlib.Core.Path.{◌∙◌, ap}
use mathlib.Core.List.{List}
use Rattle.tangent.specs.Slot.{slot_words}
use Rattle.packed.specs.Packer.{packed_words, packed_slot, slot_at, packed_slots}
use Rattle.packed.proofs.Runs.{length-packed, run_none, stored_more, run-all, cut-is, cut-long}
use Rattle.packed.proofs.pack_slots.Goals as goal

-- what is stored for slot s
abbrev stored : List ℕ → ℕ → List ℕ
stored l s = packed_slot (slot_at l s)

pub loop-s-init : goal.loop-s-init
loop-s-init c = let a = c.args in run_none packed_words a.count (stored a.answer.now) (λ i. length-packed (slot_at a.answer.now i)) a.packed.now

pub pack_slot-requires : goal.pack_slot-requires
pack_slot-requires c =
    let l = c.loop-s in
    let a = c.args in
    cut-long slot_words l.s a.answer.now (omega arith)

pub loop-s-preserved : goal.loop-s-preserved
unfolding slot_at
loop-s-preserved c =
    let l = c.loop-s in
    let a = c.args in
    stored_more packed_words a.count (stored a.answer.now) (λ i. length-packed (slot_at a.answer.now i)) a.packed.now l.packed _ _ l.s (omega arith) l.invariant c.put_seven.ensures (c.pack_slot.ensures ∙ ap packed_slot (cut-is slot_words l.s a.answer.now))

pub returns : goal.returns
unfolding packed_slots
returns c =
    let l = c.loop-s in
    let a = c.args in
    run-all packed_words a.count (stored a.answer.now) (λ i. length-packed (slot_at a.answer.now i)) a.packed.now l.packed l.s (omega arith) (omega arith) l.invariant

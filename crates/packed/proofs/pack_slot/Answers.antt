-- `packed::pack_slot` meets its contract. Assumes nothing.
use mathlib.Core.Path.{sym, ◌∙◌}
use Rattle.lists.specs.Loops.{list_of}
use Rattle.packed.specs.Packer.{frame, frame_packed, packed_slot}
use Rattle.packed.proofs.pack_slot.Goals as goal

pub returns-then-not-has_frame : goal.returns-then-not-has_frame
unfolding packed_slot frame_packed
returns-then-not-has_frame c = simp (sym c.has_frame.ensures ∙ c.if-not-has_frame.true)

pub returns : goal.returns
unfolding packed_slot frame_packed frame list_of
returns c =
    simp (sym c.has_frame.ensures ∙ c.if-not-has_frame.false) (cc)

-- `cards::read_blocks` meets its contract. Assumes nothing.
use native.Mathlib.Omega.{arith}
use Prim.Native.Nat.{◌*◌}
use native.Mathlib.Nat.{le_antisymm}
use mathlib.Core.Path.{refl, ◌∙◌}
use Rattle.words.proofs.Stores.{joined-none, joined-stored, joined-front}
use Rattle.blocks.specs.Format.{record_words, room_words, blocks_for}
use Rattle.blocks.specs.Judged.{records_read}
use Rattle.blocks.proofs.Counts.{called}
use Rattle.cards.specs.Reader.{readings}
use Rattle.cards.proofs.Lengths.{length_before, length-readings}
use Rattle.cards.proofs.read_blocks.Goals as goal

pub loop-b-init : goal.loop-b-init
loop-b-init c =
    let a = c.args in
    (omega arith, joined-none a.answer.now 0 (λ k. records_read a.kind a.total k a.card.now), refl)

pub read_block-requires : goal.read_block-requires
read_block-requires c =
    let l = c.loop-b in
    (called c.args.kind c.args.total l.b (omega (arith, c.blocks_for-b-end.ensures.0, c.loop-b-test.true)), omega (arith, c.requires, l.invariant.2))

pub loop-b-preserved : goal.loop-b-preserved
loop-b-preserved c =
    let l = c.loop-b in
    let a = c.args in (
      omega arith,
      c.read_block.ensures
          ∙ joined-stored a.answer.now l.answer 0 (room_words * l.b) (λ k. records_read a.kind a.total k a.card.now) l.b
          (omega (arith, length_before a.kind a.total l.b a.card.now (omega (arith, c.blocks_for-b-end.ensures.0, c.loop-b-test.true)))) l.invariant.1,
      c.read_block.auto.answer ∙ l.invariant.2,
    )

pub returns : goal.returns
unfolding readings
returns c =
    let l = c.loop-b in
    let a = c.args in
    joined-front a.answer.now l.answer (λ b. records_read a.kind a.total b a.card.now) l.b (blocks_for a.kind a.total) (record_words a.kind * a.total) l.invariant.1
    (le_antisymm l.invariant.0 c.loop-b-test.false ∙ c.blocks_for-b-end.ensures.0) (length-readings a.kind a.total a.card.now) c.requires

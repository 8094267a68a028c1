-- `cards::write_blocks` meets its contract. Assumes nothing.
use native.Mathlib.Omega.{arith}
use Prim.Native.Nat.{ℕ, ◌*◌}
use native.Mathlib.Nat.{le_antisymm}
use mathlib.Core.Path.{◌≡◌, refl, ap, ◌∙◌}
use Rattle.words.proofs.Stores.{joined-none, joined-stored, joined-front}
use Rattle.blocks.specs.declared.Kind.{Kind}
use Rattle.blocks.specs.Format.{block_bytes, blocks_for, records_in, block_of}
use Rattle.blocks.proofs.Counts.{called, words-fit}
use Rattle.cards.specs.Writer.{card_bytes, blocks_of}
use Rattle.cards.proofs.Lengths.{length-blocks}
use Rattle.cards.proofs.write_blocks.Goals as goal
use Rattle.cards.proofs.write_blocks.Tie as tie
use Rattle.cards.proofs.write_blocks.Lts as lts
use Rattle.cards.proofs.write_blocks.Reads as reads

abbrev At-After-blocks_for-b-end : Type 0
At-After-blocks_for-b-end = lts.After-blocks_for tie.the-claims reads.Pre reads.Post goal.the-invariant-loop-b goal.the-decreases-loop-b

pub loop-b-init : goal.loop-b-init
unfolding blocks_of
loop-b-init c =
    let a = c.args in
    (omega arith, joined-none a.card.now 0 (λ b. block_of a.kind a.total b (records_in a.kind a.total b a.answer.now)), refl)

-- a count of blocks, by another name of the total
blocks-of : (kind : Kind) (r m n : ℕ) → r ≡ blocks_for kind m → m ≡ n → r ≡ blocks_for kind n
blocks-of kind r m n e h = e ∙ ap (blocks_for kind) h

-- the loop ends at the last block that is called for
blocks-are : (f : At-After-blocks_for-b-end) → let a = f.args in f.blocks_for-b-end.result ≡ blocks_for a.kind a.total
blocks-are f =
    let a = f.args in
    blocks-of a.kind _ _ a.total f.blocks_for-b-end.ensures.0 (omega arith)

pub put_block-requires : goal.put_block-requires
unfolding card_bytes
put_block-requires c =
    let l = c.loop-b in
    let a = c.args in
    let k = called a.kind a.total l.b (omega (arith, blocks-are c.before.before.before.before, c.loop-b-test.true)) in
    (omega (arith, blocks-are c.before.before.before.before, c.requires.1, l.invariant.2), k, omega (arith, words-fit a.kind a.total l.b k, c.requires.0))

pub loop-b-preserved : goal.loop-b-preserved
unfolding blocks_of records_in
loop-b-preserved c =
    let l = c.loop-b in
    let a = c.args in (
      omega arith,
      c.put_block.ensures
          ∙ joined-stored a.card.now l.card 0 (block_bytes * l.b) (λ b. block_of a.kind a.total b (records_in a.kind a.total b a.answer.now)) l.b
          (omega (arith, length-blocks a.kind l.b a.total a.answer.now c.requires.0 (omega (arith, blocks-are c.before.before.before.before.before.before.before, l.invariant.0)))) l.invariant.1,
      c.put_block.auto.card ∙ l.invariant.2,
    )

pub returns : goal.returns
unfolding card_bytes blocks_of
returns c =
    let l = c.loop-b in
    let kind = c.args.kind in
    let n = c.args.total in
    joined-front c.args.card.now l.card (λ b. block_of kind n b (records_in kind n b c.args.answer.now)) l.b (blocks_for kind n) (block_bytes * blocks_for kind n) l.invariant.1
    (le_antisymm l.invariant.0 c.loop-b-test.false ∙ blocks-are c.before.before.before) (length-blocks kind (blocks_for kind n) n c.args.answer.now c.requires.0 (omega arith)) c.requires.1

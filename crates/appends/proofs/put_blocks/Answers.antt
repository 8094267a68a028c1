-- `appends::put_blocks` meets its contract. Assumes nothing.
use native.Mathlib.Omega.{arith}
use Prim.Native.Nat.{◌+◌, ◌*◌, ◌<◌}
use native.Mathlib.Nat.{le_antisymm}
use mathlib.Core.Path.{refl, ◌∙◌}
use Rattle.lists.specs.Parts.{part}
use Rattle.words.specs.Words.{word_values}
use Rattle.words.proofs.Stores.{joined-none, joined-stored, joined-front}
use Rattle.blocks.specs.Format.{block_bytes, room_words, blocks_for, used_words, block_of}
use Rattle.blocks.proofs.Counts.{blocks-le}
use Rattle.cards.specs.Writer.{records_of, card_bytes}
use Rattle.appends.specs.Append.{blocks_from}
use Rattle.appends.proofs.Counts.{NextRecords, follows, next-called, next-fit, length_from}
use Rattle.appends.proofs.put_blocks.Goals as goal
use Rattle.appends.proofs.put_blocks.Tie as tie
use Rattle.appends.proofs.put_blocks.Lts as lts
use Rattle.appends.proofs.put_blocks.Reads as reads

abbrev At-Start : Type 0
At-Start = lts.Start tie.the-claims reads.Pre reads.Post goal.the-invariant-loop-i goal.the-decreases-loop-i

abbrev At-After-put_block-arg-1 : Type 0
At-After-put_block-arg-1 = lts.After-put_block-arg tie.the-claims reads.Pre reads.Post goal.the-invariant-loop-i goal.the-decreases-loop-i

pub loop-i-init : goal.loop-i-init
loop-i-init c =
    let a = c.args in
    (omega arith, joined-none a.lent.now 0 (λ k. block_of a.kind a.total (a.b + k) (part (room_words * k) (used_words a.kind a.total (a.b + k)) a.records.now)), refl)

-- they are the next
theirs : (s : At-Start) → let a = s.args in NextRecords a.kind a.total a.b (records_of a.kind a.records.now)
theirs s = follows s.args.kind s.args.total s.args.b (records_of s.args.kind s.args.records.now) s.requires.1

-- and few
few : (c : At-After-put_block-arg-1) → c.loop-i.i < word_values
few c =
    let a = c.args in
    omega (arith, c.requires.0, c.requires.2, blocks-le a.kind (records_of a.kind a.records.now), c.loop-i-test.true)

pub overflow_add-b : goal.overflow_add-b
overflow_add-b c = omega (arith, few c.before, c.requires.3)

pub overflow_mul-i : goal.overflow_mul-i
overflow_mul-i c = omega (arith, few c.before)

pub put_block-requires : goal.put_block-requires
unfolding card_bytes
put_block-requires c =
    let l = c.loop-i in
    let a = c.args in
    let h : l.i < blocks_for a.kind (records_of a.kind a.records.now) = omega (arith, c.requires.0, c.loop-i-test.true) in
    (omega (arith, h, c.requires.4, l.invariant.2), next-called a.kind a.total a.b (records_of a.kind a.records.now) l.i (theirs c.before.before.before.before.before.before) h, next-fit a.kind a.total a.b a.records.now (theirs c.before.before.before.before.before.before) l.i h)

pub loop-i-preserved : goal.loop-i-preserved
loop-i-preserved c =
    let l = c.loop-i in
    let a = c.args in (
      omega arith,
      c.put_block.ensures
          ∙ joined-stored a.lent.now l.lent 0 (block_bytes * l.i) (λ k. block_of a.kind a.total (a.b + k) (part (room_words * k) (used_words a.kind a.total (a.b + k)) a.records.now)) l.i
          (omega (arith, length_from a.kind a.total a.b a.records.now (theirs c.before.before.before.before.before.before.before.before.before) l.i (omega (arith, c.requires.0, l.invariant.0)))) l.invariant.1,
      c.put_block.auto.card ∙ l.invariant.2,
    )

pub returns : goal.returns
unfolding card_bytes blocks_from
returns c =
    let l = c.loop-i in
    let a = c.args in
    let k = blocks_for a.kind (records_of a.kind a.records.now) in
    joined-front a.lent.now l.lent (λ i. block_of a.kind a.total (a.b + i) (part (room_words * i) (used_words a.kind a.total (a.b + i)) a.records.now)) l.i k (block_bytes * k) l.invariant.1
    (le_antisymm l.invariant.0 c.loop-i-test.false ∙ c.requires.0) (length_from a.kind a.total a.b a.records.now (theirs c.before.before.before.before.before) k (omega arith))
    c.requires.4

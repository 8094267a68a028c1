-- `cards::try_write` meets its contract. Assumes nothing.
use native.Mathlib.Omega.{arith}
use Prim.Native.Nat.{ℕ, ◌*◌, ◌≤◌, ◌<◌}
use mathlib.Core.Path.{◌≡◌, sym, ap, ◌∙◌, subst}
use mathlib.Core.Bool.{true}
use mathlib.Core.List.{◌++◌}
use lib.ListN.{length, drop}
use Rattle.words.specs.Words.{word_values}
use Rattle.blocks.specs.Format.{block_bytes, blocks_for}
use Rattle.blocks.proofs.Counts.{words-in}
use Rattle.cards.specs.Writer.{records_of, writable, card_bytes, blocks_of, not_written, card_of, card_written}
use Rattle.cards.specs.Contract.{after_write}
use Rattle.cards.proofs.Outcomes.{few-records, wrote-0, wrote-1, wrote-2}
use Rattle.cards.proofs.try_write.Goals as goal
use Rattle.cards.proofs.try_write.Tie as tie
use Rattle.cards.proofs.try_write.Lts as lts
use Rattle.cards.proofs.try_write.Reads as reads

abbrev At-Else-not-writable : Type 0
At-Else-not-writable = lts.Else1 tie.the-claims reads.Pre reads.Post

abbrev At-After-records_of-total : Type 0
At-After-records_of-total = lts.After-records_of tie.the-claims reads.Pre reads.Post

abbrev At-After-blocks_for-bytes : Type 0
At-After-blocks_for-bytes = lts.After-blocks_for tie.the-claims reads.Pre reads.Post

-- past the first test the list can be written
can : (c : At-Else-not-writable) → let a = c.args in writable a.kind a.answer.now ≡ true
can c = sym c.writable.ensures ∙ c.if-not-writable.false

pub returns-then-not-writable : goal.returns-then-not-writable
unfolding after_write not_written
returns-then-not-writable c =
    let a = c.args in
    sym (wrote-1 a.kind a.answer.now a.card.now (sym c.writable.ensures ∙ c.if-not-writable.true))

-- how many records there are
few : (c : At-After-records_of-total) → c.records_of-total.result < word_values
few c =
    let a = c.args in
    omega (arith, c.records_of-total.ensures, few-records a.kind a.answer.now (can c.before))

pub overflow_cast-total : goal.overflow_cast-total
overflow_cast-total c = omega (arith, few c.before)

pub overflow_mul-bytes : goal.overflow_mul-bytes
overflow_mul-bytes c = omega (arith, c.blocks_for-bytes.ensures.1, few c.before.before)

-- and the bytes of their blocks
bytes-are : (c : At-After-blocks_for-bytes) → let a = c.args in block_bytes * c.blocks_for-bytes.result ≡ card_bytes a.kind (records_of a.kind a.answer.now)
unfolding card_bytes
bytes-are c =
    let a = c.args in
    ap (λ (k : ℕ). block_bytes * k) (c.blocks_for-bytes.ensures.0 ∙ ap (blocks_for a.kind) c.records_of-total.ensures)

pub returns-then-card-bytes : goal.returns-then-card-bytes
unfolding after_write not_written
returns-then-card-bytes c =
    let a = c.args in
    sym (wrote-2 a.kind a.answer.now a.card.now (can c.before.before.before.before) (omega (arith, c.if-card-bytes.true, bytes-are c.before.before)))

pub write_blocks-requires : goal.write_blocks-requires
unfolding records_of
write_blocks-requires c =
    let a = c.args in
    (words-in a.kind (length a.answer.now) c.records_of-total.result (omega (arith, c.records_of-total.ensures)), subst (λ (k : ℕ). card_bytes a.kind k ≤ length a.card.now) (sym c.records_of-total.ensures) (omega (arith, c.if-card-bytes.false, bytes-are c.before.before.before)))

pub returns : goal.returns
unfolding after_write card_written card_of
returns c =
    let a = c.args in
    (λ z. record { number = 0; bytes = bytes-are c.before.before.before.before.before.before z; card = (c.write_blocks.ensures ∙ ap (λ (k : ℕ). blocks_of a.kind (blocks_for a.kind k) k a.answer.now ++ drop (card_bytes a.kind k) a.card.now) c.records_of-total.ensures) z })
    ∙ sym (wrote-0 a.kind a.answer.now a.card.now (can c.before.before.before.before.before.before.before.before) (omega (arith, c.if-card-bytes.false, bytes-are c.before.before.before.before.before.before)))

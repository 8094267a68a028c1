-- `blocks::read_block` meets its contract. Assumes nothing.
use native.Mathlib.Omega.{arith}
use Prim.Native.Nat.{ℕ, ◌+◌, ◌*◌}
use mathlib.Core.Path.{◌≡◌, sym, ◌∙◌, ap}
use mathlib.Core.List.{List}
use lib.Seq.{sets}
use Rattle.blocks.specs.Format.{block_words, header_words, room_words, used_words}
use Rattle.lists.specs.Parts.{joined}
use Rattle.words.specs.Words.{words_at}
use Rattle.blocks.specs.Judged.{lost_words}
use Rattle.blocks.proofs.Counts.{words_are, used-words-le, words-fit}
use Rattle.blocks.proofs.Judged.{good-there, read-good, read-lost}
use Rattle.blocks.proofs.read_block.Goals as goal
use Rattle.blocks.proofs.read_block.Tie as tie
use Rattle.blocks.proofs.read_block.Lts as lts
use Rattle.blocks.proofs.read_block.Reads as reads

abbrev At-After-record_words-wide : Type 0
At-After-record_words-wide = lts.After-record_words tie.the-claims reads.Pre reads.Post

-- the words of the block's records
product : (c : At-After-record_words-wide) → let a = c.args in c.record_words-wide.result * c.records_used-count.result ≡ used_words a.kind a.total a.b
product c =
    let a = c.args in
    (λ z. c.record_words-wide.ensures.0 z * c.records_used-count.ensures.0 z) ∙ sym (words_are a.kind a.total a.b)

pub overflow_mul-wide : goal.overflow_mul-wide
overflow_mul-wide c =
    let a = c.args in
    omega (arith, product c.before.before.before.before, used-words-le a.kind a.total a.b)

pub get_words-requires : goal.get_words-requires
get_words-requires c =
    let a = c.args in
    let there = good-there a.kind a.total a.b a.card.now (sym c.good.ensures ∙ c.if-good.true) in
    (omega (arith, there, product c.before.before.before.before, used-words-le a.kind a.total a.b), omega (arith, product c.before.before.before.before, words-fit a.kind a.total a.b c.requires.0, c.requires.1))

pub lose-requires : goal.lose-requires
lose-requires c =
    let a = c.args in
    (omega (arith, product c.before.before.before.before, words-fit a.kind a.total a.b c.requires.0, c.requires.1), c.record_words-wide.ensures.1)

-- words that were read, by their place
got-by : (l u : List ℕ) (p : ℕ) (bs : List ℕ) (k m n : ℕ) → u ≡ sets l p (words_at bs k n) → k ≡ m → u ≡ sets l p (words_at bs m n)
got-by l u p bs k m n e h = e ∙ ap (λ (j : ℕ). sets l p (words_at bs j n)) h

pub returns-then-good : goal.returns-then-good
returns-then-good c =
    let a = c.args in
    got-by _ _ _ _ _ (block_words * a.b + header_words) _ c.get_words.ensures (omega arith)
    ∙ ap (sets a.answer.now (room_words * a.b)) (ap (words_at a.card.now (block_words * a.b + header_words)) (product c.before.before.before.before.before.before.before) ∙ sym (read-good a.kind a.total a.b a.card.now (sym c.good.ensures ∙ c.if-good.true)))

pub returns-else-good : goal.returns-else-good
returns-else-good c =
    let a = c.args in
    c.lose.ensures
    ∙ ap (sets a.answer.now (room_words * a.b))
    ((λ z. joined (c.records_used-count.ensures.0 z) (λ _. lost_words (c.record_words-wide.ensures.0 z))) ∙ sym (read-lost a.kind a.total a.b a.card.now (sym c.good.ensures ∙ c.if-good.false)))

-- `cards::try_read` meets its contract. Assumes nothing.
use native.Mathlib.Omega.{arith}
use Prim.Native.Nat.{◌*◌, ◌≤◌}
use mathlib.Core.Path.{sym, ◌∙◌}
use lib.ListN.{length}
use Rattle.blocks.specs.Format.{record_words}
use Rattle.blocks.proofs.Counts.{words-in, words-out}
use Rattle.cards.specs.Writer.{records_of}
use Rattle.cards.specs.Contract.{after_read}
use Rattle.cards.proofs.Outcomes.{got-0, got-2}
use Rattle.cards.proofs.try_read.Goals as goal
use Rattle.cards.proofs.try_read.Tie as tie
use Rattle.cards.proofs.try_read.Lts as lts
use Rattle.cards.proofs.try_read.Reads as reads

abbrev At-Else-records_of-total : Type 0
At-Else-records_of-total = lts.Else1 tie.the-claims reads.Pre reads.Post

pub returns-then-records_of-total : goal.returns-then-records_of-total
unfolding after_read records_of
returns-then-records_of-total c =
    let a = c.args in
    sym (got-2 a.kind a.total a.card.now a.answer.now (words-out a.kind (length a.answer.now) a.total (omega (arith, c.if-records_of-total.true, c.records_of.ensures))))

-- the records have room
room : (c : At-Else-records_of-total) → let a = c.args in record_words a.kind * a.total ≤ length a.answer.now
unfolding records_of
room c =
    let a = c.args in
    words-in a.kind (length a.answer.now) a.total (omega (arith, c.if-records_of-total.false, c.records_of.ensures))

pub read_blocks-requires : goal.read_blocks-requires
read_blocks-requires c = room c.before.before

pub returns : goal.returns
unfolding after_read
returns c =
    let a = c.args in
    (λ z. record { number = 0; past = c.bytes_past.ensures z; answer = c.read_blocks.ensures z }) ∙ sym (got-0 a.kind a.total a.card.now a.answer.now (room c.before.before.before.before.before.before))

-- `cards::writable` meets its contract. Assumes nothing.
use Prim.Native.Nat.{ℕ, ◌*◌, ◌%◌}
use native.Mathlib.Omega.{arith}
use mathlib.Core.Path.{◌≡◌, sym, ◌∙◌, ap}
use lib.Dec.{leb}
use lib.ListN.{length, get_or}
use borrow.Author.Tests.{le-ltb}
use Rattle.lists.specs.Parts.{every_below}
use Rattle.blocks.specs.Format.{record_words}
use Rattle.blocks.proofs.Counts.{words-in}
use Rattle.cards.specs.Writer.{records_of}
use Rattle.cards.proofs.Outcomes.{cannot-part, cannot-many, marked-decides}
use Rattle.cards.proofs.writable.Goals as goal
use Rattle.cards.proofs.writable.Tie as tie
use Rattle.cards.proofs.writable.Lts as lts
use Rattle.cards.proofs.writable.Reads as reads

abbrev At-After-record_words-wide : Type 0
At-After-record_words-wide = lts.After-record_words tie.the-claims reads.Pre reads.Post

abbrev At-Else-answer-wide-ne0 : Type 0
At-Else-answer-wide-ne0 = lts.Else1 tie.the-claims reads.Pre reads.Post

-- what is left of a record, by the width that was read
left : (c : At-After-record_words-wide) → let a = c.args in length a.answer.now % c.record_words-wide.result ≡ length a.answer.now % record_words a.kind
left c = ap (λ (w : ℕ). length c.args.answer.now % w) c.record_words-wide.ensures.0

pub returns-then-answer-wide-ne0 : goal.returns-then-answer-wide-ne0
returns-then-answer-wide-ne0 c =
    let a = c.args in
    cannot-part a.kind a.answer.now (λ e. omega (arith, c.if-answer-wide-ne0.true, left c.before.before, e))

-- past the first test: whole records
whole : (c : At-Else-answer-wide-ne0) → let a = c.args in length a.answer.now % record_words a.kind ≡ 0
whole c = omega (arith, c.if-answer-wide-ne0.false, left c.before)

pub all_marked-requires : goal.all_marked-requires
unfolding records_of
all_marked-requires c =
    let a = c.args in
    let inside = words-in a.kind (length a.answer.now) (records_of a.kind a.answer.now) (omega arith) in
    let product : c.record_words-wide.result * c.records_of-count.result ≡ record_words a.kind * records_of a.kind a.answer.now = λ z. c.record_words-wide.ensures.0 z * c.records_of-count.ensures z in
    (omega (arith, product, inside), c.record_words-wide.ensures.1)

pub returns-then-count-lt4294967296 : goal.returns-then-count-lt4294967296
returns-then-count-lt4294967296 c =
    let a = c.args in
    c.all_marked.ensures
    ∙ ((λ z. every_below (c.records_of-count.ensures z) (λ r. leb (get_or a.answer.now (c.record_words-wide.ensures.0 z * r) 0) 1))
    ∙ sym (marked-decides a.kind a.answer.now (whole c.before.before.before.before) (omega (arith, c.if-count-lt4294967296.true, c.records_of-count.ensures))))

pub returns-else-count-lt4294967296 : goal.returns-else-count-lt4294967296
returns-else-count-lt4294967296 c =
    let a = c.args in
    le-ltb _ _ (omega (arith, c.if-count-lt4294967296.false)) ∙ cannot-many a.kind a.answer.now (whole c.before.before.before) (omega (arith, c.if-count-lt4294967296.false, c.records_of-count.ensures))

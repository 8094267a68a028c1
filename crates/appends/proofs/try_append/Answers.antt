-- `appends::try_append` meets its contract. Assumes nothing.
use native.Mathlib.Omega.{arith}
use Prim.Native.Nat.{ℕ, ◌*◌, ◌/◌, ◌≤◌, ◌<◌}
use mathlib.Core.Path.{◌≡◌, sym, ◌∙◌, ap}
use mathlib.Core.Bool.{Bool, true, false}
use lib.ListN.{length}
use Rattle.words.specs.Words.{word_values}
use Rattle.blocks.specs.declared.Kind.{Kind}
use Rattle.blocks.specs.Format.{block_bytes, blocks_for}
use Rattle.blocks.proofs.Counts.{blocks-le}
use Rattle.cards.specs.Writer.{records_of, writable, card_bytes}
use Rattle.cards.proofs.Outcomes.{few-records}
use Rattle.appends.specs.Next.{overfull, first_torn, place_of}
use Rattle.appends.specs.Append.{are_next, not_added, now_added}
use Rattle.appends.specs.Contract.{after_append}
use Rattle.appends.proofs.Counts.{torn-among}
use Rattle.appends.proofs.Outcomes.{added-1, added-2, added-3, added-by}
use Rattle.appends.proofs.try_append.Goals as goal
use Rattle.appends.proofs.try_append.Tie as tie
use Rattle.appends.proofs.try_append.Lts as lts
use Rattle.appends.proofs.try_append.Reads as reads

abbrev At-Else-not-writable : Type 0
At-Else-not-writable = lts.Else1 tie.the-claims reads.Pre reads.Post

abbrev At-After-records_of-count : Type 0
At-After-records_of-count = lts.After-records_of tie.the-claims reads.Pre reads.Post

abbrev At-After-blocks_for-made : Type 0
At-After-blocks_for-made = lts.After-blocks_for tie.the-claims reads.Pre reads.Post

abbrev At-Else-lent-made : Type 0
At-Else-lent-made = lts.Else2 tie.the-claims reads.Pre reads.Post

abbrev At-Else-overfull : Type 0
At-Else-overfull = lts.Else3 tie.the-claims reads.Pre reads.Post

abbrev At-After-are_next : Type 0
At-After-are_next = lts.After-are_next tie.the-claims reads.Pre reads.Post

-- what is known past each test
can : (c : At-Else-not-writable) → let a = c.args in writable a.kind a.records.now ≡ true
can c = sym c.writable.ensures ∙ c.if-not-writable.false

few : (c : At-After-records_of-count) → c.records_of-count.result < word_values
few c =
    let a = c.args in
    omega (arith, c.records_of-count.ensures, few-records a.kind a.records.now (can c.before))

made-is : (c : At-After-blocks_for-made) → let a = c.args in c.blocks_for-made.result ≡ blocks_for a.kind (records_of a.kind a.records.now)
made-is c =
    let a = c.args in
    c.blocks_for-made.ensures.0 ∙ ap (blocks_for a.kind) c.records_of-count.ensures

room : (c : At-Else-lent-made) → let a = c.args in card_bytes a.kind (records_of a.kind a.records.now) ≤ length a.lent.now
unfolding card_bytes
room c = omega (arith, c.if-lent-made.false, made-is c.before)

within : (c : At-Else-overfull) → let a = c.args in overfull a.kind a.total a.long ≡ false
within c = sym c.overfull.ensures ∙ c.if-overfull.false

next-by : (kind : Kind) (n m b k j : ℕ) (r : Bool) → r ≡ are_next kind n b k → n ≡ m → k ≡ j → r ≡ are_next kind m b j
next-by kind n m b k j r e g h = e ∙ (λ z. are_next kind (g z) b (h z))

told : (c : At-After-are_next) → let a = c.args in c.are_next.result ≡ are_next a.kind a.total (first_torn a.long) (records_of a.kind a.records.now)
unfolding first_torn
told c =
    let a = c.args in
    next-by a.kind _ a.total (a.long / block_bytes) _ (records_of a.kind a.records.now) _ c.are_next.ensures (omega arith) c.records_of-count.ensures

pub returns-then-not-writable : goal.returns-then-not-writable
unfolding after_append not_added
returns-then-not-writable c =
    let a = c.args in
    sym (added-1 a.kind a.total a.long a.records.now a.lent.now (sym c.writable.ensures ∙ c.if-not-writable.true))

pub overflow_cast-count : goal.overflow_cast-count
overflow_cast-count c = omega (arith, few c.before)

pub overflow_mul-made : goal.overflow_mul-made
overflow_mul-made c = omega (arith, c.blocks_for-made.ensures.1, few c.before.before)

pub returns-then-lent-made : goal.returns-then-lent-made
unfolding after_append not_added card_bytes
returns-then-lent-made c =
    let a = c.args in
    sym (added-2 a.kind a.total a.long a.records.now a.lent.now (can c.before.before.before.before) (omega (arith, c.if-lent-made.true, made-is c.before.before)))

pub returns-then-overfull : goal.returns-then-overfull
unfolding after_append not_added
returns-then-overfull c =
    let a = c.args in
    sym (added-3 a.kind a.total a.long a.records.now a.lent.now (can c.before.before.before.before.before.before) (room c.before.before.before) (sym c.overfull.ensures ∙ c.if-overfull.true))

-- the torn block's number is small
first_fits : (c : At-Else-overfull) → let a = c.args in a.long / block_bytes ≤ word_values
unfolding first_torn
first_fits c =
    let a = c.args in
    omega (arith, torn-among a.kind a.total a.long (within c), blocks-le a.kind a.total)

pub are_next-requires : goal.are_next-requires
are_next-requires c = first_fits c.before

pub returns-then-not-are_next : goal.returns-then-not-are_next
unfolding after_append not_added card_bytes first_torn
returns-then-not-are_next c =
    let a = c.args in
    let made = c.blocks_for-made.ensures.0 ∙ ap (blocks_for a.kind) c.records_of-count.ensures in
    let told = next-by a.kind _ a.total (a.long / block_bytes) _ (records_of a.kind a.records.now) _ c.are_next.ensures (omega arith) c.records_of-count.ensures in
    sym (added-by a.kind a.total a.long a.records.now a.lent.now (sym c.writable.ensures ∙ c.if-not-writable.false) (omega (arith, c.if-lent-made.false, made)) (sym c.overfull.ensures ∙ c.if-overfull.false) false (sym told ∙ c.if-not-are_next.true))

pub put_blocks-requires : goal.put_blocks-requires
unfolding first_torn
put_blocks-requires c =
    let a = c.args in
    (omega (arith, made-is c.before.before.before.before.before.before.before), sym (told c.before.before.before) ∙ c.if-not-are_next.false, few-records a.kind a.records.now (can c.before.before.before.before.before.before.before.before.before), first_fits c.before.before.before.before, room c.before.before.before.before.before.before)

pub returns : goal.returns
unfolding after_append now_added first_torn place_of
returns c =
    let a = c.args in
    (λ z. record { number = 0; blocks = made-is c.before.before.before.before.before.before.before.before.before.before z; at = block_bytes * (a.long / block_bytes); lent = c.put_blocks.ensures z })
    ∙ sym (added-by a.kind a.total a.long a.records.now a.lent.now (can c.before.before.before.before.before.before.before.before.before.before.before.before) (room c.before.before.before.before.before.before.before.before.before) (within c.before.before.before.before.before.before.before) true (sym (told c.before.before.before.before.before.before) ∙ c.if-not-are_next.false))

pub overflow_cast-result : goal.overflow_cast-result
overflow_cast-result c = omega (arith, c.blocks_for-made.ensures.1, few c.before.before.before.before.before.before.before.before.before.before.before)

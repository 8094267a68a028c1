-- `packed::try_unpack` meets its contract. Assumes nothing.
use native.Mathlib.Omega.{arith}
use mathlib.Core.Path.{sym, ◌∙◌}
use Rattle.packed.specs.Reader.{sevens_in, first_refused, whole_read, not_read}
use Rattle.packed.specs.Contract.{after_unpack}
use Rattle.packed.proofs.Outcomes.{read-broken, read_short, read_refused, read_done}
use Prim.Native.Nat.{ℕ, ◌/◌}
use mathlib.Core.Bool.{Bool}
use mathlib.Core.List.{List}
use lib.ListN.{length}
use Rattle.packed.specs.Packer.{packed_words}
use Rattle.packed.specs.Reader.{is_packed, seven_at}
use Rattle.packed.proofs.Runs.{found-some, found-none}
use Rattle.packed.proofs.try_unpack.Goals as goal

pub returns-then-packed-ne0 : goal.returns-then-packed-ne0
unfolding after_unpack not_read
returns-then-packed-ne0 c =
    let a = c.args in
    read-broken a.packed.now a.answer.now c.if-packed-ne0.true

pub returns-then-answer-count : goal.returns-then-answer-count
unfolding after_unpack not_read sevens_in
returns-then-answer-count c =
    let a = c.args in
    read_short a.packed.now a.answer.now c.if-packed-ne0.false (omega arith)

-- whether the packer can write slot s
abbrev passes : List ℕ → ℕ → Bool
passes l s = is_packed (seven_at l s)

pub returns-in-Some : goal.returns-in-Some
unfolding after_unpack not_read sevens_in first_refused
returns-in-Some c =
    let a = c.args in
    let f = found-some (length a.packed.now / packed_words) (passes a.packed.now) c.in-Some.place (sym c.in-Some.is ∙ c.first_refused.ensures) in
    (λ i. record { number = 3; place = f.0 i; answer = a.answer.now }) ∙ read_refused a.packed.now a.answer.now c.if-packed-ne0.false (omega arith) f.1

pub returns : goal.returns
unfolding after_unpack whole_read sevens_in first_refused
returns c =
    let a = c.args in
    (λ i. record { number = 0; place = 0; answer = c.read_slots.ensures i })
    ∙ read_done a.packed.now a.answer.now c.if-packed-ne0.false (omega arith) (found-none (length a.packed.now / packed_words) (passes a.packed.now) (sym c.in_default.is ∙ c.first_refused.ensures))

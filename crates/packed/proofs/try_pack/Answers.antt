-- `packed::try_pack` meets its contract. Assumes nothing.
use Prim.Native.Nat.{◌*◌}
use native.Mathlib.Omega.{arith}
use mathlib.Core.Path.{◌∙◌}
use Rattle.packed.specs.Packer.{packed_words, slots_in, all_packed, not_packed}
use Rattle.packed.specs.Contract.{after_pack}
use Rattle.packed.proofs.Outcomes.{pack-broken, pack-short, pack-done}
use Rattle.packed.proofs.try_pack.Goals as goal

pub returns-then-answer-ne0 : goal.returns-then-answer-ne0
unfolding after_pack not_packed
returns-then-answer-ne0 c =
    let a = c.args in
    pack-broken a.answer.now a.packed.now (λ e. omega (arith, e, c.if-answer-ne0.true))

pub returns-then-packed-count : goal.returns-then-packed-count
unfolding after_pack not_packed slots_in
returns-then-packed-count c =
    let a = c.args in
    pack-short a.answer.now a.packed.now (omega (arith, c.if-answer-ne0.false)) (omega (arith, c.if-packed-count.true))

pub returns : goal.returns
unfolding after_pack all_packed slots_in
returns c =
    let a = c.args in
    (λ i. record { number = 0; count = packed_words * slots_in a.answer.now; packed = c.pack_slots.ensures i }) ∙ pack-done a.answer.now a.packed.now (omega (arith, c.if-answer-ne0.false)) (omega (arith, c.if-packed-count.false))

-- `reasons::fill` meets its contract. Assumes nothing.
use native.Mathlib.Omega.{arith}
use Prim.Native.Nat.{ℕ, ◌*◌}
use mathlib.Core.Path.{◌≡◌, sym, ap, ◌∙◌}
use mathlib.Core.List.{[], ◌∷◌}
use lib.ListN.{length}
use lib.Seq.{sets}
use Rattle.bits.proofs.Back.{word_number}
use Rattle.tangent.specs.Slot.{slot_words, flag, ten_words, present, words}
use Rattle.tangent.proofs.Slots.{words-length}
use Rattle.packed.proofs.Runs.{run_none, run_more, run-all}
use Rattle.reasons.specs.Trial.{tried_reading, tried_words}
use Rattle.reasons.proofs.fill.Goals as goal
use Rattle.reasons.proofs.fill.Invariants.{stored}

tried-words : 1 ∷ 0 ∷ 0 ∷ 0 ∷ 0 ∷ 0 ∷ 0 ∷ 0 ∷ 0 ∷ 0 ∷ 1 ∷ 0 ∷ [] ≡ tried_words
unfolding words present ten_words flag
tried-words = let e = word_number 0 (omega arith) (omega arith) in sym (λ z. 1 ∷ e z ∷ e z ∷ e z ∷ e z ∷ e z ∷ e z ∷ e z ∷ e z ∷ 0 ∷ 1 ∷ 0 ∷ [])

each : (i : ℕ) → length (stored i) ≡ slot_words
each i = words-length tried_reading

pub loop-s-init : goal.loop-s-init
loop-s-init c = let a = c.args in run_none slot_words a.count stored each a.answer.now

pub put-requires : goal.put-requires
put-requires c = let l = c.loop-s in omega (arith, l.invariant.long)

pub loop-s-preserved : goal.loop-s-preserved
loop-s-preserved c =
    let l = c.loop-s in
    let a = c.args in
    run_more slot_words a.count stored each a.answer.now l.answer _ l.s (omega arith) l.invariant (c.put.ensures ∙ ap (sets l.answer (slot_words * l.s)) tried-words) c.put.auto.answer

pub shape_of-answer : goal.shape_of-answer
shape_of-answer c = c.loop-s.invariant.long

pub returns : goal.returns
returns c =
    let l = c.loop-s in
    let a = c.args in
    run-all slot_words a.count stored each a.answer.now l.answer l.s (omega arith) (omega arith) l.invariant

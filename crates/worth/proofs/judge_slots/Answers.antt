-- `worth::judge_slots` meets its contract. Assumes nothing.
use native.Mathlib.Omega.{arith}
use Prim.Native.Nat.{ℕ}
use mathlib.Core.Path.{◌∙◌, ap}
use mathlib.Core.List.{List}
use Rattle.tangent.specs.Slot.{slot_words}
use Rattle.packed.specs.Packer.{slot_at}
use Rattle.packed.proofs.Runs.{cut-is, cut-long}
use Rattle.worth.specs.Worth.{worth}
use Rattle.worth.specs.Contract.{verdicts_of}
use Rattle.worth.proofs.Outcomes.{byte-is}
use Rattle.worth.proofs.Filling.{filled_none, filled_more, filled-all}
use Rattle.worth.proofs.judge_slots.Goals as goal

-- what is stored for slot s
abbrev stored : List ℕ → ℕ → ℕ
stored l s = worth (slot_at l s)

pub loop-s-init : goal.loop-s-init
loop-s-init c = let a = c.args in filled_none a.count (stored a.answer.now) a.verdicts.now

pub slot_worth-requires : goal.slot_worth-requires
slot_worth-requires c =
    let l = c.loop-s in
    let a = c.args in
    cut-long slot_words l.s a.answer.now (omega arith)

pub bounds-verdicts-s : goal.bounds-verdicts-s
bounds-verdicts-s c = let l = c.loop-s in omega (arith, l.invariant.long)

pub loop-s-preserved : goal.loop-s-preserved
unfolding slot_at
loop-s-preserved c =
    let l = c.loop-s in
    let a = c.args in
    filled_more a.count (stored a.answer.now) a.verdicts.now l.verdicts l.s _ (omega arith)
    (byte-is _ ∙ (c.slot_worth.ensures ∙ ap worth (cut-is slot_words l.s a.answer.now))) l.invariant

pub returns : goal.returns
unfolding verdicts_of
returns c =
    let l = c.loop-s in
    let a = c.args in
    filled-all a.count (stored a.answer.now) a.verdicts.now l.verdicts l.s (omega arith) (omega arith) l.invariant

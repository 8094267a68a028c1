-- `packed::read_slots` meets its contract. Assumes nothing.
use native.Mathlib.Omega.{arith}
use Prim.Native.Nat.{ℕ}
use mathlib.Core.Path.{◌∙◌, ap}
use mathlib.Core.List.{List}
use Rattle.packed.specs.Packer.{packed_words}
use Rattle.packed.specs.Reader.{read_words, read_seven, seven_at, read_slots}
use Rattle.packed.proofs.Runs.{length-read, run_none, stored_more, run-all, cut-is, cut-long}
use Rattle.packed.proofs.read_slots.Goals as goal

-- what is stored for slot s
abbrev stored : List ℕ → ℕ → List ℕ
stored l s = read_seven (seven_at l s)

pub loop-s-init : goal.loop-s-init
loop-s-init c = let a = c.args in run_none read_words a.count (stored a.packed.now) (λ i. length-read (seven_at a.packed.now i)) a.answer.now

pub read_seven-requires : goal.read_seven-requires
read_seven-requires c = cut-long packed_words c.loop-s.s c.args.packed.now (omega arith)

pub loop-s-preserved : goal.loop-s-preserved
unfolding seven_at
loop-s-preserved c =
    let l = c.loop-s in
    let a = c.args in
    stored_more read_words a.count (stored a.packed.now) (λ i. length-read (seven_at a.packed.now i)) a.answer.now l.answer _ _ l.s (omega arith) l.invariant c.put_eight.ensures (c.read_seven.ensures ∙ ap read_seven (cut-is packed_words l.s a.packed.now))

pub returns : goal.returns
unfolding read_slots
returns c =
    let l = c.loop-s in
    let a = c.args in
    run-all read_words a.count (stored a.packed.now) (λ i. length-read (seven_at a.packed.now i)) a.answer.now l.answer l.s (omega arith) (omega arith) l.invariant

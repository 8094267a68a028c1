-- `worth::good_among` meets its contract. Assumes nothing.
use native.Mathlib.Omega.{arith}
use Prim.Native.Nat.{ℕ}
use mathlib.Core.Bool.{Bool}
use mathlib.Core.List.{List}
use lib.ListN.{get_or}
use lib.Dec.{eqb}
use Rattle.worth.specs.Worth.{good_slot}
use Rattle.worth.proofs.Counting.{tally-none, tally-more, tally-all}
use Rattle.worth.proofs.good_among.Goals as goal

-- the test of slot s
abbrev passes : List ℕ → ℕ → Bool
passes v s = eqb (get_or v s 0) good_slot

pub loop-s-init : goal.loop-s-init
loop-s-init c = let a = c.args in tally-none a.count (passes a.verdicts.now)

pub overflow_add-good : goal.overflow_add-good
overflow_add-good c = let l = c.loop-s in omega (arith, l.invariant.few, c.one_if_good-good.ensures.1)

pub loop-s-preserved : goal.loop-s-preserved
loop-s-preserved c =
    let l = c.loop-s in
    let a = c.args in
    tally-more a.count (passes a.verdicts.now) l.good _ l.s (omega arith) (omega (arith, c.one_if_good-good.ensures.0)) l.invariant

pub returns : goal.returns
returns c =
    let l = c.loop-s in
    let a = c.args in
    tally-all a.count (passes a.verdicts.now) l.good l.s (omega arith) l.invariant

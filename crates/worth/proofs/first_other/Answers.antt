-- `worth::first_other` meets its contract. Assumes nothing.
use native.Mathlib.Omega.{arith}
use Prim.Native.Nat.{ℕ, ◌<◌}
use native.Mathlib.Nat.{le_antisymm}
use mathlib.Core.Path.{◌≡◌, sym, ◌∙◌, ap}
use mathlib.Core.Bool.{Bool, false}
use mathlib.Core.List.{List}
use lib.ListN.{get_or}
use lib.Dec.{eqb}
use borrow.Author.Tests.{eq-eqb, ne_eqb}
use Rattle.packed.specs.Reader.{first_failing}
use Rattle.packed.proofs.Runs.{failing-none, failing-more, failing-here}
use Rattle.worth.specs.Worth.{good_slot}
use Rattle.worth.proofs.first_other.Goals as goal

-- the test of slot s
abbrev passes : List ℕ → ℕ → Bool
passes v s = eqb (get_or v s 0) good_slot

-- what is found, by its number
found : (v : List ℕ) (n i r : ℕ) → i < n → first_failing i (passes v) ≡ i → passes v i ≡ false → r ≡ i → r ≡ first_failing n (passes v)
found v n i r l e h k = k ∙ sym (failing-here n i (passes v) l e h)

pub loop-s-init : goal.loop-s-init
loop-s-init c = (omega arith, failing-none (passes c.args.verdicts.now))

pub returns-then-verdicts-s-ne-GOOD : goal.returns-then-verdicts-s-ne-GOOD
returns-then-verdicts-s-ne-GOOD c =
    let l = c.loop-s in
    let a = c.args in
    let x = get_or a.verdicts.now l.s 0 in
    found a.verdicts.now a.count l.s _ (omega arith) l.invariant.1 (ne_eqb x good_slot (λ k. omega (arith, k, c.if-verdicts-s-ne-GOOD.true))) (omega arith)

pub loop-s-preserved : goal.loop-s-preserved
loop-s-preserved c =
    let l = c.loop-s in
    let a = c.args in
    let x = get_or a.verdicts.now l.s 0 in
    (omega arith, failing-more l.s (passes a.verdicts.now) l.invariant.1 (eq-eqb x good_slot (omega (arith, c.if-verdicts-s-ne-GOOD.false))))

pub returns : goal.returns
returns c =
    let l = c.loop-s in
    let a = c.args in
    let e = le_antisymm l.invariant.0 c.loop-s-test.false in
    sym (ap (λ n. first_failing n (passes a.verdicts.now)) (sym e) ∙ (l.invariant.1 ∙ e))

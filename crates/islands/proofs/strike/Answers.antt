-- Proof that `strike` meets its contract. Assumes nothing.
use native.Mathlib.Nat.{le_antisymm}
use native.Mathlib.Omega.{arith}
use mathlib.Core.Path.{subst}
use Rattle.islands.proofs.Weaving.{Striking, striking-none, striking-more, struck}
use Rattle.islands.proofs.strike.Goals as goal

pub loop-f-init : goal.loop-f-init
loop-f-init c = (omega arith, striking-none _ _)

pub bounds-labels-f : goal.bounds-labels-f
bounds-labels-f c = omega (arith, c.loop-f.invariant.1.beyond.size, c.loop-f-test.true, c.requires)

pub bounds-labels-f-in-loop-f : goal.bounds-labels-f-in-loop-f
bounds-labels-f-in-loop-f c = omega (arith, c.loop-f.invariant.1.beyond.size, c.loop-f-test.true, c.requires)

pub loop-f-preserved : goal.loop-f-preserved
loop-f-preserved c =
    (omega (arith, c.loop-f-test.true), striking-more _ _ _ _ _ c.requires c.loop-f-test.true c.given.ensures c.loop-f.invariant.1)

pub shape_of-labels : goal.shape_of-labels
shape_of-labels c = c.loop-f.invariant.1.beyond.size

pub returns : goal.returns
returns c =
    let l = c.loop-f in
    let a = c.args in
    struck _ _ _ (subst (λ n. Striking a.sizes.now a.labels.now n l.labels) (le_antisymm l.invariant.0 c.loop-f-test.false) l.invariant.1)

-- Proof that `settle` meets its contract. The invariant: the numbers below x are settled. Assumes nothing.
use native.Mathlib.Nat.{le_antisymm}
use native.Mathlib.Omega.{arith}
use mathlib.Core.Path.{subst}
use Rattle.unions.proofs.Stores.{Settling, settling-more, settled}
use Rattle.unions.proofs.settle.Goals as goal

pub loop-x-preserved : goal.loop-x-preserved
loop-x-preserved c =
    (omega (arith, c.loop-x-test.true), settling-more _ _ _ _ c.requires.0 c.requires.1 c.loop-x-test.true c.loop-x.invariant.1)

pub returns : goal.returns
returns c =
    let l = c.loop-x in
    settled _ _ _ (subst (λ n. Settling c.args.count c.args.parents.now n l.parents) (le_antisymm l.invariant.0 c.loop-x-test.false) l.invariant.1)

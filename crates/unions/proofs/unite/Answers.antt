-- Proof that `unite` meets its contract: both ends are found, and the higher gets the lower. Assumes nothing.
use native.Mathlib.Omega.{arith}
use Rattle.unions.proofs.Stores.{united-ends}
use Rattle.unions.proofs.unite.Goals as goal

pub returns : goal.returns
returns c =
    let r = c.args in
    united-ends _ _ _ _ r.a r.b c.root-x.result c.root-y.result _ _ c.requires.0 c.requires.1 c.requires.2 c.root-x.ensures c.root-y.ensures (omega (arith, c.max.ensures)) (omega (arith, c.min.ensures))

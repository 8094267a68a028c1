-- Proof that `weld` meets its contract. The invariant: the first r rows are welded. Assumes nothing.
use Prim.Native.Nat.{ℕ}
use native.Mathlib.Nat.{le_antisymm}
use native.Mathlib.Omega.{arith}
use mathlib.Core.Path.{subst}
use Rattle.view.specs.Frame.{Only}
use Rattle.view.proofs.Frame.{only_none, only-trans}
use Rattle.weld.specs.Welding.{GoingIn, weld_columns}
use Rattle.weld.proofs.Whole.{going-none, only-cleared, welded-all, vertices-are}
use Rattle.weld.proofs.weld.Goals as goal

pub loop-r-init : goal.loop-r-init
loop-r-init c = (going-none _ _ _ c.requires.1 c.clear.ensures _ _ _, only_none _ _ _, omega arith)

pub overflow_cast-r : goal.overflow_cast-r
overflow_cast-r c =
    omega (arith, c.requires.0, c.requires.2, c.loop-r-test.true)

pub turn-requires : goal.turn-requires
turn-requires c =
    let l = c.loop-r in
    (omega (arith, c.requires.1, (only-cleared _ _ _ c.requires.1 c.clear.ensures).size, l.invariant.1.size), omega (arith, c.requires.0, c.loop-r-test.true), c.requires.2, l.invariant.0)

pub loop-r-preserved : goal.loop-r-preserved
loop-r-preserved c =
    let l = c.loop-r in
    (c.turn.ensures.0, only-trans _ _ _ _ _ l.invariant.1 c.turn.ensures.1, omega (arith, c.loop-r-test.true))

pub shape_of-work : goal.shape_of-work
shape_of-work c = (only-trans _ _ _ _ _ (only-cleared _ _ _ c.requires.1 c.clear.ensures) c.loop-r.invariant.1).size

pub returns : goal.returns
returns c =
    let l = c.loop-r in
    let a = c.args in
    let all = welded-all a.rows a.n a.mesh.now.positions.now a.mesh.now.normals.now a.mesh.now.texture.now a.work.now l.work c.requires.0 (subst (λ (m : ℕ). GoingIn a.rows m a.mesh.now.positions.now a.mesh.now.normals.now a.mesh.now.texture.now l.work) (le_antisymm l.invariant.2 c.loop-r-test.false) l.invariant.0) (only-trans _ _ _ _ _ (only-cleared _ _ _ c.requires.1 c.clear.ensures) c.loop-r.invariant.1) in
    (all, vertices-are _ _ _ _ _ _ _ all c.requires.0)

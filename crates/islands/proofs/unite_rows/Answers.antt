-- Proof that `unite_rows` meets its contract. Assumes nothing.
use native.Mathlib.Nat.{le_antisymm}
use native.Mathlib.Omega.{arith}
use mathlib.Core.Path.{subst}
use Rattle.islands.specs.Rows.{Woven, face_row, vertex_row}
use Rattle.islands.proofs.Weaving.{woven-none, woven-more}
use Rattle.islands.proofs.unite_rows.Goals as goal

pub loop-r-init : goal.loop-r-init
loop-r-init c = (omega arith, woven-none _ _ _ _ c.requires.3)

pub unite_row-requires : goal.unite_row-requires
unite_row-requires c =
    let l = c.loop-r in
    let t = c.loop-r-test.true in
    let v = c.requires.4.low l.r t in
    (omega (arith, c.requires.0, t), c.requires.1, omega (arith, c.requires.2, l.invariant.1.beyond.size), l.invariant.1.down, v, c.requires.4.near l.r t, c.requires.4.near _ (omega (arith, v, t)))

pub loop-r-preserved : goal.loop-r-preserved
loop-r-preserved c =
    (omega (arith, c.loop-r-test.true), woven-more _ _ _ _ _ _ _ c.loop-r.invariant.1 c.unite_row.ensures)

pub shape_of-labels : goal.shape_of-labels
shape_of-labels c = c.loop-r.invariant.1.beyond.size

pub returns : goal.returns
returns c =
    let l = c.loop-r in
    let a = c.args in
    subst (λ n. Woven a.count (face_row a.rows a.work.now) (vertex_row a.rows a.work.now) a.labels.now l.labels n) (le_antisymm l.invariant.0 c.loop-r-test.false) l.invariant.1

-- `copies::copy_degenerate` meets its contract. The invariant: the triangles before number t have copied. Assumes nothing.
use native.Mathlib.Nat.{le_antisymm}
use native.Mathlib.Omega.{arith}
use mathlib.Core.Path.{refl, ◌∙◌}
use Rattle.copies.proofs.Words.{none-broken, one-broken}
use Rattle.copies.proofs.copy_degenerate.Goals as goal

pub loop-t-init : goal.loop-t-init
loop-t-init c = let a = c.args in (none-broken a.rows a.sound a.work.now a.answer.now, omega arith, c.requires.0, refl)

pub copy_triangle-requires : goal.copy_triangle-requires
copy_triangle-requires c =
    (omega (arith, c.requires.1, c.loop-t-test.true), omega (arith, c.requires.0, c.requires.1), c.requires.2)

pub loop-t-preserved : goal.loop-t-preserved
loop-t-preserved c =
    let l = c.loop-t in
    let a = c.args in
    (one-broken a.rows a.sound a.work.now l.t a.answer.now _ _ l.invariant.1 l.invariant.0 c.copy_triangle.ensures, omega (arith, l.invariant.1), omega (arith, c.loop-t-test.true), c.copy_triangle.auto.answer ∙ l.invariant.3)

pub shape_of-answer : goal.shape_of-answer
shape_of-answer c = c.loop-t.invariant.3

pub returns : goal.returns
returns c = rw (le_antisymm c.loop-t.invariant.2 c.loop-t-test.false) at c.loop-t.invariant.0

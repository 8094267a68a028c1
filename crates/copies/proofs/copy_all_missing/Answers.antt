-- `copies::copy_all_missing` meets its contract. The invariant: the quads of the triangles before number t have copied. Assumes nothing.
use native.Mathlib.Nat.{le_antisymm}
use native.Mathlib.Omega.{arith}
use mathlib.Core.Path.{refl, ap, ◌∙◌}
use Rattle.lists.proofs.Loops.{up_to-none, up_to-more}
use Rattle.copies.specs.Copies.{missing_copied, missings_copied}
use Rattle.copies.proofs.copy_all_missing.Goals as goal

pub loop-t-init : goal.loop-t-init
unfolding missings_copied
loop-t-init c = let a = c.args in (up_to-none (missing_copied a.rows a.positions.now a.work.now) a.answer.now, omega arith, refl)

pub copy_missing-requires : goal.copy_missing-requires
copy_missing-requires c =
    (omega (arith, c.requires.0, c.loop-t-test.true), c.requires.1)

pub loop-t-preserved : goal.loop-t-preserved
unfolding missings_copied
loop-t-preserved c =
    let l = c.loop-t in
    let a = c.args in
    let turn = missing_copied a.rows a.positions.now a.work.now in
    (c.copy_missing.ensures ∙ ap (turn l.t) l.invariant.0 ∙ up_to-more l.t turn a.answer.now, omega (arith, c.loop-t-test.true), c.copy_missing.auto.answer ∙ l.invariant.2)

pub shape_of-answer : goal.shape_of-answer
shape_of-answer c = c.loop-t.invariant.2

pub returns : goal.returns
returns c = rw (le_antisymm c.loop-t.invariant.1 c.loop-t-test.false) at c.loop-t.invariant.0

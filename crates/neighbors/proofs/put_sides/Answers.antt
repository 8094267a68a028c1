-- `neighbors::put_sides` meets its contract. Assumes nothing.
use native.Mathlib.Nat.{le_antisymm}
use native.Mathlib.Omega.{arith}
use mathlib.Core.Path.{refl, ap, ◌∙◌}
use Rattle.lists.proofs.Loops.{up_to-none, up_to-more}
use Rattle.neighbors.specs.Sides.{with_side}
use Rattle.neighbors.proofs.put_sides.Goals as goal

pub overflow_mul-r-end : goal.overflow_mul-r-end
overflow_mul-r-end c = omega (arith, c.requires.1, c.requires.3)

pub loop-r-init : goal.loop-r-init
loop-r-init c = (omega arith, up_to-none _ _, refl)

pub put_side-requires : goal.put_side-requires
put_side-requires c =
    let l = c.loop-r in
    (c.requires.0, c.loop-r-test.true, c.requires.1, omega (arith, c.requires.2, l.invariant.2), c.requires.3)

pub overflow_step-r : goal.overflow_step-r
overflow_step-r c =
    omega (arith, c.loop-r-test.true, c.requires.1, c.requires.3)

pub loop-r-smaller : goal.loop-r-smaller
loop-r-smaller c = omega (arith, c.loop-r-test.true)

pub loop-r-preserved : goal.loop-r-preserved
loop-r-preserved c =
    let l = c.loop-r in
    (omega (arith, c.loop-r-test.true), c.put_side.ensures ∙ ap (with_side _ _ l.r) l.invariant.1 ∙ up_to-more l.r _ _, c.put_side.auto.work ∙ l.invariant.2)

pub shape_of-work : goal.shape_of-work
shape_of-work c = c.loop-r.invariant.2

pub returns : goal.returns
returns c = let l = c.loop-r in rw (le_antisymm l.invariant.0 c.loop-r-test.false) at l.invariant.1

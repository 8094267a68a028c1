-- Proof that `sort_groups` meets its contract. Assumes nothing.
use native.Mathlib.Nat.{le_antisymm}
use native.Mathlib.Omega.{arith}
use mathlib.Core.Path.{refl, ◌∙◌}
use Rattle.members.specs.Members.{unsorted}
use Rattle.members.proofs.Laws.{more-sorting}
use Rattle.members.proofs.sort_groups.Goals as goal

pub loop-q-init : goal.loop-q-init
loop-q-init c = (omega arith, unsorted, refl)

pub sort_group-requires : goal.sort_group-requires
sort_group-requires c =
    let l = c.loop-q in
    (c.loop-q-test.true, c.requires.0, c.requires.1, omega (arith, c.requires.2, l.invariant.2))

pub loop-q-preserved : goal.loop-q-preserved
loop-q-preserved c =
    let l = c.loop-q in
    (omega (arith, c.loop-q-test.true), more-sorting _ _ _ _ _ _ _ l.invariant.1 c.sort_group.ensures, c.sort_group.auto.work ∙ l.invariant.2)

pub shape_of-work : goal.shape_of-work
shape_of-work c = c.loop-q.invariant.2

pub returns : goal.returns
returns c = rw (le_antisymm c.loop-q.invariant.0 c.loop-q-test.false) at c.loop-q.invariant.1

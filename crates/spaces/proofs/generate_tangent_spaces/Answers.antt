-- `spaces::generate_tangent_spaces` meets its contract. Assumes nothing.
use native.Mathlib.Nat.{le_antisymm}
use native.Mathlib.Omega.{arith}
use mathlib.Core.Path.{refl, ap, ◌∙◌}
use mathlib.Core.List.{[], ◌∷◌}
use Rattle.lists.specs.Loops.{up_to}
use Rattle.table.specs.Columns.{joined_column}
use Rattle.view.proofs.Frame.{only_none, only-trans}
use Rattle.subgroups.proofs.Laws.{ranged-kept}
use Rattle.spaces.specs.Spaces.{reach_all}
use Rattle.spaces.proofs.Kept.{reach_first, one_group}
use Rattle.spaces.proofs.generate_tangent_spaces.Goals as goal

pub loop-q-init : goal.loop-q-init
unfolding up_to
loop-q-init c = (refl, only_none (joined_column ∷ []) c.args.rows c.args.work.now, omega arith, refl, c.requires.2)

pub reach_at-requires : goal.reach_at-requires
reach_at-requires c =
    let l = c.loop-q in
    (c.loop-q-test.true, c.requires.0, c.requires.1, l.invariant.4, ranged-kept c.args.rows c.args.work.now _ l.invariant.1 _ c.requires.1 c.requires.3)

pub loop-q-preserved : goal.loop-q-preserved
loop-q-preserved c =
    let l = c.loop-q in
    let a = c.args in
    let e = c.reach_at.ensures in
    (one_group a.rows a.threshold a.s.groups a.s.members a.work.now _ a.answer.now _ _ l.q c.requires.0 c.requires.1 c.requires.3 l.invariant.1 l.invariant.0 e.0, only-trans (joined_column ∷ []) a.rows a.work.now _ _ l.invariant.1 e.1, omega (arith, c.loop-q-test.true), c.reach_at.auto.answer ∙ l.invariant.3, omega (arith, l.invariant.4, e.1.size))

pub returns : goal.returns
unfolding reach_all
returns c =
    let l = c.loop-q in
    let a = c.args in
    (l.invariant.0 ∙ ap (reach_first a.rows a.threshold a.s.groups a.s.members a.work.now a.answer.now) (le_antisymm l.invariant.2 c.loop-q-test.false), l.invariant.1)

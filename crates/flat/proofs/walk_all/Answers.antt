-- Proof that `walk_all` meets its contract. Assumes nothing.
use native.Mathlib.Nat.{le_antisymm}
use native.Mathlib.Omega.{arith}
use mathlib.Core.Path.{sym, ap, ◌∙◌, subst}
use Rattle.lists.proofs.Loops.{up_to-none, up_to-more}
use Rattle.view.proofs.Frame.{only_none, only-trans}
use Rattle.groups.specs.Walk.{turn, Ready}
use Rattle.groups.proofs.Steps.{ready-cleared}
use Rattle.flat.proofs.Blank.{unblank-ready}
use Rattle.flat.proofs.Turns.{only-after}
use Rattle.flat.proofs.walk_all.Goals as goal

pub loop-k-init : goal.loop-k-init
loop-k-init c =
    let ready = ready-cleared c.args.rows c.args.tris c.args.work.now c.requires.0 c.requires.1 c.requires.2 c.requires.3 in
    (omega arith, omega arith, subst (Ready c.args.rows c.args.tris 1 0) (sym c.clear.ensures) ready, up_to-none _ _, only_none _ _ _)

pub loop-k-preserved : goal.loop-k-preserved
loop-k-preserved c =
    let one = c.start_at-s in
    let loop = c.loop-k in
    (omega arith, one.ensures.turned.few, unblank-ready _ _ _ _ _ one.ensures.turned.ready, one.ensures.turned.is ∙ ap (turn _ _) loop.invariant.3 ∙ up_to-more _ _ _, only-trans _ _ _ _ _ loop.invariant.4 one.ensures.only)

pub shape_of-work : goal.shape_of-work
shape_of-work c = c.loop-k.invariant.4.size ∙ c.clear.auto.work

pub returns : goal.returns
returns c =
    let l = c.loop-k.invariant in
    record { is = rw (← c.clear.ensures) (rw (le_antisymm l.0 c.loop-k-test.false) at l.3); few = (omega (arith, l.0, l.1), omega (arith, l.2.room)); only = only-after _ _ _ _ c.clear.ensures l.4 }

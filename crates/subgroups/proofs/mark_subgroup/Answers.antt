-- `subgroups::mark_subgroup` meets its contract. Assumes nothing.
use Prim.Native.Nat.{◌+◌, ◌-◌, ◌<◌}
use native.Mathlib.Nat.{le_antisymm}
use native.Mathlib.Omega.{arith}
use mathlib.Core.Path.{◌≡◌, refl, sym, ap, ◌∙◌, subst}
use mathlib.Core.List.{[], ◌∷◌}
use Rattle.table.specs.Columns.{joined_column}
use Rattle.view.proofs.Frame.{only_none}
use Rattle.bits.proofs.Bools.{and_left, and_right}
use Rattle.subgroups.proofs.Laws.{marked-only, none-marked, marked-as, one-marked, order-kept}
use Rattle.subgroups.proofs.mark_subgroup.Goals as goal

pub loop-p-init : goal.loop-p-init
loop-p-init c =
    let a = c.args in
    let z : 0 ≡ a.from - a.from = omega arith in
    (marked-as a.rows a.threshold a.m a.from a.work.now c.requires.2 _ _ _ z (none-marked a.rows a.threshold a.m a.from a.work.now c.requires.2), λ e. refl, omega arith, c.requires.0, only_none (joined_column ∷ []) a.rows a.work.now)

pub mark-same-requires : goal.mark-same-requires
mark-same-requires c =
    let l = c.loop-p in
    let p = c.loop-p-test.true in
    let b : l.p < c.args.rows = omega (arith, p, c.requires.1) in
    (b, subst (λ x. x < c.args.rows) (sym (order-kept c.args.rows c.args.work.now _ l.invariant.4 l.p b)) (c.requires.3.order l.p p), omega (arith, c.requires.2, l.invariant.4.size))

pub loop-p-preserved : goal.loop-p-preserved
loop-p-preserved c =
    let l = c.loop-p in
    let a = c.args in
    let p = c.loop-p-test.true in
    let b : l.p < a.rows = omega (arith, p, c.requires.1) in
    let at : a.from + (l.p - a.from) ≡ l.p = omega (arith, l.invariant.2) in
    let e : (l.p - a.from) + 1 ≡ l.p + 1 - a.from = omega (arith, l.invariant.2) in
    let M = one-marked a.rows a.threshold a.m a.from a.work.now c.requires.2 (l.p - a.from) l.p _ at b (c.requires.3.order l.p p) l.invariant.0 in
    let N = c.mark-same.ensures.0 ∙ M in
    (marked-as a.rows a.threshold a.m a.from a.work.now c.requires.2 _ _ _ e N, λ q. c.mark-same.ensures.1 (and_right l.same _ q) ∙ l.invariant.1 (and_left _ _ q), omega (arith, l.invariant.2), omega (arith, p), marked-only a.rows a.threshold a.m a.from a.work.now c.requires.2 (l.p - a.from + 1) _ (omega (arith, at, b)) N)

pub shape_of-work : goal.shape_of-work
shape_of-work c = c.loop-p.invariant.4.size

pub returns : goal.returns
returns c =
    let l = c.loop-p in
    let a = c.args in
    (marked-as a.rows a.threshold a.m a.from a.work.now c.requires.2 _ _ _ (ap (λ q. q - a.from) (le_antisymm l.invariant.3 c.loop-p-test.false)) l.invariant.0, l.invariant.1)

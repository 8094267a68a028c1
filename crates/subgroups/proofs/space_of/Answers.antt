-- `subgroups::space_of` meets its contract. Assumes nothing.
use Prim.Native.Nat.{◌-◌}
use native.Mathlib.Omega.{arith}
use mathlib.Core.Path.{sym, ap, ◌∙◌}
use Rattle.subgroups.specs.Subgroups.{evaluated}
use Rattle.subgroups.proofs.Laws.{space-marked, ranged-kept}
use Rattle.subgroups.proofs.space_of.Goals as goal

pub returns-then-same : goal.returns-then-same
returns-then-same c =
    let a = c.args in
    let b = space-marked a.rows a.threshold a.r a.from a.to _ a.work.now _ c.requires.2 c.requires.0 c.requires.1 c.requires.3 c.peer_at-m.ensures c.mark_subgroup-same.ensures.0 in
    let e = c.requires.5 ∙ ap (evaluated a.rows a.from (a.to - a.from)) (sym (c.mark_subgroup-same.ensures.1 c.if-same.true)) in
    (e ∙ b.0, e, b.1)

pub evaluate_tangent_space-requires : goal.evaluate_tangent_space-requires
evaluate_tangent_space-requires c =
    let a = c.args in
    let b = space-marked a.rows a.threshold a.r a.from a.to _ a.work.now _ c.requires.2 c.requires.0 c.requires.1 c.requires.3 c.peer_at-m.ensures c.mark_subgroup-same.ensures.0 in
    (c.requires.0, c.requires.1, omega (arith, c.requires.2, b.1.size), ranged-kept a.rows a.work.now _ b.1 a.to c.requires.1 c.requires.3)

pub returns-else-same : goal.returns-else-same
returns-else-same c =
    let a = c.args in
    let b = space-marked a.rows a.threshold a.r a.from a.to _ a.work.now _ c.requires.2 c.requires.0 c.requires.1 c.requires.3 c.peer_at-m.ensures c.mark_subgroup-same.ensures.0 in
    (c.evaluate_tangent_space.ensures ∙ b.0, c.evaluate_tangent_space.ensures, b.1)

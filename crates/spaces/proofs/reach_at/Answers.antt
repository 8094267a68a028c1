-- `spaces::reach_at` meets its contract. Assumes nothing.
use native.Mathlib.Omega.{arith}
use mathlib.Core.List.{[], ◌∷◌}
use Rattle.table.specs.Columns.{joined_column}
use Rattle.view.proofs.Frame.{only_none}
use Rattle.spaces.proofs.Kept.{reach-none, ranged-less, group-same}
use Rattle.spaces.proofs.reach_at.Goals as goal

pub returns-else-from-to : goal.returns-else-from-to
returns-else-from-to c =
    let a = c.args in
    (group-same a.rows a.threshold _ _ _ _ a.work.now a.answer.now _ c.begin_at-from.ensures.0 c.begin_at-to.ensures.0 (reach-none a.rows a.threshold c.begin_at-from.result c.begin_at-to.result a.work.now a.answer.now (omega (arith, c.if-from-to.false))), only_none (joined_column ∷ []) a.rows a.work.now)

pub reach_group-requires : goal.reach_group-requires
reach_group-requires c =
    let b = c.begin_at-to.ensures.1 in
    (omega (arith, c.if-from-to.true), omega (arith, b, c.requires.2), c.requires.3, ranged-less c.args.rows _ _ c.args.work.now b c.requires.4)

pub returns-then-from-to : goal.returns-then-from-to
returns-then-from-to c =
    let a = c.args in
    (group-same a.rows a.threshold _ _ _ _ a.work.now a.answer.now _ c.begin_at-from.ensures.0 c.begin_at-to.ensures.0 c.reach_group.ensures.0, c.reach_group.ensures.1)

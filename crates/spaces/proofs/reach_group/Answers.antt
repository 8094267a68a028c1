-- `spaces::reach_group` meets its contract. Assumes nothing.
use mathlib.Core.Path.{◌∙◌}
use mathlib.Core.List.{[], ◌∷◌}
use Rattle.table.specs.Columns.{joined_column}
use Rattle.view.proofs.Frame.{only_none}
use Rattle.spaces.proofs.Kept.{whole-group}
use Rattle.spaces.proofs.reach_group.Goals as goal

pub returns-then-whole : goal.returns-then-whole
returns-then-whole c =
    let a = c.args in
    (c.reach_whole.ensures ∙ whole-group a.rows a.threshold a.from a.to a.work.now a.answer.now (c.whole-whole.ensures c.if-whole.true), only_none (joined_column ∷ []) a.rows a.work.now)

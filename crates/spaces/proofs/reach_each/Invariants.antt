-- `spaces::reach_each` meets its contract. Assumes nothing.
use Prim.Native.Nat.{◌+◌, ◌-◌, ◌*◌, ◌≤◌}
use mathlib.Core.Path.{◌≡◌}
use mathlib.Core.List.{[], ◌∷◌}
use lib.ListN.{length}
use Rattle.lists.specs.Loops.{up_to}
use Rattle.table.specs.Table.{cell}
use Rattle.table.specs.Columns.{columns, met_column, joined_column}
use Rattle.view.specs.Frame.{Only}
use Rattle.subgroups.specs.Subgroups.{evaluated}
use Rattle.spaces.specs.Spaces.{reach_row}
use Rattle.spaces.proofs.reach_each.Given as goal

abbrev pub invariant-loop-j : goal.invariant-loop-j
invariant-loop-j l = (l.answer ≡ up_to (l.j - l.from) (λ k. reach_row l.rows l.threshold l.from (l.to - l.from) l.initial.work (cell l.rows met_column (l.from + k) l.initial.work)) l.initial.answer) × (l.sum ≡ evaluated l.rows l.from (l.to - l.from) l.work) × Only (joined_column ∷ []) l.rows l.initial.work l.work × (l.from ≤ l.j) × (l.j ≤ l.to) × (length l.answer ≡ length l.initial.answer) × (columns * l.rows ≤ length l.work)

abbrev pub decreases-loop-j : goal.decreases-loop-j
decreases-loop-j l = l.to - l.j

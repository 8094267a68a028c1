-- `spaces::reach_whole` meets its contract. Assumes nothing.
use Prim.Native.Nat.{◌+◌, ◌-◌, ◌≤◌}
use mathlib.Core.Path.{◌≡◌}
use lib.ListN.{length}
use Rattle.lists.specs.Loops.{up_to}
use Rattle.table.specs.Table.{cell}
use Rattle.table.specs.Columns.{met_column}
use Rattle.spaces.specs.Spaces.{reach_with}
use Rattle.spaces.proofs.reach_whole.Given as goal

abbrev pub invariant-loop-j : goal.invariant-loop-j
invariant-loop-j l = (l.answer ≡ up_to (l.j - l.from) (λ k. reach_with l.rows l.work l.g (cell l.rows met_column (l.from + k) l.work)) l.initial.answer) × (l.from ≤ l.j) × (l.j ≤ l.to) × (length l.answer ≡ length l.initial.answer)

abbrev pub decreases-loop-j : goal.decreases-loop-j
decreases-loop-j l = l.to - l.j

-- Proof that `copy_members` meets its contract. Assumes nothing.
use Prim.Native.Nat.{◌-◌, ◌≤◌}
use mathlib.Core.Path.{◌≡◌}
use lib.ListN.{length, get_or}
use Rattle.table.specs.Table.{column, filled_to}
use Rattle.table.specs.Columns.{met_column, order_column}
use Rattle.members.proofs.copy_members.Given as goal

abbrev pub invariant-loop-j : goal.invariant-loop-j
invariant-loop-j l = (l.j ≤ l.count) × (l.work ≡ filled_to l.rows order_column (λ j. get_or (column l.rows met_column l.initial.work) j 0) l.initial.work l.j) × (length l.work ≡ length l.initial.work)

abbrev pub decreases-loop-j : goal.decreases-loop-j
decreases-loop-j l = l.count - l.j

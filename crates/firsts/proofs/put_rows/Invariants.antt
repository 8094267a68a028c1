-- Proof that `put_rows` meets its contract. Assumes nothing.
use Prim.Native.Nat.{◌-◌, ◌≤◌}
use mathlib.Core.Path.{◌≡◌}
use lib.ListN.{length}
use Rattle.table.specs.Table.{filled_to}
use Rattle.table.specs.Columns.{order_column}
use Rattle.firsts.proofs.put_rows.Given as goal

abbrev pub invariant-loop-r : goal.invariant-loop-r
invariant-loop-r l = (l.r ≤ l.n) × (l.work ≡ filled_to l.rows order_column (λ r. r) l.initial.work l.r) × (length l.work ≡ length l.initial.work)

abbrev pub decreases-loop-r : goal.decreases-loop-r
decreases-loop-r l = l.n - l.r

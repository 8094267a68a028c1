-- Proof that `put_words` meets its contract. Assumes nothing.
use Prim.Native.Nat.{◌-◌, ◌≤◌}
use mathlib.Core.Path.{◌≡◌}
use lib.ListN.{length, get_or}
use Rattle.table.specs.Table.{filled_to}
use Rattle.table.specs.Columns.{lower_column}
use Rattle.firsts.proofs.put_words.Given as goal

abbrev pub invariant-loop-r : goal.invariant-loop-r
invariant-loop-r l = (l.r ≤ l.n) × (l.work ≡ filled_to l.rows lower_column (λ r. get_or l.groups r 0) l.initial.work l.r) × (length l.work ≡ length l.initial.work)

abbrev pub decreases-loop-r : goal.decreases-loop-r
decreases-loop-r l = l.n - l.r

-- `exports::links_fit` meets its contract. Assumes nothing.
use Prim.Native.Nat.{ℕ, ◌*◌, ◌-◌, ◌≤◌, ◌<◌}
use Rattle.table.specs.Table.{cell}
use Rattle.table.specs.Columns.{link_column}
use Rattle.exports.proofs.links_fit.Given as goal

abbrev pub invariant-loop-r : goal.invariant-loop-r
invariant-loop-r l = (l.r ≤ 3 * l.tris) × ((k : ℕ) → k < l.r → cell l.rows link_column k l.work ≤ 3 * l.tris)

abbrev pub decreases-loop-r : goal.decreases-loop-r
decreases-loop-r l = 3 * l.tris - l.r

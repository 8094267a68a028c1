-- `root::whole_root` meets its contract. The invariant: the root is at least lo and below hi. The measure is what lies between them.
-- Assumes nothing.
use Rattle.std.proofs.Common.{◌-◌, ◌*◌, ◌<◌, ◌≤◌}
use Rattle.root.proofs.whole_root.Given as goal

abbrev pub invariant-loop-hi : goal.invariant-loop-hi
invariant-loop-hi l = (l.lo < l.hi) × (l.hi ≤ 16777216) × (l.lo * l.lo ≤ l.n) × (l.n < l.hi * l.hi)

abbrev pub decreases-loop-hi : goal.decreases-loop-hi
decreases-loop-hi l = l.hi - l.lo

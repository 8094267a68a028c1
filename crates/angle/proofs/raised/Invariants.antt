-- `angle::raised` meets its contract. The invariant: the entry at k is at least u. Assumes nothing.
use Rattle.std.proofs.Common.{◌-◌, ◌<◌, ◌≤◌}
use Rattle.angle.proofs.Entries.{C}
use Rattle.angle.proofs.raised.Given as goal

abbrev pub invariant-loop-k : goal.invariant-loop-k
invariant-loop-k l = (l.k < 1024) × (l.u ≤ C l.k)

abbrev pub decreases-loop-k : goal.decreases-loop-k
decreases-loop-k l = 1024 - l.k

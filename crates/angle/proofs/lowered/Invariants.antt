-- `angle::lowered` meets its contract: it stops at the first place at the latest, since no u is above the first entry. Assumes nothing.
use Rattle.std.proofs.Common.{◌<◌}
use Rattle.angle.proofs.lowered.Given as goal

abbrev pub invariant-loop-k : goal.invariant-loop-k
invariant-loop-k l = l.k < 1024

abbrev pub decreases-loop-k : goal.decreases-loop-k
decreases-loop-k l = l.k

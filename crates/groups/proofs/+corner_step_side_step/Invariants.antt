-- `corner_step` and `side_step`, which call each other, end: the ungrouped corners, twice, and one more before a side step. Assumes nothing.
use Rattle.std.proofs.Common.{◌+◌, ◌*◌}
use Rattle.groups.specs.Walk.{ungrouped}
use Rattle.groups.proofs.+corner_step_side_step.Given as goal

abbrev pub decreases-corner_step : goal.decreases-corner_step
decreases-corner_step l = 2 * ungrouped l.rows l.work.now

abbrev pub decreases-side_step : goal.decreases-side_step
decreases-side_step l = 2 * ungrouped l.rows l.work.now + 1

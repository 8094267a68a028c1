-- `angle::top_digits` meets its contract. Assumes nothing.
use Rattle.angle.proofs.TopDigits.{cut_off, kept_whole}
use Rattle.angle.proofs.top_digits.Goals as goal

pub returns-then-long : goal.returns-then-long
returns-then-long c = cut_off c.args.n c.ranges.n.fits

pub returns-else-long : goal.returns-else-long
returns-else-long c = kept_whole c.args.n c.ranges.n.fits c.if-long.false

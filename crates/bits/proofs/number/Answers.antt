-- `bits::number` meets its contract: a pattern is a NaN's where, without its sign, it is above the infinity's. Assumes nothing.
use lib.Ieee.{of_bits, div}
use Rattle.bits.proofs.Nan.{nan_pattern, no-nan-pattern}
use Rattle.bits.proofs.number.Goals as goal

pub returns-then-w-gt2139095040 : goal.returns-then-w-gt2139095040
unfolding of_bits div
returns-then-w-gt2139095040 c = nan_pattern c.args.w c.if-w-gt2139095040.true

pub float_from_bits-result : goal.float_from_bits-result
float_from_bits-result c = no-nan-pattern c.args.w c.if-w-gt2139095040.false

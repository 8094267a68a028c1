-- `bits::word` meets its contract: `to_bits` writes 7FC00000 for the NaN. Assumes nothing.
use mathlib.Core.Path.{sym, ap}
use lib.Ieee.{binary32, to_bits}
use Rattle.bits.proofs.Nan.{unlike-itself, like-itself}
use Rattle.bits.proofs.word.Goals as goal

pub returns-then-x : goal.returns-then-x
unfolding to_bits
returns-then-x c = sym (ap (to_bits binary32) (unlike-itself c.args.x c.if-x.true))

pub float_to_bits-result : goal.float_to_bits-result
float_to_bits-result c = like-itself c.args.x c.if-x.false

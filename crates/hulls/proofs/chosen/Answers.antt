-- `hulls::chosen` meets its contract: the check finds the ways out that return a number; where there is none it is a NaN. Assumes nothing.
use lib.Ieee.{of_bits, div, neg}
use Rattle.hulls.proofs.chosen.Goals as goal

pub returns-else-second : goal.returns-else-second
unfolding of_bits div neg
returns-else-second c = simp (c.if-first.false, c.if-second.false)

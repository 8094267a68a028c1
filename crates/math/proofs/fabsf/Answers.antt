-- `math::fabsf` meets its contract. Assumes nothing.
use mathlib.Core.Path.{sym, subst}
use lib.Dec.{T}
use lib.Ieee.{of_bits, binary32, fits}
use Rattle.math.proofs.Abs.{negative, zeroed, kept}
use Rattle.math.proofs.fabsf.Goals as goal
use Rattle.math.proofs.fabsf.Lts as lts
use Rattle.math.proofs.fabsf.Reads as reads

abbrev At-Start : Type 0
At-Start = lts.Start reads.Pre reads.Post

-- what owning an `f32` tells: the format holds it
held : (c : At-Start) → T (fits binary32 c.args.x)
held c = subst T (sym c.well_formed.0.1) tt

pub returns-then-x : goal.returns-then-x
unfolding of_bits
returns-then-x c = negative c.args.x c.if-x.true

pub returns-then-x-2 : goal.returns-then-x-2
unfolding of_bits
returns-then-x-2 c = zeroed c.args.x (held c.before.before) c.if-x-2.true

pub returns-else-x-2 : goal.returns-else-x-2
unfolding of_bits
returns-else-x-2 c = kept c.args.x c.if-x.false c.if-x-2.false

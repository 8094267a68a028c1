-- `root::sqrt` meets its contract: each way out is a case of the definition. Assumes nothing.
use Rattle.std.proofs.Common.{T, sym, ap, ◌∙◌, subst}
use lib.Ieee.{binary32, fits, of_bits, div}
use Rattle.bits.proofs.Back.{number_word}
use Rattle.root.specs.Root.{sqrt}
use Rattle.root.proofs.Signs.{above_no_nan, zero-stays, else-nan, infinity-stays, in-range, finite-bits}
use Rattle.root.proofs.sqrt.Goals as goal
use Rattle.root.proofs.sqrt.Tie as tie
use Rattle.root.proofs.sqrt.Lts as lts
use Rattle.root.proofs.sqrt.Reads as reads

abbrev At-Start : Type 0
At-Start = lts.Start tie.the-claims reads.Pre reads.Post

-- what owning an `f32` tells: the format holds it
held : (c : At-Start) → T (fits binary32 c.args.x)
held c = subst T (sym c.well_formed.0.1) tt

pub float_to_bits-b : goal.float_to_bits-b
unfolding of_bits
float_to_bits-b c = above_no_nan c.args.x c.if-x.true

pub returns-then-b-eq2139095040 : goal.returns-then-b-eq2139095040
unfolding of_bits div
returns-then-b-eq2139095040 c = infinity-stays c.args.x (held c.before.before) c.if-b-eq2139095040.true

pub root_bits-requires : goal.root_bits-requires
unfolding of_bits
root_bits-requires c = in-range c.args.x (held c.before.before) c.if-x.true c.if-b-eq2139095040.false

pub float_from_bits-result : goal.float_from_bits-result
float_from_bits-result c = finite-bits c.root_bits.result c.root_bits.ensures.1

pub returns-then-x : goal.returns-then-x
returns-then-x c = c.root_bits.ensures.0 ∙ ap sqrt (number_word c.args.x (held c.before.before.before))

pub returns-then-x-2 : goal.returns-then-x-2
unfolding of_bits
returns-then-x-2 c = zero-stays c.args.x c.if-x-2.true

pub returns : goal.returns
unfolding of_bits div
returns c = else-nan c.args.x c.if-x.false c.if-x-2.false

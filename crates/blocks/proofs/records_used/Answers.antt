-- `blocks::records_used` meets its contract. Assumes nothing.
use native.Mathlib.Omega.{arith}
use Rattle.blocks.specs.Format.{records_used}
use Rattle.blocks.proofs.Counts.{block-below}
use Rattle.blocks.proofs.records_used.Goals as goal

pub records_before-requires : goal.records_before-requires
records_before-requires c = omega (arith, block-below c.args.kind c.args.total c.args.b c.requires)

pub returns : goal.returns
unfolding records_used
returns c = (omega (arith, c.min.ensures, c.records_held.ensures, c.records_before.ensures), omega (arith, c.min.ensures), block-below c.args.kind c.args.total c.args.b c.requires)

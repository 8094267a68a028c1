-- `blocks::Kind::records_held` meets its contract. Assumes nothing.
use native.Mathlib.Omega.{arith}
use mathlib.Core.Path.{sym, ap}
use Rattle.blocks.specs.Format.{records_held}
use Rattle.blocks.proofs.Kind.records_held.Goals as goal

pub returns-in-Ten : goal.returns-in-Ten
unfolding records_held
returns-in-Ten c = (sym (ap records_held c.in-Ten.is), omega arith, omega arith)

pub returns-in-Twelve : goal.returns-in-Twelve
unfolding records_held
returns-in-Twelve c = (sym (ap records_held c.in-Twelve.is), omega arith, omega arith)

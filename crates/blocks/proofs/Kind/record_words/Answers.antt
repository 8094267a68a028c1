-- `blocks::Kind::record_words` meets its contract. Assumes nothing.
use native.Mathlib.Omega.{arith}
use mathlib.Core.Path.{sym, ap}
use Rattle.blocks.specs.Format.{record_words}
use Rattle.blocks.proofs.Kind.record_words.Goals as goal

pub returns-in-Ten : goal.returns-in-Ten
unfolding record_words
returns-in-Ten c = (sym (ap record_words c.in-Ten.is), omega arith)

pub returns-in-Twelve : goal.returns-in-Twelve
unfolding record_words
returns-in-Twelve c = (sym (ap record_words c.in-Twelve.is), omega arith)

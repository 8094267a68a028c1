-- `blocks::Kind::word` meets its contract. Assumes nothing.
use mathlib.Core.Path.{sym, ap}
use Rattle.blocks.specs.Format.{kind_word}
use Rattle.blocks.proofs.Kind.word.Goals as goal

pub returns-in-Ten : goal.returns-in-Ten
unfolding kind_word
returns-in-Ten c = sym (ap kind_word c.in-Ten.is)

pub returns-in-Twelve : goal.returns-in-Twelve
unfolding kind_word
returns-in-Twelve c = sym (ap kind_word c.in-Twelve.is)

-- `packed::read_seven` meets its contract. Assumes nothing.
use mathlib.Core.Path.{sym, ◌∙◌}
use Rattle.lists.specs.Loops.{list_of}
use Rattle.packed.specs.Reader.{frame_words, seven_read, read_seven}
use Rattle.packed.proofs.read_seven.Goals as goal

pub returns-then-all_nothing : goal.returns-then-all_nothing
unfolding read_seven seven_read
returns-then-all_nothing c = simp (sym c.all_nothing.ensures ∙ c.if-all_nothing.true)

pub returns : goal.returns
unfolding read_seven seven_read frame_words list_of
returns c = simp (sym c.all_nothing.ensures ∙ c.if-all_nothing.false) (cc)

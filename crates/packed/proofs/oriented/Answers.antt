-- `packed::oriented` meets its contract. Assumes nothing.
use Rattle.packed.specs.Reader.{oriented}
use mathlib.Core.Path.{◌∙◌}
use Rattle.packed.proofs.Places.{bit-is}
use Rattle.packed.proofs.oriented.Goals as goal

pub returns : goal.returns
unfolding oriented
returns c = c.from.ensures ∙ bit-is _

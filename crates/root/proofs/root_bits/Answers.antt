-- `root::root_bits` meets its contract. Assumes nothing.
use Rattle.std.proofs.Common.{◌∙◌}
use Rattle.root.proofs.root_bits.Goals as goal

pub digits_root-requires : goal.digits_root-requires
digits_root-requires c = c.digits_of-d.ensures.0

pub returns : goal.returns
returns c = (c.digits_root.ensures.0 ∙ c.digits_of-d.ensures.1, c.digits_root.ensures.1)

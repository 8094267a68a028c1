-- `packed::is_packed` meets its contract. Assumes nothing.
use native.Mathlib.Omega.{arith}
use Rattle.packed.specs.Packer.{packed_words}
use Rattle.packed.specs.Reader.{is_packed, seven_at}
use Rattle.packed.proofs.Runs.{cut-is, cut-long}
use Rattle.packed.proofs.is_packed.Goals as goal

pub all_nothing-requires : goal.all_nothing-requires
all_nothing-requires c = cut-long packed_words c.args.s c.args.packed.now (omega arith)

pub framed-requires : goal.framed-requires
framed-requires c = cut-long packed_words c.args.s c.args.packed.now (omega arith)

pub returns : goal.returns
unfolding is_packed seven_at
returns c = (cc (cut-is packed_words c.args.s c.args.packed.now))

-- `blocks::complement` meets its contract. Assumes nothing.
use native.Mathlib.Omega.{arith}
use Rattle.blocks.specs.Format.{complement}
use Rattle.blocks.proofs.complement.Goals as goal

pub returns : goal.returns
unfolding complement
returns c = omega arith

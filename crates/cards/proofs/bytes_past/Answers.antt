-- `cards::bytes_past` meets its contract. Assumes nothing.
use native.Mathlib.Omega.{arith}
use Rattle.cards.specs.Reader.{blocks_there, bytes_past}
use Rattle.cards.proofs.bytes_past.Goals as goal

pub returns : goal.returns
unfolding bytes_past blocks_there
returns c = omega (arith, c.min.ensures, c.blocks_for-called.ensures.0)

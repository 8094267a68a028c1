-- `mesh::number_at` meets its contract: past the end `get_or` gives the NaN. Assumes nothing.
use mathlib.Core.Path.{sym}
use lib.ListN.{get_or-eq_default}
use lib.Ieee.{nan, of_bits, div}
use Rattle.mesh.proofs.number_at.Goals as goal

pub returns : goal.returns
unfolding of_bits div
returns c = sym (get_or-eq_default c.args.xs.now nan c.if-i-xs.false)

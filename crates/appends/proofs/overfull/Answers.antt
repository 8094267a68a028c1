-- `appends::overfull` meets its contract. Assumes nothing.
use Prim.Native.Nat.{ℕ, ◌*◌}
use mathlib.Core.Path.{ap}
use lib.Dec.{ltb}
use Rattle.blocks.specs.Format.{block_bytes}
use Rattle.appends.specs.Next.{overfull}
use Rattle.appends.proofs.overfull.Goals as goal

pub returns : goal.returns
unfolding overfull
returns c = ap (λ (k : ℕ). ltb (block_bytes * k) c.args.long) c.blocks_for.ensures.0

-- `cards::write_blocks` meets its contract. Assumes nothing.
use Prim.Native.Nat.{◌-◌, ◌≤◌}
use mathlib.Core.Path.{◌≡◌}
use lib.ListN.{length}
use lib.Seq.{sets}
use Rattle.cards.specs.Writer.{blocks_of}
use Rattle.cards.proofs.write_blocks.Given as goal

abbrev pub invariant-loop-b : goal.invariant-loop-b
invariant-loop-b l = (l.b ≤ l.b-end) × (l.card ≡ sets l.initial.card 0 (blocks_of l.kind l.b l.total l.answer)) × (length l.card ≡ length l.initial.card)

abbrev pub decreases-loop-b : goal.decreases-loop-b
decreases-loop-b l = l.b-end - l.b

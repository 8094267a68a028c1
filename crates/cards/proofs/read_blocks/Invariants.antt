-- `cards::read_blocks` meets its contract. Assumes nothing.
use Prim.Native.Nat.{◌-◌, ◌≤◌}
use mathlib.Core.Path.{◌≡◌}
use lib.ListN.{length}
use lib.Seq.{sets}
use Rattle.lists.specs.Parts.{joined}
use Rattle.blocks.specs.Judged.{records_read}
use Rattle.cards.proofs.read_blocks.Given as goal

abbrev pub invariant-loop-b : goal.invariant-loop-b
invariant-loop-b l = (l.b ≤ l.b-end) × (l.answer ≡ sets l.initial.answer 0 (joined l.b (λ k. records_read l.kind l.total k l.card))) × (length l.answer ≡ length l.initial.answer)

abbrev pub decreases-loop-b : goal.decreases-loop-b
decreases-loop-b l = l.b-end - l.b

-- `appends::put_blocks` meets its contract. Assumes nothing.
use Prim.Native.Nat.{◌+◌, ◌*◌, ◌-◌, ◌≤◌}
use mathlib.Core.Path.{◌≡◌}
use lib.ListN.{length}
use lib.Seq.{sets}
use Rattle.lists.specs.Parts.{joined, part}
use Rattle.blocks.specs.Format.{room_words, used_words, block_of}
use Rattle.appends.proofs.put_blocks.Given as goal

abbrev pub invariant-loop-i : goal.invariant-loop-i
invariant-loop-i l = (l.i ≤ l.made) × (l.lent ≡ sets l.initial.lent 0 (joined l.i (λ k. block_of l.kind l.total (l.b + k) (part (room_words * k) (used_words l.kind l.total (l.b + k)) l.records)))) × (length l.lent ≡ length l.initial.lent)

abbrev pub decreases-loop-i : goal.decreases-loop-i
decreases-loop-i l = l.made - l.i

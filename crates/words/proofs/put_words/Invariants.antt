-- `words::put_words` meets its contract. Assumes nothing.
use Prim.Native.Nat.{◌*◌, ◌-◌, ◌≤◌}
use mathlib.Core.Path.{◌≡◌}
use lib.ListN.{length, take}
use lib.Seq.{sets}
use Rattle.lists.specs.Parts.{sum_of}
use Rattle.words.specs.Words.{word_values, bytes_of}
use Rattle.words.proofs.put_words.Given as goal

abbrev pub invariant-loop-i : goal.invariant-loop-i
invariant-loop-i l = (l.i ≤ l.count) × (l.bytes ≡ sets l.initial.bytes (4 * l.to) (bytes_of (take l.i l.w-items))) × (l.sum ≡ sum_of (take l.i l.w-items)) × (l.sum ≤ (word_values - 1) * l.i) × (length l.bytes ≡ length l.initial.bytes)

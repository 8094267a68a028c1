-- `blocks::lose` meets its contract. Assumes nothing.
use Prim.Native.Nat.{◌-◌, ◌≤◌}
use mathlib.Core.Path.{◌≡◌}
use lib.ListN.{length}
use lib.Seq.{sets}
use Rattle.lists.specs.Parts.{joined}
use Rattle.blocks.specs.Judged as spec
use Rattle.blocks.proofs.lose.Given as goal

abbrev pub invariant-loop-r : goal.invariant-loop-r
invariant-loop-r l = (l.r ≤ l.count) × (l.answer ≡ sets l.initial.answer l.p (joined l.r (λ _. spec.lost_words l.wide))) × (length l.answer ≡ length l.initial.answer)

abbrev pub decreases-loop-r : goal.decreases-loop-r
decreases-loop-r l = l.count - l.r

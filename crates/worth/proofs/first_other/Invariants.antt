-- `worth::first_other` meets its contract. Assumes nothing.
use Prim.Native.Nat.{◌-◌, ◌≤◌}
use mathlib.Core.Path.{◌≡◌}
use lib.ListN.{get_or}
use lib.Dec.{eqb}
use Rattle.packed.specs.Reader.{first_failing}
use Rattle.worth.specs.Worth.{good_slot}
use Rattle.worth.proofs.first_other.Given as goal

abbrev pub invariant-loop-s : goal.invariant-loop-s
invariant-loop-s l = (l.s ≤ l.count) × (first_failing l.s (λ k. eqb (get_or l.verdicts k 0) good_slot) ≡ l.s)

abbrev pub decreases-loop-s : goal.decreases-loop-s
decreases-loop-s l = l.count - l.s

-- `worth::good_among` meets its contract. Assumes nothing.
use Prim.Native.Nat.{◌-◌}
use lib.ListN.{get_or}
use lib.Dec.{eqb}
use Rattle.worth.specs.Worth.{good_slot}
use Rattle.worth.proofs.Counting.{Tally}
use Rattle.worth.proofs.good_among.Given as goal

abbrev pub invariant-loop-s : goal.invariant-loop-s
invariant-loop-s l = Tally l.count (λ k. eqb (get_or l.verdicts k 0) good_slot) l.good l.s

abbrev pub decreases-loop-s : goal.decreases-loop-s
decreases-loop-s l = l.count - l.s

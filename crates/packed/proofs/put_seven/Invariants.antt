-- `packed::put_seven` meets its contract. Assumes nothing.
use Rattle.packed.proofs.Runs.{WrittenTo}
use Rattle.packed.proofs.put_seven.Given as goal

abbrev pub invariant-loop-i : goal.invariant-loop-i
invariant-loop-i l = WrittenTo l.n-items l.seven l.i

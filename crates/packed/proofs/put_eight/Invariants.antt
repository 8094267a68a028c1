-- `packed::put_eight` meets its contract. Assumes nothing.
use Rattle.packed.proofs.Runs.{WrittenTo}
use Rattle.packed.proofs.put_eight.Given as goal

abbrev pub invariant-loop-i : goal.invariant-loop-i
invariant-loop-i l = WrittenTo l.w-items l.eight l.i

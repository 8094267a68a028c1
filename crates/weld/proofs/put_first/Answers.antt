-- Proof that `put_first` meets its contract. Assumes nothing.
use native.Mathlib.Omega.{arith}
use lib.ListN.{length-set}
use Rattle.weld.proofs.put_first.Goals as goal

pub bounds-work-rows-3 : goal.bounds-work-rows-3
bounds-work-rows-3 c = simp length-set (omega arith)

pub bounds-work-rows-4 : goal.bounds-work-rows-4
bounds-work-rows-4 c = simp length-set (omega arith)

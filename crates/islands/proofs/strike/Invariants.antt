-- Proof that `strike` meets its contract. Assumes nothing.
use Prim.Native.Nat.{◌-◌, ◌≤◌}
use lib.ListN.{length}
use Rattle.islands.proofs.Weaving.{Striking}
use Rattle.islands.proofs.strike.Given as goal

abbrev pub invariant-loop-f : goal.invariant-loop-f
invariant-loop-f l = (l.f ≤ length l.sizes) × Striking l.sizes l.initial.labels l.f l.labels

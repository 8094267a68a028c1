-- Proof that `scatter` meets its contract. The invariant: the words of the island's faces below f are in their places. Assumes nothing.
use Prim.Native.Nat.{◌-◌}
use lib.ListN.{length}
use Rattle.apart.specs.Scatter.{Scene}
use Rattle.apart.proofs.Putting.{Walks}
use Rattle.apart.proofs.scatter.Given as goal

abbrev pub invariant-loop-next : goal.invariant-loop-next
invariant-loop-next l = (s : Scene l.sizes l.order l.own_frames l.t) → Walks l.sizes l.order l.own_frames l.t s l.initial.answer l.next l.f l.c l.answer

abbrev pub decreases-loop-next : goal.decreases-loop-next
decreases-loop-next l = length l.sizes - l.f

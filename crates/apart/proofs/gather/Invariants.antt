-- Proof that `gather` meets its contract. The invariant: the faces of the island below f are gathered. Assumes nothing.
use Prim.Native.Nat.{◌-◌}
use lib.ListN.{length}
use Rattle.mesh.specs.Parts.{given}
use Rattle.apart.proofs.Turns.{Going}
use Rattle.apart.proofs.gather.Given as goal

abbrev pub invariant-loop-next : goal.invariant-loop-next
invariant-loop-next l = Going (given l.mesh) l.t l.initial.own_sizes l.initial.own_numbers l.next l.f l.k l.c l.own_sizes l.own_numbers

abbrev pub decreases-loop-next : goal.decreases-loop-next
decreases-loop-next l = length l.mesh.sizes.now - l.f

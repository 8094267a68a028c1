-- Proof that `pass` meets its contract. Assumes nothing.
use Prim.Native.Nat.{◌-◌}
use lib.ListN.{length}
use Rattle.mesh.specs.Parts.{given}
use Rattle.listing.proofs.Passes.{Far}
use Rattle.listing.proofs.pass.Given as goal

abbrev pub invariant-loop-f : goal.invariant-loop-f
invariant-loop-f l = Far l.rows l.want (given l.mesh) l.tris l.initial.work l.work l.f l.base l.slot l.k

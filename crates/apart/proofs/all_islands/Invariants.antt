-- Proof that `all_islands` meets its contract. The invariant: the islands below t are done. Assumes nothing.
use Prim.Native.Nat.{◌-◌, ◌≤◌}
use mathlib.Core.Path.{◌≡◌}
use lib.ListN.{length}
use Rattle.mesh.specs.Parts.{given}
use Rattle.apart.specs.Steps.{Kept, DoneBelow}
use Rattle.apart.proofs.all_islands.Given as goal

abbrev pub invariant-loop-t : goal.invariant-loop-t
invariant-loop-t l = (l.t ≤ length l.mesh.sizes.now) × DoneBelow (given l.mesh) l.threshold l.t l.initial.answer l.answer × (l.work ≡ l.initial.work) × Kept (length l.mesh.sizes.now) l.initial.own_sizes l.own_sizes l.initial.own_numbers l.own_numbers l.initial.own_frames l.own_frames

abbrev pub decreases-loop-t : goal.decreases-loop-t
decreases-loop-t l = length l.mesh.sizes.now - l.t

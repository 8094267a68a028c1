-- Proof that `link_faces` meets its contract. The invariant: the faces from i on are linked. Assumes nothing.
use Prim.Native.Nat.{◌*◌, ◌≤◌}
use Rattle.apart.specs.Lists.{Past}
use Rattle.apart.specs.Order.{Linked, label_at}
use Rattle.apart.proofs.link_faces.Given as goal

abbrev pub invariant-loop-i : goal.invariant-loop-i
invariant-loop-i l = (l.i ≤ l.count) × Linked l.count (label_at l.labels) l.i l.order × Past 0 (2 * l.count) l.initial.order l.order

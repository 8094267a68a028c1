-- `neighbors::put_sides` meets its contract. Assumes nothing.
use Prim.Native.Nat.{◌*◌, ◌-◌, ◌≤◌}
use mathlib.Core.Path.{◌≡◌}
use lib.ListN.{length}
use Rattle.lists.specs.Loops.{up_to}
use Rattle.neighbors.specs.Sides.{with_side}
use Rattle.neighbors.proofs.put_sides.Given as goal

abbrev pub invariant-loop-r : goal.invariant-loop-r
invariant-loop-r l = (l.r ≤ 3 * l.tris) × (l.work ≡ up_to l.r (with_side l.rows l.column) l.initial.work) × (length l.work ≡ length l.initial.work)

abbrev pub decreases-loop-r : goal.decreases-loop-r
decreases-loop-r l = 3 * l.tris - l.r

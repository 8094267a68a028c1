-- Proof that `unite_rows` meets its contract. Assumes nothing.
use Prim.Native.Nat.{◌-◌, ◌≤◌}
use Rattle.islands.specs.Rows.{Woven, face_row, vertex_row}
use Rattle.islands.proofs.unite_rows.Given as goal

abbrev pub invariant-loop-r : goal.invariant-loop-r
invariant-loop-r l = (l.r ≤ l.n) × Woven l.count (face_row l.rows l.work) (vertex_row l.rows l.work) l.initial.labels l.labels l.r

abbrev pub decreases-loop-r : goal.decreases-loop-r
decreases-loop-r l = l.n - l.r

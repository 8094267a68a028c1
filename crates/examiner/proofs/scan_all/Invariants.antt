-- `examiner::scan_all` meets its contract. Assumes nothing.
use Prim.Native.Nat.{◌*◌, ◌-◌, ◌≤◌, ◌<◌}
use Rattle.std.proofs.Common.{IfSome, unwrap_or}
use Rattle.examiner.specs.Scan.{Scans}
use Rattle.examiner.proofs.scan_all.Given as goal

abbrev pub invariant-loop-a : goal.invariant-loop-a
invariant-loop-a l = (l.a ≤ 3 * l.tris) × Scans l.rows (3 * l.tris) l.work l.given l.a (unwrap_or l.s.first (3 * l.tris)) (unwrap_or l.s.best (3 * l.tris)) × IfSome l.s.first (λ r. r < 3 * l.tris) × IfSome l.s.best (λ r. r < 3 * l.tris)

abbrev pub decreases-loop-a : goal.decreases-loop-a
decreases-loop-a l = 3 * l.tris - l.a

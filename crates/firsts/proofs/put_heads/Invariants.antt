-- Proof that `put_heads` meets its contract. Assumes nothing.
use Prim.Native.Nat.{◌-◌, ◌≤◌, ◌<◌}
use Rattle.std.proofs.Common.{IfSome, unwrap_or}
use Rattle.firsts.proofs.Heading.{Heading}
use Rattle.firsts.proofs.put_heads.Given as goal

abbrev pub invariant-loop-a : goal.invariant-loop-a
invariant-loop-a l = (l.a ≤ l.n) × Heading l.rows l.n l.groups l.initial.work l.work l.a (unwrap_or l.first l.n) × IfSome l.first (λ f. f < l.n)

abbrev pub decreases-loop-a : goal.decreases-loop-a
decreases-loop-a l = l.n - l.a

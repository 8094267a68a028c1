-- Proof that `walk_from` meets its contract. Assumes nothing.
use Prim.Native.Nat.{◌+◌, ◌*◌}
use Rattle.groups.specs.Walk.{walk, corner, ungrouped}
use Rattle.flat.specs.Places.{blank, places, left, all, Goes}
use Rattle.flat.proofs.walk_from.Given as goal

abbrev pub invariant-loop-s : goal.invariant-loop-s
invariant-loop-s l = Goes l.rows l.tris l.g.number (left l.initial.s.next l.initial.s.stored) l.initial.work l.work l.s (corner l.rows l.g.number l.g.vertex l.g.orientation) (λ n. all l.rows (corner l.rows l.g.number l.g.vertex l.g.orientation n) (walk (blank l.rows l.initial.work) l.initial.s.count) (places l.rows l.initial.work l.initial.s.next l.initial.s.stored))

abbrev pub decreases-loop-s : goal.decreases-loop-s
decreases-loop-s l = 2 * ungrouped l.rows l.work + left l.s.next l.s.stored

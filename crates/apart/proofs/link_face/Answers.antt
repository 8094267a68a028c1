-- Proof that `link_face` meets its contract. Assumes nothing.
use Prim.Native.Nat.{suc}
use native.Mathlib.Numerals.{add-one}
use native.Mathlib.Omega.{arith}
use mathlib.Core.Path.{subst}
use lib.ListN.{length-set}
use Rattle.apart.specs.Order.{Linked, label_at}
use Rattle.apart.proofs.Lists.{past-none}
use Rattle.apart.proofs.Ordering.{linked-skip, linked-more, past-linked}
use Rattle.apart.proofs.link_face.Goals as goal
use Rattle.apart.proofs.link_face.Lts as lts
use Rattle.apart.proofs.link_face.Reads as reads

abbrev At-Start : Type 0
At-Start = lts.Start reads.Pre reads.Post

-- the faces past f are linked
linked : (s : At-Start) → Linked s.args.count (label_at s.args.labels.now) (suc s.args.f) s.args.order.now
linked s = subst (λ i. Linked s.args.count (label_at s.args.labels.now) i s.args.order.now) (add-one s.args.f) s.requires.4

pub overflow_cast-t : goal.overflow_cast-t
overflow_cast-t c = omega (arith, c.type_inv.labels c.args.f)

pub returns-then-count-t : goal.returns-then-count-t
returns-then-count-t c = (linked-skip _ _ _ _ c.if-count-t.true (linked c.before.before.before), past-none 0 _ _)

pub bounds-order-count-2 : goal.bounds-order-count-2
bounds-order-count-2 c = simp length-set (omega arith)

pub returns : goal.returns
returns c = (linked-more _ _ _ _ c.requires.0 c.if-count-t.false c.requires.2 (linked c.before.before.before.before), past-linked _ _ _ _ c.requires.0 c.if-count-t.false c.requires.2 (linked c.before.before.before.before))

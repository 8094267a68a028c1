-- Proof that `link_faces` meets its contract. The invariant: the faces from i on are linked. Assumes nothing.
use Prim.Native.Nat.{◌+◌, ◌*◌, ◌-◌}
use native.Mathlib.Omega.{arith}
use mathlib.Core.Path.{◌≡◌, sym, ◌∙◌, subst}
use Rattle.apart.specs.Lists.{Past}
use Rattle.apart.specs.Order.{Linked, label_at}
use Rattle.apart.proofs.Lists.{past-none, past-trans, cleared-low, cleared-past}
use Rattle.apart.proofs.Ordering.{linked-none}
use Rattle.apart.proofs.link_faces.Goals as goal
use Rattle.apart.proofs.link_faces.Tie as tie
use Rattle.apart.proofs.link_faces.Lts as lts
use Rattle.apart.proofs.link_faces.Reads as reads

abbrev At-After-slice_known-2-1 : Type 0
At-After-slice_known-2-1 = lts.After-slice_known2 tie.the-claims reads.Pre reads.Post goal.the-invariant-loop-i goal.the-decreases-loop-i

cleared : (c : At-After-slice_known-2-1) → Past 0 (2 * c.args.count) c.args.order.now c.clear_first.new.words
cleared c = subst (λ l. Past 0 (2 * c.args.count) c.args.order.now l) (sym c.clear_first.ensures) (cleared-past 0 0 (2 * c.args.count) c.args.order.now c.requires.1)

pub loop-i-init : goal.loop-i-init
loop-i-init c =
    (omega arith, linked-none _ _ _ (λ x h. subst (λ l. lib.ListN.get_or l x 0 ≡ 0) (sym c.clear_first.ensures) (cleared-low 0 0 (2 * c.args.count) c.args.order.now x h)), past-none 0 _ _)

pub link_face-requires : goal.link_face-requires
link_face-requires c =
    let l = c.loop-i in
    let t = c.loop-i-test.true in
    let e : (l.i - 1) + 1 ≡ l.i = omega (arith, t) in
    (omega (arith, l.invariant.0, t), c.requires.0, omega (arith, c.requires.1, (cleared c.before.before.before.before).size, l.invariant.2.size), c.requires.2, subst (λ n. Linked c.args.count (label_at c.args.labels.now) n l.order) (sym e) l.invariant.1)

pub loop-i-preserved : goal.loop-i-preserved
loop-i-preserved c =
    let l = c.loop-i in
    (omega (arith, l.invariant.0, c.loop-i-test.true), c.link_face.ensures.0, past-trans 0 _ _ _ _ l.invariant.2 c.link_face.ensures.1)

pub shape_of-order : goal.shape_of-order
shape_of-order c = c.loop-i.invariant.2.size ∙ (cleared c.before.before.before).size

pub returns : goal.returns
returns c =
    let l = c.loop-i in
    let a = c.args in
    let e : l.i ≡ 0 = omega (arith, c.loop-i-test.false) in
    (subst (λ n. Linked a.count (label_at a.labels.now) n l.order) e l.invariant.1, past-trans 0 _ _ _ _ (cleared c.before.before.before) l.invariant.2)

-- Proof that `start_faces` meets its contract. The invariant: the first f faces have their starts. Assumes nothing.
use Prim.Native.Nat.{ℕ, ◌+◌, ◌*◌, ◌≤◌, ◌<◌}
use native.Mathlib.Nat.{le_antisymm}
use native.Mathlib.Omega.{arith}
use mathlib.Core.Path.{◌≡◌, sym, ◌∙◌, ap, subst}
use mathlib.Core.List.{List}
use lib.ListN.{length, get_or, set, length-set}
use Rattle.definition.specs.Handed.{slots_of}
use Rattle.mesh.proofs.Counts.{corners-none, corners-more, slots-none, slots-more}
use Rattle.apart.specs.Order.{Begun}
use Rattle.apart.proofs.Lists.{past-none, past-trans, past-set}
use Rattle.apart.proofs.Ordering.{begun-none, begun_more}
use Rattle.apart.proofs.start_faces.Goals as goal
use Rattle.apart.proofs.start_faces.Invariants.{Going}

going_more : (sizes w u : List ℕ) (c s f d : ℕ) → 4 * length sizes ≤ length w → f < length sizes → get_or sizes f 0 < 256 → d ≡ slots_of (get_or sizes f 0) → d ≤ 4 → Going sizes w c s f u → Going sizes w (c + get_or sizes f 0) (s + d) (f + 1) (set (set u (2 * length sizes + f) c) (3 * length sizes + f) s)
going_more sizes w u c s f d long h byte e small g =
    let n = length sizes in
    let v = set u (2 * n + f) c in
    record {
      within = omega arith;
      corners = ap (λ x. x + get_or sizes f 0) g.corners ∙ sym (corners-more sizes f h);
      slots = (λ i. g.slots i + e i) ∙ sym (slots-more sizes f h);
      few = omega (arith, g.few);
      low = omega (arith, g.low);
      begun = begun_more sizes f u c s h (omega (arith, g.past.size)) g.corners g.slots g.begun;
      past = past-trans 0 (4 * n) w u (set v (3 * n + f) s) g.past (past-trans 0 (4 * n) u v (set v (3 * n + f) s) (past-set 0 (4 * n) u (2 * n + f) c (omega arith)) (past-set 0 (4 * n) v (3 * n + f) s (omega arith)));
    }

pub loop-f-init : goal.loop-f-init
loop-f-init c = let a = c.args in record { within = omega arith; corners = corners-none a.sizes.now; slots = slots-none a.sizes.now; few = omega arith; low = omega arith; begun = begun-none _ _; past = past-none 0 _ _ }

pub bounds-order-n : goal.bounds-order-n
bounds-order-n c = let g = c.loop-f.invariant in omega (arith, g.past.size, c.requires.1, c.loop-f-test.true)

pub bounds-order-n-in-loop-f : goal.bounds-order-n-in-loop-f
bounds-order-n-in-loop-f c = let g = c.loop-f.invariant in simp length-set (omega (arith, g.past.size, c.requires.1, c.loop-f-test.true))

pub overflow_add-corners : goal.overflow_add-corners
overflow_add-corners c = let g = c.loop-f.invariant in omega (arith, g.few, c.requires.0, c.loop-f-test.true, c.type_inv.sizes c.loop-f.f)

pub overflow_add-slots : goal.overflow_add-slots
overflow_add-slots c = omega (arith, c.loop-f.invariant.low, c.requires.0, c.loop-f-test.true, c.slots_of.ensures.1)

pub loop-f-preserved : goal.loop-f-preserved
loop-f-preserved c =
    going_more _ _ _ _ _ _ _ c.requires.1 c.loop-f-test.true (omega (arith, c.type_inv.sizes c.loop-f.f)) c.slots_of.ensures.0 c.slots_of.ensures.1 c.loop-f.invariant

pub shape_of-order : goal.shape_of-order
shape_of-order c = c.loop-f.invariant.past.size

pub returns : goal.returns
returns c =
    let l = c.loop-f in
    let a = c.args in
    (subst (λ x. Begun a.sizes.now x l.order) (le_antisymm l.invariant.within c.loop-f-test.false) l.invariant.begun, l.invariant.past)

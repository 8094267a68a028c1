-- Proof that `scatter` meets its contract. The invariant: the words of the island's faces below f are in their places. Assumes nothing.
use native.Mathlib.Omega.{arith}
use Rattle.apart.proofs.Putting.{slots-few, walks-none, put_all, safe, walks_more}
use Rattle.apart.proofs.scatter.Goals as goal

pub overflow_add-next : goal.overflow_add-next
overflow_add-next c = omega (arith, c.requires.0, c.requires.1)

pub bounds-order-n : goal.bounds-order-n
bounds-order-n c = omega (arith, c.requires.1, c.requires.2)

pub loop-next-init : goal.loop-next-init
loop-next-init c = λ e. walks-none _ _ _ _ c.requires.1 e _ c.requires.3

pub overflow_cast-f : goal.overflow_cast-f
overflow_cast-f c = let k = safe _ _ _ _ c.requires.1 c.requires.4 _ c.requires.3 _ _ _ _ (c.loop-next.invariant c.requires.4) c.loop-next-test.true (slots-few _) in omega (arith, k.is, k.next-below, c.requires.0)

pub overflow_sub-z : goal.overflow_sub-z
overflow_sub-z c = omega (arith, c.loop-next-test.true)

pub bounds-sizes-f : goal.bounds-sizes-f
bounds-sizes-f c = let k = safe _ _ _ _ c.requires.1 c.requires.4 _ c.requires.3 _ _ _ _ (c.loop-next.invariant c.requires.4) c.loop-next-test.true (slots-few _) in omega (arith, k.next-below, k.is)

pub overflow_cast-z : goal.overflow_cast-z
overflow_cast-z c = let k = safe _ _ _ _ c.requires.1 c.requires.4 _ c.requires.3 _ _ _ _ (c.loop-next.invariant c.requires.4) c.loop-next-test.true (slots-few _) in omega (arith, k.small)

pub overflow_sub-to : goal.overflow_sub-to
overflow_sub-to c = let k = safe _ _ _ _ c.requires.1 c.requires.4 _ c.requires.3 _ _ _ _ (c.loop-next.invariant c.requires.4) c.loop-next-test.true (slots-few _) in omega (arith, k.is)

pub overflow_add-to : goal.overflow_add-to
overflow_add-to c = let k = safe _ _ _ _ c.requires.1 c.requires.4 _ c.requires.3 _ _ _ _ (c.loop-next.invariant c.requires.4) c.loop-next-test.true (slots-few _) in omega (arith, k.next-below, k.is, c.requires.0)

pub offset_bounds-order-n-in-loop-next : goal.offset_bounds-order-n-in-loop-next
offset_bounds-order-n-in-loop-next c = let k = safe _ _ _ _ c.requires.1 c.requires.4 _ c.requires.3 _ _ _ _ (c.loop-next.invariant c.requires.4) c.loop-next-test.true (slots-few _) in omega (arith, k.is, k.next-below, c.requires.0)

pub bounds-order-n-in-loop-next : goal.bounds-order-n-in-loop-next
bounds-order-n-in-loop-next c = let k = safe _ _ _ _ c.requires.1 c.requires.4 _ c.requires.3 _ _ _ _ (c.loop-next.invariant c.requires.4) c.loop-next-test.true (slots-few _) in omega (arith, k.next-below, k.is, c.requires.2)

pub overflow_cast-to : goal.overflow_cast-to
overflow_cast-to c = let k = safe _ _ _ _ c.requires.1 c.requires.4 _ c.requires.3 _ _ _ _ (c.loop-next.invariant c.requires.4) c.loop-next-test.true (slots-few _) in omega (arith, k.low-start, c.requires.0)

pub overflow_mul-c : goal.overflow_mul-c
overflow_mul-c c = let k = safe _ _ _ _ c.requires.1 c.requires.4 _ c.requires.3 _ _ _ _ (c.loop-next.invariant c.requires.4) c.loop-next-test.true (slots-few _) in omega (arith, k.read, k.small)

pub overflow_mul-to-in-loop-next : goal.overflow_mul-to-in-loop-next
overflow_mul-to-in-loop-next c = let k = safe _ _ _ _ c.requires.1 c.requires.4 _ c.requires.3 _ _ _ _ (c.loop-next.invariant c.requires.4) c.loop-next-test.true (slots-few _) in omega (arith, k.low-start, c.requires.0)

pub overflow_mul-z : goal.overflow_mul-z
overflow_mul-z c = let k = safe _ _ _ _ c.requires.1 c.requires.4 _ c.requires.3 _ _ _ _ (c.loop-next.invariant c.requires.4) c.loop-next-test.true (slots-few _) in omega (arith, k.small)

pub copy-requires : goal.copy-requires
copy-requires c = let k = safe _ _ _ _ c.requires.1 c.requires.4 _ c.requires.3 _ _ _ _ (c.loop-next.invariant c.requires.4) c.loop-next-test.true (slots-few _) in (k.read, k.written)

pub overflow_add-c : goal.overflow_add-c
overflow_add-c c = let k = safe _ _ _ _ c.requires.1 c.requires.4 _ c.requires.3 _ _ _ _ (c.loop-next.invariant c.requires.4) c.loop-next-test.true (slots-few _) in let w = c.loop-next.invariant c.requires.4 in omega (arith, w.low, w.within, k.small, c.requires.0)

pub overflow_sub-next : goal.overflow_sub-next
overflow_sub-next c = let k = safe _ _ _ _ c.requires.1 c.requires.4 _ c.requires.3 _ _ _ _ (c.loop-next.invariant c.requires.4) c.loop-next-test.true (slots-few _) in omega (arith, k.is)

pub offset_bounds-order-f : goal.offset_bounds-order-f
offset_bounds-order-f c = let k = safe _ _ _ _ c.requires.1 c.requires.4 _ c.requires.3 _ _ _ _ (c.loop-next.invariant c.requires.4) c.loop-next-test.true (slots-few _) in omega (arith, k.is, k.next-below, c.requires.0)

pub bounds-order-f : goal.bounds-order-f
bounds-order-f c = let k = safe _ _ _ _ c.requires.1 c.requires.4 _ c.requires.3 _ _ _ _ (c.loop-next.invariant c.requires.4) c.loop-next-test.true (slots-few _) in omega (arith, k.next-below, k.is, c.requires.2)

pub loop-next-smaller : goal.loop-next-smaller
loop-next-smaller c = let k = safe _ _ _ _ c.requires.1 c.requires.4 _ c.requires.3 _ _ _ _ (c.loop-next.invariant c.requires.4) c.loop-next-test.true (slots-few _) in omega (arith, k.further, k.next-below, k.is)

pub loop-next-preserved : goal.loop-next-preserved
loop-next-preserved c =
    λ e. walks_more _ _ _ _ c.requires.1 e _ c.requires.3 _ _ _ _ (c.loop-next.invariant e) c.loop-next-test.true _ (c.copy.ensures 0)

pub shape_of-answer : goal.shape_of-answer
shape_of-answer c = (c.loop-next.invariant c.requires.4).put.past.size

pub returns : goal.returns
returns c =
    λ e. put_all _ _ _ _ c.requires.1 e _ c.requires.3 _ _ _ _ (c.loop-next.invariant e) c.loop-next-test.false

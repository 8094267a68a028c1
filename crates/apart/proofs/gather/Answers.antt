-- Proof that `gather` meets its contract. The invariant: the faces of the island below f are gathered. Assumes nothing.
use native.Mathlib.Omega.{arith}
use Rattle.apart.proofs.Turns.{going-none, gathered-all, safe, going_more}
use Rattle.apart.proofs.gather.Goals as goal

pub overflow_add-next : goal.overflow_add-next
overflow_add-next c = omega (arith, c.requires.0, c.requires.1.fits.few)

pub bounds-order-n : goal.bounds-order-n
bounds-order-n c = omega (arith, c.requires.0, c.requires.1.long)

pub loop-next-init : goal.loop-next-init
loop-next-init c = going-none _ _ c.requires.1 _ c.requires.0 _ _ c.requires.2

pub overflow_cast-f : goal.overflow_cast-f
overflow_cast-f c = let k = safe _ _ c.requires.1 _ c.requires.0 _ _ c.requires.2 _ _ _ _ _ _ c.loop-next.invariant c.loop-next-test.true in omega (arith, k.is, k.below, c.requires.1.fits.few)

pub overflow_sub-size : goal.overflow_sub-size
overflow_sub-size c = omega (arith, c.loop-next-test.true)

pub bounds-mesh-f : goal.bounds-mesh-f
bounds-mesh-f c = let k = safe _ _ c.requires.1 _ c.requires.0 _ _ c.requires.2 _ _ _ _ _ _ c.loop-next.invariant c.loop-next-test.true in omega (arith, k.below, k.is)

pub overflow_sub-base : goal.overflow_sub-base
overflow_sub-base c = let k = safe _ _ c.requires.1 _ c.requires.0 _ _ c.requires.2 _ _ _ _ _ _ c.loop-next.invariant c.loop-next-test.true in omega (arith, k.is)

pub overflow_add-base : goal.overflow_add-base
overflow_add-base c = let k = safe _ _ c.requires.1 _ c.requires.0 _ _ c.requires.2 _ _ _ _ _ _ c.loop-next.invariant c.loop-next-test.true in omega (arith, k.below, k.is, c.requires.1.fits.few)

pub offset_bounds-order-n-in-loop-next : goal.offset_bounds-order-n-in-loop-next
offset_bounds-order-n-in-loop-next c = let k = safe _ _ c.requires.1 _ c.requires.0 _ _ c.requires.2 _ _ _ _ _ _ c.loop-next.invariant c.loop-next-test.true in omega (arith, k.is, k.below, c.requires.1.fits.few)

pub bounds-order-n-in-loop-next : goal.bounds-order-n-in-loop-next
bounds-order-n-in-loop-next c = let k = safe _ _ c.requires.1 _ c.requires.0 _ _ c.requires.2 _ _ _ _ _ _ c.loop-next.invariant c.loop-next-test.true in omega (arith, k.below, k.is, c.requires.1.long)

pub gather_face-requires : goal.gather_face-requires
gather_face-requires c = let k = safe _ _ c.requires.1 _ c.requires.0 _ _ c.requires.2 _ _ _ _ _ _ c.loop-next.invariant c.loop-next-test.true in (k.positions, k.normals, k.texture, k.faces, k.corners, omega (arith, c.requires.3, c.loop-next.invariant.numbers.size))

pub overflow_add-k : goal.overflow_add-k
overflow_add-k c = let k = safe _ _ c.requires.1 _ c.requires.0 _ _ c.requires.2 _ _ _ _ _ _ c.loop-next.invariant c.loop-next-test.true in omega (arith, k.faces, c.loop-next.invariant.faces.size, c.loop-next.invariant.gathered.few, c.loop-next.invariant.within, c.requires.1.fits.few)

pub overflow_cast-c : goal.overflow_cast-c
overflow_cast-c c = let k = safe _ _ c.requires.1 _ c.requires.0 _ _ c.requires.2 _ _ _ _ _ _ c.loop-next.invariant c.loop-next-test.true in omega (arith, k.small)

pub overflow_add-c : goal.overflow_add-c
overflow_add-c c = let k = safe _ _ c.requires.1 _ c.requires.0 _ _ c.requires.2 _ _ _ _ _ _ c.loop-next.invariant c.loop-next-test.true in omega (arith, k.corners, c.requires.1.fits.few)

pub overflow_sub-next : goal.overflow_sub-next
overflow_sub-next c = let k = safe _ _ c.requires.1 _ c.requires.0 _ _ c.requires.2 _ _ _ _ _ _ c.loop-next.invariant c.loop-next-test.true in omega (arith, k.is)

pub offset_bounds-order-f : goal.offset_bounds-order-f
offset_bounds-order-f c = let k = safe _ _ c.requires.1 _ c.requires.0 _ _ c.requires.2 _ _ _ _ _ _ c.loop-next.invariant c.loop-next-test.true in omega (arith, k.is, k.below, c.requires.1.fits.few)

pub bounds-order-f : goal.bounds-order-f
bounds-order-f c = let k = safe _ _ c.requires.1 _ c.requires.0 _ _ c.requires.2 _ _ _ _ _ _ c.loop-next.invariant c.loop-next-test.true in omega (arith, k.below, k.is, c.requires.1.long)

pub loop-next-smaller : goal.loop-next-smaller
loop-next-smaller c = let k = safe _ _ c.requires.1 _ c.requires.0 _ _ c.requires.2 _ _ _ _ _ _ c.loop-next.invariant c.loop-next-test.true in omega (arith, k.further, k.below, k.is)

pub loop-next-preserved : goal.loop-next-preserved
loop-next-preserved c =
    going_more _ _ c.requires.1 _ c.requires.0 _ _ c.requires.2 _ _ _ _ _ _ c.loop-next.invariant c.loop-next-test.true _ _ c.gather_face.ensures.0 c.gather_face.ensures.1

pub shape_of-own_sizes : goal.shape_of-own_sizes
shape_of-own_sizes c = c.loop-next.invariant.faces.size

pub shape_of-own_numbers : goal.shape_of-own_numbers
shape_of-own_numbers c = c.loop-next.invariant.numbers.size

pub returns : goal.returns
returns c =
    let g = c.loop-next.invariant in
    (gathered-all _ _ c.requires.1 _ c.requires.0 _ _ c.requires.2 _ _ _ _ _ _ g c.loop-next-test.false, g.faces, g.numbers)

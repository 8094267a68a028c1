-- Proof that `all_islands` meets its contract. The invariant: the islands below t are done. Assumes nothing.
use native.Mathlib.Omega.{arith}
use mathlib.Core.Path.{◌≡◌, refl, ◌∙◌, subst}
use lib.ListN.{length}
use Rattle.mesh.specs.Parts.{given}
use Rattle.apart.specs.Steps.{DoneBelow}
use Rattle.apart.proofs.Whole.{below_none, below_more, kept-none, kept_trans, room-kept}
use Rattle.apart.proofs.all_islands.Goals as goal

pub loop-t-init : goal.loop-t-init
loop-t-init c = (omega arith, below_none _ _ _ c.requires.0 _, refl, kept-none _ _ _ _)

pub one_island-requires : goal.one_island-requires
one_island-requires c =
    let v = c.loop-t.invariant in
    (omega (arith, c.loop-t-test.true), c.requires.0, c.requires.1, room-kept _ _ _ _ _ _ _ _ _ _ _ v.1.past.size v.2 v.3 c.requires.2)

pub loop-t-smaller : goal.loop-t-smaller
loop-t-smaller c = omega (arith, c.loop-t-test.true)

pub loop-t-preserved : goal.loop-t-preserved
loop-t-preserved c =
    let v = c.loop-t.invariant in
    let e = c.one_island.ensures in
    (omega (arith, c.loop-t-test.true), below_more _ _ _ c.requires.0 _ _ _ _ v.1 e.0, e.1 ∙ v.2, kept_trans _ _ _ _ _ _ _ _ _ _ v.3 e.2)

pub shape_of-own_sizes : goal.shape_of-own_sizes
shape_of-own_sizes c = let v = c.loop-t.invariant in v.3.sizes.size

pub shape_of-own_numbers : goal.shape_of-own_numbers
shape_of-own_numbers c = let v = c.loop-t.invariant in v.3.numbers.size

pub shape_of-own_frames : goal.shape_of-own_frames
shape_of-own_frames c = let v = c.loop-t.invariant in v.3.frames.size

pub shape_of-answer : goal.shape_of-answer
shape_of-answer c = let v = c.loop-t.invariant in v.1.past.size

pub shape_of-work : goal.shape_of-work
shape_of-work c = let v = c.loop-t.invariant in mathlib.Core.Path.ap length v.2

pub returns : goal.returns
returns c =
    let v = c.loop-t.invariant in
    let a = c.args in
    let e : c.loop-t.t ≡ length a.mesh.now.sizes.now = omega (arith, v.0, c.loop-t-test.false) in
    (subst (λ t. DoneBelow (given a.mesh.now) a.threshold t a.answer.now c.loop-t.answer) e v.1, v.2, v.3)

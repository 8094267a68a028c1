-- Proof that `pass` meets its contract. Assumes nothing.
use Rattle.std.proofs.Common.{refl}
use Rattle.mesh.specs.Parts.{given}
use native.Mathlib.Omega.{arith}
use lib.ListN.{length}
use Rattle.listing.proofs.Passes.{far-start, far-next, far-end, fits-room}
use Rattle.listing.proofs.pass.Goals as goal

pub loop-f-init : goal.loop-f-init
loop-f-init c = far-start _ _ _ _ _

pub overflow_cast-f : goal.overflow_cast-f
overflow_cast-f c = omega (arith, c.requires.0)

pub add_face-k-requires : goal.add_face-k-requires
add_face-k-requires c =
    let l = c.loop-f in
    let a = c.args in
    let lt = c.loop-f-test.true in
    (omega (arith, l.invariant.low, lt, c.requires.0), omega (arith, l.invariant.few, lt, c.requires.0), omega (arith, c.requires.1, l.invariant.added.only.size), fits-room a.rows a.want (given a.mesh.now) a.tris a.work.now l.work l.f l.base l.slot l.k l.invariant lt c.requires.2)

pub overflow_add-base : goal.overflow_add-base
overflow_add-base c = omega (arith, c.loop-f.invariant.low, c.requires.0, c.type_inv.size)

pub overflow_add-slot : goal.overflow_add-slot
overflow_add-slot c = omega (arith, c.loop-f.invariant.few, c.requires.0, c.slots_of.ensures.1)

pub loop-f-preserved : goal.loop-f-preserved
loop-f-preserved c =
    let l = c.loop-f in
    let a = c.args in
    far-next a.rows a.want (given a.mesh.now) a.tris a.work.now l.work l.f l.base l.slot l.k l.invariant c.loop-f-test.true _ _ _ c.slots_of.result refl (omega arith) c.slots_of.ensures.0 c.slots_of.ensures.1 c.add_face-k.ensures

pub shape_of-work : goal.shape_of-work
shape_of-work c = c.loop-f.invariant.added.only.size

pub returns : goal.returns
returns c = far-end _ _ _ _ _ _ _ _ _ _ c.loop-f.invariant c.loop-f-test.false

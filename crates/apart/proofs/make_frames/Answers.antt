-- Proof that `make_frames` meets its contract. Assumes nothing.
use native.Mathlib.Omega.{arith}
use Rattle.mesh.specs.Parts.{given}
use Rattle.laws.proofs.Verdict.{fine}
use Rattle.apart.specs.Call.{lists}
use Rattle.apart.proofs.Call.{known}
use Rattle.apart.proofs.Finishing.{long-enough, room-first, accepted-leaves}
use Rattle.apart.proofs.make_frames.Goals as goal

pub prepare-requires : goal.prepare-requires
prepare-requires c = ((known _ _ _ _ c.requires.0).0, (long-enough _ _ c.requires.1).labels, (long-enough _ _ c.requires.1).order, (fine _ c.requires.0).work-fits)

pub all_islands-requires : goal.all_islands-requires
all_islands-requires c =
    let e = c.prepare.ensures in
    (e.1, (known _ _ _ _ c.requires.0).1, room-first _ _ _ _ (lists c.args.labels.now c.args.order.now c.args.own_sizes.now c.args.own_numbers.now c.args.own_frames.now) (fine _ c.requires.0).answer-fits (fine _ c.requires.0).work-fits e.3 (long-enough _ _ c.requires.1))

pub clear_own-requires : goal.clear_own-requires
clear_own-requires c =
    let k = c.all_islands.ensures.2 in
    ((known _ _ _ _ c.requires.0).0.few, c.prepare.ensures.1.long, omega (arith, k.sizes.size, (long-enough _ _ c.requires.1).sizes), omega (arith, k.numbers.size, (long-enough _ _ c.requires.1).numbers), omega (arith, k.frames.size, (long-enough _ _ c.requires.1).frames))

pub shape_of-labels : goal.shape_of-labels
shape_of-labels c = c.prepare.auto.labels

pub returns : goal.returns
returns c =
    let a = c.args in
    let e = c.prepare.ensures in
    let f = c.all_islands.ensures in
    let g = c.clear_own.ensures in
    accepted-leaves (given a.mesh.now) a.threshold a.answer.now a.work.now (lists c.args.labels.now c.args.order.now c.args.own_sizes.now c.args.own_numbers.now c.args.own_frames.now) (fine _ c.requires.0).answer-fits (long-enough _ _ c.requires.1)
    _ _ _ _ _ _ _ _ _ _ _ _ _ (known _ _ _ _ c.requires.0).0.few c.slots_before.ensures.0 e.0 e.1 e.2 e.3 f.0 f.1 f.2 g.0 g.1 g.2 g.3

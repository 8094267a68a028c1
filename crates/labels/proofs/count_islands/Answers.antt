-- `labels::count_islands` meets its contract. The invariant: the count is that of the faces passed. Assumes nothing.
use native.Mathlib.Nat.{le_antisymm}
use native.Mathlib.Omega.{arith}
use mathlib.Core.Path.{ap, ◌∙◌}
use lib.ListN.{get_or}
use Rattle.labels.specs.Labels.{own_numbers}
use Rattle.labels.proofs.Counting.{own-few, own-none, own-more}
use Rattle.labels.proofs.count_islands.Goals as goal

pub loop-f-init : goal.loop-f-init
loop-f-init c = (own-none _, omega arith, c.requires.0, c.requires.1)

pub offset_bounds-labels-f : goal.offset_bounds-labels-f
offset_bounds-labels-f c = omega (arith, c.loop-f.invariant.1, c.loop-f.invariant.2, c.loop-f.invariant.3, c.loop-f-test)

pub counted-count-requires : goal.counted-count-requires
counted-count-requires c = let l = c.loop-f in omega (arith, l.invariant.0, own-few l.f (λ k. get_or c.args.labels.now k 0))

pub loop-f-preserved : goal.loop-f-preserved
loop-f-preserved c =
    let l = c.loop-f in
    (own-more l.f c.args.labels.now _ _ l.invariant.0 c.counted-count.ensures, omega arith, l.invariant.2, l.invariant.3)

pub returns : goal.returns
returns c =
    let l = c.loop-f in
    l.invariant.0 ∙ ap (λ n. own_numbers n (λ k. get_or c.args.labels.now k 0)) (le_antisymm l.invariant.1 (omega arith))

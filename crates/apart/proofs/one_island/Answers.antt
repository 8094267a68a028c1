-- Proof that `one_island` meets its contract: gathered, made, scattered. Assumes nothing.
use mathlib.Core.Path.{refl}
use Rattle.apart.proofs.Whole.{nothing_put, fit, work-same, kept, scene, done-of, kept-none}
use Rattle.apart.proofs.one_island.Goals as goal

pub returns-then-order-n-eq0 : goal.returns-then-order-n-eq0
returns-then-order-n-eq0 c = (nothing_put _ _ _ c.requires.1 _ c.requires.0 c.if-order-n-eq0.true _, refl, kept-none _ _ _ _)

pub make-requires : goal.make-requires
make-requires c = fit _ _ _ c.requires.1 c.requires.2 _ c.requires.0 _ _ _ _ _ c.requires.3 _ _ _ _ c.gather-taken.ensures.0 c.gather-taken.ensures.1 c.gather-taken.ensures.2

pub scatter-requires : goal.scatter-requires
scatter-requires c =
    (c.requires.1.fits.few, c.requires.0, c.requires.1.long, c.requires.3.answer, scene _ _ _ c.requires.1 c.requires.2 _ c.requires.0 _ _ _ _ _ c.requires.3 _ _ _ _ c.gather-taken.ensures.0 c.gather-taken.ensures.1 c.gather-taken.ensures.2 _ _ c.make.ensures.0 c.make.ensures.1)

pub returns : goal.returns
returns c =
    (done-of _ _ _ c.requires.1 c.requires.2 _ c.requires.0 _ _ _ _ _ c.requires.3 _ _ _ _ c.gather-taken.ensures.0 c.gather-taken.ensures.1 c.gather-taken.ensures.2 _ _ c.make.ensures.0 c.make.ensures.1 _ c.scatter.ensures, work-same _ _ _ c.requires.1 c.requires.2 _ c.requires.0 _ _ _ _ _ c.requires.3 _ _ _ _ c.gather-taken.ensures.0 c.gather-taken.ensures.1 c.gather-taken.ensures.2 _ _ c.make.ensures.0 c.make.ensures.1, kept _ _ _ c.requires.1 c.requires.2 _ c.requires.0 _ _ _ _ _ c.requires.3 _ _ _ _ c.gather-taken.ensures.0 c.gather-taken.ensures.1 c.gather-taken.ensures.2 _ _ c.make.ensures.0 c.make.ensures.1)

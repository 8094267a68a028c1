-- Proof that `list_face` meets its contract. Assumes nothing.
use mathlib.Core.Path.{refl}
use Rattle.islands.proofs.Sizes.{unused-of, used-of, used-three}
use Rattle.islands.proofs.list_face.Goals as goal

pub returns-then-slots_of-eq0 : goal.returns-then-slots_of-eq0
returns-then-slots_of-eq0 c = rw (unused-of _ _ c.slots_of.ensures.0 c.if-slots_of-eq0.true) (refl, refl)

pub add_face-requires : goal.add_face-requires
add_face-requires c =
    (c.requires.0, c.requires.1, c.requires.2, (used-three _ (used-of _ _ c.slots_of.ensures.0 c.if-slots_of-eq0.false)).0)

pub returns : goal.returns
returns c =
    rw (used-of _ _ c.slots_of.ensures.0 c.if-slots_of-eq0.false) (refl, c.add_face.ensures)

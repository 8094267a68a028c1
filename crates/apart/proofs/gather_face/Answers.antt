-- Proof that `gather_face` meets its contract: three copies, one into each part. Assumes nothing.
use mathlib.Core.Path.{refl}
use lib.Ieee.{nan}
use Rattle.apart.proofs.Gathering.{laid-is}
use Rattle.apart.proofs.gather_face.Goals as goal

pub returns : goal.returns
returns c =
    (refl, laid-is _ _ _ _ _ _ _ _ _ _ _ c.requires.4 (c.copy.ensures nan) (c.copy-2.ensures nan) (c.copy-3.ensures nan))

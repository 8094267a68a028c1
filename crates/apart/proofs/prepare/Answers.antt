-- Proof that `prepare` meets its contract. Assumes nothing.
use lib.ListN.{length}
use Rattle.mikktspace.proofs.Verdicts.{cleared-past}
use Rattle.apart.proofs.Preparing.{ready, order-past}
use Rattle.apart.proofs.prepare.Goals as goal

pub returns : goal.returns
returns c =
    let e = c.label.ensures in
    let b = c.start_faces.ensures in
    let d = c.link_faces.ensures in
    (e.0, ready _ _ _ _ _ _ e.0 b.1 d.1 c.requires.0 c.requires.2 b.0 d.0, order-past _ _ _ _ _ _ e.0 b.1 d.1, cleared-past (length c.args.mesh.now.sizes.now) c.args.work.now c.label.new.work _ e.2 c.clear_first.ensures)

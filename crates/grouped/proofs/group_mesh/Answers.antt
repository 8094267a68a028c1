-- `grouped::group_mesh` meets its contract. Assumes nothing.
use native.Mathlib.Omega.{arith}
use Rattle.mesh.specs.Parts.{given}
use Rattle.grouped.proofs.Linked.{left-room}
use Rattle.grouped.proofs.Grouped.{joined}
use Rattle.grouped.proofs.group_mesh.Goals as goal

pub group_sides-requires : goal.group_sides-requires
group_sides-requires c =
    let L = c.link_mesh-triangles.ensures in
    (omega (arith, (left-room _ _ _ _ _ L).0), omega (arith, c.requires.1, L.only.size), omega (arith, c.requires.0), λ r h. omega (arith, L.range r (omega (arith, h))))

pub returns : goal.returns
returns c =
    let a = c.args in
    joined (given a.mesh.now) c.link_mesh-triangles.result.sound c.link_mesh-triangles.result.all c.group_sides.result a.work.now _ _ c.link_mesh-triangles.ensures c.group_sides.ensures

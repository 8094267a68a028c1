-- `legacy::group_old_mesh` meets its contract. Assumes nothing.
use native.Mathlib.Omega.{arith}
use Rattle.legacy.proofs.Grouped.{old-room, grouped-old}
use Rattle.mesh.specs.Parts.{given}
use Rattle.legacy.proofs.group_old_mesh.Goals as goal

pub group_sides-requires : goal.group_sides-requires
group_sides-requires c =
    let L = c.link_old_mesh-triangles.ensures in
    (omega (arith, old-room _ _ _ _ _ L), omega (arith, c.requires.1, L.only.size), omega (arith, c.requires.0), L.range)

pub returns : goal.returns
returns c =
    let a = c.args in
    grouped-old (given a.mesh.now) c.link_old_mesh-triangles.result.sound c.link_old_mesh-triangles.result.all c.group_sides.result a.work.now _ _ c.link_old_mesh-triangles.ensures c.group_sides.ensures

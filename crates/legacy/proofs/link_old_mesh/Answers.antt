-- `legacy::link_old_mesh` meets its contract. Assumes nothing.
use native.Mathlib.Omega.{arith}
use Rattle.definition.specs.Handed.{corner_at}
use Rattle.legacy.proofs.Linked.{tags-few, left-old}
use Rattle.grouped.proofs.Linked.{sound-room}
use Rattle.laws.proofs.Laws.{some-triangle}
use Rattle.mesh.specs.Parts.{given}
use Rattle.legacy.proofs.link_old_mesh.Goals as goal

pub name_rows-requires : goal.name_rows-requires
name_rows-requires c =
    let a = c.args in
    let L = c.list_triangles-counts.ensures in
    (omega (arith, c.requires.1, L.only.size, c.merge_rows.ensures.only.size), omega (arith, L.count, L.fits, sound-room _ _ _ _ _ L), omega (arith, c.requires.0), λ r h. tags-few _ _ _ _ _ _ _ (omega arith) (omega (arith, c.requires.1, L.only.size)) L c.merge_rows.ensures (some-triangle (corner_at a.mesh.now.positions.now a.mesh.now.normals.now a.mesh.now.texture.now 0)) r h)

pub link_old_sides-requires : goal.link_old_sides-requires
link_old_sides-requires c =
    let L = c.list_triangles-counts.ensures in
    (omega (arith, sound-room _ _ _ _ _ L), omega (arith, c.requires.1, L.only.size, c.merge_rows.ensures.only.size, c.name_rows.ensures.only.size), omega (arith, c.requires.0))

pub returns : goal.returns
returns c =
    let a = c.args in
    let L = c.list_triangles-counts.ensures in
    left-old (given a.mesh.now) c.list_triangles-counts.result.sound c.list_triangles-counts.result.all a.work.now _ _ _ _ (omega (arith, c.requires.1, L.only.size)) _ (omega arith) L c.merge_rows.ensures c.name_rows.ensures (λ ss d n N S W G. c.link_old_sides.ensures.linked ss d (omega (arith, n)) N S W G) (λ r h. omega (arith, c.link_old_sides.ensures.range r (omega (arith, h)))) c.link_old_sides.ensures.only c.single.ensures.positions

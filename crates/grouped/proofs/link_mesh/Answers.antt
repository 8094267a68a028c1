-- `grouped::link_mesh` meets its contract. Assumes nothing.
use native.Mathlib.Omega.{arith}
use Rattle.mesh.specs.Parts.{given}
use Rattle.grouped.proofs.Linked.{sound-room, left}
use Rattle.grouped.proofs.link_mesh.Goals as goal

pub link_sides-requires : goal.link_sides-requires
link_sides-requires c =
    let L = c.list_triangles-counts.ensures in
    (omega (arith, sound-room _ _ _ _ _ L), omega (arith, c.requires.1, L.only.size, c.weld.ensures.0.only.size), omega (arith, c.requires.0))

pub returns : goal.returns
returns c =
    let a = c.args in
    left (given a.mesh.now) c.list_triangles-counts.result.sound c.list_triangles-counts.result.all a.work.now _ _ _ c.list_triangles-counts.ensures c.weld.ensures.0.only (λ sizes ys d n H. c.weld.ensures.1 sizes ys d (omega (arith, n)) H) (λ ss d n N S W. c.link_sides.ensures.linked ss d (omega (arith, n)) N S W) (λ r h. omega (arith, c.link_sides.ensures.range r (omega (arith, h)))) c.link_sides.ensures.only c.single.ensures.positions

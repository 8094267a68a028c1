-- `examine::decide` meets its contract. Assumes nothing.
use native.Mathlib.Omega.{arith}
use mathlib.Core.Path.{◌∙◌}
use Rattle.examine.proofs.Accepted.{known}
use Rattle.definition.specs.Handed.{corner_at}
use Rattle.laws.proofs.Laws.{some-triangle}
use Rattle.examine.proofs.Columns.{decides, cleared, linked-fit, sharp-left}
use Rattle.mesh.specs.Parts.{given}
use Rattle.examine.proofs.decide.Goals as goal

pub overflow_mul-faces : goal.overflow_mul-faces
overflow_mul-faces c = omega (arith, (known c.args.mesh.now _ c.requires).few)

pub link_mesh-counts-requires : goal.link_mesh-counts-requires
link_mesh-counts-requires c = let F = known c.args.mesh.now _ c.requires in (F.few, omega (arith, F.work-fits))

pub examine_all-o-requires : goal.examine_all-o-requires
examine_all-o-requires c =
    let t = c.args in
    let m = t.mesh.now in
    let F = known m _ c.requires in
    let K = c.link_mesh-counts.ensures in
    (linked-fit _ _ _ _ _ K, omega (arith, F.work-fits, K.only.size), omega (arith, F.few), sharp-left (given m) (some-triangle (corner_at m.positions.now m.normals.now m.texture.now 0)) _ _ t.work.now _ K F.good)

pub overflow_mul-faces-2 : goal.overflow_mul-faces-2
overflow_mul-faces-2 c = omega (arith, (known c.args.mesh.now _ c.requires).few)

pub clear_first-requires : goal.clear_first-requires
clear_first-requires c = omega (arith, (known c.args.mesh.now _ c.requires).work-fits, c.link_mesh-counts.ensures.only.size, c.examine_all-o.ensures.only.size)

pub returns : goal.returns
returns c =
    let t = c.args in
    let K = c.link_mesh-counts.ensures in
    let r = c.examine_all-o.ensures in
    record { decides = decides (given t.mesh.now) _ _ t.work.now _ t.links.now t.groups.now t.ways.now _ _ K (known t.mesh.now _ c.requires).good r.verdict; clears = cleared t.mesh.now.sizes.now t.work.now _ _ (r.only.rest ∙ K.only.rest) c.clear_first.ensures }

-- Proof that `add_face` meets its contract. Assumes nothing.
use native.Mathlib.Omega.{arith}
use Rattle.listing.proofs.Faces.{small_of, three-x, four-x, one-done, two-done, none_done, room-one, room-two, pieces-other}
use Rattle.listing.proofs.add_face.Goals as goal

pub add_one-requires : goal.add_one-requires
add_one-requires c =
    let a = c.args in
    let m = a.mesh.now in
    let K = three-x m.positions.now m.normals.now m.texture.now a.face a.base c.make-x.result _ _ _ a.size c.make-x.ensures c.kept_at-k0.ensures c.kept_at-k1.ensures c.kept_at-k2.ensures c.if-size-eq3.true in
    let small = small_of m.positions.now m.normals.now m.texture.now a.face a.base c.make-x.result K.1 in
    (room-one a.rows a.want m.positions.now m.normals.now m.texture.now a.face a.base a.slot _ _ a.tris K.0 c.requires.3, c.requires.2, small a.base c.requires.0, small a.slot c.requires.1)

pub returns-then-size-eq3 : goal.returns-then-size-eq3
returns-then-size-eq3 c =
    let a = c.args in
    let m = a.mesh.now in
    let K = three-x m.positions.now m.normals.now m.texture.now a.face a.base c.make-x.result _ _ _ a.size c.make-x.ensures c.kept_at-k0.ensures c.kept_at-k1.ensures c.kept_at-k2.ensures c.if-size-eq3.true in
    one-done a.rows a.want m.positions.now m.normals.now m.texture.now a.face a.base a.slot c.make-x.result _ a.tris c.add_one.result a.work.now _ K.0 K.1 c.add_one.ensures.0 c.add_one.ensures.1

pub overflow_add-base-then-size-eq4-2 : goal.overflow_add-base-then-size-eq4-2
overflow_add-base-then-size-eq4-2 c = omega (arith, c.requires.0)

pub add_one-k-requires : goal.add_one-k-requires
add_one-k-requires c =
    let a = c.args in
    let m = a.mesh.now in
    let K = four-x m.positions.now m.normals.now m.texture.now a.face a.base _ _ _ _ _ _ a.size c.quad.ensures c.corner_at-c0.ensures c.corner_at-c1.ensures c.corner_at-c2.ensures c.corner_at-c3.ensures c.if-size-eq4.true in
    let R = room-two a.rows a.want m.positions.now m.normals.now m.texture.now a.face a.base a.slot c.quad.result.first c.quad.result.second _ a.tris K.0 c.requires.3 in
    let small = small_of m.positions.now m.normals.now m.texture.now a.face a.base c.quad.result.first K.1.0 in
    (omega (arith, R), c.requires.2, small a.base c.requires.0, small a.slot c.requires.1)

pub add_one-requires-then-size-eq4 : goal.add_one-requires-then-size-eq4
add_one-requires-then-size-eq4 c =
    let a = c.args in
    let m = a.mesh.now in
    let K = four-x m.positions.now m.normals.now m.texture.now a.face a.base _ _ _ _ _ _ a.size c.quad.ensures c.corner_at-c0.ensures c.corner_at-c1.ensures c.corner_at-c2.ensures c.corner_at-c3.ensures c.if-size-eq4.true in
    let R = room-two a.rows a.want m.positions.now m.normals.now m.texture.now a.face a.base a.slot c.quad.result.first c.quad.result.second _ a.tris K.0 c.requires.3 in
    let small = small_of m.positions.now m.normals.now m.texture.now a.face a.base c.quad.result.second K.1.1 in
    (omega (arith, R, c.add_one-k.ensures.0), omega (arith, c.requires.2, c.add_one-k.auto.work), small a.base c.requires.0, small a.slot c.requires.1)

pub returns-then-size-eq4 : goal.returns-then-size-eq4
returns-then-size-eq4 c =
    let a = c.args in
    let m = a.mesh.now in
    let K = four-x m.positions.now m.normals.now m.texture.now a.face a.base _ _ _ _ _ _ a.size c.quad.ensures c.corner_at-c0.ensures c.corner_at-c1.ensures c.corner_at-c2.ensures c.corner_at-c3.ensures c.if-size-eq4.true in
    two-done a.rows a.want m.positions.now m.normals.now m.texture.now a.face a.base a.slot c.quad.result.first c.quad.result.second _ a.tris c.add_one-k.result c.add_one-then-size-eq4.result a.work.now _ _ K.0 K.1.0 K.1.1 c.add_one-k.ensures.0 c.add_one-k.ensures.1 c.add_one-then-size-eq4.ensures.0 c.add_one-then-size-eq4.ensures.1

pub returns : goal.returns
returns c =
    let a = c.args in
    let m = a.mesh.now in
    none_done a.rows a.want m.positions.now m.normals.now m.texture.now a.face a.base a.slot _ a.tris a.work.now (pieces-other m.positions.now m.normals.now m.texture.now a.face a.base a.size c.if-size-eq3.false c.if-size-eq4.false)

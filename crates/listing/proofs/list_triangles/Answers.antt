-- Proof that `list_triangles` meets its contract. Assumes nothing.
use native.Mathlib.Omega.{arith}
use Rattle.mesh.specs.Parts.{given}
use Rattle.listing.proofs.Whole.{room-first, room-second, listed}
use Rattle.listing.proofs.Pieces.{none-broken}
use Rattle.listing.proofs.list_triangles.Goals as goal

pub pass-sound-requires : goal.pass-sound-requires
pass-sound-requires c =
    let a = c.args in
    (c.requires.0, c.requires.1, room-first (given a.mesh.now))

pub returns-then-pieces_in-sound : goal.returns-then-pieces_in-sound
returns-then-pieces_in-sound c =
    let a = c.args in
    let none = none-broken (given a.mesh.now) c.pass-sound.result c.pieces_in.result _ c.pieces_in.ensures (omega (arith, c.if-pieces_in-sound.true)) c.pass-sound.ensures.count in
    listed (given a.mesh.now) c.pass-sound.result c.pass-sound.result a.work.now _ _ c.pass-sound.ensures none

pub pass-all-requires : goal.pass-all-requires
pass-all-requires c =
    let a = c.args in
    (c.requires.0, omega (arith, c.requires.1, c.pass-sound.ensures.only.size), room-second (given a.mesh.now) c.pass-sound.result c.pass-sound.ensures.count)

pub returns : goal.returns
returns c =
    let a = c.args in
    listed (given a.mesh.now) c.pass-sound.result c.pass-all.result a.work.now _ _ c.pass-sound.ensures c.pass-all.ensures

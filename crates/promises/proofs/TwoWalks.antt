-- Request E8's sentence, from the contracts of the two walks. Assumes nothing.
use mathlib.Core.Path.{sym}
use Rattle.table.specs.Columns.{rows_of}
use lib.ListN.{length}
use Rattle.definition.specs.Handed.{corner_at}
use Rattle.definition.specs.Frames.{triangles_of}
use Rattle.definition.specs.Step4Order.{sound}
use Rattle.definition.specs.Step5Links.{links}
use Rattle.laws.proofs.Closed.{links-sound}
use Rattle.laws.proofs.Laws.{some-triangle}
use Rattle.grouped.proofs.Grouped.{asked}
use Rattle.flat.proofs.Same as same
use Rattle.promises.specs.TwoWalks.{Promised, SameWords}

pub same_members : Promised
unfolding Promised
same_members mesh n m w l L ok u v groups members groups' members' A B =
    let rows = rows_of (length mesh.sizes) in
    let xs = triangles_of mesh in
    let d = some-triangle (corner_at mesh.positions mesh.normals mesh.texture 0) in
    let F = L.stands ok d in
    let Q = asked rows mesh xs d l F in
    let e = sym L.sound_count in
    let ls = links (sound xs) in
    let K = links-sound (sound xs) in
    let r = same.same_members rows (sound xs) d ls l u v groups groups' members members' F.names (A (sound xs) d ls K e F.names F.sharp Q) (B (sound xs) d ls K e F.names F.sharp Q) in
    record { count = r.0; member = r.1 }

pub same-words : SameWords
unfolding SameWords
same-words = same.same-words

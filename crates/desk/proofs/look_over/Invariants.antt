-- `desk::look_over` meets its contract. The invariant: the sums are those of the faces passed, and what was found, or else is found in the faces that are left, is what all of them give, for each of the two tests. Assumes nothing.
use Prim.Native.Nat.{◌*◌, ◌≤◌}
use mathlib.Core.Path.{◌≡◌}
use lib.ListN.{length, take}
use Rattle.definition.specs.Handed.{corner_count, slot_count}
use Rattle.definition.specs.Desk.{finite_corner, has_normal}
use Rattle.desk.proofs.Bad.{FacesGive}
use Rattle.desk.proofs.look_over.Given as goal

abbrev pub invariant-loop-size : goal.invariant-loop-size
invariant-loop-size l =
    let m = l.mesh in
    (length m.sizes.now ≤ 65536) × (l.corners ≤ 255 * l.size-index) × (l.slots ≤ 4 * l.size-index) × (l.corners ≡ corner_count (take l.size-index m.sizes.now)) × (l.slots ≡ slot_count (take l.size-index m.sizes.now))
    × FacesGive finite_corner m.positions.now m.normals.now m.texture.now m.sizes.now l.flaws.bad l.size-index l.corners
    × FacesGive has_normal m.positions.now m.normals.now m.texture.now m.sizes.now l.flaws.bare l.size-index l.corners

-- `mesh::corners_before` meets its contract. The invariant: the sum so far is that of the faces passed. Assumes nothing.
use Rattle.std.proofs.Common.{◌≡◌, ◌*◌, ◌≤◌, length, take}
use Rattle.definition.specs.Handed.{corner_count}
use Rattle.mesh.proofs.corners_before.Given as goal

abbrev pub invariant-loop-size : goal.invariant-loop-size
invariant-loop-size l = (l.sum ≡ corner_count (take l.size-index l.size-items)) × (l.sum ≤ 255 * l.size-index) × (length l.size-items ≤ 65536)

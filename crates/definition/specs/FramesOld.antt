-- Steps 1 to 9 of the old edition. Groundwork of request E13: no public call uses it yet. Definitions only.
use Rattle.std.specs.Prelude.{ℕ, ◌&&◌, List, map, eqb, Float}
use Rattle.std.proofs.Math.Option.{Option, none, some}
use Rattle.tangent.specs.declared.Reading.{Reading}
use Rattle.definition.specs.declared.Corner.{Corner}
use Rattle.definition.specs.declared.Kept.{Kept}
use Rattle.definition.specs.declared.Triangle.{Triangle}
use Rattle.lists.specs.Lists.{first}
use Rattle.definition.specs.Mesh.{Face, Spot, corner_of, slot_of}
use Rattle.definition.specs.Triangles.{usable, pieces, triangles}
use Rattle.definition.specs.Step4Order.{sound, broken, spots}
use Rattle.definition.specs.Step4Old.{merged}
use Rattle.definition.specs.Step5Old.{old_links}
use Rattle.definition.specs.Step6Groups.{marks}
use Rattle.definition.specs.Step7Sums.{Brought, brought_all}
use Rattle.definition.specs.Step9Copies.{final_of, nooks}
use Rattle.definition.specs.Frames.{numbered}

-- a corner as step 4 left it, where it was found
unfoldable pub seen_as : Kept → Option Spot → Kept
seen_as k none = k
seen_as k (some s) = record { which = k.which; corner = corner_of s }

-- a corner of face f as step 4 left it, among the corners of all triangles
unfoldable pub seen : List Spot → ℕ → Kept → Kept
seen sp f k = seen_as k (first (λ s. eqb s.tri.face f && eqb (slot_of s) k.which) sp)

-- the final readings of a face's slots. (Step 9 reads the positions as they were handed in; which sound corner a corner of a degenerate triangle is welded to is as step 4 left it.)
unfoldable pub old_readings : List Brought → List Triangle → List Spot → Face → List Reading
old_readings bs ss sp f =
    let ts = pieces f.number f.corners in
    map (λ k. final_of bs ss f.number ts (seen sp f.number k)) (nooks 0 (usable f.corners))

-- steps 1 to 9 at the threshold h
unfoldable pub old_frames : Float → List (List Corner) → List (List Reading)
old_frames h m =
    let ts = triangles (numbered 0 m) in
    let xs = merged (sound ts) (broken ts) in
    let ss = sound xs in
    let bs = brought_all h ss (marks ss (old_links ss)) in
    map (old_readings bs ss (spots xs)) (numbered 0 m)

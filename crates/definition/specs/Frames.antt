-- Steps 1 to 9: the readings of all slots of a mesh. Definitions only.
use Rattle.std.specs.Prelude.{ℕ, suc, List, [], ◌∷◌, map, Float}
use Rattle.tangent.specs.declared.Reading.{Reading}
use Rattle.definition.specs.declared.Corner.{Corner}
use Rattle.definition.specs.declared.Triangle.{Triangle}
use Rattle.definition.specs.Mesh.{Face}
use Rattle.definition.specs.Handed.{Handed, mesh_of}
use Rattle.definition.specs.Triangles.{triangles}
use Rattle.definition.specs.Step4Order.{sound}
use Rattle.definition.specs.Step5Links.{links}
use Rattle.definition.specs.Step6Groups.{marks}
use Rattle.definition.specs.Step7Sums.{Brought, brought_all}
use Rattle.definition.specs.Step9Copies.{face_readings}

-- a mesh's faces, numbered from n
unfoldable pub numbered : ℕ → List (List Corner) → List Face
numbered n [] = []
numbered n (c ∷ m) = record { number = n; corners = c } ∷ numbered (suc n) m

-- all triangles of a mesh that is handed in
abbrev pub triangles_of : Handed → List Triangle
triangles_of mesh = triangles (numbered 0 (mesh_of mesh))

-- the readings of every face's slots, from the sound triangles and what was brought
unfoldable pub frames_from : List Face → List Triangle → List Brought → List (List Reading)
frames_from fs ss bs = map (face_readings bs ss) fs

-- steps 1 to 9 at the threshold h, one after the other
unfoldable pub frames_of : Float → List Face → List (List Reading)
frames_of h fs =
    let ss = sound (triangles fs) in
    let bs = brought_all h ss (marks ss (links ss)) in
    frames_from fs ss bs

-- the same for faces that are numbered from 0
unfoldable pub frames : Float → List (List Corner) → List (List Reading)
frames h m = frames_of h (numbered 0 m)

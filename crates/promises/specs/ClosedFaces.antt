-- Any faces of a mesh that share no welded corner with its other faces keep their frames as a mesh of their own: one island, or several. (Demand 3 of faces within one mesh.) Definitions only.
use Rattle.std.specs.Prelude.{ℕ, ◌<◌, ◌≡◌, Bool, true, List, [], length, get_or, Float}
use Rattle.definition.specs.declared.Corner.{Corner}
use Rattle.definition.specs.Frames.{frames}
use Rattle.islands.specs.Islands.{island_of}
use Rattle.islands.specs.Together.{picked, rank, Closed}
use Rattle.definition.specs.Handed.{Call, mesh_of}
use Rattle.promises.specs.Calls.{face_answer}
use Rattle.promises.specs.PublicCall.{Made}

pub record Promised : Type 0 where
  -- of the definition: a face that passes a test which faces that touch pass together has the frames that it has among those that pass
  pub closed_frames : (h : Float) (q : ℕ → Bool) (m : List (List Corner)) → Closed q m → (f : ℕ) → f < length m → q f ≡ true → get_or (frames h m) f [] ≡ get_or (frames h (picked q 0 m)) (rank q 0 f) []
  -- of the public call: of two accepted calls at one threshold, the second mesh the faces of the first that pass, each such face has the same words in both answers
  pub closed_words : (q : ℕ → Bool) (a b : Call) (ma : Made a) (mb : Made b) → Closed q (mesh_of a.mesh) → mesh_of b.mesh ≡ picked q 0 (mesh_of a.mesh) → b.threshold ≡ a.threshold → ma.returned.number ≡ 0 → mb.returned.number ≡ 0 → (f : ℕ) → f < length a.mesh.sizes → q f ≡ true → face_answer a.mesh.sizes ma.answer f ≡ face_answer b.mesh.sizes mb.answer (rank q 0 f)
  -- whole islands, whichever, are such faces
  pub whole_islands : (m : List (List Corner)) (p : ℕ → Bool) → Closed (λ f. p (island_of m f)) m

-- Request E9: the islands' numbers by themselves, as a public call leaves them, for every input whatever. Definitions only.
use Rattle.std.specs.Prelude.{ℕ, zero, suc, ◌+◌, ◌*◌, ◌≡◌, cond, List, ◌++◌, eqb, ltb, length, drop, replicate, Result, Ok, Err}
use Rattle.std.proofs.Math.Option.{Option, none, some}
use Rattle.definition.specs.Limits.{work_words}
use Rattle.definition.specs.Handed.{mesh_of, Handed}
use Rattle.definition.specs.Desk.{Row}
use Rattle.desk.specs.declared.Refusal.{Refusal}
use Rattle.desk.specs.Verdict.{number_of, place_of}
use Rattle.mikktspace.specs.Alone.{desk_verdict}
use Rattle.islands.specs.Islands.{island_of}
use Rattle.islands.specs.Rows.{labelled}
use Rattle.islands.specs.Nine.{afterwards}
use Rattle.labels.specs.declared.Labelled.{Labelled}

-- the table, and then 9 where the list for the numbers has fewer than one a face
unfoldable pub labels_verdict : Handed → ℕ → ℕ → Option Row
labels_verdict mesh labels work = afterwards (desk_verdict mesh work) (ltb labels (length mesh.sizes))

-- how many of the faces before n have their own number: one of each island, its lowest
unfoldable pub own_numbers : ℕ → (ℕ → ℕ) → ℕ
own_numbers zero l = 0
own_numbers (suc n) l = let r = own_numbers n l in r + cond (eqb (l n) n) 1 0

-- how many islands a mesh has
unfoldable pub island_count : Handed → ℕ
island_count mesh = own_numbers (length mesh.sizes) (island_of (mesh_of mesh))

-- all that the call leaves behind: what it returns, and the two lists
pub record Leaving : Type 0 where
  pub number : ℕ
  pub place : ℕ
  pub islands : ℕ
  pub labels : List ℕ
  pub work : List ℕ

unfoldable pub left : Labelled → List ℕ → List ℕ → Leaving
left r labels work = record { number = r.number; place = r.place; islands = r.islands; labels = labels; work = work }

-- how many islands there are, or why the call was refused, as it is returned
unfoldable pub labelled_of : Result ℕ Refusal → Labelled
labelled_of (Ok n) = record { number = 0; place = 0; islands = n }
labelled_of (Err r) = record { number = number_of r; place = place_of r; islands = 0 }

-- acceptance: each face's number, and the work list as one call for frames leaves it
unfoldable pub accepted_labels : Handed → List ℕ → List ℕ → Leaving
accepted_labels mesh labels work =
    record {
      number = 0;
      place = 0;
      islands = island_count mesh;
      labels = labelled mesh labels;
      work = replicate (work_words * length mesh.sizes) 0 ++ drop (work_words * length mesh.sizes) work;
    }

-- a refusal returns its number and its place, and alters nothing
unfoldable pub answered : Option Row → Leaving → List ℕ → List ℕ → Leaving
answered none taken labels work = taken
answered (some r) taken labels work = record { number = r.number; place = r.place; islands = 0; labels = labels; work = work }

-- what the call leaves behind, for every input
unfoldable pub labels_outcome : Handed → List ℕ → List ℕ → Leaving
labels_outcome mesh labels work =
    answered (labels_verdict mesh (length labels) (length work)) (accepted_labels mesh labels work) labels work

-- The contract of the public call. Handed in: face sizes, positions, normals and texture coordinates; lent: the list for the numbers l and the work list w, which it leaves as m and v; returned: r.
abbrev pub Labels : Handed → List ℕ → List ℕ → Labelled → List ℕ → List ℕ → Type 0
Labels mesh l w r m v = left r m v ≡ labels_outcome mesh l w

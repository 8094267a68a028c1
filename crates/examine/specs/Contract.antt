-- What the two calls of request E10 promise, for every input whatever: face sizes, positions ps, normals ns, texture coordinates ts; links L, groups G, orientations O; the work list w. Definitions only.
use Rattle.std.specs.Prelude.{ℕ, ◌*◌, ◌≡◌, Bool, true, false, ◌||◌, List, ◌++◌, ltb, length, drop, replicate, Result, Ok, Err}
use Rattle.std.proofs.Math.Option.{Option, none, some}
use Rattle.std.proofs.lemmas.List.Edits.{sets}
use Rattle.table.specs.Table.{cell}
use Rattle.lists.specs.Loops.{list_of}
use Rattle.table.specs.Columns.{rows_of, orientation_column, link_column, group_column}
use Rattle.definition.specs.Handed.{Handed}
use Rattle.definition.specs.declared.Triangle.{Triangle}
use Rattle.definition.specs.Limits.{work_words}
use Rattle.definition.specs.Desk.{Row}
use Rattle.definition.specs.Frames.{triangles_of}
use Rattle.definition.specs.Step4Order.{sound}
use Rattle.mikktspace.specs.Alone.{desk_verdict}
use Rattle.desk.specs.declared.Refusal.{Refusal}
use Rattle.desk.specs.Verdict.{number_of, place_of}
use Rattle.grouped.specs.declared.MeshCounts.{MeshCounts}
use Rattle.grouped.specs.Grouped.{LeftBySix}
use Rattle.asked.specs.Groups.{Connected}
use Rattle.asked.specs.Meaning.{Examines as On}
use Rattle.examine.specs.declared.Examined.{Examined}
use Rattle.examine.specs.declared.Owned.{Owned}

-- what the desk says, asked with a threshold of 0 and as long an answer list as there can be; the work list has so many words
abbrev pub refusal : Handed → ℕ → Option Row
refusal mesh work = desk_verdict mesh work

abbrev pub sound_of : Handed → List Triangle
sound_of mesh = sound (triangles_of mesh)

-- the work list with its first 128 words a face set to zero
abbrev pub cleared_for : List ℕ → List ℕ → List ℕ
cleared_for sizes w = replicate (work_words * length sizes) 0 ++ drop (work_words * length sizes) w

-- ---- the examiner

-- number and place are the verdict on the lists L, G and O of the sound triangles ss; d is any triangle, and stands for numbers past the last. Where the verdict is 0 every group is connected
pub record Decides (ss : List Triangle) (L G O : List ℕ) (number place : ℕ) : Type 0 where
  pub verdict : (d : Triangle) → On ss d L G O number place
  pub connected : number ≡ 0 → Connected (length ss) L G

-- a refusal: its number and place, nothing is altered
pub record Refused (x : Row) (w : List ℕ) (r : Examined) (u : List ℕ) : Type 0 where
  pub number : r.refusal ≡ x.number
  pub none : r.objection ≡ 0
  pub place : r.place ≡ x.place
  pub work : u ≡ w

-- no refusal: the verdict, and the work list is cleared
pub record Decided (mesh : Handed) (L G O w : List ℕ) (r : Examined) (u : List ℕ) : Type 0 where
  pub number : r.refusal ≡ 0
  pub decides : Decides (sound_of mesh) L G O r.objection r.place
  pub work : u ≡ cleared_for mesh.sizes w

-- the contract of `examine`, which returns r and leaves the work list as u
pub record Examines (mesh : Handed) (L G O w : List ℕ) (r : Examined) (u : List ℕ) : Type 0 where
  pub refused : (x : Row) → refusal mesh (length w) ≡ some x → Refused x w r u
  pub decided : refusal mesh (length w) ≡ none → Decided mesh L G O w r u

-- ---- our own lists

-- 9: a list of links or groups has less than six words a face, or one of orientations less than two
unfoldable pub too_short : ℕ → ℕ → ℕ → ℕ → Bool
too_short faces links groups orientations = ltb links (6 * faces) || ltb groups (6 * faces) || ltb orientations (2 * faces)

-- how many triangles are sound, or why nothing was handed out, as the call returns it
unfoldable pub owned_of : Result ℕ Refusal → Owned
owned_of (Ok n) = record { number = 0; place = 0; sound = n }
owned_of (Err r) = record { number = number_of r; place = place_of r; sound = 0 }

-- the words of a column at the rows below n, at the front of a list
abbrev pub front : ℕ → ℕ → ℕ → List ℕ → List ℕ → List ℕ
front rows k n v list = sets list 0 (list_of n (λ i. cell rows k i v))

-- the lists are what steps 1 to 6 leave in the columns of the work list, from w to v, before it is cleared
pub record HandedOut (mesh : Handed) (L G O w : List ℕ) (n : ℕ) (L' G' O' u : List ℕ) : Type 0 where
  pub counts : MeshCounts
  pub v : List ℕ
  pub left : LeftBySix mesh counts w v
  pub sound : n ≡ counts.sound
  pub links : L' ≡ front (rows_of (length mesh.sizes)) link_column (3 * counts.sound) v L
  pub groups : G' ≡ front (rows_of (length mesh.sizes)) group_column (3 * counts.sound) v G
  pub ways : O' ≡ front (rows_of (length mesh.sizes)) orientation_column counts.sound v O
  pub work : u ≡ cleared_for mesh.sizes w

-- a refusal of this number and place: nothing is altered
pub record Withheld (number place : ℕ) (L G O w : List ℕ) (r : Owned) (L' G' O' u : List ℕ) : Type 0 where
  pub is : r ≡ record { number = number; place = place; sound = 0 }
  pub links : L' ≡ L
  pub groups : G' ≡ G
  pub ways : O' ≡ O
  pub work : u ≡ w

-- acceptance: 0, 0 and the number of sound triangles
pub record Given (mesh : Handed) (L G O w : List ℕ) (r : Owned) (L' G' O' u : List ℕ) : Type 0 where
  pub number : r.number ≡ 0
  pub place : r.place ≡ 0
  pub handed : HandedOut mesh L G O w r.sound L' G' O' u

-- the contract of `own_links`, which returns r and leaves the lists as L', G', O' and u
pub record Hands (mesh : Handed) (L G O w : List ℕ) (r : Owned) (L' G' O' u : List ℕ) : Type 0 where
  pub refused : (x : Row) → refusal mesh (length w) ≡ some x → Withheld x.number x.place L G O w r L' G' O' u
  pub short : refusal mesh (length w) ≡ none → too_short (length mesh.sizes) (length L) (length G) (length O) ≡ true → Withheld 9 0 L G O w r L' G' O' u
  pub given : refusal mesh (length w) ≡ none → too_short (length mesh.sizes) (length L) (length G) (length O) ≡ false → Given mesh L G O w r L' G' O' u

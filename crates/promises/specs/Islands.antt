-- Request E9, 'The mesh in islands' (crate apart; dokphalun_frames_by_islands of the archive): what is promised of whatever its contract allows. Definitions only.
use Rattle.std.specs.Prelude.{ℕ, ◌*◌, ◌≤◌, ◌<◌, ◌≡◌, true, false, List, length, get_or}
use Rattle.definition.specs.Outcome.{Result}
use Rattle.mikktspace.specs.declared.Outcome.{Outcome}
use Rattle.mikktspace.specs.Contract.{left}
use Rattle.islands.specs.Islands.{Given}
use Rattle.apart.specs.Call.{Own, short, own_after, Contract}
use Rattle.definition.specs.Handed.{Call, mesh_of}
use Rattle.promises.specs.Calls.{leaves}

-- a call by islands that was made, with lists of its own, o: what it returned, and the lists after it, as its contract allows
pub record IslandsMade (x : Call) (o : Own) : Type 0 where
  pub returned : Outcome
  pub answer : List ℕ
  pub work : List ℕ
  pub own : Own
  pub meets : Contract x o returned answer work own

-- all that it left behind, its own lists apart
abbrev pub remains : {x : Call} {o : Own} → IslandsMade x o → Result
remains m = left m.returned m.answer m.work

-- how many faces there are
abbrev pub faces_of : Call → ℕ
faces_of x = length x.mesh.sizes

-- each list of its own has n entries
pub record Entries (n : ℕ) (o : Own) : Type 0 where
  pub labels : n ≤ length o.labels
  pub order : n ≤ length o.order
  pub sizes : n ≤ length o.sizes
  pub numbers : n ≤ length o.numbers
  pub frames : n ≤ length o.frames

pub record Promised : Type 0 where
  -- 'The finished list is the same, word for word, as from one call', and so is all else that one call leaves, refusals included
  pub same : (x : Call) (o : Own) (m : IslandsMade x o) → short (faces_of x) o ≡ false → remains m ≡ leaves x
  -- 'It gives every such face the lowest face number of its island, and others FFFFFFFF'
  pub labelled : (x : Call) (o : Own) (m : IslandsMade x o) → m.returned.number ≡ 0 → (f : ℕ) → f < faces_of x → Given (mesh_of x.mesh) f (get_or m.own.labels f 0)
  -- and there is only one such number
  pub one_label : (x : Call) (f a b : ℕ) → Given (mesh_of x.mesh) f a → Given (mesh_of x.mesh) f b → a ≡ b
  -- 'A refusal for the whole mesh is found before the first island and given as the table says': its own lists do not matter then, and are as they were
  pub table_first : (x : Call) (o : Own) (m : IslandsMade x o) → ((leaves x).number ≡ 0 → ⊥) → (remains m ≡ leaves x) × (m.own ≡ o)
  -- 'lists of its own that are too short are refused with 9, after all others', and nothing is altered
  pub nine : (x : Call) (o : Own) (m : IslandsMade x o) → (leaves x).number ≡ 0 → short (faces_of x) o ≡ true → (remains m ≡ record { number = 9; place = 0; slots = 0; answer = x.answer; work = x.work }) × (m.own ≡ o)
  -- 'long enough lists are never refused with 9'
  pub never_nine : (x : Call) (o : Own) (m : IslandsMade x o) → short (faces_of x) o ≡ false → m.returned.number ≡ 9 → ⊥
  -- 'which for each such list is at most 128 entries a face of the whole mesh'
  pub enough : (x : Call) (o : Own) → Entries (128 * faces_of x) o → short (faces_of x) o ≡ false
  -- after acceptance its own lists hold the faces' numbers, zeros wherever it worked, and what they held past that
  pub cleared : (x : Call) (o : Own) (m : IslandsMade x o) → m.returned.number ≡ 0 → m.own ≡ own_after x.mesh o
  -- 'Any pair of outcomes satisfying it is shown identical'
  pub determined : (x : Call) (o : Own) (m n : IslandsMade x o) → (m.returned ≡ n.returned) × (m.answer ≡ n.answer) × (m.work ≡ n.work) × (m.own ≡ n.own)

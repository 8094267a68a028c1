-- Request E9, the islands' numbers by themselves (crate labels; dokphalun_labels of the archive): what is promised of whatever its contract allows. Definitions only.
use Rattle.std.specs.Prelude.{ℕ, ◌<◌, ◌≡◌, true, List, length, get_or}
use Rattle.islands.specs.Islands.{counted, Given}
use Rattle.labels.specs.declared.Labelled.{Labelled}
use Rattle.labels.specs.Labels.{own_numbers, Labels}
use Rattle.definition.specs.Handed.{Handed, mesh_of}

-- a call that was made, with the list for the numbers l and the work list w: what it returned, and both lists after it, as its contract allows
pub record LabelsMade (x : Handed) (l w : List ℕ) : Type 0 where
  pub returned : Labelled
  pub labels : List ℕ
  pub work : List ℕ
  pub meets : Labels x l w returned labels work

-- the number that face f is given
abbrev pub number_of : {x : Handed} {l w : List ℕ} → LabelsMade x l w → ℕ → ℕ
number_of m f = get_or m.labels f 0

pub record Promised : Type 0 where
  -- 'It gives every such face the lowest face number of its island, and others FFFFFFFF'
  pub labelled : (x : Handed) (l w : List ℕ) (m : LabelsMade x l w) → m.returned.number ≡ 0 → (f : ℕ) → f < length x.sizes → Given (mesh_of x) f (number_of m f)
  -- the count that is returned is that of the faces with their own number,
  pub counts : (x : Handed) (l w : List ℕ) (m : LabelsMade x l w) → m.returned.number ≡ 0 → m.returned.islands ≡ own_numbers (length x.sizes) (number_of m)
  -- of which each island has one: the face whose number the others have
  pub one_each : (x : Handed) (f n : ℕ) → counted (mesh_of x) f ≡ true → Given (mesh_of x) f n → Given (mesh_of x) n n
  -- a refusal alters neither list
  pub refused : (x : Handed) (l w : List ℕ) (m : LabelsMade x l w) → (m.returned.number ≡ 0 → ⊥) → (m.returned.islands ≡ 0) × (m.labels ≡ l) × (m.work ≡ w)
  -- any two outcomes that the contract allows are equal
  pub determined : (x : Handed) (l w : List ℕ) (m n : LabelsMade x l w) → (m.returned ≡ n.returned) × (m.labels ≡ n.labels) × (m.work ≡ n.work)

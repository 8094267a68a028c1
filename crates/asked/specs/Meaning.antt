-- Request E10 of the sound triangles ss themselves, of which d stands for numbers past the last: L, G and O are the words handed in, three links and three groups a triangle and one orientation, in triangle and corner order. Definitions only.
use Rattle.std.specs.Prelude.{ℕ, suc, ◌*◌, ◌≤◌, ◌<◌, ◌≡◌, true, false, List, length, get_or}
use Rattle.tangent.specs.Slot.{flag}
use Rattle.definition.specs.declared.Triangle.{Triangle}
use Rattle.definition.specs.Mesh.{Third, after, before, corner_of}
use Rattle.definition.specs.Step4Order.{welded}
use Rattle.definition.specs.Step5Links.{opposite}
use Rattle.view.specs.Rows.{row, spot_at, spot_row}
use Rattle.asked.specs.Objections.{Decided}

-- side i of triangle t is linked with side j of triangle u
abbrev pub Linked : List ℕ → ℕ → Third → ℕ → Third → Type 0
Linked L t i u j = get_or L (row t i) 0 ≡ suc (row u j)

-- side i of triangle t is unlinked
abbrev pub Unlinked : List ℕ → ℕ → Third → Type 0
Unlinked L t i = get_or L (row t i) 0 ≡ 0

-- 'It accepts links exactly if each is mutual, joins sides with the same two welded ends run opposite ways, no side is linked twice, and no two such unlinked sides are left over.'
pub record LinksAccepted (ss : List Triangle) (d : Triangle) (L : List ℕ) : Type 0 where
  pub long : length L ≡ 3 * length ss
  pub names : (t : ℕ) (i : Third) → t < length ss → get_or L (row t i) 0 ≤ 3 * length ss
  pub mutually : (t u : ℕ) (i j : Third) → t < length ss → u < length ss → Linked L t i u j → Linked L u j t i
  pub across : (t u : ℕ) (i j : Third) → t < length ss → u < length ss → Linked L t i u j → opposite (spot_at ss d t i) (spot_at ss d u j) ≡ true
  pub once : (t u v : ℕ) (i j k : Third) → t < length ss → u < length ss → v < length ss → Linked L t i v k → Linked L u j v k → row t i ≡ row u j
  pub none_left : (t u : ℕ) (i j : Third) → t < length ss → u < length ss → Unlinked L t i → Unlinked L u j → opposite (spot_at ss d t i) (spot_at ss d u j) ≡ true → ⊥

-- corner i of triangle t and corner j of triangle u are in one group. (A corner has one word: 'each sound corner is in at most one group'.)
pub record OneGroup (G : List ℕ) (t : ℕ) (i : Third) (u : ℕ) (j : Third) : Type 0 where
  pub same : get_or G (row t i) 0 ≡ get_or G (row u j) 0
  pub some : get_or G (row t i) 0 ≡ 0 → ⊥

-- from a corner over a linked side that ends in it to the same corner beyond
pub data Over (L : List ℕ) (t : ℕ) (i : Third) : ℕ → Third → Type 0 where
  leaving : (u : ℕ) (j : Third) → Linked L t i u j → Over L t i u (after j)
  entering : (u : ℕ) (j : Third) → Linked L t (before i) u j → Over L t i u j

-- a chain of members of one group, each over a linked side from the one before
pub data Connects (n : ℕ) (L G : List ℕ) (t : ℕ) (i : Third) : ℕ → Third → Type 0 where
  here : Connects n L G t i t i
  on : (u v : ℕ) (j k : Third) → Connects n L G t i u j → u < n → v < n → Over L u j v k → OneGroup G u j v k → Connects n L G t i v k

-- 'It accepts groups exactly if ..'
pub record GroupsAccepted (ss : List Triangle) (d : Triangle) (L G O : List ℕ) : Type 0 where
  pub long : (length G ≡ 3 * length ss) × (length O ≡ length ss)
  pub flags : (t : ℕ) → t < length ss → get_or O t 0 ≤ 1
  pub one_corner : (t u : ℕ) (i j : Third) → t < length ss → u < length ss → OneGroup G t i u j → welded (corner_of (spot_at ss d t i)) (corner_of (spot_at ss d u j)) ≡ true
  pub one_way : (t u : ℕ) (i j : Third) → t < length ss → u < length ss → OneGroup G t i u j → get_or O t 0 ≡ get_or O u 0
  pub some : (t : ℕ) (i : Third) → t < length ss → (get_or ss t d).any ≡ false → get_or G (row t i) 0 ≡ 0 → ⊥
  pub keeps : (t : ℕ) → t < length ss → (get_or ss t d).any ≡ false → get_or O t 0 ≡ flag (get_or ss t d).orientation
  pub one_group : (t u : ℕ) (i j : Third) → t < length ss → u < length ss → Linked L t i u j → (get_or ss t d).any ≡ false → (get_or ss u d).any ≡ false → get_or O t 0 ≡ get_or O u 0 → OneGroup G t i u (after j) × OneGroup G t (after i) u j
  pub connected : (t u : ℕ) (i j : Third) → t < length ss → u < length ss → OneGroup G t i u j → Connects (length ss) L G t i u j

-- ---- the same triangles by the rows of their corners

-- the corners at rows r and q are welded
abbrev pub Same : List Triangle → Triangle → ℕ → ℕ → Type 0
Same ss d r q = welded (corner_of (spot_row ss d r)) (corner_of (spot_row ss d q)) ≡ true

-- whether triangle t is `group_with_any`: 1, and else 0
abbrev pub any_of : List Triangle → Triangle → ℕ → ℕ
any_of ss d t = flag (get_or ss t d).any

-- its orientation in step 3
abbrev pub way_of : List Triangle → Triangle → ℕ → ℕ
way_of ss d t = flag (get_or ss t d).orientation

-- the verdict on the lists L, G and O: its number and its place
abbrev pub Examines : List Triangle → Triangle → List ℕ → List ℕ → List ℕ → ℕ → ℕ → Type 0
Examines ss d L G O number place = Decided (length ss) (Same ss d) (any_of ss d) (way_of ss d) L G O number place

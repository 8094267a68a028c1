-- Somebody else's groups and orientations, request E10: what is asked of them, and the objections. n sound triangles; same: the corners at two rows are welded; any, way: of a triangle, whether it is `group_with_any` (0: it isn't) and its orientation in step 3; L, G, O the words handed in: links, groups, orientations. Definitions only.
use Rattle.std.specs.Prelude.{ℕ, ◌*◌, ◌/◌, ◌≤◌, ◌<◌, ◌≡◌, Bool, true, false, List, get_or}
use Rattle.neighbors.specs.Sides.{end_row}
use Rattle.asked.specs.Links.{Leads}

-- the number of the group of the corner at row r; 0: in none. (A corner has one word, so it is in at most one group.)
abbrev pub group_word : List ℕ → ℕ → ℕ
group_word G r = get_or G r 0

-- the orientation handed in of the triangle of the corner at row r
abbrev pub way_word : List ℕ → ℕ → ℕ
way_word O r = get_or O (r / 3) 0

-- the corners at rows r and q are in one group
pub record Together (G : List ℕ) (r q : ℕ) : Type 0 where
  pub same : group_word G r ≡ group_word G q
  pub some : group_word G r ≡ 0 → ⊥

-- from a corner over a linked side that ends in it, to the same corner beyond: over the side that runs from it, to where the side beyond ends (false); over the side e that ends in it, to where the side beyond runs from (true)
pub data Way (L : List ℕ) : Bool → ℕ → ℕ → Type 0 where
  after : (r q : ℕ) → Leads L r q → Way L false r (end_row q)
  before : (e q : ℕ) → Leads L e q → Way L true (end_row e) q

-- a chain of members of one group of n triangles, each over a linked side from the one before
pub data Chain (n : ℕ) (L G : List ℕ) (r : ℕ) : ℕ → Type 0 where
  here : Chain n L G r r
  on : (b : Bool) (q p : ℕ) → Chain n L G r q → q < 3 * n → Way L b q p → Together G q p → Chain n L G r p

-- 'every group is connected over linked sides that end in its corner'
abbrev pub Connected : ℕ → List ℕ → List ℕ → Type 0
Connected n L G = (r q : ℕ) → r < 3 * n → q < 3 * n → Together G r q → Chain n L G r q

-- 'It accepts groups exactly if ..'
pub record GroupsFit (n : ℕ) (same : ℕ → ℕ → Type 0) (any way : ℕ → ℕ) (L G O : List ℕ) : Type 0 where
  -- an orientation is 0 or 1
  pub flags : (t : ℕ) → t < n → get_or O t 0 ≤ 1
  -- 'all members share one welded corner and one orientation'
  pub one_corner : (r q : ℕ) → r < 3 * n → q < 3 * n → Together G r q → same r q
  pub one_way : (r q : ℕ) → r < 3 * n → q < 3 * n → Together G r q → way_word O r ≡ way_word O q
  -- 'each corner of a triangle that isn't `group_with_any` is in exactly one'
  pub some : (r : ℕ) → r < 3 * n → any (r / 3) ≡ 0 → group_word G r ≡ 0 → ⊥
  -- 'such triangles keep the orientation of step 3'
  pub keeps : (t : ℕ) → t < n → any t ≡ 0 → get_or O t 0 ≡ way t
  -- 'two of them with one orientation and a linked side have each end of that side in one group'
  pub one_group : (r q : ℕ) → r < 3 * n → Leads L r q → any (r / 3) ≡ 0 → any (q / 3) ≡ 0 → way_word O r ≡ way_word O q → Together G r (end_row q) × Together G (end_row r) q
  -- 'every group is connected over linked sides that end in its corner'
  pub connected : Connected n L G

-- ---- the objections

-- 6, of a triangle: its orientation is neither 0 nor 1
abbrev pub NoFlag : List ℕ → ℕ → Type 0
NoFlag O t = 1 < get_or O t 0

-- 7, of a triangle that isn't `group_with_any`: it has not the orientation of step 3
pub record Turned (any way : ℕ → ℕ) (O : List ℕ) (t : ℕ) : Type 0 where
  pub firm : any t ≡ 0
  pub differs : get_or O t 0 ≡ way t → ⊥

-- 8, of a corner of such a triangle: it is in no group
pub record Loose (any : ℕ → ℕ) (G : List ℕ) (r : ℕ) : Type 0 where
  pub firm : any (r / 3) ≡ 0
  pub free : group_word G r ≡ 0

-- 9 and 10, of a corner: one at a lower row of its group is not as it is: not welded with it (9), of another orientation (10)
pub record Unlike (alike : ℕ → ℕ → Type 0) (G : List ℕ) (r : ℕ) : Type 0 where
  pub fellow : ℕ
  pub earlier : fellow < r
  pub together : Together G fellow r
  pub differs : alike fellow r → ⊥

-- 11, of a linked side between two such triangles of one orientation: one of its ends is in two groups
pub record Parted (n : ℕ) (any : ℕ → ℕ) (L G O : List ℕ) (r : ℕ) : Type 0 where
  pub far : ℕ
  pub below : far < 3 * n
  pub leads : Leads L r far
  pub near_firm : any (r / 3) ≡ 0
  pub far_firm : any (far / 3) ≡ 0
  pub same : way_word O r ≡ way_word O far
  pub parted : Together G r (end_row far) × Together G (end_row r) far → ⊥

-- 12, of a corner: no chain of its group leads to it from one at a lower row
pub record Severed (n : ℕ) (L G : List ℕ) (r : ℕ) : Type 0 where
  pub fellow : ℕ
  pub earlier : fellow < r
  pub together : Together G fellow r
  pub severed : Chain n L G fellow r → ⊥

-- The walk round a corner that finds out whether a group is connected: first one way from its lowest row, then the other. M: the corner at a row is marked. Definitions only.
use Rattle.std.specs.Prelude.{ℕ, ◌+◌, ◌*◌, ◌≤◌, ◌<◌, ◌≡◌, Bool, true, false, not, List, Option, MatchOption}
use Rattle.lists.specs.Zeros.{zeros}
use Rattle.table.specs.Table.{cell, column}
use Rattle.table.specs.Columns.{next_column, head_column}
use Rattle.asked.specs.Lowest.{Lowest}
use Rattle.asked.specs.Links.{Equal, LinksFit}
use Rattle.asked.specs.Groups.{group_word, Together, Way, Chain, Severed}

-- one more is marked: x
pub record Adds (M N : ℕ → Type 0) (x : ℕ) : Type 0 where
  pub keeps : (r : ℕ) → M r → N r
  pub adds : N x
  pub only : (r : ℕ) → (r ≡ x → ⊥) → N r → M r

-- y is where the way b leads from x, if that is an unmarked corner of x's group, and 3n where there is none
pub record NextIs (n : ℕ) (L G : List ℕ) (M : ℕ → Type 0) (b : Bool) (x y : ℕ) : Type 0 where
  pub low : y ≤ 3 * n
  pub ahead : (p : ℕ) → Way L b x p → Together G x p → (p ≡ y → ⊥) → M p
  pub way : y < 3 * n → Way L b x y
  pub together : y < 3 * n → Together G x y
  pub fresh : y < 3 * n → M y → ⊥

-- a member of which the way b leads to x
pub record Comes (n : ℕ) (L G : List ℕ) (M : ℕ → Type 0) (b : Bool) (f x : ℕ) : Type 0 where
  pub member : ℕ
  pub below : member < 3 * n
  pub is-marked : M member
  pub with_first : Together G f member
  pub way : Way L b member x
  pub together : Together G member x

-- the walk from f the way b, before x is marked: M₀ were marked before the group was begun; X: of which the other way is still to go
pub record Going (n : ℕ) (L G : List ℕ) (M₀ M X : ℕ → Type 0) (b : Bool) (f x : ℕ) : Type 0 where
  pub kept : (q : ℕ) → M₀ q → M q
  pub other : (q : ℕ) → M q → (Together G f q → ⊥) → M₀ q
  pub first : M f
  -- what is marked of the group has been left, but for x, and the other way but for X
  pub ahead : (q p : ℕ) → q < 3 * n → M q → Together G f q → Way L b q p → Together G q p → (p ≡ x → ⊥) → M p
  pub behind : (q p : ℕ) → q < 3 * n → M q → Together G f q → (X q → ⊥) → Way L (not b) q p → Together G q p → M p
  pub from : x < 3 * n → Comes n L G M b f x
  -- a chain leads to it
  pub chains : (q : ℕ) → q < 3 * n → M q → Together G f q → Chain n L G f q

-- all groups whose lowest row is below r are walked
pub record Walked (n : ℕ) (L G : List ℕ) (M : ℕ → Type 0) (r : ℕ) : Type 0 where
  -- no way leaves the marked ones within a group
  pub closed : (b : Bool) (q p : ℕ) → q < 3 * n → M q → Way L b q p → Together G q p → M p
  -- a chain leads from each to each of its group
  pub one : (q e : ℕ) → q < 3 * n → e < 3 * n → M q → M e → Together G q e → Chain n L G q e
  -- all members below r are marked
  pub done : (q : ℕ) → q < r → (group_word G q ≡ 0 → ⊥) → M q
  -- and none of a group that has no member below r
  pub begun : (q : ℕ) → q < 3 * n → M q → ((e : ℕ) → e < r → Together G e q → ⊥) → ⊥

-- ---- in the columns

-- the corner at row r is marked
abbrev pub Marked : ℕ → List ℕ → ℕ → Type 0
Marked rows w r = cell rows next_column r w ≡ 0 → ⊥

-- y is where the way b leads from x, if it leads anywhere
abbrev pub WayTo : ℕ → List ℕ → Bool → ℕ → Option ℕ → Type 0
WayTo n L b x y = MatchOption y ((p : ℕ) → Way L b x p → ⊥) (λ p. (p < 3 * n) × Way L b x p)

-- while the one way is gone the other is still to go from f
abbrev pub Still : Bool → ℕ → ℕ → Type 0
Still b f q = (b ≡ false) × (q ≡ f)

-- the walk in the columns, from the list w₀ before the group was begun to w
abbrev pub GoingIn : ℕ → ℕ → List ℕ → List ℕ → List ℕ → List ℕ → Bool → ℕ → ℕ → Type 0
GoingIn rows n L G w₀ w b f x = Going n L G (Marked rows w₀) (Marked rows w) (Still b f) b f x

-- the walk goes on from x in w to y in u, whatever group it is of
pub record Goes (rows n : ℕ) (L G : List ℕ) (b : Bool) (x y : ℕ) (w u : List ℕ) : Type 0 where
  pub goes : (vertex : ℕ → ℕ) (w₀ : List ℕ) (f : ℕ) → LinksFit (3 * n) (Equal vertex) L → GoingIn rows n L G w₀ w b f x → GoingIn rows n L G w₀ u b f y

-- a group whose lowest row is f is walked
pub record WalksGroup (rows n : ℕ) (L G : List ℕ) (f : ℕ) (w u : List ℕ) : Type 0 where
  pub walks : (vertex : ℕ → ℕ) → LinksFit (3 * n) (Equal vertex) L → ((e : ℕ) → e < f → Together G e f → ⊥) → Walked n L G (Marked rows w) f → Walked n L G (Marked rows u) (f + 1)

-- the unmarked corners
unfoldable pub unmarked : ℕ → List ℕ → ℕ
unmarked rows w = zeros (column rows next_column w)

-- at the row of each member of a group stands the lowest row of that group (and one)
pub record Firsts (rows n : ℕ) (G w : List ℕ) : Type 0 where
  pub lone : (r : ℕ) → r < 3 * n → cell rows head_column r w ≡ r + 1 → (e : ℕ) → e < r → Together G e r → ⊥
  pub fellow : (r : ℕ) → r < 3 * n → (group_word G r ≡ 0 → ⊥) → (cell rows head_column r w ≡ r + 1 → ⊥) → (e : ℕ) × (e < r) × Together G e r

-- the walk over all rows below r: whether it is of somebody's links that fit
pub record WalksTo (rows n : ℕ) (L G : List ℕ) (r : ℕ) (w : List ℕ) : Type 0 where
  pub walked : (vertex : ℕ → ℕ) → LinksFit (3 * n) (Equal vertex) L → Walked n L G (Marked rows w) r

-- a turn of that: it goes on, or r is severed and is the lowest
pub record TurnsAt (rows n : ℕ) (L G : List ℕ) (r : ℕ) (w u : List ℕ) (b : Bool) : Type 0 where
  pub goes_on : b ≡ false → WalksTo rows n L G r w → WalksTo rows n L G (r + 1) u
  pub objects : b ≡ true → WalksTo rows n L G r w → (vertex : ℕ → ℕ) → LinksFit (3 * n) (Equal vertex) L → Lowest (Severed n L G) (3 * n) r

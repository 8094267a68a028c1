-- The lowest row of which something holds, what a test tells, and the first of several numbered objections. Definitions only.
use Rattle.std.specs.Prelude.{ℕ, ◌≤◌, ◌<◌, ◌≡◌, Bool, true, false, Option, MatchOption}

-- P holds of no row below n
abbrev pub None : (ℕ → Type 0) → ℕ → Type 0
None P n = (r : ℕ) → r < n → P r → ⊥

-- r is the lowest row below n of which P holds, or n where there is none
pub record Lowest (P : ℕ → Type 0) (n r : ℕ) : Type 0 where
  pub low : r ≤ n
  pub none : None P r
  pub here : r < n → P r

-- what a search of the rows below n finds: the lowest row of which P holds, or that there is none
abbrev pub Finds : (ℕ → Type 0) → ℕ → Option ℕ → Type 0
Finds P n found = MatchOption found (None P n) (λ r. (r < n) × P r × None P r)

-- a test tells whether P holds
pub record Tells (P : Type 0) (b : Bool) : Type 0 where
  pub holds : b ≡ true → P
  pub fails : b ≡ false → P → ⊥

-- A k p: objection k applies at place p. No objection below k applies, at any place
abbrev pub Clear : (ℕ → ℕ → Type 0) → ℕ → Type 0
Clear A k = None (λ j. (p : ℕ) × A j p) k

-- the verdict, its number and its place: the first objection below m that applies, at the lowest place at which it does; 0 and 0 where none does
pub data Verdict (A : ℕ → ℕ → Type 0) (m : ℕ) : ℕ → ℕ → Type 0 where
  accepted : Clear A m → Verdict A m 0 0
  objected : (k p : ℕ) → k < m → A k p → Clear A k → None (A k) p → Verdict A m k p

-- one stage of a verdict, from objection `from` up to, not including, `to`: where it says 0 none of those applies, and where it says more that is the verdict
pub record Stage (A : ℕ → ℕ → Type 0) (m from to number place : ℕ) : Type 0 where
  pub passed : number ≡ 0 → Clear A from → Clear A to
  pub place_0 : number ≡ 0 → place ≡ 0
  pub stopped : (number ≡ 0 → ⊥) → Clear A from → Verdict A m number place

-- Somebody else's links, request E10: what is asked of them, and the objections. n sides; same: the corners at two rows are welded; L the words handed in. Definitions only.
use Rattle.std.specs.Prelude.{ℕ, suc, ◌<◌, ◌≡◌, List, get_or}
use Rattle.neighbors.specs.Sides.{end_row}

-- f is one number at both rows
abbrev pub Equal : (ℕ → ℕ) → ℕ → ℕ → Type 0
Equal f r q = f r ≡ f q

-- the word of the side at row r: 0 for none, else the row of the side beyond and one
abbrev pub link_word : List ℕ → ℕ → ℕ
link_word L r = get_or L r 0

-- the side at row r is linked with the side at row q
abbrev pub Leads : List ℕ → ℕ → ℕ → Type 0
Leads L r q = link_word L r ≡ suc q

-- 'the same two welded ends run opposite ways'
abbrev pub Opposed : (ℕ → ℕ → Type 0) → ℕ → ℕ → Type 0
Opposed same r q = same r (end_row q) × same (end_row r) q

-- 'It accepts links exactly if ..'
pub record LinksFit (n : ℕ) (same : ℕ → ℕ → Type 0) (L : List ℕ) : Type 0 where
  -- a link joins two sides of the triangles
  pub inside : (r q : ℕ) → r < n → Leads L r q → q < n
  -- 'each is mutual'
  pub mutually : (r q : ℕ) → r < n → Leads L r q → Leads L q r
  -- 'joins sides with the same two welded ends run opposite ways'
  pub across : (r q : ℕ) → r < n → Leads L r q → Opposed same r q
  -- 'no side is linked twice'
  pub once : (r s q : ℕ) → r < n → s < n → Leads L r q → Leads L s q → r ≡ s
  -- 'and no two such unlinked sides are left over'
  pub none_left : (r q : ℕ) → r < n → q < n → link_word L r ≡ 0 → link_word L q ≡ 0 → Opposed same r q → ⊥

-- ---- the objections. That a side is linked twice can't be objected: where links are mutual it is so of none (`once` follows from `mutually`)

-- 2: the word names no side
abbrev pub Wide : ℕ → List ℕ → ℕ → Type 0
Wide n L r = n < link_word L r

-- 3: the side beyond has not the same two ends, run the opposite way
pub record Crooked (n : ℕ) (same : ℕ → ℕ → Type 0) (L : List ℕ) (r : ℕ) : Type 0 where
  pub far : ℕ
  pub below : far < n
  pub leads : Leads L r far
  pub not_opposed : Opposed same r far → ⊥

-- 4: the side beyond is not linked with this one
pub record OneSided (L : List ℕ) (r : ℕ) : Type 0 where
  pub far : ℕ
  pub leads : Leads L r far
  pub not_back : Leads L far r → ⊥

-- 5: the side is unlinked, and so is another with the same two ends, run the opposite way
pub record LeftOver (n : ℕ) (same : ℕ → ℕ → Type 0) (L : List ℕ) (r : ℕ) : Type 0 where
  pub far : ℕ
  pub below : far < n
  pub near_free : link_word L r ≡ 0
  pub far_free : link_word L far ≡ 0
  pub opposed : Opposed same r far

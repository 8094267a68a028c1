-- Lists that are lent: what is copied, what stays, what is cleared. Definitions only.
use Rattle.std.specs.Prelude.{ℕ, ◌+◌, ◌≤◌, ◌<◌, ◌≡◌, List, ◌++◌, length, get_or, drop, replicate}

-- v has the length of u, and from n on it is u
pub record Past {X : Type 0} (d : X) (n : ℕ) (u v : List X) : Type 0 where
  pub size : length v ≡ length u
  pub rest : (x : ℕ) → n ≤ x → get_or v x d ≡ get_or u x d

-- zs is ys with `count` of xs, those from `at` on, from `start` on
pub record Copied {X : Type 0} (d : X) (xs ys zs : List X) (at start count : ℕ) : Type 0 where
  pub size : length zs ≡ length ys
  pub new : (j : ℕ) → j < count → get_or zs (start + j) d ≡ get_or xs (at + j) d
  pub old : (j : ℕ) → j < start → get_or zs j d ≡ get_or ys j d
  pub rest : (j : ℕ) → start + count ≤ j → get_or zs j d ≡ get_or ys j d

-- the same, whatever stands for an entry past the end
abbrev pub Copies : {X : Type 0} → List X → List X → List X → ℕ → ℕ → ℕ → Type 0
Copies {X} xs ys zs at start count = (d : X) → Copied d xs ys zs at start count

-- zeros in the first n entries
abbrev pub cleared : {X : Type 0} → X → ℕ → List X → List X
cleared z n l = replicate n z ++ drop n l

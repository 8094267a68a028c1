-- Numbers below n that are joined, as a list of parents. Definitions only.
use Rattle.std.specs.Prelude.{ℕ, ◌≤◌, ◌<◌, ◌≡◌, List, length, get_or}

-- the parent of each is itself or a lower one
abbrev pub Downward : ℕ → List ℕ → Type 0
Downward n p = (x : ℕ) → x < n → get_or p x 0 ≤ x

-- l has one value for each number and its parent: then it has one for all that are joined
abbrev pub Level : ℕ → List ℕ → (ℕ → ℕ) → Type 0
Level n p l = (x : ℕ) → x < n → l (get_or p x 0) ≡ l x

-- q has the length of p, and past n it is p
pub record Beyond (n : ℕ) (p q : List ℕ) : Type 0 where
  pub size : length q ≡ length p
  pub rest : (x : ℕ) → n ≤ x → get_or q x 0 ≡ get_or p x 0

-- each is its own parent in q
pub record Alone (n : ℕ) (p q : List ℕ) : Type 0 where
  pub beyond : Beyond n p q
  pub own : (x : ℕ) → x < n → get_or q x 0 ≡ x

-- q joins what p joins, and a number that is its own parent stays so
pub record Same (n : ℕ) (p q : List ℕ) : Type 0 where
  pub beyond : Beyond n p q
  pub down : Downward n q
  pub tops : (x : ℕ) → x < n → get_or p x 0 ≡ x → get_or q x 0 ≡ x
  pub onto : (l : ℕ → ℕ) → Level n p l → Level n q l
  pub back : (l : ℕ → ℕ) → Level n q l → Level n p l

-- r is the end of the parents of f
pub record Climbed (n : ℕ) (p q : List ℕ) (f r : ℕ) : Type 0 where
  pub same : Same n p q
  pub low : r ≤ f
  pub top : get_or q r 0 ≡ r
  pub joined : (l : ℕ → ℕ) → Level n p l → l r ≡ l f

-- q joins what p joins, and a and b besides, and no more
pub record United (n : ℕ) (p q : List ℕ) (a b : ℕ) : Type 0 where
  pub beyond : Beyond n p q
  pub down : Downward n q
  pub onto : (l : ℕ → ℕ) → Level n p l → l a ≡ l b → Level n q l
  pub back : (l : ℕ → ℕ) → Level n q l → Level n p l
  pub joined : (l : ℕ → ℕ) → Level n q l → l a ≡ l b

-- at each number of q stands the end of its parents in p: one for all that are joined, joined to them, and not above them
pub record Settled (n : ℕ) (p q : List ℕ) : Type 0 where
  pub beyond : Beyond n p q
  pub low : (x : ℕ) → x < n → get_or q x 0 ≤ x
  pub level : Level n p (λ x. get_or q x 0)
  pub joined : (l : ℕ → ℕ) → Level n p l → (x : ℕ) → x < n → l (get_or q x 0) ≡ l x

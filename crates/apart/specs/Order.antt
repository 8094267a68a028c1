-- The faces of each island as a chain, for each face the next of its island; and where each face's corners and slots start. Definitions only.
use Rattle.std.specs.Prelude.{ℕ, suc, ◌+◌, ◌*◌, ◌≤◌, ◌<◌, ◌≡◌, Bool, List, eqb, length, get_or, take}
use Rattle.definition.specs.Handed.{corner_count, slot_count}

-- the first of the faces from i on, below n, that has the number t: its own number and one, or 0 where there is none
pub data From (n : ℕ) (l : ℕ → ℕ) (i t : ℕ) : ℕ → Type 0 where
  nobody : ((g : ℕ) → i ≤ g → g < n → l g ≡ t → ⊥) → From n l i t 0
  somebody : (g : ℕ) → i ≤ g → g < n → l g ≡ t → ((x : ℕ) → i ≤ x → x < g → l x ≡ t → ⊥) → From n l i t (suc g)

-- the faces from i on are linked: at face f stands the next of its island, and at n + t the first of island t
pub record Linked (n : ℕ) (l : ℕ → ℕ) (i : ℕ) (order : List ℕ) : Type 0 where
  pub heads : (t : ℕ) → t < n → From n l i t (get_or order (n + t) 0)
  pub nexts : (f : ℕ) → i ≤ f → f < n → l f < n → From n l (suc f) (l f) (get_or order f 0)

-- whether face f has the number t
abbrev pub among : (ℕ → ℕ) → ℕ → ℕ → Bool
among l t f = eqb (l f) t

-- the number of a face, as the list of labels has it
abbrev pub label_at : List ℕ → ℕ → ℕ
label_at labels x = get_or labels x 0

-- at each of the first f faces: how many corners and how many slots stand before it
pub record Begun (sizes : List ℕ) (f : ℕ) (order : List ℕ) : Type 0 where
  pub corners : (g : ℕ) → g < f → get_or order (2 * length sizes + g) 0 ≡ corner_count (take g sizes)
  pub slots : (g : ℕ) → g < f → get_or order (3 * length sizes + g) 0 ≡ slot_count (take g sizes)

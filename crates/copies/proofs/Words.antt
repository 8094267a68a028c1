-- The words that each way through a function leaves, as the definitions of specs/Copies.antt say it. Assumes nothing.
use Prim.Native.Nat.{ℕ, ◌+◌, ◌*◌, ◌-◌, ◌≤◌, ◌<◌}
use native.Mathlib.Omega.{arith}
use mathlib.Core.Path.{◌≡◌, sym, ◌∙◌, ap}
use mathlib.Core.Bool.{Bool, true, false, cond}
use mathlib.Core.List.{List}
use lib.Dec.{ltb}
use lib.Ieee.{Float}
use borrow.Author.Tests.{eq-eqb, ne_eqb, lt-ltb, le-ltb}
use Rattle.math.specs.declared.Vec3.{Vec3}
use Rattle.math.specs.Vector.{equals}
use Rattle.lists.specs.Loops.{up_to}
use Rattle.table.specs.Table.{cell}
use Rattle.table.specs.Columns.{corner_column, slot_column, vertex_column}
use Rattle.lists.proofs.Loops.{up_to-none, up_to-more}
use Rattle.definition.specs.Handed.{vector_at}
use Rattle.slots.specs.Slots.{copied_at, cleared_at}
use Rattle.records.specs.Fields.{marked_at}
use Rattle.copies.specs.Copies.{corner_copied, triangle_copied, broken_copied, missed, missed_at, kept_at, equal_at, missing_copied}

-- ---- the number of a missing corner

-- where corner 0 is missing
pub missed_first : (first missing : ℕ) → missing ≡ 0 → missed first missing ≡ first - 1
unfolding missed
missed_first first missing e = ap (λ (b : Bool). cond b (first - 1) (first + missing)) (eq-eqb missing 0 e)

-- where another is
pub missed-later : (first missing : ℕ) → (missing ≡ 0 → ⊥) → missed first missing ≡ first + missing
unfolding missed
missed-later first missing e = ap (λ (b : Bool). cond b (first - 1) (first + missing)) (ne_eqb missing 0 e)

-- the first number by another name
pub missed-same : (r first first' missing : ℕ) → r ≡ missed first missing → first ≡ first' → r ≡ missed first' missing
missed-same r first first' missing e f = e ∙ ap (λ (n : ℕ). missed n missing) f

-- the missing corner by another name
pub missing-same : (r first missing missing' : ℕ) → r ≡ missed first missing → missing ≡ missing' → r ≡ missed first missing'
missing-same r first missing missing' e f = e ∙ ap (missed first) f

-- ---- a corner of a degenerate triangle

module _ (rows n : ℕ) (w : List ℕ) (r : ℕ) (a : List ℕ) (v to : ℕ) (H : v ≡ cell rows vertex_column r w) (S : to ≡ cell rows slot_column r w) where
  -- by whether the first corner welded to it is sound
  by-limit : (b : Bool) → ltb v (3 * n) ≡ b → corner_copied rows n w r a ≡ cond b (copied_at false (cell rows slot_column v w) to a) (cleared_at to a)
  unfolding corner_copied
  by-limit b e = (λ z. cond (ltb (sym H z) (3 * n)) (copied_at false (cell rows slot_column (sym H z) w) (sym S z) a) (cleared_at (sym S z) a)) ∙ ap (λ (b : Bool). cond b (copied_at false (cell rows slot_column v w) to a) (cleared_at to a)) e

  -- it is
  pub corner-copied : (from : ℕ) (u : List ℕ) → v < 3 * n → from ≡ cell rows slot_column v w → u ≡ copied_at false from to a → u ≡ corner_copied rows n w r a
  corner-copied from u l f e = e ∙ ap (λ (k : ℕ). copied_at false k to a) f ∙ sym (by-limit true (lt-ltb v (3 * n) l))

  -- it is not
  pub corner-cleared : (u : List ℕ) → 3 * n ≤ v → u ≡ cleared_at to a → u ≡ corner_copied rows n w r a
  corner-cleared u l e = e ∙ sym (by-limit false (le-ltb v (3 * n) l))

-- ---- a degenerate triangle

module _ (rows n : ℕ) (w : List ℕ) (t : ℕ) (a : List ℕ) (b : Bool) (M : b ≡ marked_at rows w t) where
  -- marked: nothing is copied
  pub triangle-marked : b ≡ true → a ≡ triangle_copied rows n w t a
  unfolding triangle_copied
  triangle-marked e = sym (ap (λ (b : Bool). cond b a (corner_copied rows n w (3 * t + 2) (corner_copied rows n w (3 * t + 1) (corner_copied rows n w (3 * t) a)))) (sym M ∙ e))

  -- not marked: one corner after the other
  pub triangle-copied : (u v z : List ℕ) → b ≡ false → u ≡ corner_copied rows n w (3 * t) a → v ≡ corner_copied rows n w (3 * t + 1) u → z ≡ corner_copied rows n w (3 * t + 2) v → z ≡ triangle_copied rows n w t a
  unfolding triangle_copied
  triangle-copied u v z e U Y Z =
      Z ∙ ap (corner_copied rows n w (3 * t + 2)) (Y ∙ ap (corner_copied rows n w (3 * t + 1)) U)
      ∙ sym (ap (λ (b : Bool). cond b a (corner_copied rows n w (3 * t + 2) (corner_copied rows n w (3 * t + 1) (corner_copied rows n w (3 * t) a)))) (sym M ∙ e))

-- ---- degenerate triangles one after the other

-- none yet
pub none-broken : (rows n : ℕ) (w a : List ℕ) → a ≡ broken_copied rows n w n a
unfolding broken_copied
none-broken rows n w a = up_to-none (λ k. triangle_copied rows n w (n + k)) a ∙ ap (λ (k : ℕ). up_to k (λ k. triangle_copied rows n w (n + k)) a) none
  where
    none : 0 ≡ n - n
    none = omega arith

-- one more
pub one-broken : (rows n : ℕ) (w : List ℕ) (t : ℕ) (a u v : List ℕ) → n ≤ t → u ≡ broken_copied rows n w t a → v ≡ triangle_copied rows n w t u → v ≡ broken_copied rows n w (t + 1) a
unfolding broken_copied
one-broken rows n w t a u v l U e =
    e ∙ (λ z. triangle_copied rows n w (at z) (U z)) ∙ up_to-more (t - n) (λ k. triangle_copied rows n w (n + k)) a ∙ ap (λ (k : ℕ). up_to k (λ k. triangle_copied rows n w (n + k)) a) more
  where
    at : t ≡ n + (t - n)
    at = omega arith

    more : t - n + 1 ≡ t + 1 - n
    more = omega arith

-- ---- the corner that a missing one copies

module _ (rows : ℕ) (ps : List Float) (w : List ℕ) (t : ℕ) (v p q : Vec3) (P : p ≡ vector_at ps (cell rows corner_column (3 * t) w)) (Q : q ≡ vector_at ps (cell rows corner_column (3 * t + 1) w)) where
  -- by the two tests
  pub kept_by : (x y : Bool) → equals p v ≡ x → equals q v ≡ y → kept_at rows ps w t v ≡ cond x (3 * t) (cond y (3 * t + 1) (3 * t + 2))
  unfolding kept_at
  kept_by x y e f = λ z. cond ((ap (λ (u : Vec3). equals u v) (sym P) ∙ e) z) (3 * t) (cond ((ap (λ (u : Vec3). equals u v) (sym Q) ∙ f) z) (3 * t + 1) (3 * t + 2))

-- ---- a marked quad

module _ (rows : ℕ) (ps : List Float) (w : List ℕ) (t : ℕ) (a : List ℕ) (b : Bool) (M : b ≡ marked_at rows w t) where
  -- not marked: nothing is copied
  pub missing-unmarked : b ≡ false → a ≡ missing_copied rows ps w t a
  unfolding missing_copied
  missing-unmarked e = sym (ap (λ (b : Bool). cond b (copied_at true (cell rows slot_column (equal_at rows ps w t) w) (missed_at rows slot_column w t) a) a) (sym M ∙ e))

  -- marked: the slot of the corner at row k is
  pub missing-copied : (k from to : ℕ) (u : List ℕ) → b ≡ true → k ≡ equal_at rows ps w t → u ≡ copied_at true from to a → from ≡ cell rows slot_column k w → to ≡ missed_at rows slot_column w t → u ≡ missing_copied rows ps w t a
  unfolding missing_copied
  missing-copied k from to u e K U F T =
      U ∙ (λ z. copied_at true ((F ∙ ap (λ (r : ℕ). cell rows slot_column r w) K) z) (T z) a)
      ∙ sym (ap (λ (b : Bool). cond b (copied_at true (cell rows slot_column (equal_at rows ps w t) w) (missed_at rows slot_column w t) a) a) (sym M ∙ e))

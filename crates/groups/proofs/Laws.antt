-- The laws of the walk: what entering a triangle does to the columns. Assumes nothing.
use mathlib.Core.Path.{◌≡◌, refl, ap, ◌∙◌}
use mathlib.Core.Bool.{Bool, true, false, cond}
use mathlib.Core.List.{List}
use Prim.Native.Nat.{ℕ, suc, ◌+◌, ◌*◌, ◌≤◌, ◌<◌}
use native.Mathlib.Omega.{arith}
use lib.ListN.{length, set}
use lib.Arith.{lt_of_le-ne}
use lib.Dec.{eqb}
use borrow.Author.Tests.{eqb-true, eqb-false, eq-eqb, ne_eqb}
use Rattle.lists.specs.Zeros.{zeros}
use Rattle.lists.proofs.Zeros.{zeros-set, zeros-le}
use Rattle.table.specs.Table.{cell, put, column}
use Rattle.table.specs.Columns.{columns, vertex_column, orientation_column, group_column, met_column}
use Rattle.table.proofs.Laws.{column-set, get_or-column, length-column}
use Rattle.view.specs.Frame.{Only}
use Rattle.view.proofs.Frame.{only_none, only-put}
use Rattle.groups.specs.Walk.{walk_columns, corner_of, untouched, adopted, Entered, enter, stopped, marked, ungrouped}
use Rattle.std.specs.Prelude.{Option, Some, None}

-- what holds in both cases holds of the case that is taken
pub cond-case : {A : Type 0} (P : A → Type 0) (b : Bool) (x y : A) → (b ≡ true → P x) → (b ≡ false → P y) → P (cond b x y)
cond-case P true x y f g = f refl
cond-case P false x y f g = g refl

-- there are at most as many ungrouped corners as rows
pub ungrouped-le : (rows : ℕ) (w : List ℕ) → columns * rows ≤ length w → ungrouped rows w ≤ rows
unfolding ungrouped
ungrouped-le rows w h = omega (arith, zeros-le (column rows group_column w), length-column rows w group_column (omega arith))

-- ---- entering a triangle

-- of two small numbers each is small
small : (b : Bool) (x y : ℕ) → x ≤ 3 → y ≤ 3 → cond b x y ≤ 3
small b x y p q = cond-case (λ (n : ℕ). n ≤ 3) b x y (λ _. p) (λ _. q)

-- the corner found is 3 at most
pub corner_of-le : (rows t v : ℕ) (w : List ℕ) → corner_of rows t v w ≤ 3
unfolding corner_of
corner_of-le rows t v w =
    let two = eqb (cell rows vertex_column (3 * t + 2) w) v in
    let one = eqb (cell rows vertex_column (3 * t + 1) w) v in
    small (eqb (cell rows vertex_column (3 * t) w) v) 0 (cond one 1 (cond two 2 3)) (omega arith) (small one 1 (cond two 2 3) (omega arith) (small two 2 3 (omega arith) (omega arith)))

-- where none is found it is 3
pub no-corner : (rows t v : ℕ) (w : List ℕ) → (corner_of rows t v w < 3 → ⊥) → eqb (corner_of rows t v w) 3 ≡ true
no-corner rows t v w h = eq-eqb (corner_of rows t v w) 3 (let le = corner_of-le rows t v w in omega (arith, le, h))

-- one that is found is none such
pub a-corner : (i k : ℕ) → k < 3 → i ≡ k → eqb i 3 ≡ false
a-corner i k h e = ne_eqb i 3 (λ z. omega arith)

-- taking an orientation leaves every other column
pub adopted-column : (rows t o : ℕ) (w : List ℕ) → 3 * t + 3 ≤ rows → (k : ℕ) → eqb orientation_column k ≡ false → column rows k (adopted rows t o w) ≡ column rows k w
unfolding adopted
adopted-column rows t o w tri k ne = cond-case (λ (u : List ℕ). column rows k u ≡ column rows k w) (untouched rows t w) (put rows orientation_column t o w) w
    (λ _. column-set rows k orientation_column t o w (omega arith) ∙ ap (λ (b : Bool). cond b (set (column rows k w) t o) (column rows k w)) ne)
    (λ _. refl)

-- nothing but the walk's columns is stored
pub only-adopted : (rows t o : ℕ) (w₀ w : List ℕ) → t < rows → Only walk_columns rows w₀ w → Only walk_columns rows w₀ (adopted rows t o w)
unfolding adopted
only-adopted rows t o w₀ w h O = cond-case (λ (u : List ℕ). Only walk_columns rows w₀ u) (untouched rows t w) (put rows orientation_column t o w) w (λ _. only-put walk_columns rows w₀ w orientation_column t o refl (omega arith) h O) (λ _. O)

-- what entering does to the count of ungrouped corners, and which columns it writes
abbrev pub Grown : ℕ → List ℕ → Option ℕ → List ℕ → Type 0
Grown rows w None u = (ungrouped rows u ≡ ungrouped rows w) × Only walk_columns rows w u
Grown rows w (Some i) u = (i < 3) × (suc (ungrouped rows u) ≡ ungrouped rows w) × Only walk_columns rows w u

module _ (rows t g v o n : ℕ) (w : List ℕ) (tri : 3 * t + 3 ≤ rows) (long : columns * rows ≤ length w) (some : 0 < g) (room : n + ungrouped rows w ≤ rows) where
  -- a corner that was in no group is marked: one ungrouped corner less
  pub marked-grown : (i : ℕ) → i < 3 → cell rows group_column (3 * t + i) w ≡ 0 → Grown rows w (Some i) (marked rows t g n i (adopted rows t o w)).work
  unfolding ungrouped
  marked-grown i lt z =
      let hi : 3 * t + i < rows = omega arith in
      let falls : suc (zeros (set (column rows group_column w) (3 * t + i) g)) ≡ zeros (column rows group_column w) = zeros-set (column rows group_column w) (3 * t + i) g (omega (arith, length-column rows w group_column (omega arith))) (get_or-column rows w group_column (3 * t + i) hi ∙ z) some in
      let hn : n < rows = omega arith in
      let groups = adopted-column rows t o w tri group_column refl in
      let u = adopted rows t o w in
      (lt, simp (column-set, groups) falls, only-put walk_columns rows w (put rows met_column n (3 * t + i) u) group_column (3 * t + i) g refl (omega arith) hi (only-put walk_columns rows w u met_column n (3 * t + i) refl (omega arith) hn (only-adopted rows t o w w (omega arith) (only_none walk_columns rows w))))

  -- entering, whatever it meets
  pub enter-grown : Grown rows w (enter rows t g v o n w).entry (enter rows t g v o n w).work
  unfolding enter ungrouped
  enter-grown =
      let P : Entered → Type 0 = λ e. Grown rows w e.entry e.work in
      let i = corner_of rows t v w in
      let u = adopted rows t o w in
      let agrees = eqb (cell rows orientation_column t u) o in
      let free = eqb (cell rows group_column (3 * t + i) w) 0 in
      cond-case P (eqb i 3) (stopped w) (cond free (cond agrees (marked rows t g n i u) (stopped u)) (stopped w)) (λ _. (refl, only_none walk_columns rows w)) λ ne.
      cond-case P free (cond agrees (marked rows t g n i u) (stopped u)) (stopped w)
      (λ z. cond-case P agrees (marked rows t g n i u) (stopped u)
      (λ _. marked-grown i (lt_of_le-ne (corner_of-le rows t v w) (eqb-false i 3 ne)) (eqb-true (cell rows group_column (3 * t + i) w) 0 z))
      (λ _. (ap zeros (adopted-column rows t o w tri group_column refl), only-adopted rows t o w w (omega arith) (only_none walk_columns rows w))))
      (λ _. (refl, only_none walk_columns rows w))

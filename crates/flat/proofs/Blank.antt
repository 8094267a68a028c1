-- The walk neither reads nor writes the column of places: a list with zeros there goes the same way. Assumes nothing.
use Prim.Native.Nat.{ℕ, suc, ◌+◌, ◌*◌, ◌≤◌, ◌<◌}
use native.Mathlib.Omega.{arith}
use mathlib.Core.Path.{◌≡◌, refl, sym, ap, ◌∙◌}
use mathlib.Core.Bool.{Bool, true, false, cond, not, ◌&&◌}
use mathlib.Core.List.{List, [], ◌∷◌}
use mathlib.Core.Logic.{◌⊎◌, inl, inr, ⊎_elim}
use lib.Dec.{eqb}
use lib.Arith.{lt_of_le-ne}
use lib.ListN.{length, set}
use lib.Seq.{sets, set-set, set_comm}
use borrow.Author.Tests.{eqb-true, eqb-false}
use Rattle.table.specs.Table.{cell, put}
use Rattle.table.specs.Columns.{columns, vertex_column, link_column, orientation_column, any_column, group_column, met_column}
use Rattle.lists.specs.Loops.{list_of}
use Rattle.lists.proofs.Loops.{length-list_of}
use Rattle.table.proofs.Laws.{column-ends, apart}
use Rattle.view.specs.Frame.{outside, Only}
use Rattle.view.proofs.Frame.{only-run, cell-kept}
use Rattle.lists.specs.Zeros.{zeros}
use Rattle.groups.specs.Walk.{corner_of, untouched, adopted, Entered, enter, stopped, marked, ungrouped, Ready}
use Rattle.std.specs.Prelude.{Some}
use Rattle.groups.proofs.Laws.{corner_of-le, marked-grown}
use Rattle.groups.proofs.Steps.{ready-moves}
use Rattle.flat.specs.Places.{places_column, blank}

-- ---- a run of stores

-- a store outside a run may be made before it
pub set-sets : (vs w : List ℕ) (p j v : ℕ) → (j < p) ⊎ (p + length vs ≤ j) → set (sets w p vs) j v ≡ sets (set w j v) p vs
set-sets [] w p j v h = refl
set-sets (a ∷ vs) w p j v h =
    set-sets vs (set w p a) (suc p) j v (⊎_elim (λ l. inl (omega arith)) (λ l. inr (omega arith)) h)
    ∙ ap (λ (l : List ℕ). sets l (suc p) vs) (set_comm w p j a v (λ e. ⊎_elim (λ l. omega arith) (λ l. omega arith) h))

-- a store inside it is overwritten
sets_over : (vs w : List ℕ) (p j v : ℕ) → p ≤ j → j < p + length vs → sets (set w j v) p vs ≡ sets w p vs
sets_over [] w p j v h l = absurd (omega arith)
sets_over (a ∷ vs) w p j v h l = step (λ q k. sets_over vs (set w p a) (suc p) j v q k) (eqb j p) refl
  where
    step : (suc p ≤ j → j < suc p + length vs → sets (set (set w p a) j v) (suc p) vs ≡ sets (set w p a) (suc p) vs) → (b : Bool) → eqb j p ≡ b → sets (set (set w j v) p a) (suc p) vs ≡ sets (set w p a) (suc p) vs
    step again true e = ap (λ (x : ℕ). sets (set (set w x v) p a) (suc p) vs) (eqb-true j p e) ∙ ap (λ (l : List ℕ). sets l (suc p) vs) (set-set w p v a)
    step again false e =
        let ne = eqb-false j p e in
        ap (λ (l : List ℕ). sets l (suc p) vs) (set_comm w j p v a ne)
        ∙ again (lt_of_le-ne h (λ q. ne (sym q))) (omega arith)

-- ---- the blank list

module _ (rows : ℕ) where
  -- a place stored is none of it
  pub blank-place : (i v : ℕ) (w : List ℕ) → i < rows → blank rows (put rows places_column i v w) ≡ blank rows w
  unfolding blank
  blank-place i v w h = sets_over (list_of rows (λ _. 0)) w (places_column * rows + 0) (places_column * rows + i) v (omega arith) (omega (arith, length-list_of {S = ℕ} rows (λ _. 0)))

  -- a store in another column is made in it too
  pub blank-put : (k i v : ℕ) (w : List ℕ) → eqb places_column k ≡ false → i < rows → put rows k i v (blank rows w) ≡ blank rows (put rows k i v w)
  unfolding blank
  blank-put k i v w ne h = set-sets (list_of rows (λ _. 0)) w (places_column * rows + 0) (k * rows + i) v side
    where
      n : length (list_of {S = ℕ} rows (λ _. 0)) ≡ rows
      n = length-list_of {S = ℕ} rows (λ _. 0)

      side : (k * rows + i < places_column * rows + 0) ⊎ (places_column * rows + 0 + length (list_of {S = ℕ} rows (λ _. 0)) ≤ k * rows + i)
      side = ⊎_elim (λ l. inl (omega (arith, column-ends k places_column rows l))) (λ l. inr (omega (arith, n, column-ends places_column k rows l))) (apart k places_column (λ e. eqb-false places_column k ne (sym e)))

  pub only-blank : (w : List ℕ) → Only (places_column ∷ []) rows w (blank rows w)
  unfolding blank
  only-blank w = only-run (places_column ∷ []) rows places_column 0 w (blank rows w) (list_of rows (λ _. 0)) refl (omega arith) (omega (arith, length-list_of {S = ℕ} rows (λ _. 0))) refl

  pub only-unblank : (w : List ℕ) → Only (places_column ∷ []) rows (blank rows w) w
  only-unblank w = let O = only-blank w in record { others = λ k e. sym (O.others k e); rest = sym O.rest; size = sym O.size }

  -- other columns are as they were
  pub blank-cell : (k i : ℕ) (w : List ℕ) → outside (places_column ∷ []) k ≡ true → i < rows → cell rows k i (blank rows w) ≡ cell rows k i w
  blank-cell k i w e h = cell-kept (places_column ∷ []) rows w (blank rows w) (only-blank w) k i e h

  pub blank-ungrouped : (w : List ℕ) → ungrouped rows (blank rows w) ≡ ungrouped rows w
  unfolding ungrouped
  blank-ungrouped w = ap zeros ((only-blank w).others group_column refl)

  pub blank-ready : (tris g n : ℕ) (w : List ℕ) → Ready rows tris g n w → Ready rows tris g n (blank rows w)
  blank-ready tris g n w R = ready-moves rows tris g n n w (blank rows w) R (only-blank w).size (omega (arith, R.room, blank-ungrouped w)) ((only-blank w).others link_column refl)

  pub unblank-ready : (tris g n : ℕ) (w : List ℕ) → Ready rows tris g n (blank rows w) → Ready rows tris g n w
  unblank-ready tris g n w R = ready-moves rows tris g n n (blank rows w) w R (only-unblank w).size (omega (arith, R.room, blank-ungrouped w)) ((only-unblank w).others link_column refl)

  -- ---- entering a triangle

  abbrev pub blanked : Entered → Entered
  blanked e = record { entry = e.entry; work = blank rows e.work }

  module _ (t g v o n : ℕ) (w : List ℕ) (tri : 3 * t + 3 ≤ rows) where
    blank-corner : corner_of rows t v (blank rows w) ≡ corner_of rows t v w
    unfolding corner_of
    blank-corner =
        λ k.
        cond (eqb (blank-cell vertex_column (3 * t) w refl (omega arith) k) v) 0
        (cond (eqb (blank-cell vertex_column (3 * t + 1) w refl (omega arith) k) v) 1
        (cond (eqb (blank-cell vertex_column (3 * t + 2) w refl (omega arith) k) v) 2 3))

    blank-untouched : untouched rows t (blank rows w) ≡ untouched rows t w
    unfolding untouched
    blank-untouched =
        λ k.
        not (eqb (blank-cell any_column t w refl (omega arith) k) 0) && (eqb (blank-cell group_column (3 * t) w refl (omega arith) k) 0 && (eqb (blank-cell group_column (3 * t + 1) w refl (omega arith) k) 0 && eqb (blank-cell group_column (3 * t + 2) w refl (omega arith) k) 0))

    blank-adopted : adopted rows t o (blank rows w) ≡ blank rows (adopted rows t o w)
    unfolding adopted
    blank-adopted = ap (λ (b : Bool). cond b (put rows orientation_column t o (blank rows w)) (blank rows w)) blank-untouched ∙ step (untouched rows t w)
      where
        step : (b : Bool) → cond b (put rows orientation_column t o (blank rows w)) (blank rows w) ≡ blank rows (cond b (put rows orientation_column t o w) w)
        step true = blank-put orientation_column t o w refl (omega arith)
        step false = refl

    module _ (long : columns * rows ≤ length w) (some : 0 < g) (room : n + ungrouped rows w ≤ rows) where
      abbrev i : ℕ
      i = corner_of rows t v w

      abbrev U : List ℕ
      U = adopted rows t o w

      -- what is entered, by the corner x, the list a after its orientation, and whether that agrees
      abbrev by : ℕ → List ℕ → Bool → List ℕ → Entered
      by x a agrees l = cond (eqb x 3) (stopped l) (cond (eqb (cell rows group_column (3 * t + x) l) 0) (cond agrees (marked rows t g n x a) (stopped a)) (stopped l))

      way_same : eqb (cell rows orientation_column t (blank rows U)) o ≡ eqb (cell rows orientation_column t U) o
      way_same = ap (λ (x : ℕ). eqb x o) (blank-cell orientation_column t U refl (omega arith))

      marked-blank : i < 3 → cell rows group_column (3 * t + i) w ≡ 0 → marked rows t g n i (blank rows U) ≡ blanked (marked rows t g n i U)
      marked-blank l z =
          let G = marked-grown rows t g v o n w tri long some room i l z in
          let hn : n < rows = omega (arith, G.1) in
          let a = blank-put met_column n (3 * t + i) U refl hn in
          let b = blank-put group_column (3 * t + i) g (put rows met_column n (3 * t + i) U) refl (omega arith) in
          ap (λ (x : List ℕ). record { entry = Some i; work = x }) (ap (λ (x : List ℕ). put rows group_column (3 * t + i) g x) a ∙ b)

      both : (b₁ : Bool) → eqb i 3 ≡ b₁ → cond b₁ (stopped (blank rows w)) (cond (eqb (cell rows group_column (3 * t + i) (blank rows w)) 0) (cond (eqb (cell rows orientation_column t U) o) (marked rows t g n i (blank rows U)) (stopped (blank rows U))) (stopped (blank rows w))) ≡ blanked (cond b₁ (stopped w) (cond (eqb (cell rows group_column (3 * t + i) w) 0) (cond (eqb (cell rows orientation_column t U) o) (marked rows t g n i U) (stopped U)) (stopped w)))
      both true e = refl
      both false e = ap (λ (x : ℕ). cond (eqb x 0) (cond (eqb (cell rows orientation_column t U) o) (marked rows t g n i (blank rows U)) (stopped (blank rows U))) (stopped (blank rows w))) (blank-cell group_column (3 * t + i) w refl (omega (arith, l))) ∙ free (eqb (cell rows group_column (3 * t + i) w) 0) refl
        where
          l : i < 3
          l = lt_of_le-ne (corner_of-le rows t v w) (eqb-false i 3 e)

          agree : cell rows group_column (3 * t + i) w ≡ 0 → (b : Bool) → cond b (marked rows t g n i (blank rows U)) (stopped (blank rows U)) ≡ blanked (cond b (marked rows t g n i U) (stopped U))
          agree z true = marked-blank l z
          agree z false = refl

          free : (b : Bool) → eqb (cell rows group_column (3 * t + i) w) 0 ≡ b → cond b (cond (eqb (cell rows orientation_column t U) o) (marked rows t g n i (blank rows U)) (stopped (blank rows U))) (stopped (blank rows w)) ≡ blanked (cond b (cond (eqb (cell rows orientation_column t U) o) (marked rows t g n i U) (stopped U)) (stopped w))
          free true q = agree (eqb-true (cell rows group_column (3 * t + i) w) 0 q) (eqb (cell rows orientation_column t U) o)
          free false q = refl

      -- the same corner is entered, or the walk stops in both
      pub enter-blank : enter rows t g v o n (blank rows w) ≡ blanked (enter rows t g v o n w)
      unfolding enter
      enter-blank =
          ap (λ (x : ℕ). by x (adopted rows t o (blank rows w)) (eqb (cell rows orientation_column t (adopted rows t o (blank rows w))) o) (blank rows w)) blank-corner
          ∙ ap (λ (a : List ℕ). by i a (eqb (cell rows orientation_column t a) o) (blank rows w)) blank-adopted
          ∙ ap (λ (b : Bool). by i (blank rows U) b (blank rows w)) way_same
          ∙ both (eqb i 3) refl

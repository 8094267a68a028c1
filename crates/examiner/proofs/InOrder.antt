-- The sides as the sort leaves them: an order, as the scan asks. Assumes nothing.
use Prim.Native.Nat.{ℕ, ◌+◌, ◌*◌, ◌≤◌, ◌<◌, min, max}
use native.Mathlib.Omega.{arith}
use mathlib.Core.Path.{◌≡◌, refl, sym, ◌∙◌, subst}
use mathlib.Core.Bool.{true, ◌&&◌, true≢false}
use mathlib.Core.List.{List, [], ◌∷◌}
use lib.Dec.{eqb}
use lib.ListN.{length, take}
use borrow.Author.Tests.{eq-eqb, eqb-true}
use Rattle.std.proofs.Common.{Option}
use Rattle.asked.specs.Lowest.{Finds}
use Rattle.asked.specs.Links.{Equal, LeftOver}
use Rattle.neighbors.proofs.Whole.{digit-one, digit-two, max-lt}
use Rattle.table.specs.Table.{cell, column}
use Rattle.lists.specs.Loops.{list_of}
use Rattle.table.specs.Columns.{columns, vertex_column, lower_column, higher_column, order_column, spare_column}
use Rattle.bits.proofs.Bools.{and_left, and_right}
use Rattle.sort.specs.Sort.{ends}
use Rattle.sort.proofs.Keys.{ends_at}
use Rattle.view.specs.Frame.{outside, Only}
use Rattle.view.proofs.Frame.{cell-kept, only-trans, only-more}
use Rattle.neighbors.specs.Links.{same_ends}
use Rattle.neighbors.specs.Sides.{end_row, side_columns, step_columns, Sided, Sorted}
use Rattle.neighbors.proofs.Sided.{end_lt, sided, counted}
use Rattle.examiner.specs.Scan.{OrderOf, Reads}
use Rattle.examiner.proofs.Ranks.{rank_below, rank_rises, rank-steps, rank-found}

module _ (rows tris : ℕ) (w v : List ℕ) (fits : 3 * tris ≤ rows) (long : columns * rows ≤ length w) (few : rows < 4294967295)
    (words : (r : ℕ) → r < rows → cell rows vertex_column r w < 4294967296) (S : Sorted rows tris w v) where
  abbrev n : ℕ
  n = 3 * tris

  abbrev u : List ℕ
  u = S.put_in

  abbrev vertex : ℕ → ℕ
  vertex x = cell rows vertex_column x w

  abbrev E : ℕ → ℕ
  E = ends rows u

  abbrev X : ℕ → ℕ
  X a = cell rows order_column a v

  G : Sided rows vertex_column n w u
  G = subst (Sided rows vertex_column n w) (sym S.is) (sided rows vertex_column tris w refl fits long)

  full : columns * rows ≤ length u
  full = let a = G.only.size in omega arith

  count : take n (column rows order_column u) ≡ list_of n (λ k. k)
  count = counted rows vertex_column n w u fits full G

  pub long_after : columns * rows ≤ length v
  long_after = let a = S.sorted.only.size in let b = full in omega arith

  pub only_step : Only step_columns rows w v
  only_step = only-trans step_columns rows w u v (only-more side_columns step_columns rows w u refl G.only) (only-more (order_column ∷ spare_column ∷ []) step_columns rows u v refl S.sorted.only)

  pub vertex-after : (r : ℕ) → r < n → cell rows vertex_column r v ≡ vertex r
  vertex-after r h = cell-kept step_columns rows w v only_step vertex_column r refl (omega arith)

  sort-kept : (k r : ℕ) → outside (order_column ∷ spare_column ∷ []) k ≡ true → r < n → cell rows k r v ≡ cell rows k r u
  sort-kept k r e h = cell-kept (order_column ∷ spare_column ∷ []) rows u v S.sorted.only k r e (omega arith)

  pub lower-after : (r : ℕ) → r < n → cell rows lower_column r v ≡ min (vertex r) (vertex (end_row r))
  lower-after r h = sort-kept lower_column r refl h ∙ G.lower r h

  pub higher-after : (r : ℕ) → r < n → cell rows higher_column r v ≡ max (vertex r) (vertex (end_row r))
  higher-after r h = sort-kept higher_column r refl h ∙ G.higher r h

  high_word : (r : ℕ) → r < n → max (vertex r) (vertex (end_row r)) < 4294967296
  high_word r h = max-lt (vertex r) (vertex (end_row r)) 4294967296 (words r (omega arith)) (words (end_row r) (omega (arith, end_lt r tris h)))

  ends-are : (r : ℕ) → r < n → E r ≡ min (vertex r) (vertex (end_row r)) * 4294967296 + max (vertex r) (vertex (end_row r))
  ends-are r h = ends_at rows u r (omega arith) ∙ (λ z. G.lower r h z * 4294967296 + G.higher r h z)

  equal-low : (r s : ℕ) → r < n → s < n → E r ≡ E s → min (vertex r) (vertex (end_row r)) ≡ min (vertex s) (vertex (end_row s))
  equal-low r s h k e = digit-one _ (max (vertex r) (vertex (end_row r))) _ (max (vertex s) (vertex (end_row s))) (high_word r h) (high_word s k) (sym (ends-are r h) ∙ (e ∙ ends-are s k))

  equal-high : (r s : ℕ) → r < n → s < n → E r ≡ E s → max (vertex r) (vertex (end_row r)) ≡ max (vertex s) (vertex (end_row s))
  equal-high r s h k e = digit-two _ _ _ _ (equal-low r s h k e) (sym (ends-are r h) ∙ (e ∙ ends-are s k))

  equal-ends : (r s : ℕ) → r < n → s < n → min (vertex r) (vertex (end_row r)) ≡ min (vertex s) (vertex (end_row s)) → max (vertex r) (vertex (end_row r)) ≡ max (vertex s) (vertex (end_row s)) → E r ≡ E s
  equal-ends r s h k p q = ends-are r h ∙ ((λ z. p z * 4294967296 + q z) ∙ sym (ends-are s k))

  pub order_is : ((r : ℕ) → r < n → vertex r ≡ vertex (end_row r) → ⊥) → OrderOf n vertex E X
  order_is sharp =
      record {
        sharp = sharp;
        below = rank_below rows n u v fits (omega arith) S.sorted count;
        rises = rank_rises rows n u v fits (omega arith) S.sorted count;
        steps = rank-steps rows n u v fits (omega arith) S.sorted count;
        lower = equal-low;
        higher = equal-high;
        equal = equal-ends;
        found = rank-found rows n u v fits (omega arith) S.sorted count;
      }

  pub reads-are : Reads rows n v vertex E
  unfolding same_ends
  reads-are =
      record {
        vertices = vertex-after;
        like = λ r s h k e.
            let p = eqb-true (cell rows lower_column r v) (cell rows lower_column s v) (and_left (eqb (cell rows lower_column r v) (cell rows lower_column s v)) (eqb (cell rows higher_column r v) (cell rows higher_column s v)) e) in
            let q = eqb-true (cell rows higher_column r v) (cell rows higher_column s v) (and_right (eqb (cell rows lower_column r v) (cell rows lower_column s v)) (eqb (cell rows higher_column r v) (cell rows higher_column s v)) e) in
            equal-ends r s h k (sym (lower-after r h) ∙ (p ∙ lower-after s k)) (sym (higher-after r h) ∙ (q ∙ higher-after s k));
        unlike = λ r s h k e f.
            let p = lower-after r h ∙ (equal-low r s h k f ∙ sym (lower-after s k)) in
            let q = higher-after r h ∙ (equal-high r s h k f ∙ sym (higher-after s k)) in
            true≢false (sym (λ z. eq-eqb (cell rows lower_column r v) (cell rows lower_column s v) p z && eq-eqb (cell rows higher_column r v) (cell rows higher_column s v) q z) ∙ e);
      }

  -- what a scan of the sides in their order finds
  pub left-found : ((r : ℕ) → r < n → vertex r ≡ vertex (end_row r) → ⊥) → (L : List ℕ) (found : Option ℕ) → ((vertex E : ℕ → ℕ) → Reads rows n v vertex E → OrderOf n vertex E X → Finds (LeftOver n (Equal vertex) L) n found) → Finds (LeftOver n (Equal vertex) L) n found
  left-found sharp L found f = f vertex E reads-are (order_is sharp)

  -- the same, where it is said of as many sides by an equation
  pub left-found-in : ((r : ℕ) → r < n → vertex r ≡ vertex (end_row r) → ⊥) → (L : List ℕ) (found : Option ℕ) (k : ℕ) → ((vertex E : ℕ → ℕ) → Reads rows k v vertex E → OrderOf k vertex E X → Finds (LeftOver k (Equal vertex) L) k found) → k ≡ n → Finds (LeftOver n (Equal vertex) L) n found
  left-found-in sharp L found k f e = left-found sharp L found (subst (λ (x : ℕ). (vertex E : ℕ → ℕ) → Reads rows x v vertex E → OrderOf x vertex E X → Finds (LeftOver x (Equal vertex) L) x found) e f)

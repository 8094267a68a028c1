-- The rows sorted by the words of their groups. Assumes nothing.
use Prim.Native.Nat.{ℕ, ◌*◌, ◌≤◌, ◌<◌}
use native.Mathlib.Omega.{arith}
use mathlib.Core.Path.{◌≡◌, refl, sym, ◌∙◌, ap}
use mathlib.Core.List.{List, [], ◌∷◌, ◌++◌}
use lib.ListN.{length, get_or, take, drop}
use lib.Seq.{take-append_seam}
use Rattle.table.specs.Table.{cell, column, filled_to}
use Rattle.lists.specs.Loops.{list_of}
use Rattle.table.specs.Columns.{columns, lower_column, higher_column, order_column, spare_column}
use Rattle.table.proofs.Laws.{filled-front, filled-cell}
use Rattle.lists.proofs.Loops.{length-list_of}
use Rattle.sort.specs.Sort.{ends, SortedPart}
use Rattle.sort.proofs.Keys.{ends_at}
use Rattle.view.specs.Frame.{Only}
use Rattle.view.proofs.Frame.{cell-kept, only-run, only-trans, only-more}
use Rattle.examiner.proofs.Ranks.{rank_below, rank_rises, rank-steps, rank-found}
use Rattle.firsts.specs.Firsts.{Orders, sort_columns}

module _ (rows n : ℕ) (G w w₁ w₂ w₃ v : List ℕ) (fits : n ≤ rows) (long : columns * rows ≤ length w) (few : rows < 4294967295)
    (e₁ : w₁ ≡ filled_to rows higher_column (λ _. 0) w rows) (e₂ : w₂ ≡ filled_to rows lower_column (λ r. get_or G r 0) w₁ n) (e₃ : w₃ ≡ filled_to rows order_column (λ r. r) w₂ n) (S : SortedPart rows 0 n w₃ v) where
  only_one : Only sort_columns rows w w₁
  only_one = only-run sort_columns rows higher_column 0 w w₁ (list_of rows (λ _. 0)) refl (omega arith) (omega (arith, length-list_of {S = ℕ} rows (λ _. 0))) e₁

  only_two : Only (lower_column ∷ []) rows w₁ w₂
  only_two = only-run (lower_column ∷ []) rows lower_column 0 w₁ w₂ (list_of n (λ r. get_or G r 0)) refl (omega arith) (omega (arith, length-list_of n (λ r. get_or G r 0))) e₂

  only-three : Only (order_column ∷ []) rows w₂ w₃
  only-three = only-run (order_column ∷ []) rows order_column 0 w₂ w₃ (list_of n (λ r. r)) refl (omega arith) (omega (arith, length-list_of {S = ℕ} n (λ r. r))) e₃

  pub only-sorted : Only sort_columns rows w v
  only-sorted =
      only-trans sort_columns rows w w₁ v only_one
      (only-trans sort_columns rows w₁ w₂ v (only-more (lower_column ∷ []) sort_columns rows w₁ w₂ refl only_two)
      (only-trans sort_columns rows w₂ w₃ v (only-more (order_column ∷ []) sort_columns rows w₂ w₃ refl only-three) (only-more (order_column ∷ spare_column ∷ []) sort_columns rows w₃ v refl S.only)))

  long-one : columns * rows ≤ length w₁
  long-one = omega (arith, long, only_one.size)

  long-two : columns * rows ≤ length w₂
  long-two = omega (arith, long-one, only_two.size)

  higher : (r : ℕ) → r < n → cell rows higher_column r w₃ ≡ 0
  higher r h =
      cell-kept (order_column ∷ []) rows w₂ w₃ only-three higher_column r refl (omega arith)
      ∙ (cell-kept (lower_column ∷ []) rows w₁ w₂ only_two higher_column r refl (omega arith) ∙ filled-cell rows higher_column rows r (λ _. 0) w w₁ (omega arith) (omega arith) (omega arith) e₁)

  lower : (r : ℕ) → r < n → cell rows lower_column r w₃ ≡ get_or G r 0
  lower r h = cell-kept (order_column ∷ []) rows w₂ w₃ only-three lower_column r refl (omega arith) ∙ filled-cell rows lower_column n r (λ r. get_or G r 0) w₁ w₂ fits (omega (arith, long-one)) h e₂

  count : take n (column rows order_column w₃) ≡ list_of n (λ r. r)
  count =
      ap (λ (x : List ℕ). take n (column rows order_column x)) e₃
      ∙ (ap (take n) (filled-front rows order_column n (λ r. r) w₂ fits (omega (arith, long-two)))
      ∙ (ap (λ (m : ℕ). take m (list_of n (λ r. r) ++ drop n (column rows order_column w₂))) (sym (length-list_of n (λ r. r))) ∙ take-append_seam (list_of n (λ r. r)) (drop n (column rows order_column w₂))))

  ends-are : (r : ℕ) → r < n → ends rows w₃ r ≡ get_or G r 0 * 4294967296
  ends-are r h = ends_at rows w₃ r (omega arith) ∙ omega (arith, lower r h, higher r h)

  abbrev X : ℕ → ℕ
  X a = cell rows order_column a v

  below : (a : ℕ) → a < n → X a < n
  below = rank_below rows n w₃ v fits (omega arith) S count

  pub orders : Orders rows n G w v
  orders =
      record {
        in_order = record {
          below = below;
          rises = λ a b h l. omega (arith, rank_rises rows n w₃ v fits (omega arith) S count a b h l, ends-are (X a) (below a (omega arith)), ends-are (X b) (below b l));
          steps = λ a b h l e. rank-steps rows n w₃ v fits (omega arith) S count a b h l (ends-are (X a) (below a (omega arith)) ∙ (ap (λ (x : ℕ). x * 4294967296) e ∙ sym (ends-are (X b) (below b l))));
          found = rank-found rows n w₃ v fits (omega arith) S count;
        };
        only = only-sorted;
      }

-- No row, all rows, and what that is in the words of the definition. Assumes nothing.
use Prim.Native.Nat.{ℕ, ◌*◌, ◌/◌, ◌%◌, ◌≤◌, ◌<◌}
use native.Mathlib.Omega.{arith}
use mathlib.Core.Path.{◌≡◌, refl, sym, ap, ◌∙◌, subst}
use mathlib.Core.Bool.{Bool}
use mathlib.Core.List.{List}
use lib.Ieee.{Float}
use lib.ListN.{length, get_or}
use Rattle.lists.specs.Loops.{list_of}
use Rattle.table.specs.Table.{cell, column, filled_to}
use Rattle.table.specs.Columns.{columns, corner_column, vertex_column, head_column}
use Rattle.lists.proofs.Loops.{length-list_of, get_or-list_of}
use Rattle.table.proofs.Laws.{get_or-column, filled-column}
use Rattle.definition.specs.declared.Corner.{Corner}
use Rattle.definition.specs.declared.Triangle.{Triangle}
use Rattle.definition.specs.Mesh.{corner_of}
use Rattle.definition.specs.Handed.{handed, corner_at}
use Rattle.definition.specs.Step4Order.{welded}
use Rattle.laws.proofs.Weld.{welded-refl}
use Rattle.view.specs.Frame.{Only}
use Rattle.view.specs.Rows.{row, third, spot_row}
use Rattle.view.specs.Records.{Held}
use Rattle.view.specs.Weld.{First, Vertices}
use Rattle.view.proofs.Frame.{only-run}
use Rattle.view.proofs.Rows.{row_is, row_lt, tri-lt, spot_is}
use Rattle.view.proofs.Records.{corner-is}
use Rattle.view.proofs.Weld.{first-low}
use Rattle.weld.specs.Welding.{Chain, end, corner_in, GoingIn, weld_columns, corner_row, Welded}

-- no row, and empty buckets
module _ (rows : ℕ) (w u : List ℕ) (long : columns * rows ≤ length w) (e : u ≡ filled_to rows head_column (λ _. 0) w rows) where
  -- every bucket is empty
  empty : (b : ℕ) → b < rows → get_or (column rows head_column u) b 0 ≡ 0
  empty b h = ap (λ (l : List ℕ). get_or l b 0) (ap (column rows head_column) e ∙ filled-column rows head_column head_column (λ _. 0) w (omega arith)) ∙ get_or-list_of rows (λ _. 0) 0 b h

  -- nothing is said of any row
  pub going-none : (ps ns ts : List Float) → GoingIn rows 0 ps ns ts u
  going-none ps ns ts = record {
    firsts = λ q h. absurd (omega arith);
    low = λ b h. omega (arith, empty b h);
    chain = λ b h. subst (Chain (column rows _ u)) (sym (empty b h)) end;
    finds = λ q h. absurd (omega arith);
  }

  -- clearing leaves the other columns
  pub only-cleared : Only weld_columns rows w u
  only-cleared = only-run weld_columns rows head_column 0 w u (list_of rows (λ _. 0)) refl (omega arith) (omega (arith, length-list_of {S = ℕ} rows (λ _. 0))) e

-- the first that passes, for a test that agrees below n
pub first-kept : (p q : ℕ → Bool) (v n : ℕ) → ((k : ℕ) → k < n → p k ≡ q k) → v < n → First p v → First q v
first-kept p q v n e h F = record { passes = sym (e v h) ∙ F.passes; least = λ k l. sym (e k (omega arith)) ∙ F.least k l }

-- the same of corners, which agree below n; v is the first that is welded to r
corner-kept : (C D : ℕ → Corner) (n r v : ℕ) → ((k : ℕ) → k < n → C k ≡ D k) → r < n → First (λ k. welded (C r) (C k)) v → First (λ k. welded (D r) (D k)) v
corner-kept C D n r v e h F =
    first-kept (λ k. welded (C r) (C k)) (λ k. welded (D r) (D k)) v n (λ k l. λ i. welded (e r h i) (e k l i))
    (omega (arith, first-low (λ k. welded (C r) (C k)) v r F (welded-refl (C r)))) F

module _ (rows n : ℕ) (ps ns ts : List Float) (w u : List ℕ) where
  -- all rows
  pub welded-all : n ≤ rows → GoingIn rows n ps ns ts u → Only weld_columns rows w u → Welded rows n ps ns ts w u
  welded-all small G O = record {
    first = λ r h. subst (First (λ k. welded (corner_row ps ns ts rows w r) (corner_row ps ns ts rows w k))) (get_or-column rows u vertex_column r (omega arith)) (corner-kept (corner_in ps ns ts (column rows corner_column u)) (corner_row ps ns ts rows w) n r _ same h (G.firsts r h));
    only = O;
  }
    where
      same : (k : ℕ) → k < n → corner_in ps ns ts (column rows corner_column u) k ≡ corner_row ps ns ts rows w k
      same k h = ap (λ (l : List ℕ). corner_in ps ns ts l k) (O.others corner_column refl) ∙ ap (corner_at ps ns ts) (get_or-column rows w corner_column k (omega arith))

  -- in the words of the definition: the column stands for the vertices of the triangles whose corners the rows are
  pub vertices-are : Welded rows n ps ns ts w u → n ≤ rows → (sizes : List ℕ) (xs : List Triangle) (d : Triangle) → 3 * length xs ≡ n → Held rows (handed sizes ps ns ts) xs d w → Vertices rows xs d u
  vertices-are W small sizes xs d e H t i h =
      subst (λ s. First (λ k. welded (corner_of s) (corner_of (spot_row xs d k))) (cell rows vertex_column (row t i) u)) (spot_is xs d t i)
      (corner-kept (corner_row ps ns ts rows w) (λ k. corner_of (spot_row xs d k)) n (row t i) _ corners at (W.first (row t i) at))
    where
      at : row t i < n
      at = omega (arith, e, row_lt t (length xs) i h)

      corners : (k : ℕ) → k < n → corner_row ps ns ts rows w k ≡ corner_of (spot_row xs d k)
      corners k l = ap (corner_row ps ns ts rows w) (sym (row_is k)) ∙ corner-is rows (handed sizes ps ns ts) xs d w H (omega arith) (k / 3) (third (k % 3)) (tri-lt k (length xs) (omega arith))

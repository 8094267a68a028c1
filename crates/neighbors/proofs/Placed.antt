-- The sides put in their columns and brought into some order: what the linking asks, and what the columns stand for. Assumes nothing.
use Prim.Native.Nat.{ℕ, ◌*◌, ◌≤◌, ◌<◌, min, max}
use native.Mathlib.Omega.{arith}
use mathlib.Core.Path.{◌≡◌, refl, sym, ◌∙◌, ap, subst}
use mathlib.Core.Bool.{true, ◌&&◌}
use mathlib.Core.List.{List, [], ◌∷◌}
use lib.Dec.{eqb}
use lib.ListN.{length, get_or}
use Rattle.table.specs.Table.{cell}
use Rattle.lists.specs.Loops.{up_to}
use Rattle.table.specs.Columns.{columns, vertex_column, link_column, lower_column, higher_column, order_column, spare_column}
use Rattle.definition.specs.declared.Triangle.{Triangle}
use Rattle.definition.specs.Mesh.{Third, after}
use Rattle.view.specs.Frame.{outside, Only}
use Rattle.view.specs.Rows.{row}
use Rattle.view.specs.Weld.{Welds}
use Rattle.view.proofs.Frame.{only-trans, only-more, cell-kept}
use Rattle.view.proofs.Rows.{row_lt}
use Rattle.neighbors.specs.Links.{same_ends as word_ends, Ready}
use Rattle.neighbors.specs.Sides.{with_side, side_columns, step_columns, Sided}
use Rattle.neighbors.proofs.Mates.{WeldsBy, ends-are, Sides}
use Rattle.neighbors.proofs.Sided.{end_is, sided}

-- from the list w, with the ends by column k, to u, and with another order to v
module _ (rows k tris : ℕ) (w u v : List ℕ) (out : outside side_columns k ≡ true) (fits : 3 * tris ≤ rows) (long : columns * rows ≤ length w)
    (is : u ≡ up_to (3 * tris) (with_side rows k) w) (O : Only (order_column ∷ spare_column ∷ []) rows u v) where
  abbrev n : ℕ
  n = 3 * tris

  pub there : Sided rows k n w u
  there = subst (Sided rows k n w) (sym is) (sided rows k tris w out fits long)

  pub full : columns * rows ≤ length u
  full = let a = there.only.size in omega arith

  -- what the order leaves
  pub sort-kept : (j r : ℕ) → outside (order_column ∷ spare_column ∷ []) j ≡ true → r < n → cell rows j r v ≡ cell rows j r u
  sort-kept j r e h = cell-kept (order_column ∷ spare_column ∷ []) rows u v O j r e (omega arith)

  -- no side is linked
  pub empty-there : (r : ℕ) → r < n → cell rows link_column r v ≡ 0
  empty-there r h = sort-kept link_column r refl h ∙ there.empty r h

  -- what the linking asks
  pub ready-there : rows < 4294967295 → ((a : ℕ) → a < n → cell rows order_column a v < n) → Ready rows n v
  ready-there few below = record {
    long = let a = O.size in let b = full in omega arith;
    few = few;
    fits = fits;
    order = below;
    links = λ r h. subst (λ (x : ℕ). x ≤ n) (sym (empty-there r h)) (omega arith);
  }

  -- nothing but the columns of the step is stored
  pub only-three : (z : List ℕ) → Only (link_column ∷ []) rows v z → Only step_columns rows w z
  only-three z L =
      only-trans step_columns rows w u z (only-more side_columns step_columns rows w u refl there.only)
      (only-trans step_columns rows u v z (only-more (order_column ∷ spare_column ∷ []) step_columns rows u v refl O) (only-more (link_column ∷ []) step_columns rows v z refl L))

  -- ---- what the columns stand for

  module _ (ss : List Triangle) (d : Triangle) (count : length ss ≡ tris) where
    pub fit : (t : ℕ) (i : Third) → t < length ss → row t i < n
    fit t i h = subst (λ (m : ℕ). row t i < 3 * m) count (row_lt t (length ss) i h)

    -- the vertices stand
    vertex-kept : (t : ℕ) (i : Third) → t < length ss → cell rows vertex_column (row t i) v ≡ cell rows vertex_column (row t i) w
    vertex-kept t i h = sort-kept vertex_column (row t i) refl (fit t i h) ∙ cell-kept side_columns rows w u there.only vertex_column (row t i) refl (omega (arith, fit t i h))

    -- the ends of a side, by triangle and corner
    lower-there : (t : ℕ) (i : Third) → t < length ss → cell rows lower_column (row t i) v ≡ min (cell rows k (row t i) w) (cell rows k (row t (after i)) w)
    lower-there t i h = sort-kept lower_column (row t i) refl (fit t i h) ∙ there.lower (row t i) (fit t i h) ∙ ap (λ (r : ℕ). min (cell rows k (row t i) w) (cell rows k r w)) (end_is t i)

    higher-there : (t : ℕ) (i : Third) → t < length ss → cell rows higher_column (row t i) v ≡ max (cell rows k (row t i) w) (cell rows k (row t (after i)) w)
    higher-there t i h = sort-kept higher_column (row t i) refl (fit t i h) ∙ there.higher (row t i) (fit t i h) ∙ ap (λ (r : ℕ). max (cell rows k (row t i) w) (cell rows k r w)) (end_is t i)

    pub sides-there : Welds rows ss d w → WeldsBy rows k ss d w → (os : List ℕ) → ((a : ℕ) → a < length os → cell rows order_column a v ≡ get_or os a 0) → Sides rows ss d os v
    unfolding word_ends
    sides-there W B os at = record {
      vertex = λ t₁ t₂ i j h g. (λ z. eqb (vertex-kept t₁ i h z) (vertex-kept t₂ j g z)) ∙ W t₁ t₂ i j h g;
      ends = λ t₁ t₂ i j h g. (λ z. eqb (lower-there t₁ i h z) (lower-there t₂ j g z) && eqb (higher-there t₁ i h z) (higher-there t₂ j g z)) ∙ ends-are rows k ss d w B t₁ t₂ i j h g;
      order = at;
    }

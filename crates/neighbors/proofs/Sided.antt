-- The sides in their columns before the sort: what each turn stores, and all of them. Assumes nothing.
use Prim.Native.Nat.{ℕ, suc, ◌+◌, ◌*◌, ◌-◌, ◌%◌, ◌≤◌, ◌<◌, min, max}
use native.Mathlib.Nat.{div-add-mod, mod-lt, mul-add-mod_self_left, mod-eq_of_lt}
use native.Mathlib.Omega.{arith}
use mathlib.Core.Path.{◌≡◌, refl, sym, ◌∙◌, ap}
use mathlib.Core.Bool.{Bool, true, false, cond}
use mathlib.Core.List.{List}
use lib.Dec.{eqb}
use lib.ListN.{length, take, length-set}
use lib.Seq.{get_or-set_same, get_or-set_other, get_or-take, ext_get_or, length-take-le}
use borrow.Author.Tests.{eqb-false}
use Rattle.table.specs.Table.{cell, put, column}
use Rattle.lists.specs.Loops.{up_to, list_of}
use Rattle.table.specs.Columns.{columns, link_column, lower_column, higher_column, order_column}
use Rattle.table.proofs.Laws.{get_or-column, length-column}
use Rattle.lists.proofs.Loops.{up_to-ind, length-list_of, get_or-list_of, last-or-before}
use Rattle.definition.specs.Mesh.{Third, one, two, three, after}
use Rattle.view.specs.Frame.{outside, Only}
use Rattle.view.specs.Rows.{num, row}
use Rattle.view.proofs.Frame.{only_none, only-put, cell-kept}
use Rattle.view.proofs.Rows.{num-lt}
use Rattle.neighbors.specs.Sides.{end_row, lower_end, higher_end, with_side, side_columns, Sided}

-- ---- where a side ends

-- in the same triangle
pub end_lt : (r tris : ℕ) → r < 3 * tris → end_row r < 3 * tris
unfolding end_row
end_lt r tris h = step (eqb (r % 3) 2) refl
  where
    step : (b : Bool) → eqb (r % 3) 2 ≡ b → cond b (r - 2) (r + 1) < 3 * tris
    step true e = omega arith
    step false e = let a = div-add-mod r 3 in let l : r % 3 < 3 = mod-lt r (omega arith) in let ne = eqb-false (r % 3) 2 e in omega arith

-- at the next corner
pub end_is : (t : ℕ) (i : Third) → end_row (row t i) ≡ row t (after i)
unfolding end_row
end_is t i = ap (λ (x : ℕ). cond (eqb x 2) (row t i - 2) (row t i + 1)) (mul-add-mod_self_left 3 t (num i) ∙ mod-eq_of_lt (num-lt i)) ∙ step i
  where
    step : (i : Third) → cond (eqb (num i) 2) (row t i - 2) (row t i + 1) ≡ row t (after i)
    step one = unfold num after in omega arith
    step two = unfold num after in omega arith
    step three = unfold num after in omega arith

-- ---- one turn

module _ (rows k r : ℕ) (u : List ℕ) (h : r < rows) (long : columns * rows ≤ length u) where
  abbrev L : ℕ
  L = lower_end rows k u r

  abbrev H : ℕ
  H = higher_end rows k u r

  abbrev u₁ : List ℕ
  u₁ = put rows lower_column r L u

  abbrev u₂ : List ℕ
  u₂ = put rows higher_column r H u₁

  abbrev u₃ : List ℕ
  u₃ = put rows order_column r r u₂

  lower-new : cell rows lower_column r (with_side rows k r u) ≡ L
  unfolding with_side
  lower-new =
      get_or-set_other u₃ (link_column * rows + r) (lower_column * rows + r) 0 0 (λ e. omega arith)
      ∙ get_or-set_other u₂ (order_column * rows + r) (lower_column * rows + r) r 0 (λ e. omega arith)
      ∙ get_or-set_other u₁ (higher_column * rows + r) (lower_column * rows + r) H 0 (λ e. omega arith)
      ∙ get_or-set_same u (lower_column * rows + r) L 0 (omega arith)

  higher-new : cell rows higher_column r (with_side rows k r u) ≡ H
  unfolding with_side
  higher-new =
      get_or-set_other u₃ (link_column * rows + r) (higher_column * rows + r) 0 0 (λ e. omega arith)
      ∙ get_or-set_other u₂ (order_column * rows + r) (higher_column * rows + r) r 0 (λ e. omega arith)
      ∙ get_or-set_same u₁ (higher_column * rows + r) H 0 (omega (arith, length-set u (lower_column * rows + r) L))

  order-new : cell rows order_column r (with_side rows k r u) ≡ r
  unfolding with_side
  order-new =
      get_or-set_other u₃ (link_column * rows + r) (order_column * rows + r) 0 0 (λ e. omega arith)
      ∙ get_or-set_same u₂ (order_column * rows + r) r 0 (omega (arith, length-set u (lower_column * rows + r) L, length-set u₁ (higher_column * rows + r) H))

  link-new : cell rows link_column r (with_side rows k r u) ≡ 0
  unfolding with_side
  link-new = get_or-set_same u₃ (link_column * rows + r) 0 0 (omega (arith, length-set u (lower_column * rows + r) L, length-set u₁ (higher_column * rows + r) H, length-set u₂ (order_column * rows + r) r))

  -- other rows stand
  row_kept : (j i : ℕ) → (j * rows + i ≡ link_column * rows + r → ⊥) → (j * rows + i ≡ order_column * rows + r → ⊥) → (j * rows + i ≡ higher_column * rows + r → ⊥) → (j * rows + i ≡ lower_column * rows + r → ⊥) → cell rows j i (with_side rows k r u) ≡ cell rows j i u
  unfolding with_side
  row_kept j i a b c d =
      get_or-set_other u₃ (link_column * rows + r) (j * rows + i) 0 0 a
      ∙ get_or-set_other u₂ (order_column * rows + r) (j * rows + i) r 0 b
      ∙ get_or-set_other u₁ (higher_column * rows + r) (j * rows + i) H 0 c
      ∙ get_or-set_other u (lower_column * rows + r) (j * rows + i) L 0 d

  only-side : (w : List ℕ) → Only side_columns rows w u → Only side_columns rows w (with_side rows k r u)
  unfolding with_side
  only-side w O =
      only-put side_columns rows w u₃ link_column r 0 refl (omega arith) h
      (only-put side_columns rows w u₂ order_column r r refl (omega arith) h
      (only-put side_columns rows w u₁ higher_column r H refl (omega arith) h (only-put side_columns rows w u lower_column r L refl (omega arith) h O)))

-- ---- all turns

-- one side more
sided-more : (rows c k : ℕ) (w u : List ℕ) → outside side_columns c ≡ true → k < rows → end_row k < rows → columns * rows ≤ length w → Sided rows c k w u → Sided rows c (suc k) w (with_side rows c k u)
sided-more rows c k w u out h e long S =
    record {
      lower = λ r l. last-or-before (λ x. cell rows lower_column x U ≡ lower_end rows c w x) k r l
          (lower-new rows c k u h full ∙ (λ z. min (same k h z) (same (end_row k) e z)))
          (λ q. row_kept rows c k u h full lower_column r (λ x. omega arith) (λ x. omega arith) (λ x. omega arith) (λ x. omega arith) ∙ S.lower r q);
      higher = λ r l. last-or-before (λ x. cell rows higher_column x U ≡ higher_end rows c w x) k r l
          (higher-new rows c k u h full ∙ (λ z. max (same k h z) (same (end_row k) e z)))
          (λ q. row_kept rows c k u h full higher_column r (λ x. omega arith) (λ x. omega arith) (λ x. omega arith) (λ x. omega arith) ∙ S.higher r q);
      order = λ r l. last-or-before (λ x. cell rows order_column x U ≡ x) k r l
          (order-new rows c k u h full)
          (λ q. row_kept rows c k u h full order_column r (λ x. omega arith) (λ x. omega arith) (λ x. omega arith) (λ x. omega arith) ∙ S.order r q);
      empty = λ r l. last-or-before (λ x. cell rows link_column x U ≡ 0) k r l
          (link-new rows c k u h full)
          (λ q. row_kept rows c k u h full link_column r (λ x. omega arith) (λ x. omega arith) (λ x. omega arith) (λ x. omega arith) ∙ S.empty r q);
      only = only-side rows c k u h full w S.only;
    }
  where
    U : List ℕ
    U = with_side rows c k u

    full : columns * rows ≤ length u
    full = let a = S.only.size in omega arith

    same : (r : ℕ) → r < rows → cell rows c r u ≡ cell rows c r w
    same r l = cell-kept side_columns rows w u S.only c r out l

-- the loop over all rows of the triangles
pub sided : (rows c tris : ℕ) (w : List ℕ) → outside side_columns c ≡ true → 3 * tris ≤ rows → columns * rows ≤ length w → Sided rows c (3 * tris) w (up_to (3 * tris) (with_side rows c) w)
sided rows c tris w out fits long =
    up_to-ind (λ k u. Sided rows c k w u) (with_side rows c) w (3 * tris)
    (record { lower = λ r l. absurd (omega arith); higher = λ r l. absurd (omega arith); order = λ r l. absurd (omega arith); empty = λ r l. absurd (omega arith); only = only_none side_columns rows w })
    (λ k u l S. sided-more rows c k w u out (omega arith) (omega (arith, end_lt k tris l)) long S)

-- the order column counts the rows
pub counted : (rows c n : ℕ) (w u : List ℕ) → n ≤ rows → columns * rows ≤ length u → Sided rows c n w u → take n (column rows order_column u) ≡ list_of n (λ k. k)
counted rows c n w u fits long S =
    ext_get_or 0 (take n (column rows order_column u)) (list_of n (λ k. k)) (size ∙ sym (length-list_of n (λ k. k)))
    (λ k h.
    let l : k < n = omega (arith, h, size) in
    get_or-take n (column rows order_column u) k 0 l ∙ get_or-column rows u order_column k (omega arith) ∙ S.order k l ∙ sym (get_or-list_of n (λ k. k) 0 k l))
  where
    size : length (take n (column rows order_column u)) ≡ n
    size = length-take-le n (column rows order_column u) (omega (arith, length-column rows u order_column (omega arith)))

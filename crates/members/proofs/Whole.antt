-- The columns of members in triangle order, from those of the groups. Assumes nothing.
use Prim.Native.Nat.{ℕ, suc, ◌+◌, ◌*◌, ◌^◌, ◌≤◌, ◌<◌}
use native.Mathlib.Numerals.{add-one}
use native.Mathlib.Omega.{arith}
use mathlib.Core.Path.{◌≡◌, refl, sym, ap, ◌∙◌, subst}
use mathlib.Core.Bool.{Bool, true, false, cond}
use mathlib.Core.List.{List, [], ◌∷◌}
use lib.Dec.{eqb, ltb}
use lib.ListN.{length, get_or, get_or-append}
use lib.Seq.{slice, sets-eq}
use borrow.Author.Tests.{eq-eqb, lt-ltb, ltb-true}
use Rattle.laws.proofs.Closed.{Between}
use Rattle.table.specs.Table.{cell, column, filled_to}
use Rattle.lists.specs.Loops.{list_of}
use Rattle.table.specs.Columns.{columns, group_column, met_column, lower_column, higher_column, order_column, spare_column, begin_column}
use Rattle.table.proofs.Laws.{get_or-column, length-column, filled-column, run-fills}
use Rattle.lists.proofs.Loops.{length-list_of, get_or-list_of}
use Rattle.definition.specs.declared.Triangle.{Triangle}
use Rattle.lists.specs.Lists.{keep}
use Rattle.definition.specs.Step5Links.{Link}
use Rattle.definition.specs.Step6Groups.{marks}
use Rattle.laws.proofs.Part.{keep_same}
use Rattle.definition.specs.Names.{Names}
use Rattle.sort.specs.Sort.{sorted, ends, key}
use Rattle.sort.proofs.Keys.{ends_at}
use Rattle.view.specs.Frame.{outside, Only}
use Rattle.view.specs.Groups.{Grouping, begin_at, InOrder}
use Rattle.view.proofs.Lists.{index-every}
use Rattle.view.proofs.Frame.{only-trans, only-more, only-run, cell-kept}
use Rattle.members.specs.Members.{begin_of, Sorting, order_columns}
use Rattle.members.proofs.Begins.{plain, grow, below}
use Rattle.members.proofs.Stretches.{slice-same}
use Rattle.members.proofs.Ordering.{sorting-only, sorting-far, begin-kept, stretch}

-- a column of which the first n rows are filled leaves the others
only-filled : (rows j n : ℕ) (h : ℕ → ℕ) (w u : List ℕ) → j < columns → n ≤ rows → u ≡ filled_to rows j h w n → Only (j ∷ []) rows w u
only-filled rows j n h w u below few e = only-run (j ∷ []) rows j 0 w u (list_of n h) (outside-own j) below (omega (arith, length-list_of n h)) e
  where
    outside-own : (j : ℕ) → outside (j ∷ []) j ≡ false
    outside-own j = ap (λ (b : Bool). cond b false true) (eq-eqb j j refl)

module _ (rows groups count : ℕ) (w w₁ w₂ w₃ u : List ℕ) (few : groups ≤ rows) (small : count ≤ rows) (long : columns * rows ≤ length w)
    (e₁ : w₁ ≡ filled_to rows lower_column (λ _. 0) w rows) (e₂ : w₂ ≡ filled_to rows higher_column (λ _. 0) w₁ rows) (e₃ : w₃ ≡ filled_to rows order_column (λ j. get_or (column rows met_column w₂) j 0) w₂ count)
    (S : Sorting rows groups count w₃ groups u) where
  O₁ : Only (lower_column ∷ []) rows w w₁
  O₁ = only-filled rows lower_column rows (λ _. 0) w w₁ (omega arith) (omega arith) e₁

  O₂ : Only (higher_column ∷ []) rows w₁ w₂
  O₂ = only-filled rows higher_column rows (λ _. 0) w₁ w₂ (omega arith) (omega arith) e₂

  O₃ : Only (order_column ∷ []) rows w₂ w₃
  O₃ = only-filled rows order_column count (λ j. get_or (column rows met_column w₂) j 0) w₂ w₃ (omega arith) small e₃

  O₄ : Only (order_column ∷ spare_column ∷ []) rows w₃ u
  O₄ = sorting-only rows groups count w₃ S

  to-three : Only order_columns rows w w₃
  to-three =
      only-trans order_columns rows w w₁ w₃ (only-more (lower_column ∷ []) order_columns rows w w₁ refl O₁)
      (only-trans order_columns rows w₁ w₂ w₃ (only-more (higher_column ∷ []) order_columns rows w₁ w₂ refl O₂) (only-more (order_column ∷ []) order_columns rows w₂ w₃ refl O₃))

  -- nothing but the four columns is written
  pub all-only : Only order_columns rows w u
  all-only = only-trans order_columns rows w w₃ u to-three (only-more (order_column ∷ spare_column ∷ []) order_columns rows w₃ u refl O₄)

  long₃ : columns * rows ≤ length w₃
  long₃ = omega (arith, to-three.size)

  -- ---- the key of a row is the row

  lower-zero : (r : ℕ) → r < rows → cell rows lower_column r w₃ ≡ 0
  lower-zero r h =
      cell-kept (order_column ∷ []) rows w₂ w₃ O₃ lower_column r refl h ∙ (cell-kept (higher_column ∷ []) rows w₁ w₂ O₂ lower_column r refl h
      ∙ (sym (get_or-column rows w₁ lower_column r h) ∙ (ap (λ (l : List ℕ). get_or (column rows lower_column l) r 0) e₁
      ∙ (ap (λ (l : List ℕ). get_or l r 0) (filled-column rows lower_column lower_column (λ _. 0) w (omega arith)) ∙ get_or-list_of rows (λ _. 0) 0 r h))))

  higher-zero : (r : ℕ) → r < rows → cell rows higher_column r w₃ ≡ 0
  higher-zero r h =
      cell-kept (order_column ∷ []) rows w₂ w₃ O₃ higher_column r refl h
      ∙ (sym (get_or-column rows w₂ higher_column r h) ∙ (ap (λ (l : List ℕ). get_or (column rows higher_column l) r 0) e₂
      ∙ (ap (λ (l : List ℕ). get_or l r 0) (filled-column rows higher_column higher_column (λ _. 0) w₁ (omega (arith, O₁.size))) ∙ get_or-list_of rows (λ _. 0) 0 r h)))

  own_key : (r : ℕ) → r < rows → key rows w₃ r ≡ r
  unfolding key
  own_key r h = let e = ends_at rows w₃ r h in let l = lower-zero r h in let k = higher-zero r h in zero-ends (ends rows w₃ r) (cell rows lower_column r w₃) (cell rows higher_column r w₃) e l k
    where
      zero-ends : (x a b : ℕ) → x ≡ a * 2 ^ 32 + b → a ≡ 0 → b ≡ 0 → x * 2 ^ 32 + r ≡ r
      zero-ends x a b p q s = omega arith

  -- ---- the members as met

  copied : (i : ℕ) → i < count → get_or (column rows order_column w₃) i 0 ≡ get_or (column rows met_column w) i 0
  copied i h =
      ap (λ (l : List ℕ). get_or l i 0) (run-fills rows order_column 0 w₂ w₃ vs e₃ (omega (arith, n)) ∙ sets-eq vs (column rows order_column w₂) 0 (omega (arith, n, length-column rows w₂ order_column (omega (arith, O₁.size, O₂.size)))))
      ∙ (get_or-append vs _ 0 i (omega (arith, n)) ∙ (get_or-list_of count (λ j. get_or (column rows met_column w₂) j 0) 0 i h ∙ ap (λ (l : List ℕ). get_or l i 0) (O₂.others met_column refl ∙ O₁.others met_column refl)))
    where
      vs : List ℕ
      vs = list_of count (λ j. get_or (column rows met_column w₂) j 0)

      n : length vs ≡ count
      n = length-list_of count (λ j. get_or (column rows met_column w₂) j 0)

  -- ---- the groups

  module _ (ss : List Triangle) (d : Triangle) (fits : 3 * length ss ≤ rows) (ls : List Link) (B : Between ss ls) (N : Names ss) (all : count ≡ length (marks ss ls)) (G : Grouping rows ss d (marks ss ls) groups w) where
    abbrev b : ℕ → ℕ
    b q = begin_of rows groups count w₃ q

    -- where each group begins, before and after
    begins : (q : ℕ) → b q ≡ begin_at rows groups count w q
    begins q = begin-kept order_columns rows groups count w w₃ refl few to-three q ∙ plain rows ss d (marks ss ls) groups count w all G q

    at-end : (q : ℕ) → begin_at rows groups count u q ≡ begin_at rows groups count w q
    at-end q = step (ltb q groups) refl
      where
        step : (x : Bool) → ltb q groups ≡ x → cond x (cell rows begin_column q u) count ≡ cond x (cell rows begin_column q w) count
        step true h = cell-kept order_columns rows w u all-only begin_column q refl (omega (arith, ltb-true q groups h))
        step false h = refl

    -- they rise
    rises : (q : ℕ) → b q ≤ b (suc q)
    rises q = omega (arith, begins q, begins (suc q), grow rows ss d (marks ss ls) groups count w all G q)

    -- what the definition's groups are in triangle order
    pub in_order : InOrder rows ss groups count u
    in_order q h =
        (λ z. slice (first z) (second z) (column rows order_column u))
        ∙ ((sorting-far rows groups count w₃ few small long₃ rises S).done q h
        ∙ (ap (sorted (key rows w₃)) met-stretch
        ∙ (stretch rows ss d groups w ls B N G q h (key rows w₃) fits long (λ r l. own_key r (omega arith)) ∙ tests)))
      where
        here : begin_at rows groups count w q ≡ cell rows begin_column q w
        here = ap (λ (x : Bool). cond x (cell rows begin_column q w) count) (lt-ltb q groups h)

        there : b (suc q) ≡ begin_at rows groups (length (marks ss ls)) w (q + 1)
        there = begins (suc q) ∙ ((λ z. begin_at rows groups (all z) w (sym (add-one q) z)))

        first : begin_at rows groups count u q ≡ b q
        first = at-end q ∙ sym (begins q)

        second : begin_at rows groups count u (q + 1) ≡ b (suc q)
        second = at-end (q + 1) ∙ (ap (begin_at rows groups count w) (add-one q) ∙ sym (begins (suc q)))

        end : b (suc q) ≤ count
        end = omega (arith, begins (suc q), below rows ss d (marks ss ls) groups count w all G (suc q))

        met-stretch : slice (b q) (b (suc q)) (column rows order_column w₃) ≡ slice (cell rows begin_column q w) (begin_at rows groups (length (marks ss ls)) w (q + 1)) (column rows met_column w)
        met-stretch =
            slice-same (b q) (b (suc q)) (column rows order_column w₃) (column rows met_column w) (omega (arith, end, length-column rows w₃ order_column (omega (arith, long₃)))) (omega (arith, end, length-column rows w met_column (omega arith))) (λ i x y. copied i (omega (arith, end, y)))
            ∙ (λ z. slice ((begins q ∙ here) z) (there z) (column rows met_column w))

        tests : keep (λ r. eqb (cell rows group_column r w) (q + 1)) (list_of (3 * length ss) (λ k. k)) ≡ keep (λ r. eqb (cell rows group_column r u) (q + 1)) (list_of (3 * length ss) (λ k. k))
        tests =
            keep_same (λ r. eqb (cell rows group_column r w) (q + 1)) (λ r. eqb (cell rows group_column r u) (q + 1))
            (index-every (λ r. eqb (cell rows group_column r w) (q + 1) ≡ eqb (cell rows group_column r u) (q + 1)) (list_of (3 * length ss) (λ k. k)) 0
            (λ k l.
            let m : k < 3 * length ss = omega (arith, l, length-list_of (3 * length ss) (λ (k : ℕ). k)) in
            subst (λ (r : ℕ). eqb (cell rows group_column r w) (q + 1) ≡ eqb (cell rows group_column r u) (q + 1)) (sym (get_or-list_of (3 * length ss) (λ k. k) 0 k m))
            (ap (λ (x : ℕ). eqb x (q + 1)) (sym (cell-kept order_columns rows w u all-only group_column k refl (omega arith))))))

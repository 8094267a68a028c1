-- A turn's stores in the work list. Assumes nothing.
use Prim.Native.Nat.{ℕ, suc, ◌+◌, ◌*◌, ◌-◌, ◌≤◌, ◌<◌}
use native.Mathlib.Numerals.{add-one}
use native.Mathlib.Omega.{arith}
use mathlib.Core.Path.{◌≡◌, refl, sym, ap, ◌∙◌, subst}
use mathlib.Core.Bool.{cond}
use mathlib.Core.List.{List}
use lib.Dec.{eqb}
use lib.Ieee.{Float}
use lib.ListN.{length, get_or, set}
use Rattle.table.specs.Table.{cell, put, column}
use Rattle.table.specs.Columns.{columns, corner_column, vertex_column, head_column, next_column}
use Rattle.table.proofs.Laws.{column-set, get_or-column, length-column}
use Rattle.definition.specs.declared.Corner.{Corner}
use Rattle.definition.specs.Step4Order.{welded}
use Rattle.view.specs.Frame.{Only}
use Rattle.view.proofs.Frame.{only_none, only-put}
use Rattle.weld.specs.Welding.{bucket_of, Finds, corner_in, Going, GoingIn, put_first, weld_columns}
use Rattle.weld.proofs.Turns.{going-found, going-new}

module _ (rows r : ℕ) (ps ns ts : List Float) (w : List ℕ) (long : columns * rows ≤ length w) (room : r < rows) where
  -- the corner of a row
  abbrev C : ℕ → Corner
  C = corner_in ps ns ts (column rows corner_column w)

  -- what is found in a bucket
  abbrev Found : Corner → ℕ → ℕ → Type 0
  Found c p s = Finds (column rows next_column w) (λ k. welded c (C k)) p s

  -- the column of a store has all rows
  in-column : (k i : ℕ) → i < rows → k * rows + rows ≤ length w → i < length (column rows k w)
  in-column k i h l = omega (arith, length-column rows w k l)

  -- the word at the head of the bucket, as the code reads it
  head-is : (c : Corner) (b : ℕ) → c ≡ C r → b ≡ bucket_of rows c → b < rows → cell rows head_column b w ≡ get_or (column rows head_column w) (bucket_of rows (C r)) 0
  head-is c b e f h = sym (get_or-column rows w head_column b h) ∙ ap (λ (n : ℕ). get_or (column rows head_column w) n 0) (f ∙ ap (bucket_of rows) e)

  -- what is found for the corner that was read
  found-is : (c : Corner) (b s : ℕ) → c ≡ C r → b ≡ bucket_of rows c → b < rows → Found c (cell rows head_column b w) s → Found (C r) (get_or (column rows head_column w) (bucket_of rows (C r)) 0) s
  found-is c b s e f h F = coe 0 1 (i. Found (e i) (head-is c b e f h i) s) F

  module _ (G : GoingIn rows r ps ns ts w) (c : Corner) (b s : ℕ) (e : c ≡ C r) (f : b ≡ bucket_of rows c) (h : b < rows) (F : Found c (cell rows head_column b w) s) where
    -- one was found
    stored-found : (s ≡ 0 → ⊥) → GoingIn rows (r + 1) ps ns ts (put rows vertex_column r (s - 1) w) × Only weld_columns rows w (put rows vertex_column r (s - 1) w)
    stored-found n = (
      coe 1 0 (i. Going (corner_in ps ns ts (stored corner_column i)) rows (add-one r i) (stored vertex_column i) (stored head_column i) (stored next_column i))
          (going-found C rows r _ _ _ G room (s - 1) (in-column vertex_column r room (omega arith)) (subst (λ (m : ℕ). Found (C r) (get_or (column rows head_column w) (bucket_of rows (C r)) 0) m) is (found-is c b s e f h F))),
      only-put weld_columns rows w w vertex_column r (s - 1) refl (omega arith) room (only_none weld_columns rows w),
    )
      where
        is : s ≡ suc (s - 1)
        is = omega arith

        stored : (k : ℕ) → column rows k (put rows vertex_column r (s - 1) w) ≡ cond (eqb vertex_column k) (set (column rows k w) r (s - 1)) (column rows k w)
        stored k = column-set rows k vertex_column r (s - 1) w room

    -- the same of a word that is its row
    pub stored_at : (v : ℕ) → (s ≡ 0 → ⊥) → v ≡ s - 1 → GoingIn rows (r + 1) ps ns ts (put rows vertex_column r v w) × Only weld_columns rows w (put rows vertex_column r v w)
    stored_at v n q = subst (λ (m : ℕ). GoingIn rows (r + 1) ps ns ts (put rows vertex_column r m w) × Only weld_columns rows w (put rows vertex_column r m w)) (sym q) (stored-found n)

    -- none was found
    pub stored-new : s ≡ 0 → GoingIn rows (r + 1) ps ns ts (put_first rows r b w) × Only weld_columns rows w (put_first rows r b w)
    stored-new z = (
      coe 1 0 (i. Going (corner_in ps ns ts (stored corner_column i)) rows (add-one r i) (stored vertex_column i) (heads i) (nexts i))
          (going-new C rows r _ _ _ G room (in-column vertex_column r room (omega arith)) (in-column head_column _ (subst (λ (m : ℕ). m < rows) own h) (omega arith)) (in-column next_column r room (omega arith)) (subst (λ (m : ℕ). Found (C r) (get_or (column rows head_column w) (bucket_of rows (C r)) 0) m) z (found-is c b s e f h F))),
      only-put weld_columns rows w _ vertex_column r r refl (omega arith) room
          (only-put weld_columns rows w _ head_column b (r + 1) refl (omega arith) h
          (only-put weld_columns rows w w next_column r (cell rows head_column b w) refl (omega arith) room (only_none weld_columns rows w))),
    )
      where
        own : b ≡ bucket_of rows (C r)
        own = f ∙ ap (bucket_of rows) e

        -- what the three stores make of a column
        next : ℕ → List ℕ
        next k = cond (eqb next_column k) (set (column rows k w) r (cell rows head_column b w)) (column rows k w)

        head : ℕ → List ℕ
        head k = cond (eqb head_column k) (set (next k) b (r + 1)) (next k)

        stored : (k : ℕ) → column rows k (put_first rows r b w) ≡ cond (eqb vertex_column k) (set (head k) r r) (head k)
        stored k =
            column-set rows k vertex_column r r _ room
            ∙ ap (λ (l : List ℕ). cond (eqb vertex_column k) (set l r r) l)
            (column-set rows k head_column b (r + 1) _ h ∙ ap (λ (l : List ℕ). cond (eqb head_column k) (set l b (r + 1)) l) (column-set rows k next_column r (cell rows head_column b w) w room))

        heads : column rows head_column (put_first rows r b w) ≡ set (column rows head_column w) (bucket_of rows (C r)) (suc r)
        heads = stored head_column ∙ (λ i. set (column rows head_column w) (own i) (add-one r i))

        nexts : column rows next_column (put_first rows r b w) ≡ set (column rows next_column w) r (get_or (column rows head_column w) (bucket_of rows (C r)) 0)
        nexts = stored next_column ∙ ap (set (column rows next_column w) r) (head-is c b e f h)

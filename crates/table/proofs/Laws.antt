-- The laws of the table: what a store in one column does to each column. Assumes nothing.
use mathlib.Core.Path.{◌≡◌, refl, sym, ap, ◌∙◌, subst}
use mathlib.Core.Bool.{Bool, true, false, cond}
use mathlib.Core.List.{List, [], ◌∷◌, ◌++◌, append-nil}
use mathlib.Core.Logic.{◌⊎◌, inl, inr, ⊎_elim}
use Prim.Native.Nat.{ℕ, zero, suc, ◌+◌, ◌*◌, ◌-◌, ◌≤◌, ◌<◌}
use native.Mathlib.Nat.{suc-mul, mul-le-mul_right, add-zero, add-suc, suc-add}
use native.Mathlib.Omega.{arith}
use lib.ListN.{length, take, drop, get_or, set, replicate, length-drop, get_or-append}
use lib.Seq.{length-take-le, get_or-take, get_or-drop, drop-set-add, drop-set-lt, take-set-lt, take-set-le, sets, sets-eq, length-sets, drop-length}
use lib.Arith.{lt_of_le-ne}
use Rattle.lists.specs.Loops.{list_of}
use Rattle.lists.proofs.Loops.{length-list_of, get_or-list_of}
use native.Mathlib.Numerals.{add-one}
use lib.Dec.{eqb, ltb}
use borrow.Author.Tests.{eqb-true, eqb-false, ltb-true, ltb-false}
use Rattle.table.specs.Table.{cell, put, column, filled_to}

-- a store, by its place and its number
pub set-by : (w : List ℕ) (p q x y : ℕ) → p ≡ q → x ≡ y → set w p x ≡ set w q y
set-by w p q x y e f = λ i. set w (e i) (f i)

-- a column that stands below column n ends at or before that one's start
pub column-ends : (k n rows : ℕ) → k < n → k * rows + rows ≤ n * rows
column-ends k n rows h = subst (λ (m : ℕ). m ≤ n * rows) (suc-mul k rows) (mul-le-mul_right rows h)

-- two different numbers: one is below the other
pub apart : (a b : ℕ) → ((a ≡ b) → ⊥) → (a < b) ⊎ (b < a)
apart a b ne = go (ltb a b) refl
  where
    go : (t : Bool) → ltb a b ≡ t → (a < b) ⊎ (b < a)
    go true e = inl (ltb-true a b e)
    go false e = inr (lt_of_le-ne (ltb-false a b e) (λ q. ne (sym q)))

module _ (rows : ℕ) (w : List ℕ) where
  pub length-column : (k : ℕ) → k * rows + rows ≤ length w → length (column rows k w) ≡ rows
  unfolding column
  length-column k h = length-take-le rows (drop (k * rows) w) (omega (arith, length-drop (k * rows) w))

  pub get_or-column : (k i : ℕ) → i < rows → get_or (column rows k w) i 0 ≡ cell rows k i w
  unfolding column
  get_or-column k i h = rw (get_or-take, get_or-drop)

  -- a store in a column is a store in that column's list
  pub column-put : (k i v : ℕ) → i < rows → column rows k (put rows k i v w) ≡ set (column rows k w) i v
  unfolding column
  column-put k i v h = rw (drop-set-add, take-set-lt)

  -- and leaves a column above it
  column-put-above : (k j i v : ℕ) → j < k → i < rows → column rows k (put rows j i v w) ≡ column rows k w
  unfolding column
  column-put-above k j i v l h = ap (λ (t : List ℕ). take rows t) (drop-set-lt (k * rows) w (j * rows + i) v (omega (arith, column-ends j k rows l)))

  -- and a column below it
  column-put-below : (k j i v : ℕ) → k < j → i < rows → column rows k (put rows j i v w) ≡ column rows k w
  unfolding column
  column-put-below k j i v l h =
      let p : ℕ = j * rows + i in
      let e : k * rows + (p - k * rows) ≡ p = omega (arith, column-ends k j rows l) in
      ap (λ (q : ℕ). take rows (drop (k * rows) (set w q v))) (sym e)
      ∙ ap (λ (t : List ℕ). take rows t) (drop-set-add (k * rows) w (p - k * rows) v)
      ∙ take-set-le rows (drop (k * rows) w) (p - k * rows) v (omega (arith, column-ends k j rows l))

-- The one law of a run of stores: `vs`, stored from row i of column j on, changes that column and no other. A single store is the run v ∷ [].
module _ (rows : ℕ) where
  column-sets-same : (k i : ℕ) (vs w : List ℕ) → i + length vs ≤ rows → column rows k (sets w (k * rows + i) vs) ≡ sets (column rows k w) i vs
  column-sets-same k i [] w h = refl
  column-sets-same k i (v ∷ vs) w h =
      ap (λ (p : ℕ). column rows k (sets (put rows k i v w) p vs)) (sym (add-suc (k * rows) i))
      ∙ column-sets-same k (suc i) vs (put rows k i v w) (omega arith)
      ∙ ap (λ (l : List ℕ). sets l (suc i) vs) (column-put rows w k i v (omega arith))

  column-put-other : (k j i v : ℕ) (w : List ℕ) → ((j ≡ k) → ⊥) → i < rows → column rows k (put rows j i v w) ≡ column rows k w
  column-put-other k j i v w ne h = ⊎_elim (λ l. column-put-above rows w k j i v l h) (λ l. column-put-below rows w k j i v l h) (apart j k ne)

  column-sets-other : (k j i : ℕ) (vs w : List ℕ) → ((j ≡ k) → ⊥) → i + length vs ≤ rows → column rows k (sets w (j * rows + i) vs) ≡ column rows k w
  column-sets-other k j i [] w ne h = refl
  column-sets-other k j i (v ∷ vs) w ne h =
      ap (λ (p : ℕ). column rows k (sets (put rows j i v w) p vs)) (sym (add-suc (j * rows) i))
      ∙ column-sets-other k j (suc i) vs (put rows j i v w) ne (omega arith)
      ∙ column-put-other k j i v w ne (omega arith)

  pub column-sets : (k j i : ℕ) (vs w : List ℕ) → i + length vs ≤ rows → column rows k (sets w (j * rows + i) vs) ≡ cond (eqb j k) (sets (column rows k w) i vs) (column rows k w)
  column-sets k j i vs w h = go (eqb j k) refl
    where
      go : (b : Bool) → eqb j k ≡ b → column rows k (sets w (j * rows + i) vs) ≡ cond b (sets (column rows k w) i vs) (column rows k w)
      go true e = ap (λ (m : ℕ). column rows k (sets w (m * rows + i) vs)) (eqb-true j k e) ∙ column-sets-same k i vs w h
      go false e = column-sets-other k j i vs w (eqb-false j k e) h

  pub column-set : (k j i v : ℕ) (w : List ℕ) → i < rows → column rows k (set w (j * rows + i) v) ≡ cond (eqb j k) (set (column rows k w) i v) (column rows k w)
  column-set k j i v w h = column-sets k j i (v ∷ []) w (omega arith)

  -- the words past the last column stay
  pub rest-sets : (n j i : ℕ) (vs w : List ℕ) → j < n → i + length vs ≤ rows → drop (n * rows) (sets w (j * rows + i) vs) ≡ drop (n * rows) w
  rest-sets n j i [] w l h = refl
  rest-sets n j i (v ∷ vs) w l h =
      ap (λ (p : ℕ). drop (n * rows) (sets (put rows j i v w) p vs)) (sym (add-suc (j * rows) i))
      ∙ rest-sets n j (suc i) vs (put rows j i v w) l (omega arith)
      ∙ drop-set-lt (n * rows) w (j * rows + i) v (omega (arith, column-ends j n rows l))

  -- a column that is stored whole
  pub sets-whole : (vs l : List ℕ) → length vs ≡ length l → sets l 0 vs ≡ vs
  sets-whole vs l e =
      sets-eq vs l 0 (omega arith)
      ∙ ap (λ (r : List ℕ). vs ++ r) (ap (λ (m : ℕ). drop m l) n ∙ drop-length l) ∙ append-nil vs
    where
      n : 0 + length vs ≡ length l
      n = omega arith

-- one store more at the end of a run
pub sets-snoc : (l : List ℕ) (b : ℕ) (vs : List ℕ) (v : ℕ) → set (sets l b vs) (b + length vs) v ≡ sets l b (vs ++ (v ∷ []))
sets-snoc l b [] v = ap (λ (p : ℕ). set l p v) (add-zero b)
sets-snoc l b (a ∷ vs) v = ap (λ (p : ℕ). set (sets (set l b a) (suc b) vs) p v) (add-suc b (length vs) ∙ sym (suc-add b (length vs))) ∙ sets-snoc (set l b a) (suc b) vs v

-- ---- a loop that fills column j row by row
pub fill_none : (rows j : ℕ) (h : ℕ → ℕ) (w : List ℕ) → w ≡ filled_to rows j h w 0
unfolding list_of
fill_none rows j h w = refl

pub fill_more : (rows j : ℕ) (h : ℕ → ℕ) (w u : List ℕ) (n v : ℕ) → u ≡ filled_to rows j h w n → v ≡ h n → set u (j * rows + n) v ≡ filled_to rows j h w (n + 1)
unfolding list_of
fill_more rows j h w u n v e q =
    (λ k. set (e k) (j * rows + n) (q k))
    ∙ ap (λ (p : ℕ). set (sets w (j * rows + 0) (list_of n h)) p (h n)) at
    ∙ sets-snoc w (j * rows + 0) (list_of n h) (h n)
    ∙ sym (ap (λ (m : ℕ). sets w (j * rows + 0) (list_of m h)) (add-one n))
  where
    at : j * rows + n ≡ j * rows + 0 + length (list_of n h)
    at = omega (arith, length-list_of n h)

-- another column is as it was, read word by word
pub fill-reads : (rows j k : ℕ) (h : ℕ → ℕ) (w u : List ℕ) (n i : ℕ) → u ≡ filled_to rows j h w n → eqb j k ≡ false → n ≤ rows → i < rows → cell rows k i u ≡ get_or (column rows k w) i 0
fill-reads rows j k h w u n i e ne le lt =
    ap (cell rows k i) e ∙ sym (get_or-column rows (filled_to rows j h w n) k i lt)
    ∙ ap (λ (l : List ℕ). get_or l i 0) (column-sets rows k j 0 (list_of n h) w (omega (arith, length-list_of n h)) ∙ ap (λ (b : Bool). cond b (sets (column rows k w) 0 (list_of n h)) (column rows k w)) ne)

pub length-fill : (rows j : ℕ) (h : ℕ → ℕ) (w u : List ℕ) (n : ℕ) → u ≡ filled_to rows j h w n → length u ≡ length w
length-fill rows j h w u n e = ap length e ∙ length-sets w (j * rows + 0) (list_of n h)

-- at the end: what each column is
pub filled-column : (rows j k : ℕ) (h : ℕ → ℕ) (w : List ℕ) → j * rows + rows ≤ length w → column rows k (filled_to rows j h w rows) ≡ cond (eqb j k) (list_of rows h) (column rows k w)
filled-column rows j k h w le = column-sets rows k j 0 (list_of rows h) w (omega (arith, length-list_of rows h)) ∙ go (eqb j k) refl
  where
    go : (b : Bool) → eqb j k ≡ b → cond b (sets (column rows k w) 0 (list_of rows h)) (column rows k w) ≡ cond b (list_of rows h) (column rows k w)
    go true e = sets-whole rows (list_of rows h) (column rows k w) (length-list_of rows h ∙ sym (length-column rows w k (subst (λ (m : ℕ). m * rows + rows ≤ length w) (eqb-true j k e) le)))
    go false e = refl

-- A run of stores in column j from row `from` on: one store more, and what another column is.
pub run_more : (rows j from : ℕ) (w u vs : List ℕ) (k v : ℕ) → u ≡ sets w (j * rows + from) vs → from + length vs ≡ k → set u (j * rows + k) v ≡ sets w (j * rows + from) (vs ++ (v ∷ []))
run_more rows j from w u vs k v e n =
    (λ q. set (e q) (at q) v) ∙ sets-snoc w (j * rows + from) vs v
  where
    at : j * rows + k ≡ j * rows + from + length vs
    at = omega arith

pub run-keeps : (rows j k from : ℕ) (w u vs : List ℕ) → u ≡ sets w (j * rows + from) vs → eqb j k ≡ false → from + length vs ≤ rows → column rows k u ≡ column rows k w
run-keeps rows j k from w u vs e ne h = ap (column rows k) e ∙ column-sets rows k j from vs w h ∙ ap (λ (b : Bool). cond b (sets (column rows k w) from vs) (column rows k w)) ne

pub run-fills : (rows j from : ℕ) (w u vs : List ℕ) → u ≡ sets w (j * rows + from) vs → from + length vs ≤ rows → column rows j u ≡ sets (column rows j w) from vs
run-fills rows j from w u vs e h = ap (column rows j) e ∙ column-sets-same rows j from vs w h

-- a column whose first n rows are filled
pub filled-front : (rows j n : ℕ) (h : ℕ → ℕ) (w : List ℕ) → n ≤ rows → j * rows + rows ≤ length w → column rows j (filled_to rows j h w n) ≡ list_of n h ++ drop n (column rows j w)
filled-front rows j n h w fits long =
    run-fills rows j 0 w (filled_to rows j h w n) (list_of n h) refl (omega (arith, length-list_of n h))
    ∙ (sets-eq (list_of n h) (column rows j w) 0 (omega (arith, length-list_of n h, length-column rows w j long)) ∙ ap (λ (m : ℕ). list_of n h ++ drop m (column rows j w)) (let e : 0 + length (list_of n h) ≡ n = omega (arith, length-list_of n h) in e))

-- one of its cells
pub filled-cell : (rows j n r : ℕ) (h : ℕ → ℕ) (w u : List ℕ) → n ≤ rows → j * rows + rows ≤ length w → r < n → u ≡ filled_to rows j h w n → cell rows j r u ≡ h r
filled-cell rows j n r h w u fits long l e =
    sym (get_or-column rows u j r (omega arith))
    ∙ (ap (λ (x : List ℕ). get_or (column rows j x) r 0) e
    ∙ (ap (λ (x : List ℕ). get_or x r 0) (filled-front rows j n h w fits long) ∙ (get_or-append (list_of n h) (drop n (column rows j w)) 0 r (omega (arith, length-list_of n h)) ∙ get_or-list_of n h 0 r l)))

-- ---- the first words of a list, zeros

zeros-suc : (n : ℕ) (l : List ℕ) → n < length l → set (replicate n 0 ++ drop n l) n 0 ≡ replicate (suc n) 0 ++ drop (suc n) l
zeros-suc n [] h = absurd (omega arith)
zeros-suc zero (x ∷ l) h = refl
zeros-suc (suc n) (x ∷ l) h = ap (λ (k : List ℕ). 0 ∷ k) (zeros-suc n l (omega arith))

pub zeros-more : (n : ℕ) (l : List ℕ) → n < length l → set (replicate n 0 ++ drop n l) n 0 ≡ replicate (n + 1) 0 ++ drop (n + 1) l
zeros-more n l h = let e : suc n ≡ n + 1 = omega arith in zeros-suc n l h ∙ ap (λ (k : ℕ). replicate k 0 ++ drop k l) e

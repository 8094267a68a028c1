-- Stores in some columns leave the others. Assumes nothing.
use Prim.Native.Nat.{ℕ, ◌+◌, ◌*◌, ◌≤◌, ◌<◌}
use native.Mathlib.Omega.{arith}
use mathlib.Core.Path.{◌≡◌, refl, sym, ap, ◌∙◌, subst}
use mathlib.Core.Bool.{Bool, true, false, cond, true≢false, false≢true}
use mathlib.Core.List.{List, [], ◌∷◌}
use lib.Dec.{eqb}
use lib.ListN.{length, get_or}
use lib.Seq.{sets, length-sets}
use borrow.Author.Tests.{eqb-true}
use Rattle.table.specs.Table.{cell, put, column}
use Rattle.table.specs.Columns.{columns}
use Rattle.table.proofs.Laws.{column-sets, get_or-column, rest-sets}
use Rattle.view.specs.Frame.{outside, Only, covered, disjoint}

pub only_none : (ks : List ℕ) (rows : ℕ) (w : List ℕ) → Only ks rows w w
only_none ks rows w = record { others = λ k e. refl; rest = refl; size = refl }

pub only-trans : (ks : List ℕ) (rows : ℕ) (w u v : List ℕ) → Only ks rows w u → Only ks rows u v → Only ks rows w v
only-trans ks rows w u v P Q = record { others = λ k e. Q.others k e ∙ P.others k e; rest = Q.rest ∙ P.rest; size = Q.size ∙ P.size }

outside-no : (ks : List ℕ) (j k : ℕ) → outside ks j ≡ false → outside ks k ≡ true → eqb j k ≡ false
outside-no ks j k a b = step (eqb j k) refl
  where
    step : (x : Bool) → eqb j k ≡ x → x ≡ false
    step true e = absurd (true≢false (sym b ∙ (ap (outside ks) (sym (eqb-true j k e)) ∙ a)))
    step false e = refl

-- what is none of js is none of the columns among them
covers : (ks js : List ℕ) → covered ks js ≡ true → (x : ℕ) → outside js x ≡ true → outside ks x ≡ true
covers [] js c x e = refl
covers (k ∷ ks) js c x e = step (outside js k) refl c (λ q. covers ks js q x e)
  where
    step : (b : Bool) → outside js k ≡ b → cond b false (covered ks js) ≡ true → (covered ks js ≡ true → outside ks x ≡ true) → cond (eqb k x) false (outside ks x) ≡ true
    step true q c f = absurd (false≢true c)
    step false q c f = ap (λ (b : Bool). cond b false (outside ks x)) (outside-no js k x q e) ∙ f c

-- more columns may have been stored in
pub only-more : (ks js : List ℕ) (rows : ℕ) (w u : List ℕ) → covered ks js ≡ true → Only ks rows w u → Only js rows w u
only-more ks js rows w u c O = record { others = λ k e. O.others k (covers ks js c k e); rest = O.rest; size = O.size }

-- one of ks is none of columns that ks has nothing in common with
pub apart : (ks js : List ℕ) → disjoint ks js ≡ true → (x : ℕ) → outside ks x ≡ false → outside js x ≡ true
apart [] js c x e = absurd (true≢false e)
apart (k ∷ ks) js c x e = step (outside js k) refl c (eqb k x) refl e (λ c e. apart ks js c x e)
  where
    step : (b : Bool) → outside js k ≡ b → cond b (disjoint ks js) false ≡ true → (a : Bool) → eqb k x ≡ a → cond a false (outside ks x) ≡ false → (disjoint ks js ≡ true → outside ks x ≡ false → outside js x ≡ true) → outside js x ≡ true
    step true q c true p e f = ap (outside js) (sym (eqb-true k x p)) ∙ q
    step true q c false p e f = f c e
    step false q c a p e f = absurd (false≢true c)

-- words stored in one of the columns
pub only-sets : (ks : List ℕ) (rows : ℕ) (w u : List ℕ) (j i : ℕ) (vs : List ℕ) → outside ks j ≡ false → j < columns → i + length vs ≤ rows → Only ks rows w u → Only ks rows w (sets u (j * rows + i) vs)
only-sets ks rows w u j i vs out below h O = record {
  others = λ k e. column-sets rows k j i vs u h ∙ (ap (λ (b : Bool). cond b (sets (column rows k u) i vs) (column rows k u)) (outside-no ks j k out e) ∙ O.others k e);
  rest = rest-sets rows columns j i vs u below h ∙ O.rest;
  size = length-sets u (j * rows + i) vs ∙ O.size;
}

-- one word
pub only-put : (ks : List ℕ) (rows : ℕ) (w u : List ℕ) (j i v : ℕ) → outside ks j ≡ false → j < columns → i < rows → Only ks rows w u → Only ks rows w (put rows j i v u)
only-put ks rows w u j i v out below h O = only-sets ks rows w u j i (v ∷ []) out below (omega arith) O

-- a word of a column that stays
pub cell-kept : (ks : List ℕ) (rows : ℕ) (w u : List ℕ) → Only ks rows w u → (k i : ℕ) → outside ks k ≡ true → i < rows → cell rows k i u ≡ cell rows k i w
cell-kept ks rows w u O k i e h = sym (get_or-column rows u k i h) ∙ (ap (λ (l : List ℕ). get_or l i 0) (O.others k e) ∙ get_or-column rows w k i h)

-- words stored in one of the columns, where the list is as it was
pub only-run : (ks : List ℕ) (rows j from : ℕ) (w u vs : List ℕ) → outside ks j ≡ false → j < columns → from + length vs ≤ rows → u ≡ sets w (j * rows + from) vs → Only ks rows w u
only-run ks rows j from w u vs out below h e = subst (Only ks rows w) (sym e) (only-sets ks rows w w j from vs out below h (only_none ks rows w))

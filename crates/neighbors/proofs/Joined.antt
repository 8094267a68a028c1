-- What linking two sides changes, and what it keeps. Assumes nothing.
use Prim.Native.Nat.{ℕ, ◌+◌, ◌*◌, ◌≤◌, ◌<◌}
use native.Mathlib.Omega.{arith}
use mathlib.Core.Path.{◌≡◌, refl, sym, ap, ◌∙◌, subst}
use mathlib.Core.Bool.{Bool, true, false, ◌&&◌}
use mathlib.Core.List.{List, [], ◌∷◌}
use lib.Dec.{eqb}
use lib.ListN.{length-set}
use lib.Seq.{get_or-set_same, get_or-set_other}
use borrow.Author.Tests.{eqb-true, eqb-false}
use Rattle.table.specs.Table.{cell, put}
use Rattle.table.specs.Columns.{vertex_column, link_column, lower_column, higher_column, order_column}
use Rattle.view.specs.Frame.{outside, Only}
use Rattle.view.proofs.Frame.{only_none, only-trans, only-put, cell-kept}
use Rattle.std.specs.Prelude.{Some}
use Rattle.neighbors.specs.Links.{side_at, same_ends, join, Ready}
use Rattle.neighbors.specs.Cursors.{Like}

-- one store in the column of links
module _ (rows n s v : ℕ) (w : List ℕ) (R : Ready rows n w) (hs : s < n) where
  -- the list after it
  abbrev stored : List ℕ
  stored = put rows link_column s v w

  -- nothing else is stored
  only-stored : Only (link_column ∷ []) rows w stored
  only-stored = only-put (link_column ∷ []) rows w w link_column s v refl (omega arith) (omega (arith, R.fits)) (only_none (link_column ∷ []) rows w)

  -- a cell of the column is the word stored, or what it was
  link-cell : (P : ℕ → Type 0) (i : ℕ) → P v → P (cell rows link_column i w) → P (cell rows link_column i stored)
  link-cell P i p q = go (eqb i s) refl
    where
      go : (b : Bool) → eqb i s ≡ b → P (cell rows link_column i stored)
      go true e = subst P (sym (ap (λ (j : ℕ). cell rows link_column j stored) (eqb-true i s e) ∙ get_or-set_same w (link_column * rows + s) v 0 (omega (arith, R.long, R.fits)))) p
      go false e = subst P (sym (get_or-set_other w (link_column * rows + s) (link_column * rows + i) v 0 (λ f. eqb-false i s e (omega arith)))) q

  -- an unlinked side was unlinked
  was_free : (i : ℕ) → 0 < v → cell rows link_column i stored ≡ 0 → cell rows link_column i w ≡ 0
  was_free i p = link-cell (λ (x : ℕ). x ≡ 0 → cell rows link_column i w ≡ 0) i (λ e. absurd (omega arith)) (λ e. e)

  -- a word that names a side below n keeps the list ready
  ready-stored : v ≤ n → Ready rows n stored
  ready-stored le = record {
    long = omega (arith, R.long, length-set w (link_column * rows + s) v);
    few = R.few;
    fits = R.fits;
    order = λ k h. subst (λ (x : ℕ). x < n) (sym (cell-kept (link_column ∷ []) rows w stored only-stored order_column k refl (omega (arith, R.fits)))) (R.order k h);
    links = λ k h. link-cell (λ (x : ℕ). x ≤ n) k le (R.links k h);
  }

-- sides s and u are linked, each to the other
module _ (rows n s u : ℕ) (w : List ℕ) (R : Ready rows n w) (hs : s < n) (hu : u < n) where
  -- the list after that
  abbrev joined : List ℕ
  joined = join rows s (Some u) w

  -- after the first store
  half : Ready rows n (put rows link_column s (u + 1) w)
  half = ready-stored rows n s (u + 1) w R hs (omega arith)

  -- and after both the list is ready
  pub joined-ready : Ready rows n joined
  joined-ready = ready-stored rows n u (s + 1) (put rows link_column s (u + 1) w) half hu (omega arith)

  -- nothing but the links is stored
  pub joined-only : Only (link_column ∷ []) rows w joined
  joined-only = only-trans (link_column ∷ []) rows w _ joined (only-stored rows n s (u + 1) w R hs) (only-stored rows n u (s + 1) (put rows link_column s (u + 1) w) half hu)

  -- the cells of other columns stay
  kept : (k i : ℕ) → outside (link_column ∷ []) k ≡ true → i < rows → cell rows k i joined ≡ cell rows k i w
  kept k i e h = cell-kept (link_column ∷ []) rows w joined joined-only k i e h

  -- the side at a place stays
  side-kept : (a : ℕ) → a < n → side_at rows joined a ≡ side_at rows w a
  side-kept a h = kept order_column a refl (omega (arith, R.fits))

  -- what stands in another column for the side at a place
  at-kept : (k a : ℕ) → outside (link_column ∷ []) k ≡ true → a < n → cell rows k (side_at rows joined a) joined ≡ cell rows k (side_at rows w a) w
  at-kept k a e h = ap (λ (i : ℕ). cell rows k i joined) (side-kept a h) ∙ kept k (side_at rows w a) e (omega (arith, R.order a h, R.fits))

  -- an unlinked side was unlinked
  free-before : (a : ℕ) → a < n → cell rows link_column (side_at rows joined a) joined ≡ 0 → cell rows link_column (side_at rows w a) w ≡ 0
  free-before a h e =
      let t : ℕ = side_at rows w a in
      was_free rows n s (u + 1) w R hs t (omega arith) (was_free rows n u (s + 1) (put rows link_column s (u + 1) w) half hu t (omega arith) (sym (ap (λ (i : ℕ). cell rows link_column i joined) (side-kept a h)) ∙ e))

  -- two places
  module _ (a b : ℕ) (ha : a < n) (hb : b < n) where
    -- whether their sides have the same ends is as it was
    ends-kept : same_ends rows (side_at rows joined a) (side_at rows joined b) joined ≡ same_ends rows (side_at rows w a) (side_at rows w b) w
    unfolding same_ends
    ends-kept = λ k. eqb (at-kept lower_column a refl ha k) (at-kept lower_column b refl hb k) && eqb (at-kept higher_column a refl ha k) (at-kept higher_column b refl hb k)

    -- sides that were like each other are
    pub like-kept : Like rows w a b → Like rows joined a b
    like-kept l = record {
      ends = ends-kept ∙ l.ends;
      start = λ p q. at-kept vertex_column a refl ha ∙ l.start (free-before a ha p) (free-before b hb q) ∙ sym (at-kept vertex_column b refl hb);
    }

    -- side u is linked now, so any side with its ends is like it
    pub like-linked : side_at rows w b ≡ u → same_ends rows (side_at rows w a) (side_at rows w b) w ≡ true → Like rows joined a b
    like-linked at e = record {
      ends = ends-kept ∙ e;
      start = λ p q. absurd (omega (arith, q, ap (λ (i : ℕ). cell rows link_column i joined) (side-kept b hb ∙ at), get_or-set_same (put rows link_column s (u + 1) w) (link_column * rows + u) (s + 1) 0 (omega (arith, half.long, half.fits))));
    }

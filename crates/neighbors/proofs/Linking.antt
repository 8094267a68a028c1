-- Step 5 in the column of links: one link more. Assumes nothing.
use Prim.Native.Nat.{ℕ, suc, ◌+◌, ◌*◌, ◌≤◌, ◌<◌}
use native.Mathlib.Omega.{arith}
use native.Mathlib.Numerals.{add-one}
use mathlib.Core.Path.{◌≡◌, refl, sym, ◌∙◌, ap, subst}
use mathlib.Core.Bool.{Bool, true, false, cond, not, ◌||◌}
use mathlib.Core.List.{List, [], ◌∷◌}
use mathlib.Core.Option.{Option, none, some}
use lib.Dec.{eqb}
use lib.ListN.{length, length-set}
use lib.Seq.{get_or-set_same, get_or-set_other}
use borrow.Author.Tests.{ne_eqb, eqb-true, eqb-false}
use Rattle.table.specs.Table.{cell, put}
use Rattle.table.specs.Columns.{columns, link_column}
use Rattle.definition.specs.declared.Triangle.{Triangle}
use Rattle.lists.specs.Lists.{has}
use Rattle.definition.specs.Mesh.{Third, Spot, same_spot}
use Rattle.definition.specs.Step5Links.{Link, linked, beyond}
use Rattle.definition.specs.Names.{Names}
use Rattle.view.specs.Rows.{row, spot_at}
use Rattle.view.specs.Links.{LinkWord, nowhere, towards, Linked}
use Rattle.view.proofs.Rows.{spot-row, row_fits}

-- whether there is one
unfoldable pub is_some : Option Spot → Bool
is_some none = false
is_some (some s) = true

-- a side is linked where there is a side beyond it
pub linked-some : (ls : List Link) (s : Spot) → linked ls s ≡ is_some (beyond ls s)
unfolding linked beyond has is_some
linked-some [] s = refl
linked-some (l ∷ ls) s = step (same_spot l.near s) (same_spot l.far s) (linked-some ls s)
  where
    step : (a b : Bool) → linked ls s ≡ is_some (beyond ls s) → ((a || b) || linked ls s) ≡ is_some (cond a (some l.far) (cond b (some l.near) (beyond ls s)))
    step true b e = refl
    step false true e = refl
    step false false e = e

pub word_some : {ss : List Triangle} {d : Triangle} {o : Option Spot} {x : ℕ} → LinkWord ss d o x → eqb x 0 ≡ not (is_some o)
unfolding is_some
word_some nowhere = refl
word_some (towards u j h) = ne_eqb (suc (row u j)) 0 (λ e. omega arith)

module _ (rows : ℕ) (ss : List Triangle) (d : Triangle) (N : Names ss) (fits : 3 * length ss ≤ rows) where
  -- what the search asks: the word is 0 exactly where the side is not linked
  pub unlinked-word : (ls : List Link) (w : List ℕ) → Linked rows ss d ls w → (t : ℕ) (i : Third) → t < length ss → eqb (cell rows link_column (row t i) w) 0 ≡ not (linked ls (spot_at ss d t i))
  unlinked-word ls w L t i h = word_some (L t i h) ∙ ap not (sym (linked-some ls (spot_at ss d t i)))

  module _ (ls : List Link) (w : List ℕ) (L : Linked rows ss d ls w) (long : columns * rows ≤ length w) (t u : ℕ) (i j : Third) (h : t < length ss) (k : u < length ss) (other : eqb (row t i) (row u j) ≡ false) where
    abbrev w₁ : List ℕ
    w₁ = put rows link_column (row t i) (row u j + 1) w

    abbrev w₂ : List ℕ
    w₂ = put rows link_column (row u j) (row t i + 1) w₁

    abbrev near : Spot
    near = spot_at ss d t i

    abbrev far : Spot
    far = spot_at ss d u j

    -- both sides are linked, and the column says so
    pub link-more : Linked rows ss d (record { near = near; far = far } ∷ ls) w₂
    unfolding beyond
    link-more t' i' h' = step (eqb (row t i) (row t' i')) refl (eqb (row u j) (row t' i')) refl
      where
        a : row t i < rows
        a = row_fits rows ss fits t i h

        b : row u j < rows
        b = row_fits rows ss fits u j k

        at₁ : cell rows link_column (row t i) w₂ ≡ row u j + 1
        at₁ =
            get_or-set_other w₁ (link_column * rows + row u j) (link_column * rows + row t i) (row t i + 1) 0 (λ e. eqb-false (row t i) (row u j) other (omega arith))
            ∙ get_or-set_same w (link_column * rows + row t i) (row u j + 1) 0 (omega (arith, a))

        at₂ : cell rows link_column (row u j) w₂ ≡ row t i + 1
        at₂ = let l = length-set w (link_column * rows + row t i) (row u j + 1) in get_or-set_same w₁ (link_column * rows + row u j) (row t i + 1) 0 (omega (arith, b))

        step : (x : Bool) → eqb (row t i) (row t' i') ≡ x → (y : Bool) → eqb (row u j) (row t' i') ≡ y → LinkWord ss d (cond (same_spot near (spot_at ss d t' i')) (some far) (cond (same_spot far (spot_at ss d t' i')) (some near) (beyond ls (spot_at ss d t' i')))) (cell rows link_column (row t' i') w₂)
        step true e y f =
            subst (λ b. LinkWord ss d (cond b (some far) (cond (same_spot far (spot_at ss d t' i')) (some near) (beyond ls (spot_at ss d t' i')))) (cell rows link_column (row t' i') w₂)) (sym (spot-row N d t t' i i' h h' ∙ e))
            (subst (LinkWord ss d (some far)) (sym (ap (λ r. cell rows link_column r w₂) (sym (eqb-true (row t i) (row t' i') e)) ∙ (at₁ ∙ add-one (row u j)))) (towards u j k))
        step false e true f =
            subst (λ b. LinkWord ss d (cond b (some far) (cond (same_spot far (spot_at ss d t' i')) (some near) (beyond ls (spot_at ss d t' i')))) (cell rows link_column (row t' i') w₂)) (sym (spot-row N d t t' i i' h h' ∙ e))
            (subst (λ b. LinkWord ss d (cond b (some near) (beyond ls (spot_at ss d t' i'))) (cell rows link_column (row t' i') w₂)) (sym (spot-row N d u t' j i' k h' ∙ f))
            (subst (LinkWord ss d (some near)) (sym (ap (λ r. cell rows link_column r w₂) (sym (eqb-true (row u j) (row t' i') f)) ∙ (at₂ ∙ add-one (row t i)))) (towards t i h)))
        step false e false f =
            subst (λ b. LinkWord ss d (cond b (some far) (cond (same_spot far (spot_at ss d t' i')) (some near) (beyond ls (spot_at ss d t' i')))) (cell rows link_column (row t' i') w₂)) (sym (spot-row N d t t' i i' h h' ∙ e))
            (subst (λ b. LinkWord ss d (cond b (some near) (beyond ls (spot_at ss d t' i'))) (cell rows link_column (row t' i') w₂)) (sym (spot-row N d u t' j i' k h' ∙ f))
            (subst (LinkWord ss d (beyond ls (spot_at ss d t' i'))) (sym
            (get_or-set_other w₁ (link_column * rows + row u j) (link_column * rows + row t' i') (row t i + 1) 0 (λ z. eqb-false (row u j) (row t' i') f (omega arith))
            ∙ get_or-set_other w (link_column * rows + row t i) (link_column * rows + row t' i') (row u j + 1) 0 (λ z. eqb-false (row t i) (row t' i') e (omega arith))))
            (L t' i' h')))

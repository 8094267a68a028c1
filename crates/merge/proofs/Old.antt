-- Step 4 of the old edition, whole: once rows are merged and named, the column of vertices stands for the welding of the definition's merged triangles. Assumes nothing.
use Rattle.std.proofs.Common.{◌≡◌, ℕ, ◌*◌, ◌≤◌, Bool, true, false, cond, not, List, [], ◌∷◌, ◌++◌, map, length, get_or, sym, refl, ap, ◌∙◌, subst, true≢false, append-nil, arith, length-take-le}
use mathlib.Core.Bool.{false≢true}
use lib.Ieee.{Float}
use Rattle.bits.specs.Single.{zeroᶠ}
use Rattle.math.specs.Vector.{vec}
use Rattle.lists.specs.Lists.{keep}
use Rattle.lists.specs.Every.{Every}
use Rattle.table.specs.Table.{column}
use Rattle.table.specs.Columns.{columns, into_column}
use Rattle.table.proofs.Laws.{length-column}
use Rattle.definition.specs.declared.Corner.{Corner}
use Rattle.definition.specs.declared.Triangle.{Triangle}
use Rattle.definition.specs.Mesh.{Spot, corner_of}
use Rattle.definition.specs.Handed.{handed}
use Rattle.definition.specs.Step4Order.{is_sound, sound, broken, spots, ordered}
use Rattle.definition.specs.Step4Old.{merged_rows, merged_with, recornered, merged}
use Rattle.laws.proofs.Pairs.{keep-keep, keep_append}
use Rattle.laws.proofs.Part.{every_append, every-keep}
use Rattle.laws.proofs.Bridge.{every-get_or}
use Rattle.view.specs.Records.{Held}
use Rattle.view.specs.Weld.{Vertices}
use Rattle.view.proofs.Rows.{spots-length}
use Rattle.view.proofs.Records.{held_kept}
use Rattle.view.proofs.Weld.{spots-append}
use Rattle.merge.specs.Rows.{into, merge_columns, Merged}
use Rattle.merge.specs.Names.{Named}
use Rattle.merge.proofs.Means.{merged-means}
use Rattle.merge.proofs.Inside.{into-inside}
use Rattle.merge.proofs.Tags.{Follows}
use Rattle.merge.proofs.Recornered.{names-vertices}

-- ---- sound triangles first, then degenerate ones: their corners are in order

-- none that passes one test passes the other
pub keep-other : {X : Type 0} (p q : X → Bool) → ((x : X) → q x ≡ true → p x ≡ false) → (l : List X) → keep p (keep q l) ≡ []
unfolding keep
keep-other p q f [] = refl
keep-other {X} p q f (x ∷ l) = go (q x) refl (p x) refl (keep-other p q f l)
  where
    go : (b : Bool) → q x ≡ b → (c : Bool) → p x ≡ c → keep p (keep q l) ≡ [] → keep p (cond b (x ∷ keep q l) (keep q l)) ≡ []
    go false e c g h = h
    go true e true g h = absurd (true≢false (sym g ∙ f x e))
    go true e false g h = unfold keep in (ap (λ (c : Bool). cond c (x ∷ keep p (keep q l)) (keep p (keep q l))) g ∙ h)

turned : (b : Bool) → b ≡ true → not b ≡ false
turned true e = refl
turned false e = absurd (false≢true e)

turned-back : (b : Bool) → not b ≡ true → b ≡ false
turned-back true e = absurd (false≢true e)
turned-back false e = refl

pub in_order : (ts : List Triangle) → ordered (sound ts ++ broken ts) ≡ spots (sound ts ++ broken ts)
unfolding ordered sound broken is_sound
in_order ts =
    (λ i. spots (firsts i) ++ spots (lasts i)) ∙ sym (spots-append (keep (λ t. not t.degenerate) ts) (keep (λ t. t.degenerate) ts))
  where
    firsts : keep (λ t. not t.degenerate) (keep (λ t. not t.degenerate) ts ++ keep (λ t. t.degenerate) ts) ≡ keep (λ t. not t.degenerate) ts
    firsts =
        keep_append (λ t. not t.degenerate) (keep (λ t. not t.degenerate) ts) (keep (λ t. t.degenerate) ts)
        ∙ (λ i. keep-keep (λ t. not t.degenerate) (λ t. not t.degenerate) (λ t h. h) ts i ++ keep-other (λ t. not t.degenerate) (λ t. t.degenerate) (λ t h. turned t.degenerate h) ts i)
        ∙ append-nil (keep (λ t. not t.degenerate) ts)

    lasts : keep (λ t. t.degenerate) (keep (λ t. not t.degenerate) ts ++ keep (λ t. t.degenerate) ts) ≡ keep (λ t. t.degenerate) ts
    lasts =
        keep_append (λ t. t.degenerate) (keep (λ t. not t.degenerate) ts) (keep (λ t. t.degenerate) ts)
        ∙ (λ i. keep-other (λ t. t.degenerate) (λ t. not t.degenerate) (λ t h. turned-back t.degenerate h) ts i ++ keep-keep (λ t. t.degenerate) (λ t. t.degenerate) (λ t h. h) ts i)

-- what the definition has past the last corner
abbrev pub nowhere : Corner
nowhere = record { place = vec zeroᶠ zeroᶠ zeroᶠ; normal = vec zeroᶠ zeroᶠ zeroᶠ; u = zeroᶠ; v = zeroᶠ; tag = 0 }

pub merged-is : (ts : List Triangle) (l : List ℕ) → l ≡ merged_rows (λ r. get_or (map corner_of (spots (sound ts ++ broken ts))) r nowhere) (length (spots (sound ts ++ broken ts))) → recornered (sound ts ++ broken ts) (merged_with (spots (sound ts ++ broken ts)) l) ≡ merged (sound ts) (broken ts)
unfolding merged
merged-is ts l e =
    ap (λ (k : List ℕ). recornered (sound ts ++ broken ts) (merged_with (spots (sound ts ++ broken ts)) k)) e
    ∙ sym (ap (λ (sp : List Spot). recornered (sound ts ++ broken ts) (merged_with sp (merged_rows (λ r. get_or (map corner_of sp) r nowhere) (length sp)))) (in_order ts))

-- ---- the columns

module _ (rows n : ℕ) (ps ns tx : List Float) (sizes : List ℕ) (ts : List Triangle) (d : Triangle) (w u : List ℕ) (size : columns * rows ≤ length w) (nr : n ≤ rows) (e : 3 * length (sound ts ++ broken ts) ≡ n)
    (H : Held rows (handed sizes ps ns tx) (sound ts ++ broken ts) d w) (F : Every Follows ts) (M : Merged rows n ps ns tx w u) where
  abbrev xs : List Triangle
  xs = sound ts ++ broken ts

  pub follows : Every Follows xs
  unfolding sound broken
  follows = every_append (every-keep is_sound F) (every-keep (λ t. t.degenerate) F)

  pub long : length (into rows n u) ≡ n
  long = let z = M.only.size in let y = length-column rows u into_column (omega (arith, z, size)) in length-take-le n (column rows into_column u) (omega (arith, y, nr))

  pub rows_are : into rows n u ≡ merged_rows (λ r. get_or (map corner_of (spots xs)) r nowhere) (length (spots xs))
  rows_are = merged-means rows n ps ns tx sizes xs d w u nr e H nowhere M ∙ ap (merged_rows (λ r. get_or (map corner_of (spots xs)) r nowhere)) (let y = spots-length xs in let z : n ≡ length (spots xs) = omega (arith, y, e) in z)

  pub old-vertices : (v : List ℕ) → Named rows n u v → (d' : Triangle) → Vertices rows (merged (sound ts) (broken ts)) d' v
  old-vertices v N d' =
      subst (λ l. Vertices rows l d' v) (merged-is ts (into rows n u) rows_are)
      (names-vertices rows n ps ns tx sizes xs d u v nr e (held_kept rows (handed sizes ps ns tx) xs d w H (omega (arith, e, nr)) merge_columns u refl M.only) (λ t h. every-get_or follows t d h) N long (λ k h. into-inside rows n ps ns tx w u (omega (arith, h)) M k) d')

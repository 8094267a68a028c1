-- What tags stand for: the definition's, of the corners of the triangles that the columns hold. Assumes nothing.
use Rattle.std.proofs.Common.{◌≡◌, ℕ, ◌+◌, ◌*◌, ◌/◌, ◌%◌, ◌<◌, ◌≤◌, Bool, true, false, cond, leb, List, [], ◌∷◌, length, get_or, sym, refl, ◌∙◌, mod-lt, arith}
use native.Mathlib.Nat.{div-add-mod}
use Rattle.lists.specs.Every.{Every, every_nil, every_cons}
use Rattle.table.specs.Table.{column}
use Rattle.table.specs.Columns.{name_column}
use Rattle.table.proofs.Laws.{get_or-column}
use Rattle.definition.specs.declared.Corner.{Corner}
use Rattle.definition.specs.declared.Triangle.{Triangle}
use Rattle.definition.specs.Mesh.{Third, one, two, three, Face, kept, slot_of}
use Rattle.definition.specs.Handed.{Handed}
use Rattle.definition.specs.Step1Cut.{cut02}
use Rattle.definition.specs.Triangles.{nook, make, settled, pair, quad, pieces, triangles}
use Rattle.definition.specs.Step4Old.{tag_of}
use Rattle.laws.proofs.Part.{every_append, every-cond}
use Rattle.view.specs.Rows.{num, third, spot_row}
use Rattle.view.specs.Records.{Tells}
use Rattle.view.proofs.Rows.{row_is, tri-lt}
use Rattle.merge.specs.Names.{which_in, tag_in}

-- ---- the corners that a triangle keeps are told by the one that it misses

pub record Follows (t : Triangle) : Type 0 where
  pub at : (i : Third) → (kept t i).which ≡ which_in t.missing (num i)

make-follows : (f : ℕ) (s : Bool) (m i j k : ℕ) (c d e : Corner) → i ≡ which_in m 0 → j ≡ which_in m 1 → k ≡ which_in m 2 → Follows (make f s m (nook i c) (nook j d) (nook k e))
unfolding make kept num
make-follows f s m i j k c d e p q r = record { at = λ x. elim x as (λ (y : Third). (kept (make f s m (nook i c) (nook j d) (nook k e)) y).which ≡ which_in m (num y)) [ one ↦ p | two ↦ q | three ↦ r ] }

settled-follows : (t : Triangle) (m o : Bool) → Follows t → Follows (settled t m o)
unfolding settled kept
settled-follows t m o h = record { at = λ x. elim x as (λ (y : Third). (kept (settled t m o) y).which ≡ which_in t.missing (num y)) [ one ↦ h.at one | two ↦ h.at two | three ↦ h.at three ] }

pair-follows : (s t : Triangle) → Follows s → Follows t → Every Follows (pair s t)
unfolding pair
pair-follows s t h k = every_cons (settled-follows s _ _ h) (every_cons (settled-follows t _ _ k) every_nil)

pieces-follow : (f : ℕ) (cs : List Corner) → Every Follows (pieces f cs)
unfolding pieces quad which_in
pieces-follow f [] = every_nil
pieces-follow f (c0 ∷ []) = every_nil
pieces-follow f (c0 ∷ c1 ∷ []) = every_nil
pieces-follow f (c0 ∷ c1 ∷ c2 ∷ []) = every_cons (make-follows f false 3 0 1 2 c0 c1 c2 refl refl refl) every_nil
pieces-follow f (c0 ∷ c1 ∷ c2 ∷ c3 ∷ []) =
    every-cond (cut02 c0 c1 c2 c3)
    (pair-follows _ _ (make-follows f false 3 0 1 2 c0 c1 c2 refl refl refl) (make-follows f true 1 0 2 3 c0 c2 c3 refl refl refl))
    (pair-follows _ _ (make-follows f false 2 0 1 3 c0 c1 c3 refl refl refl) (make-follows f true 0 1 2 3 c1 c2 c3 refl refl refl))
pieces-follow f (c0 ∷ c1 ∷ c2 ∷ c3 ∷ c4 ∷ l) = every_nil

-- those of every mesh
pub all-follow : (m : List Face) → Every Follows (triangles m)
unfolding triangles
all-follow [] = every_nil
all-follow (f ∷ m) = every_append (pieces-follow f.number f.corners) (all-follow m)

-- ---- the tag of a row

-- a row's corner in its triangle
corner-number : (q : ℕ) → num (third (q % 3)) ≡ q % 3
corner-number q = let a = row_is q in let b = div-add-mod q 3 in omega (arith, a, b)

module _ (rows : ℕ) (mesh : Handed) (xs : List Triangle) (d : Triangle) (w : List ℕ) (fits : 3 * length xs ≤ rows) (T : Tells rows mesh xs d w) (F : (t : ℕ) → t < length xs → Follows (get_or xs t d)) where
  pub tag-means : (q : ℕ) → q < 3 * length xs → tag_in (column rows name_column w) q ≡ tag_of (spot_row xs d q)
  unfolding tag_in tag_of slot_of
  tag-means q h = λ i. 4 * face i + which i + 1
    where
      t : q / 3 < length xs
      t = tri-lt q (length xs) h

      face : get_or (column rows name_column w) (3 * (q / 3)) 0 ≡ (get_or xs (q / 3) d).face
      face = get_or-column rows w name_column (3 * (q / 3)) (omega (arith, t, fits)) ∙ (T (q / 3) t).face

      missing : get_or (column rows name_column w) (3 * (q / 3) + 2) 0 ≡ (get_or xs (q / 3) d).missing
      missing = get_or-column rows w name_column (3 * (q / 3) + 2) (omega (arith, t, fits)) ∙ (T (q / 3) t).missing

      which : which_in (get_or (column rows name_column w) (3 * (q / 3) + 2) 0) (q % 3) ≡ (kept (get_or xs (q / 3) d) (third (q % 3))).which
      which = (λ i. which_in (missing i) (sym (corner-number q) i)) ∙ sym ((F (q / 3) t).at (third (q % 3)))

-- ---- tags are small: four for each face, and one

which-few : (m i : ℕ) → i < 3 → which_in m i ≤ 3
unfolding which_in
which-few m i h = go (leb m i)
  where
    go : (b : Bool) → cond b (i + 1) i ≤ 3
    go true = omega (arith, h)
    go false = omega (arith, h)

-- where each face's number is below F, and there are more than 4F rows
pub tag_fits : (rows F : ℕ) (mesh : Handed) (xs : List Triangle) (d : Triangle) (w : List ℕ) → 3 * length xs ≤ rows → Tells rows mesh xs d w → ((t : ℕ) → t < length xs → (get_or xs t d).face < F) → 4 * F < rows → (q : ℕ) → q < 3 * length xs → tag_in (column rows name_column w) q < rows
unfolding tag_in
tag_fits rows F mesh xs d w fits T few big q h =
    let t = tri-lt q (length xs) h in
    let f = few (q / 3) t in
    let e : get_or (column rows name_column w) (3 * (q / 3)) 0 ≡ (get_or xs (q / 3) d).face = get_or-column rows w name_column (3 * (q / 3)) (omega (arith, t, fits)) ∙ (T (q / 3) t).face in
    let k = which-few (get_or (column rows name_column w) (3 * (q / 3) + 2) 0) (q % 3) (mod-lt q (omega arith)) in
    omega (arith, e, f, k, big)

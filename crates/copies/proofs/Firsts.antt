-- The word of a vertex tells the first sound corner welded to a corner; and sound triangles come first. Assumes nothing.
use Prim.Native.Nat.{ℕ, ◌+◌, ◌*◌, ◌-◌, ◌/◌, ◌%◌, ◌≤◌, ◌<◌}
use native.Mathlib.Omega.{arith}
use mathlib.Core.Path.{◌≡◌, refl, sym, ◌∙◌, ap}
use mathlib.Core.Bool.{Bool, true, false, cond, not, true≢false}
use mathlib.Core.List.{List, [], ◌∷◌, ◌++◌}
use mathlib.Core.Option.{none, some}
use lib.Dec.{ltb}
use lib.ListN.{length, get_or, length-append, get_or-append}
use lib.Seq.{get_or-append-add}
use borrow.Author.Tests.{ltb-true, ltb-false, not-true}
use Rattle.definition.specs.declared.Corner.{Corner}
use Rattle.definition.specs.declared.Triangle.{Triangle}
use Rattle.lists.specs.Lists.{keep, first}
use Rattle.definition.specs.Mesh.{Spot, corner_of}
use Rattle.definition.specs.Step4Order.{is_sound, sound, broken, spots, welded}
use Rattle.lists.specs.Every.{Every, every_nil, every_cons}
use Rattle.laws.proofs.Part.{keep-passes}
use Rattle.view.specs.Rows.{third, spot_row}
use Rattle.view.specs.Weld.{First}
use Rattle.view.proofs.Lists.{first-at, first-not, every-index}
use Rattle.view.proofs.Rows.{tri-lt, spots-length, spots-at}

-- ---- the first sound corner welded to the corner c, from the row v of the first corner of all that is

module _ (ss bs : List Triangle) (d : Triangle) (c : Corner) (v : ℕ) (F : First (λ k. welded c (corner_of (spot_row (ss ++ bs) d k))) v) where
  -- a row of the sound triangles is a row of all
  row_same : (k : ℕ) → k < 3 * length ss → spot_row ss d k ≡ spot_row (ss ++ bs) d k
  row_same k h = λ z. record { tri = sym (get_or-append ss bs d (k / 3) (tri-lt k (length ss) h)) z; at = third (k % 3) }

  -- so the corners of sound triangles are tested alike
  said : (k : ℕ) → k < 3 * length ss → welded c (corner_of (get_or (spots ss) k (spot_row ss d 0))) ≡ welded c (corner_of (spot_row (ss ++ bs) d k))
  said k h = ap (λ (s : Spot). welded c (corner_of s)) (spots-at ss d (spot_row ss d 0) k h ∙ row_same k h)

  -- a row among theirs is the first
  pub first-sound : v < 3 * length ss → first (λ s. welded c (corner_of s)) (spots ss) ≡ some (spot_row (ss ++ bs) d v)
  first-sound h =
      first-at (λ s. welded c (corner_of s)) (spots ss) (spot_row ss d 0) v (omega (arith, h, spots-length ss)) (λ k g. said k (omega (arith, h, g)) ∙ F.least k g) (said v h ∙ F.passes)
      ∙ ap some (spots-at ss d (spot_row ss d 0) v h ∙ row_same v h)

  -- a row past them: there is none
  pub no-sound : 3 * length ss ≤ v → first (λ s. welded c (corner_of s)) (spots ss) ≡ none
  no-sound h = first-not (λ s. welded c (corner_of s)) (spots ss) (spot_row ss d 0) (λ k g. said k (omega (arith, g, spots-length ss)) ∙ F.least k (omega (arith, h, g, spots-length ss)))

-- ---- sound triangles first, then degenerate ones

module _ (ts : List Triangle) (d : Triangle) where
  -- all of them
  abbrev all : List Triangle
  all = sound ts ++ broken ts

  -- those below the number of sound ones are sound
  pub sound-below : (t : ℕ) → t < length (sound ts) → (get_or all t d).degenerate ≡ false
  unfolding sound is_sound
  sound-below t h = ap (λ (x : Triangle). x.degenerate) (get_or-append (sound ts) (broken ts) d t h) ∙ not-true _ (every-index (keep-passes is_sound ts) t d h)

  -- and the others are degenerate
  pub broken-above : (t : ℕ) → length (sound ts) ≤ t → t < length all → (get_or all t d).degenerate ≡ true
  unfolding broken
  broken-above t h l =
      let n = t - length (sound ts) in
      let e : t ≡ length (sound ts) + n = omega (arith, h) in
      ap (λ (k : ℕ). (get_or all k d).degenerate) e ∙ ap (λ (x : Triangle). x.degenerate) (get_or-append-add (sound ts) (broken ts) n d)
      ∙ every-index (keep-passes (λ x. x.degenerate) ts) n d (omega (arith, h, l, length-append (sound ts) (broken ts)))

  -- so the number of a triangle tells
  pub sound_is : (t : ℕ) → t < length all → (get_or all t d).degenerate ≡ false → t < length (sound ts)
  sound_is t l e = go (ltb t (length (sound ts))) refl
    where
      go : (b : Bool) → ltb t (length (sound ts)) ≡ b → t < length (sound ts)
      go true q = ltb-true t (length (sound ts)) q
      go false q = absurd (true≢false (sym (broken-above t (ltb-false t (length (sound ts)) q) l) ∙ e))

  -- of a degenerate one as well
  pub broken-is : (t : ℕ) → (get_or all t d).degenerate ≡ true → length (sound ts) ≤ t
  broken-is t e = go (ltb t (length (sound ts))) refl
    where
      go : (b : Bool) → ltb t (length (sound ts)) ≡ b → length (sound ts) ≤ t
      go true q = absurd (true≢false (sym e ∙ sound-below t (ltb-true t (length (sound ts)) q)))
      go false q = ltb-false t (length (sound ts)) q

-- what holds of both kinds holds of all
pub every-again : (P : Triangle → Type 0) (l : List Triangle) → Every P (sound l) → Every P (broken l) → Every P l
unfolding sound broken keep is_sound
every-again P [] h k = every_nil
every-again P (x ∷ l) h k = go x.degenerate h k (λ p q. every-again P l p q)
  where
    go : (b : Bool) → Every P (cond (not b) (x ∷ keep is_sound l) (keep is_sound l)) → Every P (cond b (x ∷ keep (λ y. y.degenerate) l) (keep (λ y. y.degenerate) l))
        → (Every P (keep is_sound l) → Every P (keep (λ y. y.degenerate) l) → Every P l) → Every P (x ∷ l)
    go true h (every_cons p k) r = every_cons p (r h k)
    go false (every_cons p h) k r = every_cons p (r h k)

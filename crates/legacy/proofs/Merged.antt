-- The triangles as step 4 of the old edition leaves them: in the places of their own, and each corner that of the row that its row is merged with. Assumes nothing.
use Prim.Native.Nat.{ℕ, ◌*◌, ◌<◌}
use native.Mathlib.Omega.{arith}
use mathlib.Core.Path.{◌≡◌, refl, sym, ap, ◌∙◌, subst}
use mathlib.Core.Bool.{not}
use mathlib.Core.List.{List, ◌++◌, map}
use lib.ListN.{length, get_or, take, drop, length-append, length-drop, take-append-drop, get_or-append}
use lib.Seq.{length-take-le}
use Rattle.math.specs.Vector.{equals}
use Rattle.definition.specs.declared.Corner.{Corner}
use Rattle.definition.specs.declared.Triangle.{Triangle}
use Rattle.definition.specs.Mesh.{corner_of}
use Rattle.definition.specs.Step4Order.{is_sound, sound, broken, spots}
use Rattle.definition.specs.Step4Old.{merged_rows, merged_with, recornered, merged}
use Rattle.definition.specs.Names.{Names}
use Rattle.view.specs.Rows.{spot_row}
use Rattle.view.proofs.Rows.{spots-at, spots-length}
use Rattle.copies.proofs.Firsts.{sound-below, broken-above}
use Rattle.merge.proofs.Inside.{merged-inside}
use Rattle.merge.proofs.Means.{corner-at}
use Rattle.merge.proofs.Recornered.{marked, recornered-long, with-long, row-cornered}
use Rattle.merge.proofs.Old.{nowhere, merged-is}
use Rattle.legacy.specs.Merged.{Like}
use Rattle.legacy.proofs.Places.{recornered-like, names-recornered, first-recornered, keep-first, keep-last}
use Rattle.legacy.proofs.Rows.{Near, length_merged, merged-near}

module _ (ts : List Triangle) where
  -- the triangles, sound ones first, and the corners of their rows
  abbrev pub ys : List Triangle
  ys = sound ts ++ broken ts

  abbrev pub corners : ℕ → Corner
  corners r = get_or (map corner_of (spots ys)) r nowhere

  -- the row that each row is merged with
  abbrev pub rows : List ℕ
  rows = merged_rows corners (length (spots ys))

  abbrev pub into : ℕ → ℕ
  into k = get_or rows k 0

  -- what is left
  abbrev pub xs : List Triangle
  xs = merged (sound ts) (broken ts)

  abbrev pub us : List Triangle
  us = sound xs

  abbrev pub vs : List Triangle
  vs = broken xs

  long-rows : length rows ≡ 3 * length ys
  long-rows = length_merged corners (length (spots ys)) ∙ spots-length ys

  pub into-below : (k : ℕ) → k < 3 * length ys → into k < 3 * length ys
  into-below k h = let z = spots-length ys in let y = merged-inside (length (spots ys)) corners (omega (arith, z, h)) k in omega (arith, z, y)

  within : (k : ℕ) → k < length rows → into k < 3 * length ys
  within k h = into-below k (omega (arith, h, long-rows))

  is : recornered ys (merged_with (spots ys) rows) ≡ xs
  is = merged-is ts rows refl

  -- ---- in place

  module _ (d : Triangle) where
    long-corners : length (merged_with (spots ys) rows) ≡ 3 * length ys
    long-corners = with-long ys d rows within ∙ long-rows

    pub like : (t : ℕ) → Like (get_or xs t d) (get_or ys t d)
    like t = subst (λ (l : List Triangle). Like (get_or l t d) (get_or ys t d)) is (recornered-like ys (merged_with (spots ys) rows) d long-corners t)

    pub long : length xs ≡ length ys
    long = ap length (sym is) ∙ recornered-long ys (merged_with (spots ys) rows) long-corners

    pub us-is : us ≡ take (length (sound ts)) xs
    unfolding sound is_sound
    us-is = keep-first is_sound xs d (length (sound ts)) (λ t h l. ap not ((like t).degenerate ∙ sound-below ts d t h)) (λ t h l. ap not ((like t).degenerate ∙ broken-above ts d t h (omega (arith, l, long))))

    pub vs-is : vs ≡ drop (length (sound ts)) xs
    unfolding broken
    vs-is = keep-last (λ t. t.degenerate) xs d (length (sound ts)) (λ t h l. (like t).degenerate ∙ sound-below ts d t h) (λ t h l. (like t).degenerate ∙ broken-above ts d t h (omega (arith, l, long)))

    -- sound ones first
    pub whole : us ++ vs ≡ xs
    whole = (λ i. us-is i ++ vs-is i) ∙ take-append-drop (length (sound ts)) xs

    pub sound-long : length us ≡ length (sound ts)
    sound-long = ap length us-is ∙ length-take-le (length (sound ts)) xs (omega (arith, long, length-append (sound ts) (broken ts)))

    pub broken-long : length vs ≡ length (broken ts)
    broken-long = let z = ap length vs-is ∙ length-drop (length (sound ts)) xs in omega (arith, z, long, length-append (sound ts) (broken ts))

    -- no two sound ones have one name
    pub names-left : Names (sound ts) → Names us
    names-left N = subst Names (sym (us-is ∙ (ap (take (length (sound ts))) (sym is) ∙ first-recornered (sound ts) (broken ts) (merged_with (spots ys) rows) long-corners))) (names-recornered (sound ts) (merged_with (spots ys) rows) N)

    -- a sound one stands where it stood
    pub us-at : (t : ℕ) → t < length us → get_or us t d ≡ get_or xs t d
    us-at t h = sym (get_or-append us vs d t h) ∙ ap (λ (l : List Triangle). get_or l t d) whole

    -- ---- corners

    pub corner-left : (d' : Triangle) (k : ℕ) → k < 3 * length ys → corner_of (spot_row xs d' k) ≡ marked (spot_row ys d (into k))
    corner-left d' k h = ap (λ (l : List Triangle). corner_of (spot_row l d' k)) (sym is) ∙ row-cornered ys d d' rows long-rows within k (omega (arith, h, long-rows))

    pub corner-is : (k : ℕ) → k < 3 * length ys → corners k ≡ corner_of (spot_row ys d k)
    corner-is k h = corner-at (spots ys) k nowhere (spot_row ys d 0) (let z = spots-length ys in omega (arith, z, h)) ∙ ap corner_of (spots-at ys d (spot_row ys d 0) k h)

    -- each at a position equal to its own
    pub near : (k : ℕ) → k < 3 * length ys → Near (corner_of (spot_row ys d k)).place (corner_of (spot_row ys d (into k))).place
    near k h p =
        sym (ap (λ (c : Corner). equals p c.place) (corner-is (into k) (into-below k h)))
        ∙ merged-near corners (length (spots ys)) k (let z = spots-length ys in omega (arith, z, h)) p
        ∙ ap (λ (c : Corner). equals p c.place) (corner-is k h)

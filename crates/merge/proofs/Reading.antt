-- What is read in the columns: the row at a place, a row's corner and position, and which of that stands where a column is altered. Assumes nothing.
use Rattle.std.proofs.Common.{◌≡◌, ℕ, suc, ◌+◌, ◌-◌, ◌*◌, ◌<◌, ◌≤◌, min, true, List, length, get_or, take, drop, sym, refl, ap, ◌∙◌, arith, drop_of_length-le, length-take, length-take-le, get_or-take}
use lib.ListN.{get_or-eq_default}
use lib.Seq.{slice, slice-cons, take-take, drop-drop}
use Rattle.std.proofs.lemmas.List.{drop-take}
use lib.Ieee.{Float}
use Rattle.math.specs.declared.Vec3.{Vec3}
use Rattle.lists.specs.Lists.{run}
use Rattle.table.specs.Table.{cell, column}
use Rattle.table.specs.Columns.{columns, corner_column, into_column, order_column}
use Rattle.table.proofs.Laws.{get_or-column, length-column}
use Rattle.view.specs.Frame.{Only, outside}
use Rattle.weld.specs.Welding.{corner_in}
use Rattle.definition.specs.Handed.{vector_at, corner_at}
use Rattle.merge.specs.Rows.{corner_of_row, place_of_row, order, into}

min-low : (a b : ℕ) → min a b ≤ a
min-low a b = omega arith

-- at most n of a list
pub take-most : (n : ℕ) (l : List ℕ) → length (take n l) ≤ n
take-most n l = let z = length-take n l in let y = min-low n (length l) in omega (arith, z, y)

module _ (rows n : ℕ) (w : List ℕ) where
  -- the row at a place
  pub order-at : (i : ℕ) → n ≤ rows → i < n → cell rows order_column i w ≡ get_or (order rows n w) i 0
  order-at i h k = sym (get_or-take n (column rows order_column w) i 0 k ∙ get_or-column rows w order_column i (omega arith))

  pub order-past : (i : ℕ) → n ≤ i → 0 ≡ get_or (order rows n w) i 0
  order-past i k = sym (get_or-eq_default (order rows n w) 0 (let z = take-most n (column rows order_column w) in omega (arith, z)))

  pub order-long : n ≤ rows → columns * rows ≤ length w → length (order rows n w) ≡ n
  order-long h k = let z = length-column rows w order_column (omega arith) in length-take-le n (column rows order_column w) (omega (arith, z))

  -- a place of the order
  pub order-room : columns * rows ≤ length w → n ≤ rows → (e : ℕ) → e ≤ n → e ≤ length (order rows n w)
  order-room k h e l = let z = order-long h k in omega (arith, z, l)

-- the rows at some places, as they stand in the work list
pub rows-are : (rows from to n : ℕ) (w : List ℕ) → from ≤ to → to ≤ rows → to ≤ n → take (order_column * rows + to - (order_column * rows + from)) (drop (order_column * rows + from) w) ≡ slice from to (order rows n w)
unfolding column
rows-are rows from to n w h k m =
    let D : List ℕ = drop (order_column * rows) w in
    ap (λ (j : ℕ). take j (drop (order_column * rows + from) w)) (let e : order_column * rows + to - (order_column * rows + from) ≡ to - from = omega arith in e)
    ∙ ap (take (to - from)) (sym (drop-drop from (order_column * rows) w))
    ∙ sym (drop-take from (to - from) D)
    ∙ ap (λ (j : ℕ). drop from (take j D)) (let e : from + (to - from) ≡ to = omega arith in e)
    ∙ ap (drop from) (sym (take-take to rows D k))
    ∙ ap (drop from) (sym (take-take to n (take rows D) m))

-- the position of a row's corner
pub place_is : (ps ns ts : List Float) (rows : ℕ) (w : List ℕ) → ◌≡◌ {A = ℕ → Vec3} (λ r. (corner_of_row ps ns ts rows w r).place) (place_of_row ps rows w)
unfolding corner_of_row place_of_row corner_at
place_is ps ns ts rows w = refl

module _ (ks : List ℕ) (rows : ℕ) (w u : List ℕ) (O : Only ks rows w u) where
  -- what stands where only other columns are altered
  pub corner-stands : (ps ns ts : List Float) → outside ks corner_column ≡ true → corner_of_row ps ns ts rows u ≡ corner_of_row ps ns ts rows w
  unfolding corner_of_row
  corner-stands ps ns ts h = ap (corner_in ps ns ts) (O.others corner_column h)

  pub place-stands : (ps : List Float) → outside ks corner_column ≡ true → place_of_row ps rows u ≡ place_of_row ps rows w
  unfolding place_of_row
  place-stands ps h = λ i r. vector_at ps (get_or (O.others corner_column h i) r 0)

  pub order-stands : (n : ℕ) → outside ks order_column ≡ true → order rows n u ≡ order rows n w
  order-stands n h = ap (take n) (O.others order_column h)

  pub into-stands : (n : ℕ) → outside ks into_column ≡ true → into rows n u ≡ into rows n w
  into-stands n h = ap (take n) (O.others into_column h)

-- ---- a loop over places that runs through their rows

module _ {S : Type 0} (f : S → ℕ → S) (b : S) (l : List ℕ) (i to : ℕ) where
  pub run-one : i < to → to ≤ length l → run f b (slice i to l) ≡ run f (f b (get_or l i 0)) (slice (i + 1) to l)
  unfolding run
  run-one h k = ap (run f b) (slice-cons i to l 0 h k) ∙ ap (λ (j : ℕ). run f (f b (get_or l i 0)) (slice j to l)) (let e : suc i ≡ i + 1 = omega arith in e)

  pub run_end : to ≤ i → run f b (slice i to l) ≡ b
  unfolding run
  run_end h = ap (run f b) (drop_of_length-le (take to l) {i = i} (let z = take-most to l in omega (arith, z)))

-- The marks of subgroups change nothing that slots are reached by. Assumes nothing.
use Prim.Native.Nat.{ℕ, suc, ◌+◌, ◌-◌, ◌/◌, ◌≤◌, ◌<◌, min}
use native.Mathlib.Nat.{div-add-mod, le_refl, min-le_right}
use native.Mathlib.Omega.{arith}
use mathlib.Core.Path.{◌≡◌, refl, sym, ap, ◌∙◌}
use mathlib.Core.Bool.{Bool, true, false, cond}
use mathlib.Core.List.{List, [], ◌∷◌}
use lib.Dec.{eqb, ltb}
use borrow.Author.Tests.{ltb-true, ltb-false}
use lib.Ieee.{Float}
use Rattle.lists.specs.Loops.{up_to}
use Rattle.table.specs.Table.{cell}
use Rattle.table.specs.Columns.{slot_column, orientation_column, met_column, order_column, joined_column, begin_column}
use Rattle.lists.proofs.Loops.{up_to-same}
use Rattle.view.specs.Frame.{Only}
use Rattle.view.proofs.Frame.{cell-kept}
use Rattle.tangent.specs.declared.Evaluated.{Evaluated}
use Rattle.slots.specs.Slots.{reached_at}
use Rattle.members.specs.Members.{begin_of}
use Rattle.members.proofs.Ordering.{begin-kept}
use Rattle.subgroups.specs.Subgroups.{Ranged}
use Rattle.subgroups.specs.Spans.{Whole}
use Rattle.subgroups.proofs.Laws.{value-kept}
use Rattle.subgroups.proofs.Spans.{whole-value}
use Rattle.spaces.specs.Spaces.{reach_row, reach_group, reach_with, reach_whole}

-- a group of none reaches nothing
pub reach-none : (rows : ℕ) (h : Float) (from to : ℕ) (w a : List ℕ) → to ≤ from → a ≡ reach_group rows h from to w a
unfolding reach_group up_to
reach-none rows h from to w a l = let z : 0 ≡ to - from = omega arith in ap (λ n. up_to n (λ k. reach_row rows h from (to - from) w (cell rows met_column (from + k) w)) a) z

module _ (rows : ℕ) (w u : List ℕ) (O : Only (joined_column ∷ []) rows w u) where
  pub with-kept : (g : Evaluated) (r : ℕ) (a : List ℕ) → r < rows → reach_with rows u g r a ≡ reach_with rows w g r a
  unfolding reach_with
  with-kept g r a l =
      let k : r / 3 < rows = omega (arith, div-add-mod r 3) in
      λ z. reached_at (cell-kept (joined_column ∷ []) rows w u O slot_column r refl l z) g (eqb (cell-kept (joined_column ∷ []) rows w u O orientation_column (r / 3) refl k z) 1) a

  row_kept : (h : Float) (from n r : ℕ) (a : List ℕ) → r < rows → from + n ≤ rows → ((p : ℕ) → p < from + n → cell rows order_column p w < rows) → reach_row rows h from n u r a ≡ reach_row rows h from n w r a
  unfolding reach_row
  row_kept h from n r a l f R =
      let k : r / 3 < rows = omega (arith, div-add-mod r 3) in
      λ z. reached_at (cell-kept (joined_column ∷ []) rows w u O slot_column r refl l z) (value-kept rows w u O h r from n l f R z) (eqb (cell-kept (joined_column ∷ []) rows w u O orientation_column (r / 3) refl k z) 1) a

  -- of one member of a group
  pub member-kept : (h : Float) (from to j : ℕ) (a : List ℕ) → from ≤ to → to ≤ rows → j < to → Ranged rows to w → reach_row rows h from (to - from) u (cell rows met_column j u) a ≡ reach_row rows h from (to - from) w (cell rows met_column j w) a
  member-kept h from to j a f g l R =
      let e = cell-kept (joined_column ∷ []) rows w u O met_column j refl (omega arith) in
      ap (λ r. reach_row rows h from (to - from) u r a) e ∙ row_kept h from (to - from) (cell rows met_column j w) a (R.met j l) (omega arith) (λ p b. R.order p (omega arith))

  pub group-kept : (h : Float) (from to : ℕ) (a : List ℕ) → from ≤ to → to ≤ rows → Ranged rows to w → reach_group rows h from to u a ≡ reach_group rows h from to w a
  unfolding reach_group
  group-kept h from to a f g R = up_to-same (to - from) _ _ a (λ k y l. member-kept h from to (from + k) y f g (omega arith) R)

  -- whichever of the two is less
  pub part-kept : (h : Float) (from to : ℕ) (a : List ℕ) → to ≤ rows → Ranged rows to w → reach_group rows h from to u a ≡ reach_group rows h from to w a
  part-kept h from to a g R = go (ltb to from) refl
    where
      go : (b : Bool) → ltb to from ≡ b → reach_group rows h from to u a ≡ reach_group rows h from to w a
      go true e = let l = ltb-true to from e in sym (reach-none rows h from to u a (omega arith)) ∙ reach-none rows h from to w a (omega arith)
      go false e = group-kept h from to a (ltb-false to from e) g R

-- the first members of all
pub ranged-less : (rows n m : ℕ) (w : List ℕ) → n ≤ m → Ranged rows m w → Ranged rows n w
ranged-less rows n m w l R = record { met = λ p h. R.met p (omega arith); order = λ p h. R.order p (omega arith) }

-- by whatever numbers that are the same
pub group-same : (rows : ℕ) (h : Float) (f g t u : ℕ) (w a b : List ℕ) → f ≡ g → t ≡ u → b ≡ reach_group rows h f t w a → b ≡ reach_group rows h g u w a
group-same rows h f g t u w a b p q e = e ∙ (λ z. reach_group rows h (p z) (q z) w a)

-- ---- the first q groups

abbrev pub reach_first : ℕ → Float → ℕ → ℕ → List ℕ → List ℕ → ℕ → List ℕ
reach_first rows h groups count w a q = up_to q (λ p. reach_group rows h (begin_of rows groups count w p) (begin_of rows groups count w (suc p)) w) a

-- where a group begins is at most where all end
begin-le : (rows groups count : ℕ) (w : List ℕ) (q : ℕ) → begin_of rows groups count w q ≤ count
unfolding begin_of
begin-le rows groups count w q = go (ltb q groups)
  where
    go : (b : Bool) → cond b (min (cell rows begin_column q w) count) count ≤ count
    go true = min-le_right (cell rows begin_column q w) count
    go false = le_refl count

-- one group more, by the list w, where the list has become u
pub one_group : (rows : ℕ) (h : Float) (groups count : ℕ) (w u a b c : List ℕ) (q : ℕ) → groups ≤ rows → count ≤ rows → Ranged rows count w → Only (joined_column ∷ []) rows w u → b ≡ reach_first rows h groups count w a q → c ≡ reach_group rows h (begin_of rows groups count u q) (begin_of rows groups count u (q + 1)) u b → c ≡ reach_first rows h groups count w a (q + 1)
unfolding up_to
one_group rows h groups count w u a b c q few small R O e g =
    let k : (p : ℕ) → begin_of rows groups count u p ≡ begin_of rows groups count w p = begin-kept (joined_column ∷ []) rows groups count w u refl few O in
    let from = begin_of rows groups count w q in
    let to = begin_of rows groups count w (q + 1) in
    let s : q + 1 ≡ suc q = omega arith in
    g
    ∙ ((λ z. reach_group rows h (k q z) (k (q + 1) z) u b)
    ∙ (part-kept rows w u O h from to b (omega (arith, begin-le rows groups count w (q + 1))) (ranged-less rows to count w (begin-le rows groups count w (q + 1)) R) ∙ ((λ z. reach_group rows h from (begin_of rows groups count w (s z)) w (e z)) ∙ sym (ap (reach_first rows h groups count w a) s))))

-- where all members join one another, each brings the one sum
pub whole-group : (rows : ℕ) (h : Float) (from to : ℕ) (w a : List ℕ) → Whole rows h from (to - from) w → reach_whole rows from to w a ≡ reach_group rows h from to w a
unfolding reach_whole reach_group reach_row reach_with
whole-group rows h from to w a W =
    up_to-same (to - from) _ _ a (λ k y l. ap (λ g. reached_at (cell rows slot_column (cell rows met_column (from + k) w) w) g (eqb (cell rows orientation_column (cell rows met_column (from + k) w / 3) w) 1) y) (sym (whole-value rows w h from (to - from) k l W)))

-- Where the columns stand for the groups, every member is a row, as met and in triangle order. Assumes nothing.
use Prim.Native.Nat.{ℕ, ◌+◌, ◌-◌, ◌*◌, ◌≤◌, ◌<◌}
use native.Mathlib.Omega.{arith}
use mathlib.Core.Path.{◌≡◌, sym, ap, ◌∙◌, subst}
use mathlib.Core.List.{List}
use lib.Dec.{eqb}
use lib.ListN.{length, get_or}
use lib.Seq.{slice, length-slice}
use Rattle.table.specs.Table.{cell, column}
use Rattle.table.specs.Columns.{columns, group_column, met_column, order_column}
use Rattle.table.proofs.Laws.{length-column, get_or-column}
use Rattle.definition.specs.declared.Triangle.{Triangle}
use Rattle.definition.specs.Step6Groups.{Mark}
use Rattle.lists.specs.Every.{Every}
use Rattle.laws.proofs.Part.{every-keep}
use Rattle.view.specs.Groups.{number_of, Grouping, begin_at, InOrder}
use Rattle.view.proofs.Lists.{every-index}
use Rattle.view.proofs.Rows.{row_lt}
use Rattle.members.proofs.Stretches.{get_or-slice}
use Rattle.members.proofs.Begins.{below, of_number}
use Rattle.subgroups.specs.Subgroups.{Ranged}
use Rattle.spaces.proofs.Sums.{all-below}

module _ (rows : ℕ) (ss : List Triangle) (d : Triangle) (ms : List Mark) (groups count : ℕ) (w : List ℕ) (all : count ≡ length ms) (G : Grouping rows ss d ms groups w) (I : InOrder rows ss groups count w)
    (fits : 3 * length ss ≤ rows) (small : count ≤ rows) (room : columns * rows ≤ length w) (e : Mark) where
  met-row : (p : ℕ) → p < count → cell rows met_column p w < rows
  met-row p l = let M = G.member p e (omega (arith, all)) in subst (λ x. x < rows) (sym M.member) (omega (arith, row_lt M.tri (length ss) M.at M.inside))

  -- the p-th in triangle order stands in the stretch of the group of the p-th as met
  order_row : (p : ℕ) → p < count → cell rows order_column p w < rows
  order_row p l =
      let q : ℕ = number_of rows w p - 1 in
      let o = of_number rows ss d ms groups count w all G e p (omega (arith, all)) in
      let from : ℕ = begin_at rows groups count w q in
      let to : ℕ = begin_at rows groups count w (q + 1) in
      let L : List ℕ = slice from to (column rows order_column w) in
      let end : to ≤ count = below rows ss d ms groups count w all G (q + 1) in
      let n : length L ≡ to - from = length-slice from to (column rows order_column w) (omega (arith, length-column rows w order_column (omega arith))) in
      let at : from + (p - from) ≡ p = omega (arith, o.1) in
      let is : get_or L (p - from) 0 ≡ cell rows order_column p w = get_or-slice from to (p - from) (column rows order_column w) (omega (arith, o.2)) ∙ (ap (λ i. get_or (column rows order_column w) i 0) at ∙ get_or-column rows w order_column p (omega arith)) in
      let every : Every (λ r. r < 3 * length ss) L = subst (Every (λ r. r < 3 * length ss)) (sym (I q o.0)) (every-keep (λ r. eqb (cell rows group_column r w) (q + 1)) (all-below (3 * length ss) (3 * length ss) (omega arith))) in
      let b : cell rows order_column p w < 3 * length ss = subst (λ r. r < 3 * length ss) is (every-index every (p - from) 0 (omega (arith, n, o.1, o.2))) in
      omega arith

  pub ranged : Ranged rows count w
  ranged = record { met = met-row; order = order_row }

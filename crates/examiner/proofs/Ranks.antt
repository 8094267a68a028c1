-- Rows below n in their order, as the sort leaves them in the list v: it sorts what counts the rows in the list u. Assumes nothing.
use Prim.Native.Nat.{ℕ, ◌+◌, ◌*◌, ◌≤◌, ◌<◌}
use native.Mathlib.Omega.{arith}
use mathlib.Core.Path.{◌≡◌, sym, subst}
use mathlib.Core.List.{List}
use lib.ListN.{get_or, take}
use Rattle.table.specs.Table.{cell, column}
use Rattle.lists.specs.Loops.{list_of}
use Rattle.table.specs.Columns.{order_column}
use Rattle.sort.specs.Sort.{ends, key, in_order, SortedPart}
use Rattle.sort.proofs.Sorted.{all-index, rises-at, rises_sorted}
use Rattle.sort.proofs.Order.{length-order, below-order, rising-order, order-cell}
use Rattle.sort.proofs.Rising.{sorted_all, row_has}

-- equal first digits: the second ones compare
second-le : (a b r s : ℕ) → a ≡ b → a * 4294967296 + r ≤ b * 4294967296 + s → r ≤ s
second-le a b r s e h = omega arith

module _ (rows n : ℕ) (u v : List ℕ) (fits : n ≤ rows) (few : n ≤ 4294967296) (S : SortedPart rows 0 n u v) (counted : take n (column rows order_column u) ≡ list_of n (λ k. k)) where
  abbrev E : ℕ → ℕ
  E = ends rows u

  abbrev X : ℕ → ℕ
  X a = cell rows order_column a v

  at-order : (a : ℕ) → a < n → X a ≡ get_or (in_order rows n u) a 0
  at-order = order-cell rows n u v fits S counted

  rises-key : (a b : ℕ) → a < b → b < n → key rows u (X a) ≤ key rows u (X b)
  rises-key a b h l =
      subst (λ x. key rows u x ≤ key rows u (X b)) (sym (at-order a (omega arith)))
      (subst (λ x. key rows u (get_or (in_order rows n u) a 0) ≤ key rows u x) (sym (at-order b l))
      (rises-at (λ x y. key rows u x ≤ key rows u y) (in_order rows n u) a b (rises_sorted (key rows u) (list_of n (λ k. k))) h (omega (arith, length-order rows n u))))

  step-le : (r s : ℕ) → E r ≡ E s → key rows u r ≤ key rows u s → r ≤ s
  unfolding key
  step-le r s e h = second-le (E r) (E s) r s e h

  pub rank_below : (a : ℕ) → a < n → X a < n
  rank_below a h = subst (λ x. x < n) (sym (at-order a h)) (below-order rows n u a h)

  pub rank_rises : (a b : ℕ) → a < b → b < n → E (X a) ≤ E (X b)
  rank_rises a b h l =
      subst (λ x. E x ≤ E (X b)) (sym (at-order a (omega arith))) (subst (λ x. E (get_or (in_order rows n u) a 0) ≤ E x) (sym (at-order b l)) (rising-order rows n u few a b (omega arith) l))

  pub rank-steps : (a b : ℕ) → a < b → b < n → E (X a) ≡ E (X b) → X a ≤ X b
  rank-steps a b h l e = step-le (X a) (X b) e (rises-key a b h l)

  pub rank-found : (r : ℕ) → r < n → (a : ℕ) × (a < n) × (X a ≡ r)
  rank-found r h =
      row_has (λ r. (a : ℕ) × (a < n) × (X a ≡ r)) n
      (sorted_all (key rows u) (λ r. (a : ℕ) × (a < n) × (X a ≡ r)) (list_of n (λ k. k))
      (all-index (λ r. (a : ℕ) × (a < n) × (X a ≡ r)) (in_order rows n u) (λ k l. let m : k < n = omega (arith, l, length-order rows n u) in (k, m, at-order k m))))
      r h

-- Sides with the same ends, and places that are like each other. Assumes nothing.
use Prim.Native.Nat.{ℕ}
use mathlib.Core.Path.{◌≡◌, refl, sym, ap, ◌∙◌}
use mathlib.Core.Bool.{Bool, true, false, not, true≢false, ◌&&◌}
use mathlib.Core.List.{List}
use lib.Dec.{eqb}
use borrow.Author.Tests.{eqb-true, eq-eqb, not-false}
use Rattle.table.specs.Table.{cell}
use Rattle.table.specs.Columns.{link_column, lower_column, higher_column}
use Rattle.neighbors.specs.Links.{side_at, same_ends, suits}
use Rattle.neighbors.specs.Cursors.{Like}

-- two tests in one
both : (p q : Bool) → (p && q) ≡ true → (p ≡ true) × (q ≡ true)
both true q e = (refl, e)
both false q e = (e, absurd (true≢false (sym e)))

-- the words of sides that have the same ends
words : (rows s u : ℕ) (w : List ℕ) → same_ends rows s u w ≡ true → (cell rows lower_column s w ≡ cell rows lower_column u w) × (cell rows higher_column s w ≡ cell rows higher_column u w)
unfolding same_ends
words rows s u w e = let t = both _ _ e in (eqb-true _ _ t.0, eqb-true _ _ t.1)

-- two sides that have the ends of a third have the same ends
pub same-both : (rows s t u : ℕ) (w : List ℕ) → same_ends rows s t w ≡ true → same_ends rows s u w ≡ true → same_ends rows t u w ≡ true
unfolding same_ends
same-both rows s t u w e f =
    let p = words rows s t w e in
    let q = words rows s u w f in
    (λ k. eq-eqb _ _ (sym p.0 ∙ q.0) k && eq-eqb _ _ (sym p.1 ∙ q.1) k)

-- an unlinked side that does not suit starts at the same vertex
unfit : (x y z : ℕ) → (eqb z 0 && not (eqb x y)) ≡ false → z ≡ 0 → x ≡ y
unfit x y z e h = eqb-true x y (not-false (eqb x y) (sym (ap (λ (b : Bool). b && not (eqb x y)) (eq-eqb z 0 h)) ∙ e))

-- and the other way
fit : (x y z : ℕ) → (z ≡ 0 → x ≡ y) → (eqb z 0 && not (eqb x y)) ≡ false
fit x y z h = go (eqb z 0) refl
  where
    go : (b : Bool) → eqb z 0 ≡ b → (b && not (eqb x y)) ≡ false
    go true e = ap not (eq-eqb x y (h (eqb-true z 0 e)))
    go false e = refl

-- the side at place a is unlinked
module _ (rows : ℕ) (w : List ℕ) (a : ℕ) (free : cell rows link_column (side_at rows w a) w ≡ 0) where
  -- two sides that are like it are like each other
  pub like-both : (b c : ℕ) → Like rows w a b → Like rows w a c → Like rows w b c
  like-both b c l m = record {
    ends = same-both rows (side_at rows w a) (side_at rows w b) (side_at rows w c) w l.ends m.ends;
    start = λ p q. sym (l.start free p) ∙ m.start free q;
  }

  -- a side that is like it does not suit
  pub like-unfit : (b : ℕ) → Like rows w a b → suits rows (side_at rows w a) (side_at rows w b) w ≡ false
  unfolding suits
  like-unfit b l = fit _ _ _ (l.start free)

-- a side with the same ends that does not suit is like it
pub unfit-like : (rows : ℕ) (w : List ℕ) (a b : ℕ) → same_ends rows (side_at rows w a) (side_at rows w b) w ≡ true → suits rows (side_at rows w a) (side_at rows w b) w ≡ false → Like rows w a b
unfolding suits
unfit-like rows w a b e f = record { ends = e; start = λ p q. unfit _ _ _ f q }

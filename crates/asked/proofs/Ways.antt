-- Round one corner: each member has at most two ways on, one each way, and each is the other's way back. Assumes nothing.
use Prim.Native.Nat.{ℕ, ◌+◌, ◌*◌, ◌-◌, ◌%◌, ◌<◌}
use native.Mathlib.Omega.{arith}
use mathlib.Core.Path.{◌≡◌, refl, sym, ap, ◌∙◌}
use mathlib.Core.Bool.{Bool, true, false, not, cond, true≢false}
use mathlib.Core.List.{List}
use lib.Dec.{eqb}
use lib.ListN.{get_or}
use borrow.Author.Tests.{eqb-true, eqb-false}
use Rattle.neighbors.specs.Sides.{end_row}
use Rattle.neighbors.proofs.Sided.{end_lt}
use Rattle.asked.specs.Links.{LinksFit}
use Rattle.asked.specs.Groups.{Together, Way, after, before, Chain, here, on}

-- ---- where a side ends

-- what end_row does, by cases
data Ends (r : ℕ) : ℕ → Type 0 where
  last : r % 3 ≡ 2 → Ends r (r - 2)
  other : (r % 3 ≡ 2 → ⊥) → Ends r (r + 1)

ends : (r : ℕ) → Ends r (end_row r)
unfolding end_row
ends r = go (eqb (r % 3) 2) refl
  where
    go : (b : Bool) → eqb (r % 3) 2 ≡ b → Ends r (cond b (r - 2) (r + 1))
    go true e = last (eqb-true (r % 3) 2 e)
    go false e = other (eqb-false (r % 3) 2 e)

-- the side that ends at a row
pub end_back : (r e : ℕ) → (r % 3 ≡ 0 → e ≡ r + 2) → ((r % 3 ≡ 0 → ⊥) → e ≡ r - 1) → end_row e ≡ r
end_back r e a b = go (end_row e) (ends e)
  where
    go : (x : ℕ) → Ends e x → x ≡ r
    go x (last z) = by (eqb (r % 3) 0) refl
      where
        by : (c : Bool) → eqb (r % 3) 0 ≡ c → e - 2 ≡ r
        by true y = let q = a (eqb-true (r % 3) 0 y) in omega arith
        by false y = let q = b (eqb-false (r % 3) 0 y) in let ne = eqb-false (r % 3) 0 y in absurd (omega arith)
    go x (other z) = by (eqb (r % 3) 0) refl
      where
        by : (c : Bool) → eqb (r % 3) 0 ≡ c → e + 1 ≡ r
        by true y = let q = a (eqb-true (r % 3) 0 y) in let t = eqb-true (r % 3) 0 y in absurd (omega arith)
        by false y = let q = b (eqb-false (r % 3) 0 y) in let ne = eqb-false (r % 3) 0 y in omega arith

-- the sides of one end are one
pub end-one : (r s : ℕ) → end_row r ≡ end_row s → r ≡ s
end-one r s e = go (end_row r) (end_row s) (ends r) (ends s) e
  where
    go : (x y : ℕ) → Ends r x → Ends s y → x ≡ y → r ≡ s
    go x y (last a) (last b) e = omega arith
    go x y (last a) (other b) e = absurd (omega arith)
    go x y (other a) (last b) e = absurd (omega arith)
    go x y (other a) (other b) e = omega arith

-- a side that ends below 3n is below 3n
pub end_below : (r n : ℕ) → end_row r < 3 * n → r < 3 * n
end_below r n h = go (end_row r) (ends r) h
  where
    go : (x : ℕ) → Ends r x → x < 3 * n → r < 3 * n
    go x (last a) h = omega arith
    go x (other a) h = omega arith

-- ---- ways

module _ (n : ℕ) (same : ℕ → ℕ → Type 0) (L : List ℕ) (F : LinksFit (3 * n) same L) where
  -- the side e that ends in a corner of the triangles is one of theirs
  pub way_in : (b : Bool) (r p : ℕ) → r < 3 * n → Way L b r p → p < 3 * n
  way_in b r p h (after _ q l) = end_lt q n (F.inside r q h l)
  way_in b r p h (before e q l) = F.inside e q (end_below e n h) l

  -- back the other way
  pub way_back : (b : Bool) (r p : ℕ) → r < 3 * n → Way L b r p → Way L (not b) p r
  way_back b r p h (after _ q l) = before q r (F.mutually r q h l)
  way_back b r p h (before e q l) = after q e (F.mutually e q (end_below e n h) l)

-- each way leads to one
pub way-one : (L : List ℕ) (b : Bool) (r p s : ℕ) → Way L b r p → Way L b r s → p ≡ s
way-one L b r p s (after _ q l) w = go false r s w refl refl
  where
    go : (c : Bool) (x s : ℕ) → Way L c x s → c ≡ false → x ≡ r → end_row q ≡ s
    go c x s (after _ u m) e f = ap end_row (let a = ap (λ y. get_or L y 0) f in omega arith)
    go c x s (before u v m) e f = absurd (true≢false e)
way-one L b r p s (before e q l) w = go true (end_row e) s w refl refl
  where
    go : (c : Bool) (x s : ℕ) → Way L c x s → c ≡ true → x ≡ end_row e → q ≡ s
    go c x s (after _ u m) z f = absurd (true≢false (sym z))
    go c x s (before u v m) z f = let a = ap (λ y. get_or L y 0) (end-one u e f) in omega arith

-- ---- one group

module _ (G : List ℕ) where
  pub together-back : (r q : ℕ) → Together G r q → Together G q r
  together-back r q T = record { same = sym T.same; some = λ z. T.some (T.same ∙ z) }

  pub together-on : (r q p : ℕ) → Together G r q → Together G q p → Together G r p
  together-on r q p T U = record { same = T.same ∙ U.same; some = T.some }

-- ---- chains

module _ (n : ℕ) (L G : List ℕ) where
  pub chain-on : (r q p : ℕ) → Chain n L G r q → Chain n L G q p → Chain n L G r p
  chain-on r q p c here = c
  chain-on r q p c (on b x _ d h w t) = on b x p (chain-on r q x c d) h w t

  pub chain-in : (same : ℕ → ℕ → Type 0) → LinksFit (3 * n) same L → (r q : ℕ) → r < 3 * n → Chain n L G r q → q < 3 * n
  chain-in same F r q h here = h
  chain-in same F r q h (on b x _ d k w t) = way_in n same L F b x q k w

  pub chain_back : (same : ℕ → ℕ → Type 0) → LinksFit (3 * n) same L → (r q : ℕ) → r < 3 * n → Chain n L G r q → Chain n L G q r
  chain_back same F r q h here = here
  chain_back same F r q h (on b x _ d k w t) =
      chain-on q x r (on (not b) q x here (way_in n same L F b x q k w) (way_back n same L F b x q k w) (together-back G x q t)) (chain_back same F r x h d)

  -- a set of corners that no way leaves within a group holds all of a chain that starts in it
  pub closed-chain : (M : ℕ → Type 0) → ((b : Bool) (q p : ℕ) → q < 3 * n → M q → Way L b q p → Together G q p → M p) → (r q : ℕ) → M r → Chain n L G r q → M q
  closed-chain M closed r q m here = m
  closed-chain M closed r q m (on b x _ d k w t) = closed b x q k (closed-chain M closed r x m d) w t

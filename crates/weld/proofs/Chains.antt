-- Chains of rows: what a walk along one finds, and what leaves it as it is. Assumes nothing.
use Prim.Native.Nat.{ℕ, suc, ◌≤◌, ◌<◌}
use native.Mathlib.Nat.{le_refl}
use native.Mathlib.Omega.{arith}
use mathlib.Core.Path.{◌≡◌, refl, sym, ap, ◌∙◌, subst}
use mathlib.Core.Bool.{Bool, true, false, true≢false}
use mathlib.Core.List.{List}
use lib.ListN.{get_or}
use Rattle.weld.specs.Welding.{Chain, end, link, Finds, ended, here, further}

-- two walks along one chain by tests that agree find the same
pub finds-one : (xs : List ℕ) (f g : ℕ → Bool) → ((k : ℕ) → f k ≡ g k) → {p s t : ℕ} → Finds xs f p s → Finds xs g p t → s ≡ t
finds-one xs f g e ended ended = refl
finds-one xs f g e (here q a) (here _ b) = refl
finds-one xs f g e (here q a) (further _ _ b w) = absurd (true≢false (sym a ∙ (e q ∙ b)))
finds-one xs f g e (further q s a w) (here _ b) = absurd (true≢false (sym b ∙ (sym (e q) ∙ a)))
finds-one xs f g e (further q s a w) (further _ t b x) = finds-one xs f g e w x

-- what is found passes the test
pub finds-passes : (xs : List ℕ) (f : ℕ → Bool) {p s : ℕ} → Finds xs f p s → (v : ℕ) → s ≡ suc v → f v ≡ true
finds-passes xs f ended v e = absurd (omega arith)
finds-passes xs f (here q a) v e = let h : q ≡ v = omega arith in ap f (sym h) ∙ a
finds-passes xs f (further q s a w) v e = finds-passes xs f w v e

-- and is no later than where the chain starts
pub finds-low : (xs : List ℕ) (f : ℕ → Bool) {p s : ℕ} → Chain xs p → Finds xs f p s → s ≤ p
finds-low xs f end ended = le_refl 0
finds-low xs f (link q h c) (here _ a) = le_refl (suc q)
finds-low xs f (link q h c) (further _ s a w) = let l = finds-low xs f c w in omega arith

-- a chain from word r or a lower one on uses the words of rows below r alone
module _ (xs ys : List ℕ) (r : ℕ) (kept : (q : ℕ) → q < r → get_or xs q 0 ≡ get_or ys q 0) where
  -- where those are the same it is a chain still
  pub chain-kept : {p : ℕ} → p ≤ r → Chain xs p → Chain ys p
  chain-kept h end = end
  chain-kept h (link q l c) =
      let e = kept q (omega arith) in
      link q (subst (λ (n : ℕ). n ≤ q) e l) (subst (Chain ys) e (chain-kept (omega arith) c))

  -- and the same is found in it
  pub finds-kept : (f : ℕ → Bool) {p s : ℕ} → p ≤ r → Chain xs p → Finds xs f p s → Finds ys f p s
  finds-kept f h end ended = ended
  finds-kept f h (link q l c) (here _ a) = here q a
  finds-kept f h (link q l c) (further _ s a w) =
      further q s a (subst (λ (n : ℕ). Finds ys f n s) (kept q (omega arith)) (finds-kept f (omega arith) c w))

-- ---- a walk

-- a walk from word `from` has come to word p: what it finds from there on is what it finds
pub record Walking (rows : ℕ) (xs : List ℕ) (f : ℕ → Bool) (from p : ℕ) : Type 0 where
  pub small : p < rows
  pub chain : Chain xs p
  pub rest : (s : ℕ) → Finds xs f p s → Finds xs f from s

module _ (rows : ℕ) (xs : List ℕ) (f : ℕ → Bool) (from : ℕ) where
  -- it starts there
  pub walking_start : from < rows → Chain xs from → Walking rows xs f from from
  walking_start h c = record { small = h; chain = c; rest = λ s w. w }

  -- at the end of the chain none was found
  pub walking-end : (p : ℕ) → p ≡ 0 → Walking rows xs f from p → Finds xs f from 0
  walking-end p e W = W.rest 0 (subst (λ (n : ℕ). Finds xs f n 0) (sym e) ended)

  -- where p is the word of row r, and that passes
  pub walking_here : (p r : ℕ) → p ≡ suc r → f r ≡ true → Walking rows xs f from p → Finds xs f from p
  walking_here p r e a W = W.rest p (subst (λ (n : ℕ). Finds xs f n n) (sym e) (here r a))

  -- the word after row r of a chain is lower, and the chain goes on from there
  falls : (p r : ℕ) → p ≡ suc r → Chain xs p → (get_or xs r 0 < p) × Chain xs (get_or xs r 0)
  falls p r e end = absurd (omega arith)
  falls p r e (link q l c) =
      let h : q ≡ r = omega arith in
      (subst (λ (n : ℕ). get_or xs n 0 < suc q) h (omega arith), subst (λ (n : ℕ). Chain xs (get_or xs n 0)) h c)

  -- the word n after row r, to which the walk goes, is lower
  pub walking-falls : (p r n : ℕ) → p ≡ suc r → get_or xs r 0 ≡ n → Walking rows xs f from p → n < p
  walking-falls p r n e g W = omega (arith, (falls p r e W.chain).0)

  -- where row r does not pass, the walk goes on from the word n after it
  pub walking-next : (p r n : ℕ) → p ≡ suc r → f r ≡ false → get_or xs r 0 ≡ n → Walking rows xs f from p → Walking rows xs f from n
  walking-next p r n e a g W = record {
    small = omega (arith, W.small, walking-falls p r n e g W);
    chain = subst (Chain xs) g (falls p r e W.chain).1;
    rest = λ s w. W.rest s (subst (λ (m : ℕ). Finds xs f m s) (sym e) (further r s a (subst (λ (m : ℕ). Finds xs f m s) (sym g) w)));
  }

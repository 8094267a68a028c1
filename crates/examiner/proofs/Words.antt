-- One link: what its tests tell. Assumes nothing.
use Prim.Native.Nat.{ℕ, ◌+◌, ◌-◌, ◌≤◌}
use native.Mathlib.Omega.{arith}
use mathlib.Core.Path.{◌≡◌, sym, subst, ap, ◌∙◌}
use mathlib.Core.Bool.{Bool}
use mathlib.Core.List.{List}
use lib.ListN.{get_or}
use Rattle.neighbors.specs.Sides.{end_row}
use Rattle.asked.specs.Lowest.{Tells}
use Rattle.asked.specs.Links.{Equal, Leads, Opposed, Crooked, OneSided}

module _ (vertex : ℕ → ℕ) where
  pub unlike-start : (r q f a b : ℕ) → a ≡ vertex r → b ≡ vertex f → f ≡ end_row q → (a ≡ b → ⊥) → Opposed (Equal vertex) r q → ⊥
  unlike-start r q f a b p s e ne o = ne (p ∙ (o.0 ∙ (ap vertex (sym e) ∙ sym s)))

  pub unlike-end : (r q e a b : ℕ) → a ≡ vertex e → b ≡ vertex q → e ≡ end_row r → (a ≡ b → ⊥) → Opposed (Equal vertex) r q → ⊥
  unlike-end r q e a b p s x ne o = ne (p ∙ (ap vertex x ∙ (o.1 ∙ sym s)))

  pub alike : (r q e f a b c d : ℕ) → e ≡ end_row r → f ≡ end_row q → a ≡ vertex r → b ≡ vertex f → c ≡ vertex e → d ≡ vertex q → a ≡ b → c ≡ d → (Opposed (Equal vertex) r q → ⊥) → ⊥
  alike r q e f a b c d x y p s t u g h ne = ne (sym p ∙ (g ∙ (s ∙ ap vertex y)), ap vertex (sym x) ∙ (sym t ∙ (h ∙ u)))

  module _ (n : ℕ) (L : List ℕ) where
    -- a word of 0 leads nowhere
    pub not-crooked : (r x : ℕ) → x ≡ get_or L r 0 → x ≡ 0 → Crooked n (Equal vertex) L r → ⊥
    not-crooked r x e z k = let l = k.leads in omega arith

    named : (r x q : ℕ) → x ≡ get_or L r 0 → (x ≡ 0 → ⊥) → Leads L r q → q ≡ x - 1
    named r x q e ne l = omega arith

    leads : (r x : ℕ) → x ≡ get_or L r 0 → (x ≡ 0 → ⊥) → Leads L r (x - 1)
    leads r x e ne = omega arith

    pub crooked-tells : (r x : ℕ) (b : Bool) → x ≡ get_or L r 0 → (x ≡ 0 → ⊥) → x ≤ n → Tells (Opposed (Equal vertex) r (x - 1) → ⊥) b → Tells (Crooked n (Equal vertex) L r) b
    crooked-tells r x b e ne l t =
        record {
          holds = λ y. record { far = x - 1; below = omega arith; leads = leads r x e ne; not_opposed = t.holds y };
          fails = λ y k. t.fails y (λ o. k.not_opposed (subst (Opposed (Equal vertex) r) (sym (named r x k.far e ne k.leads)) o));
        }

module _ (L : List ℕ) where
  pub not-one-sided : (r x : ℕ) → x ≡ get_or L r 0 → x ≡ 0 → OneSided L r → ⊥
  not-one-sided r x e z k = let l = k.leads in omega arith

  pub one-sided-here : (r x b : ℕ) → x ≡ get_or L r 0 → (x ≡ 0 → ⊥) → b ≡ get_or L (x - 1) 0 → (b ≡ r + 1 → ⊥) → OneSided L r
  one-sided-here r x b e ne k h = record { far = x - 1; leads = omega arith; not_back = λ l. h (k ∙ (l ∙ omega arith)) }

  pub mutual-here : (r x b : ℕ) → x ≡ get_or L r 0 → (x ≡ 0 → ⊥) → b ≡ get_or L (x - 1) 0 → b ≡ r + 1 → OneSided L r → ⊥
  mutual-here r x b e ne k h o =
      let l = o.leads in
      let q : x - 1 ≡ o.far = omega arith in
      o.not_back (ap (λ y. get_or L y 0) (sym q) ∙ (sym k ∙ (h ∙ omega arith)))

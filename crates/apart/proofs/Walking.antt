-- A walk along the chain of an island's faces: what holds up to a face holds up to the next of the island, where faces of other islands change nothing. Assumes nothing.
use Prim.Native.Nat.{ℕ, zero, suc, ◌+◌, ◌-◌, ◌≤◌, ◌<◌}
use native.Mathlib.Nat.{add-sub_of_le}
use native.Mathlib.Omega.{arith}
use mathlib.Core.Path.{◌≡◌, refl, subst}
use Rattle.apart.specs.Order.{From, nobody, somebody}

module _ (n : ℕ) (l : ℕ → ℕ) (t : ℕ) (P : ℕ → Type 0) (skip : (f : ℕ) → f < n → (l f ≡ t → ⊥) → P f → P (f + 1)) where
  -- k faces that are not of the island are passed over
  skips : (k f : ℕ) → f + k ≤ n → ((x : ℕ) → f ≤ x → x < f + k → l x ≡ t → ⊥) → P f → P (f + k)
  skips zero f h e p = let z : f ≡ f + 0 = omega arith in subst P z p
  skips (suc k) f h e p =
      let z : (f + 1) + k ≡ f + suc k = omega arith in
      subst P z (skips k (f + 1) (omega arith) (λ x i j. e x (omega arith) (omega arith)) (skip f (omega arith) (e f (omega arith) (omega arith)) p))

  to : (f g : ℕ) → f ≤ g → g ≤ n → ((x : ℕ) → f ≤ x → x < g → l x ≡ t → ⊥) → P f → P g
  to f g h i e p = let z : f + (g - f) ≡ g = add-sub_of_le h in subst P z (skips (g - f) f (omega (arith, z)) (λ x a b. e x a (omega (arith, z))) p)

  -- the next face of the island, where there is one: the word says it
  pub record Next (f w g : ℕ) : Type 0 where
    pub is : w ≡ g + 1
    pub after : f ≤ g
    pub below : g < n
    pub of : l g ≡ t
    pub holds : P g

  pub to-next : (f : ℕ) {w : ℕ} → From n l f t w → (w ≡ 0 → ⊥) → P f → Next f w (w - 1)
  to-next f (nobody e) h p = absurd (h refl)
  to-next f (somebody g a b c e) h p =
      let z : g ≡ suc g - 1 = omega arith in
      subst (λ x. Next f (suc g) x) z (record { is = omega arith; after = a; below = b; of = c; holds = to f g a (omega arith) e p })

  -- where the chain ends all faces are passed
  pub at-end : (f : ℕ) {w : ℕ} → f ≤ n → From n l f t w → w ≡ 0 → P f → P n
  at-end f h (nobody e) z p = to f n h (omega arith) e p
  at-end f h (somebody g a b c e) z p = absurd (omega arith)

-- Some that pass a test, and one that does not. Assumes nothing.
use Prim.Native.Nat.{ℕ, zero, suc, ◌<◌}
use native.Mathlib.Nat.{eq-or-lt_of_le, le_of_suc-le-suc}
use native.Mathlib.Omega.{arith}
use mathlib.Core.Path.{◌≡◌, refl, sym, ap, ◌∙◌}
use mathlib.Core.Bool.{Bool, true, false, ◌&&◌, ◌||◌, or-true, true≢false}
use mathlib.Core.Logic.{⊎_elim}
use Rattle.lists.specs.Parts.{every_below}
use Rattle.worth.specs.Worth.{some_below}

-- one that fails, where not all pass
pub every-failing : {P : Type 0} (n : ℕ) (p : ℕ → Bool) → every_below n p ≡ false → ((i : ℕ) → i < n → p i ≡ false → P) → P
unfolding every_below
every-failing zero p e f = absurd (true≢false e)
every-failing {P} (suc n) p e f = go (every_below n p) refl (λ h. every-failing n p h (λ i l. f i (omega arith)))
  where
    go : (t : Bool) → every_below n p ≡ t → (every_below n p ≡ false → P) → P
    go true h g = f n (omega arith) (sym (ap (λ (b : Bool). b && p n) h) ∙ e)
    go false h g = g h

-- one that passes, where some do
pub some-passing : {P : Type 0} (n : ℕ) (p : ℕ → Bool) → some_below n p ≡ true → ((i : ℕ) → i < n → p i ≡ true → P) → P
unfolding some_below
some-passing zero p e f = absurd (true≢false (sym e))
some-passing {P} (suc n) p e f = go (some_below n p) refl (λ h. some-passing n p h (λ i l. f i (omega arith)))
  where
    go : (t : Bool) → some_below n p ≡ t → (some_below n p ≡ true → P) → P
    go true h g = g h
    go false h g = f n (omega arith) (sym (ap (λ (b : Bool). b || p n) h) ∙ e)

-- some pass where one does
pub some_at : (n i : ℕ) (p : ℕ → Bool) → i < n → p i ≡ true → some_below n p ≡ true
unfolding some_below
some_at zero i p l h = absurd (omega arith)
some_at (suc n) i p l h =
    ⊎_elim (λ e. ap (λ (b : Bool). some_below n p || b) (ap p (sym e) ∙ h) ∙ or-true (some_below n p)) (λ k. ap (λ (b : Bool). b || p n) (some_at n i p k h)) (eq-or-lt_of_le (le_of_suc-le-suc l))

-- none passes where each fails
pub some-none : (n : ℕ) (p : ℕ → Bool) → ((i : ℕ) → i < n → p i ≡ false) → some_below n p ≡ false
unfolding some_below
some-none zero p h = refl
some-none (suc n) p h = ap (λ (b : Bool). b || p n) (some-none n p (λ i l. h i (omega arith))) ∙ h n (omega arith)

-- each fails where none passes
pub none-at : (n i : ℕ) (p : ℕ → Bool) → some_below n p ≡ false → i < n → p i ≡ false
none-at n i p e l = go (p i) refl
  where
    go : (t : Bool) → p i ≡ t → p i ≡ false
    go true h = absurd (true≢false (sym (some_at n i p l h) ∙ e))
    go false h = h

-- two tests that say the same
pub some_same : (n : ℕ) (p q : ℕ → Bool) → ((i : ℕ) → i < n → p i ≡ q i) → some_below n p ≡ some_below n q
unfolding some_below
some_same zero p q h = refl
some_same (suc n) p q h = (λ z. some_same n p q (λ i l. h i (omega arith)) z || h n (omega arith) z)

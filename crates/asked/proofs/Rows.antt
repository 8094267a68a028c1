-- The lowest row of which something holds, row by row. Assumes nothing.
use Prim.Native.Nat.{ℕ, ◌+◌, ◌≤◌, ◌<◌}
use native.Mathlib.Nat.{le_antisymm, eq-or-lt_of_le}
use native.Mathlib.Omega.{arith}
use mathlib.Core.Path.{◌≡◌, refl, sym, subst}
use mathlib.Core.Logic.{⊎_elim}
use mathlib.Core.Bool.{Bool, true, false, not, true≢false}
use lib.Dec.{eqb}
use borrow.Author.Tests.{eqb-true, eqb-false}
use Rattle.std.proofs.Common.{Option, Some, None as NoRow, IfSome, MatchOption, unwrap_or}
use Rattle.asked.specs.Lowest.{None, Lowest, Finds, Tells}

-- the bound of a word that isn't above it
pub not-lt : (a b : ℕ) → (a < b → ⊥) → b ≤ a
not-lt a b h = omega arith

-- a test that was passed, and one that was not
pub told : {P : Type 0} → P → Tells P true
told p = record { holds = λ _. p; fails = λ e. absurd (true≢false e) }

pub told-not : {P : Type 0} → (P → ⊥) → Tells P false
told-not n = record { holds = λ e. absurd (true≢false (sym e)); fails = λ _. n }

-- that two numbers differ tells P
pub tells-differ : {P : Type 0} (a b : ℕ) → ((a ≡ b → ⊥) → P) → (a ≡ b → P → ⊥) → Tells P (not (eqb a b))
tells-differ {P} a b f g = go (eqb a b) refl
  where
    go : (x : Bool) → eqb a b ≡ x → Tells P (not x)
    go true e = told-not (g (eqb-true a b e))
    go false e = told (f (eqb-false a b e))

-- that they are equal tells P
pub tells-equal : {P : Type 0} (a b : ℕ) → (a ≡ b → P) → ((a ≡ b → ⊥) → P → ⊥) → Tells P (eqb a b)
tells-equal {P} a b f g = go (eqb a b) refl
  where
    go : (x : Bool) → eqb a b ≡ x → Tells P x
    go true e = told (f (eqb-true a b e))
    go false e = told-not (g (eqb-false a b e))

-- a number is another or not
pub same_or : {P : Type 0} (a b : ℕ) → (a ≡ b → P) → ((a ≡ b → ⊥) → P) → P
same_or {P} a b f g = go (eqb a b) refl
  where
    go : (x : Bool) → eqb a b ≡ x → P
    go true e = f (eqb-true a b e)
    go false e = g (eqb-false a b e)

module _ (P : ℕ → Type 0) where
  pub none-zero : None P 0
  none-zero r h p = omega arith

  pub none_more : (n : ℕ) → None P n → (P n → ⊥) → None P (n + 1)
  none_more n h ne r l p = let c : r ≤ n = omega arith in ⊎_elim (λ e. ne (subst P e p)) (λ k. h r k p) (eq-or-lt_of_le c)

  pub lowest-here : (n r : ℕ) → r < n → None P r → P r → Lowest P n r
  lowest-here n r h ne p = record { low = omega arith; none = ne; here = λ _. p }

  pub lowest-end : (n r : ℕ) → r ≤ n → n ≤ r → None P r → Lowest P n n
  lowest-end n r h k ne = record { low = omega arith; none = subst (None P) (le_antisymm h k) ne; here = λ l. absurd (omega arith) }

  -- where the lowest is past the last there is none
  pub all-passed : (n r : ℕ) → Lowest P n r → n ≤ r → None P n
  all-passed n r L h = subst (None P) (le_antisymm L.low h) L.none

-- ---- a search of the rows below n by a test

-- a search from 0 finds the lowest of which P holds
pub finds : (P : ℕ → Type 0) (n : ℕ) (found : Option ℕ) → MatchOption found ((k : ℕ) → 0 ≤ k → k < n → P k → ⊥) (λ i. (0 ≤ i) × (i < n) × P i × ((k : ℕ) → 0 ≤ k → k < i → P k → ⊥)) → Finds P n found
finds P n NoRow f = λ r h. f r (omega arith) h
finds P n (Some i) f = (f.1, f.2, λ r h. f.3 r (omega arith) h)

-- and so does one that says n where there is none
pub finds-lowest : (P : ℕ → Type 0) (n : ℕ) (found : Option ℕ) → IfSome found (λ r. r < n) → Lowest P n (unwrap_or found n) → Finds P n found
finds-lowest P n NoRow h L = L.none
finds-lowest P n (Some r) h L = (h, L.here h, L.none)

-- what it finds is below n
pub finds-below : (P : ℕ → Type 0) (n m : ℕ) (found : Option ℕ) → n ≤ m → Finds P n found → IfSome found (λ r. r < m)
finds-below P n m NoRow h f = tt
finds-below P n m (Some i) h f = let l = f.0 in omega arith

pub found-below : (Yes No : ℕ → Type 0) (n m : ℕ) (found : Option ℕ) → n ≤ m → MatchOption found ((k : ℕ) → 0 ≤ k → k < n → No k) (λ i. (0 ≤ i) × (i < n) × Yes i × ((k : ℕ) → 0 ≤ k → k < i → No k)) → IfSome found (λ r. r < m)
found-below Yes No n m NoRow h f = tt
found-below Yes No n m (Some i) h f = let l = f.1 in omega arith

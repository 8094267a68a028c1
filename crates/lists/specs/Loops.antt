-- A loop as a function, and the list of a function's values. Definitions only.
use Rattle.std.specs.Prelude.{ℕ, zero, suc, List, [], ◌∷◌, ◌++◌}

-- the turns 0, 1, .. n - 1 of a loop, from the state w
unfoldable pub up_to : {S : Type 0} → ℕ → (ℕ → S → S) → S → S
up_to zero f w = w
up_to (suc n) f w = f n (up_to n f w)

-- f 0, f 1, .. f (n - 1)
unfoldable pub list_of : {S : Type 0} → ℕ → (ℕ → S) → List S
list_of zero f = []
list_of (suc n) f = list_of n f ++ (f n ∷ [])

-- A test of several places, a sum, lists one after another, and a part of a list. Definitions only.
use Rattle.std.specs.Prelude.{ℕ, zero, suc, ◌+◌, Bool, true, ◌&&◌, List, [], ◌∷◌, ◌++◌, take, drop}

-- whether each of 0, 1, .. n - 1 passes
unfoldable pub every_below : ℕ → (ℕ → Bool) → Bool
every_below zero p = true
every_below (suc n) p = every_below n p && p n

-- the sum of a list's numbers
unfoldable pub sum_of : List ℕ → ℕ
sum_of [] = 0
sum_of (x ∷ l) = x + sum_of l

-- the lists f 0, f 1, .. f (n - 1), one after another
unfoldable pub joined : ℕ → (ℕ → List ℕ) → List ℕ
joined zero f = []
joined (suc n) f = joined n f ++ f n

-- n numbers of a list, from place p on
unfoldable pub part : ℕ → ℕ → List ℕ → List ℕ
part p n l = take n (drop p l)

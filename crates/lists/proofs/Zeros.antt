-- Zeros counted, over a store. Assumes nothing.
use mathlib.Core.Path.{◌≡◌, refl, ap}
use mathlib.Core.List.{List, [], ◌∷◌}
use Prim.Native.Nat.{ℕ, zero, suc, ◌≤◌, ◌<◌}
use native.Mathlib.Omega.{arith}
use lib.ListN.{length, get_or, set}
use Rattle.lists.specs.Zeros.{zeros}

-- a store of a number that is no 0 over a 0 leaves one 0 less
pub zeros-set : (l : List ℕ) (i v : ℕ) → i < length l → get_or l i 0 ≡ 0 → 0 < v → suc (zeros (set l i v)) ≡ zeros l
unfolding zeros
zeros-set [] i v h z p = absurd (omega arith)
zeros-set (x ∷ l) zero zero h z p = absurd (omega arith)
zeros-set (zero ∷ l) zero (suc v) h z p = refl
zeros-set (suc x ∷ l) zero (suc v) h z p = absurd (omega arith)
zeros-set (zero ∷ l) (suc i) v h z p = ap suc (zeros-set l i v (omega arith) z p)
zeros-set (suc x ∷ l) (suc i) v h z p = zeros-set l i v (omega arith) z p

-- a list has no more zeros than words
pub zeros-le : (l : List ℕ) → zeros l ≤ length l
unfolding zeros
zeros-le [] = omega arith
zeros-le (zero ∷ l) = omega (arith, zeros-le l)
zeros-le (suc x ∷ l) = omega (arith, zeros-le l)

-- Runs of stores, one after another. Assumes nothing.
use Prim.Native.Nat.{ℕ, suc, ◌+◌, ◌≤◌, ◌<◌}
use native.Mathlib.Nat.{add-zero}
use native.Mathlib.Numerals.{add-one}
use native.Mathlib.Omega.{arith}
use mathlib.Core.Path.{◌≡◌, refl, sym, ap, ◌∙◌}
use mathlib.Core.List.{List, [], ◌∷◌, ◌++◌}
use lib.ListN.{length, get_or, set, take, drop}
use lib.Seq.{sets, sets-eq, take-suc, length-take-le}
use Rattle.table.proofs.Laws.{sets-snoc}
use Rattle.lists.specs.Parts.{joined}
use Rattle.lists.proofs.Parts.{joined-more}

-- a run that begins where another ends
pub sets-join : (l : List ℕ) (p q : ℕ) (xs ys : List ℕ) → q ≡ p + length xs → sets (sets l p xs) q ys ≡ sets l p (xs ++ ys)
sets-join l p q [] ys e = ap (λ (k : ℕ). sets l k ys) (e ∙ add-zero p)
sets-join l p q (x ∷ xs) ys e = sets-join (set l p x) (suc p) q xs ys (omega arith)

-- a run from the front
pub sets-front : (l xs : List ℕ) (n : ℕ) → length xs ≡ n → n ≤ length l → sets l 0 xs ≡ xs ++ drop n l
sets-front l xs n e h =
    sets-eq xs l 0 (omega arith) ∙ ap (λ (k : ℕ). xs ++ drop k l) from_zero
  where
    from_zero : 0 + length xs ≡ n
    from_zero = omega arith

-- one store more of a run
pub sets_more : (a u ws : List ℕ) (p i : ℕ) → i < length ws → u ≡ sets a p (take i ws) → set u (p + i) (get_or ws i 0) ≡ sets a p (take (i + 1) ws)
sets_more a u ws p i h e =
    (λ z. set (e z) (at z) (get_or ws i 0)) ∙ sets-snoc a p (take i ws) (get_or ws i 0) ∙ ap (sets a p) (sym (ap (λ (k : ℕ). take k ws) (add-one i) ∙ take-suc ws i 0 h))
  where
    at : p + i ≡ p + length (take i ws)
    at = omega (arith, length-take-le i ws (omega arith))

-- lists that are stored one after another: none yet, and one more
pub joined-none : (l : List ℕ) (p : ℕ) (f : ℕ → List ℕ) → l ≡ sets l p (joined 0 f)
unfolding joined
joined-none l p f = refl

pub joined-stored : (l u : List ℕ) (p q : ℕ) (f : ℕ → List ℕ) (n : ℕ) → q ≡ p + length (joined n f) → u ≡ sets l p (joined n f) → sets u q (f n) ≡ sets l p (joined (n + 1) f)
joined-stored l u p q f n e h = ap (λ (x : List ℕ). sets x q (f n)) h ∙ (sets-join l p q (joined n f) (f n) e ∙ ap (sets l p) (joined-more n f))

-- all of them, from the front
pub joined-front : (l u : List ℕ) (f : ℕ → List ℕ) (k n m : ℕ) → u ≡ sets l 0 (joined k f) → k ≡ n → length (joined n f) ≡ m → m ≤ length l → u ≡ joined n f ++ drop m l
joined-front l u f k n m e q j h = e ∙ (ap (λ (i : ℕ). sets l 0 (joined i f)) q ∙ sets-front l (joined n f) m j h)

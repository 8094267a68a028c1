-- The laws of `up_to` and `list_of`. Assumes nothing.
use mathlib.Core.Path.{◌≡◌, refl, sym, ap, ◌∙◌, subst}
use mathlib.Core.List.{[], ◌∷◌, ◌++◌}
use Prim.Native.Nat.{ℕ, zero, suc, ◌+◌, ◌≤◌, ◌<◌}
use native.Mathlib.Nat.{le_refl, eq-or-lt_of_le, le_of_suc-le-suc}
use mathlib.Core.Logic.{⊎_elim}
use native.Mathlib.Numerals.{add-one}
use native.Mathlib.Omega.{arith}
use lib.ListN.{length, get_or, length-append, get_or-append}
use lib.Seq.{get_or_at}
use Rattle.lists.specs.Loops.{up_to, list_of}

-- no turn
pub up_to-none : {S : Type 0} (f : ℕ → S → S) (w : S) → w ≡ up_to 0 f w
unfolding up_to
up_to-none f w = refl

-- one turn more, as the code counts
pub up_to-more : {S : Type 0} (n : ℕ) (f : ℕ → S → S) (w : S) → f n (up_to n f w) ≡ up_to (n + 1) f w
unfolding up_to
up_to-more n f w = sym (ap (λ (k : ℕ). up_to k f w) (add-one n))

-- what holds before the loop, and over each turn, holds after it
pub up_to-ind : {S : Type 0} (P : ℕ → S → Type 0) (f : ℕ → S → S) (w : S) (n : ℕ) → P 0 w → ((i : ℕ) (u : S) → i < n → P i u → P (suc i) (f i u)) → P n (up_to n f w)
unfolding up_to
up_to-ind P f w zero z s = z
up_to-ind P f w (suc n) z s = s n (up_to n f w) (le_refl (suc n)) (up_to-ind P f w n z (λ i u h. s i u (omega arith)))

-- two loops with the same turns
pub up_to-same : {S : Type 0} (n : ℕ) (f g : ℕ → S → S) (z : S) → ((k : ℕ) (y : S) → k < n → f k y ≡ g k y) → up_to n f z ≡ up_to n g z
unfolding up_to
up_to-same zero f g z e = refl
up_to-same (suc n) f g z e = e n (up_to n f z) (omega arith) ∙ ap (g n) (up_to-same n f g z (λ k y l. e k y (omega arith)))

-- what holds of the last and of those before it holds of each
pub last-or-before : (P : ℕ → Type 0) (n t : ℕ) → t < suc n → P n → (t < n → P t) → P t
last-or-before P n t h last before = ⊎_elim (λ e. subst P (sym e) last) before (eq-or-lt_of_le (le_of_suc-le-suc h))

pub length-list_of : {S : Type 0} (n : ℕ) (f : ℕ → S) → length (list_of n f) ≡ n
unfolding list_of
length-list_of zero f = refl
length-list_of (suc n) f = length-append (list_of n f) (f n ∷ []) ∙ ap (λ (k : ℕ). k + 1) (length-list_of n f) ∙ add-one n

pub get_or-list_of : {S : Type 0} (n : ℕ) (f : ℕ → S) (d : S) (i : ℕ) → i < n → get_or (list_of n f) i d ≡ f i
unfolding list_of
get_or-list_of zero f d i h = absurd (omega arith)
get_or-list_of (suc n) f d i h = ⊎_elim
    (λ e. ap (λ (k : ℕ). get_or (list_of n f ++ (f n ∷ [])) k d) e ∙ get_or_at (list_of n f) (f n) [] d n (length-list_of n f) ∙ ap f (sym e))
    (λ l. get_or-append (list_of n f) (f n ∷ []) d i (omega (arith, length-list_of n f)) ∙ get_or-list_of n f d i l)
    (eq-or-lt_of_le (cut h))
  where
    cut : i < suc n → i ≤ n
    cut k = omega arith

-- What a chain that ends in `all` answers, as a test of several places. Assumes nothing.
use Prim.Native.Nat.{ℕ, ◌+◌, ◌≤◌, ◌<◌}
use native.Mathlib.Nat.{zero-add}
use native.Mathlib.Omega.{arith}
use mathlib.Core.Bool.{Bool, true, false}
use mathlib.Core.List.{List}
use mathlib.Core.Path.{◌≡◌, sym, ap, ◌∙◌}
use lib.ListN.{length, get_or, take, drop}
use lib.Seq.{get_or-take, get_or-drop}
use Rattle.std.specs.Bool.{MatchBool}
use Rattle.std.specs.List.{range_with_len, AllWithin, HoldsAt}
use Rattle.std.proofs.lemmas.List.FromFn.{length-range_with_len, get_or-range_with_len}
use Rattle.lists.specs.Parts.{every_below, part}
use Rattle.lists.proofs.Parts.{every-all, every-fails, every-same, length_part}

-- over a list
pub all_every : {X : Type 0} (p : X → Bool) (xs : List X) (n : ℕ) (d : X) (r : Bool) → length xs ≡ n → MatchBool r (AllWithin (λ x. p x ≡ true) xs 0 (length xs)) ((k : ℕ) × (k < length xs) × HoldsAt (λ x. p x ≡ false) xs k) → r ≡ every_below n (λ k. p (get_or xs k d))
all_every p xs n d true e h = sym (every-all n (λ k. p (get_or xs k d)) (λ i l. h i d (omega arith) (omega arith)))
all_every p xs n d false e (k, l, h) = sym (every-fails n k (λ i. p (get_or xs i d)) (omega arith) (h d))

-- over a part of a list
pub part_every : (p : ℕ → Bool) (l : List ℕ) (from n : ℕ) (r : Bool) → from + n ≤ length l → MatchBool r (AllWithin (λ x. p x ≡ true) (take n (drop from l)) 0 (length (take n (drop from l)))) ((k : ℕ) × (k < length (take n (drop from l))) × HoldsAt (λ x. p x ≡ false) (take n (drop from l)) k) → r ≡ every_below n (λ i. p (get_or l (from + i) 0))
unfolding part
part_every p l from n r h e =
    all_every p (take n (drop from l)) n 0 r (length_part from n l h) e
    ∙ every-same n (λ k. p (get_or (take n (drop from l)) k 0)) (λ i. p (get_or l (from + i) 0)) (λ i k. ap p (get_or-take n (drop from l) i 0 k ∙ get_or-drop from l i 0))

-- over the numbers below n
pub range_every : (q : ℕ → Bool) (n : ℕ) (r : Bool) → MatchBool r (AllWithin (λ i. q i ≡ true) (range_with_len 0 n) 0 (length (range_with_len 0 n))) ((k : ℕ) × (k < length (range_with_len 0 n)) × HoldsAt (λ i. q i ≡ false) (range_with_len 0 n) k) → r ≡ every_below n q
range_every q n r h =
    all_every q (range_with_len 0 n) n 0 r (length-range_with_len 0 n) h ∙ every-same n (λ k. q (get_or (range_with_len 0 n) k 0)) q (λ i l. ap q (get_or-range_with_len 0 n i 0 l ∙ zero-add i))

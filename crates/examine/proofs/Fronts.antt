-- The front of a list, filled. Assumes nothing.
use Prim.Native.Nat.{ℕ, zero, suc, ◌+◌, ◌≤◌}
use native.Mathlib.Numerals.{add-one}
use native.Mathlib.Omega.{arith}
use mathlib.Core.Path.{◌≡◌, refl, sym, ap, ◌∙◌}
use mathlib.Core.List.{List, [], ◌∷◌, ◌++◌}
use lib.ListN.{length, get_or, take, drop}
use lib.Seq.{sets, sets-eq, take-append_seam}
use Rattle.lists.specs.Loops.{list_of}
use Rattle.lists.proofs.Loops.{length-list_of}
use Rattle.lists.specs.Parts.{part}
use Rattle.lists.proofs.Parts.{part-more}

-- a part of a list, as its words
part_listed : (p n : ℕ) (l : List ℕ) → p + n ≤ length l → part p n l ≡ list_of n (λ i. get_or l (p + i) 0)
unfolding part list_of
part_listed p zero l h = refl
part_listed p (suc n) l h = ap (λ (m : ℕ). part p m l) (sym (add-one n)) ∙ (sym (part-more p n l (omega arith)) ∙ ap (λ (x : List ℕ). x ++ (get_or l (p + n) 0 ∷ [])) (part_listed p n l (omega arith)))

pub front-copied : (p n k : ℕ) (w l : List ℕ) → k ≡ n → p + n ≤ length w → n ≤ length l → take k (drop p w) ++ drop n l ≡ sets l 0 (list_of n (λ i. get_or w (p + i) 0))
unfolding part
front-copied p n k w l same h f =
    let xs : List ℕ = list_of n (λ i. get_or w (p + i) 0) in
    let m : length xs ≡ n = length-list_of n _ in
    ap (λ (j : ℕ). take j (drop p w) ++ drop n l) same ∙ (ap (λ (x : List ℕ). x ++ drop n l) (part_listed p n w h) ∙ sym (sets-eq xs l 0 (omega (arith, m)) ∙ ap (λ (j : ℕ). xs ++ drop j l) (let e : 0 + length xs ≡ n = omega (arith, m) in e)))

-- the front of what is filled
pub front-take : (h : ℕ → ℕ) (w : List ℕ) (n : ℕ) → n ≤ length w → take n (sets w 0 (list_of n h)) ≡ list_of n h
front-take h w n l =
    ap (take n) (sets-eq (list_of n h) w 0 (omega (arith, length-list_of n h)))
    ∙ (ap (λ (m : ℕ). take m (list_of n h ++ drop (0 + length (list_of n h)) w)) (sym (length-list_of n h)) ∙ take-append_seam (list_of n h) (drop (0 + length (list_of n h)) w))

-- The laws of `every_below`, `sum_of`, `joined` and `part`. Assumes nothing.
use Prim.Native.Nat.{ℕ, zero, suc, ◌+◌, ◌*◌, ◌≤◌, ◌<◌}
use native.Mathlib.Nat.{add-zero, add-suc, add_assoc, mul-zero, mul-suc, eq-or-lt_of_le, le_of_suc-le-suc}
use native.Mathlib.Numerals.{add-one}
use native.Mathlib.Omega.{arith}
use mathlib.Core.Path.{◌≡◌, refl, sym, ap, ◌∙◌}
use mathlib.Core.Bool.{Bool, true, false, ◌&&◌, and-false}
use mathlib.Core.Logic.{⊎_elim}
use mathlib.Core.List.{List, [], ◌∷◌, ◌++◌, append_assoc, append-nil}
use lib.ListN.{length, get_or, set, take, drop, replicate, length-append, length-drop}
use lib.Seq.{take_all, take-suc, take-add, get_or-take, get_or-drop, take-append-le, drop-append-le, drop-append-add, length-take-le, ext_get_or}
use Rattle.lists.specs.Parts.{every_below, sum_of, joined, part}

-- no place
pub every-none : (p : ℕ → Bool) → every_below 0 p ≡ true
unfolding every_below
every-none p = refl

-- one place more that passes
pub every_more : (n : ℕ) (p : ℕ → Bool) → every_below n p ≡ true → p n ≡ true → every_below (n + 1) p ≡ true
unfolding every_below
every_more n p e h = ap (λ (k : ℕ). every_below k p) (add-one n) ∙ (ap (λ (b : Bool). b && p n) e ∙ h)

-- a place that does not pass
pub every-fails : (n i : ℕ) (p : ℕ → Bool) → i < n → p i ≡ false → every_below n p ≡ false
unfolding every_below
every-fails zero i p l h = absurd (omega arith)
every-fails (suc n) i p l h =
    ⊎_elim (λ e. ap (λ (b : Bool). every_below n p && b) (ap p (sym e) ∙ h) ∙ and-false (every_below n p)) (λ k. ap (λ (b : Bool). b && p n) (every-fails n i p k h)) (eq-or-lt_of_le (le_of_suc-le-suc l))

-- each place passes where all do
pub every-at : (n i : ℕ) (p : ℕ → Bool) → every_below n p ≡ true → i < n → p i ≡ true
every-at n i p e l = go (p i) refl
  where
    go : (b : Bool) → p i ≡ b → p i ≡ true
    go true h = h
    go false h = h ∙ (sym (every-fails n i p l h) ∙ e)

-- all pass where each does
pub every-all : (n : ℕ) (p : ℕ → Bool) → ((i : ℕ) → i < n → p i ≡ true) → every_below n p ≡ true
unfolding every_below
every-all zero p h = refl
every-all (suc n) p h = ap (λ (b : Bool). b && p n) (every-all n p (λ i l. h i (omega arith))) ∙ h n (omega arith)

-- two tests that say the same
pub every-same : (n : ℕ) (p q : ℕ → Bool) → ((i : ℕ) → i < n → p i ≡ q i) → every_below n p ≡ every_below n q
unfolding every_below
every-same zero p q h = refl
every-same (suc n) p q h = (λ z. every-same n p q (λ i l. h i (omega arith)) z && h n (omega arith) z)

-- the sum of two lists
pub sum-append : (l m : List ℕ) → sum_of (l ++ m) ≡ sum_of l + sum_of m
unfolding sum_of
sum-append [] m = omega arith
sum-append (x ∷ l) m = omega (arith, sum-append l m)

-- the sum of one more
pub sum-snoc : (l : List ℕ) (x : ℕ) → sum_of (l ++ (x ∷ [])) ≡ sum_of l + x
unfolding sum_of
sum-snoc l x = sum-append l (x ∷ []) ∙ omega arith

-- so many zeros
pub length-zeros : (n : ℕ) → length {A = ℕ} (replicate n 0) ≡ n
length-zeros zero = refl
length-zeros (suc n) = ap suc (length-zeros n)

-- the sum of zeros
pub sum_zeros : (n : ℕ) → sum_of (replicate n 0) ≡ 0
unfolding sum_of
sum_zeros zero = refl
sum_zeros (suc n) = omega (arith, sum_zeros n)

-- the sum of a list in which one number was changed
pub sum-set : (l : List ℕ) (i x : ℕ) → i < length l → sum_of (set l i x) + get_or l i 0 ≡ sum_of l + x
unfolding sum_of
sum-set [] i x h = absurd (omega arith)
sum-set (y ∷ l) zero x h = omega arith
sum-set (y ∷ l) (suc i) x h = omega (arith, sum-set l i x (le_of_suc-le-suc h))

-- one list more
pub joined-more : (n : ℕ) (f : ℕ → List ℕ) → joined n f ++ f n ≡ joined (n + 1) f
unfolding joined
joined-more n f = sym (ap (λ (k : ℕ). joined k f) (add-one n))

-- lists of one length
pub length-joined : (n k : ℕ) (f : ℕ → List ℕ) → ((i : ℕ) → i < n → length (f i) ≡ k) → length (joined n f) ≡ k * n
unfolding joined
length-joined zero k f h = sym (mul-zero k)
length-joined (suc n) k f h =
    length-append (joined n f) (f n) ∙ ((λ z. length-joined n k f (λ i l. h i (omega arith)) z + h n (omega arith) z) ∙ sym (mul-suc k n))

-- the same lists
pub joined_same : (n : ℕ) (f g : ℕ → List ℕ) → ((i : ℕ) → i < n → f i ≡ g i) → joined n f ≡ joined n g
unfolding joined
joined_same zero f g h = refl
joined_same (suc n) f g h = λ z. joined_same n f g (λ i l. h i (omega arith)) z ++ h n (omega arith) z

-- one number more of a part
pub part-more : (p n : ℕ) (l : List ℕ) → p + n < length l → part p n l ++ (get_or l (p + n) 0 ∷ []) ≡ part p (n + 1) l
unfolding part
part-more p n l h =
    ap (λ (x : ℕ). take n (drop p l) ++ (x ∷ [])) (sym (get_or-drop p l n 0))
    ∙ (sym (take-suc (drop p l) n 0 (omega (arith, length-drop p l))) ∙ ap (λ (k : ℕ). take k (drop p l)) (sym (add-one n)))

-- the length of a part
pub length_part : (p n : ℕ) (l : List ℕ) → p + n ≤ length l → length (part p n l) ≡ n
unfolding part
length_part p n l h = length-take-le n (drop p l) (omega (arith, length-drop p l))

-- the sum of a part: nothing yet, and one number more
pub part-sum-none : (p : ℕ) (l : List ℕ) → 0 ≡ sum_of (part p 0 l)
unfolding part sum_of
part-sum-none p l = refl

pub part-sum-more : (p n s : ℕ) (l : List ℕ) → p + n < length l → s ≡ sum_of (part p n l) → s + get_or l (p + n) 0 ≡ sum_of (part p (n + 1) l)
part-sum-more p n s l h e = omega (arith, e, sum-snoc (part p n l) (get_or l (p + n) 0), ap sum_of (part-more p n l h))

-- one of several lists, with those before it and the rest
pub joined-split : (k b : ℕ) (f : ℕ → List ℕ) → b < k → (rest : List ℕ) × (joined k f ≡ joined b f ++ (f b ++ rest))
unfolding joined
joined-split zero b f h = absurd (omega arith)
joined-split (suc k) b f h = ⊎_elim
    (λ e. ([], ap (λ (n : ℕ). joined n f ++ f n) (sym e) ∙ ap (λ (x : List ℕ). joined b f ++ x) (sym (append-nil (f b)))))
    (λ l. later (joined-split k b f l))
    (eq-or-lt_of_le (le_of_suc-le-suc h))
  where
    later : (rest : List ℕ) × (joined k f ≡ joined b f ++ (f b ++ rest)) → (rest : List ℕ) × (joined k f ++ f k ≡ joined b f ++ (f b ++ rest))
    later r = (r.0 ++ f k, ap (λ (x : List ℕ). x ++ f k) r.1 ∙ (append_assoc (joined b f) (f b ++ r.0) (f k) ∙ ap (λ (x : List ℕ). joined b f ++ x) (append_assoc (f b) r.0 (f k))))

-- a part of the second of three lists
pub part-middle : (xs ys zs : List ℕ) (p j n : ℕ) → length xs ≡ p → j + n ≤ length ys → part (p + j) n (xs ++ (ys ++ zs)) ≡ part j n ys
unfolding part
part-middle xs ys zs p j n e h =
    ap (take n) (ap (λ (k : ℕ). drop (k + j) (xs ++ (ys ++ zs))) (sym e) ∙ (drop-append-add xs (ys ++ zs) j ∙ drop-append-le j ys zs (omega arith)))
    ∙ take-append-le n (drop j ys) zs (omega (arith, length-drop j ys))

-- a part of a part
pub part-part : (p n q m : ℕ) (l : List ℕ) → q + m ≤ n → p + n ≤ length l → part q m (part p n l) ≡ part (p + q) m l
unfolding part
part-part p n q m l h k =
    ext_get_or 0 (part q m (part p n l)) (part (p + q) m l) (length_part q m (part p n l) (omega (arith, h, length_part p n l k)) ∙ sym (length_part (p + q) m l (omega (arith, h, k))))
    (λ i b. at i (omega (arith, b, length_part q m (part p n l) (omega (arith, h, length_part p n l k)))))
  where
    at : (i : ℕ) → i < m → get_or (take m (drop q (take n (drop p l)))) i 0 ≡ get_or (take m (drop (p + q) l)) i 0
    at i b =
        get_or-take m (drop q (take n (drop p l))) i 0 b
        ∙ (get_or-drop q (take n (drop p l)) i 0
        ∙ (get_or-take n (drop p l) (q + i) 0 (omega (arith, b, h))
        ∙ (get_or-drop p l (q + i) 0
        ∙ (ap (λ (j : ℕ). get_or l j 0) (sym (add_assoc p q i)) ∙ sym (get_or-take m (drop (p + q) l) i 0 b ∙ get_or-drop (p + q) l i 0)))))

-- parts that follow one another
pub part-follows : (p n : ℕ) (l : List ℕ) → take p l ++ part p n l ≡ take (p + n) l
unfolding part
part-follows p n l = sym (take-add p n l)

-- the whole list
pub part-whole : (l : List ℕ) (n : ℕ) → length l ≡ n → part 0 n l ≡ l
unfolding part
part-whole l n e = take_all n l (omega (arith, e))

-- a part of the first of two lists
pub part-front : (xs ys : List ℕ) (p n : ℕ) → p + n ≤ length xs → part p n (xs ++ ys) ≡ part p n xs
unfolding part
part-front xs ys p n h = ap (take n) (drop-append-le p xs ys (omega arith)) ∙ take-append-le n (drop p xs) ys (omega (arith, length-drop p xs))

-- lists up to a + k, in two runs
pub joined-add : (a k : ℕ) (f : ℕ → List ℕ) → joined (a + k) f ≡ joined a f ++ joined k (λ i. f (a + i))
unfolding joined
joined-add a zero f = ap (λ (n : ℕ). joined n f) (add-zero a) ∙ sym (append-nil (joined a f))
joined-add a (suc k) f =
    ap (λ (n : ℕ). joined n f) (add-suc a k)
    ∙ (ap (λ (x : List ℕ). x ++ f (a + k)) (joined-add a k f) ∙ append_assoc (joined a f) (joined k (λ i. f (a + i))) (f (a + k)))

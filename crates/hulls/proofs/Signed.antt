-- The order of finite floats as one of whole numbers with a sign, and that rounding keeps it. Assumes nothing.
use mathlib.Core.Path.{◌≡◌, refl, sym, subst}
use mathlib.Core.Logic.{inl, inr}
use Prim.Native.Nat.{ℕ, ◌+◌, ◌*◌, ◌≤◌, ◌<◌}
use native.Mathlib.Nat.{le_trans, le_of_eq, le_of_lt, eq-or-lt_of_le, zero-mul, lt_of_le_of_lt, lt_of_lt_of_le, mul_right_comm, add-mul, mul-le-mul_right, mul-lt-mul_of_pos_right, le_of_mul-le-mul_right, lt_of_mul-lt-mul_right}
use native.Mathlib.Omega.{arith}
use mathlib.Core.Bool.{Bool, true, false, not, ◌||◌}
use lib.IntN.{ℤ}
use lib.Dec.{T, ltb, eqb, eqb→eq, eqb_refl, ltb→lt, lt→ltb, nltb→le}
use lib.Ieee.{Float, nan, inf, fin, up, down, below, level, lt, le}
use lib.Ieee.Fits.{down_pos, and_l, and_r, and_i}
use Rattle.bits.proofs.Bools.{or_r, or_l, or_split}

-- ---- a whole number with a sign, as a difference

abbrev pub pos : Bool → ℕ → ℕ
pos false a = a
pos true a = 0

abbrev pub neg' : Bool → ℕ → ℕ
neg' false a = 0
neg' true a = a

-- ±a ≤ ±b, and ±a < ±b
abbrev pub Ord : Bool → ℕ → Bool → ℕ → Type 0
Ord s a t b = pos s a + neg' t b ≤ pos t b + neg' s a

abbrev pub Less : Bool → ℕ → Bool → ℕ → Type 0
Less s a t b = pos s a + neg' t b < pos t b + neg' s a

below→ : (s : Bool) (a : ℕ) (t : Bool) (b : ℕ) → T (below s a t b) → Less s a t b
below→ false a false b h = let k = ltb→lt a b h in omega arith
below→ false a true b h = absurd h
below→ true a false b h = let k = ltb→lt 0 (a + b) h in omega arith
below→ true a true b h = let k = ltb→lt b a h in omega arith

→below : (s : Bool) (a : ℕ) (t : Bool) (b : ℕ) → Less s a t b → T (below s a t b)
→below false a false b h = lt→ltb a b (omega arith)
→below false a true b h = absurd (no a b h)
  where
    no : (a b : ℕ) → a + b < 0 + 0 → ⊥
    no a b h = omega arith
→below true a false b h = lt→ltb 0 (a + b) (omega arith)
→below true a true b h = lt→ltb b a (omega arith)

level→ : (s : Bool) (a : ℕ) (t : Bool) (b : ℕ) → T (level s a t b) → Ord s a t b
level→ false a false b h = let e = eqb→eq a b (and_l (eqb a b) true h) in omega arith
level→ false a true b h = let e = eqb→eq a b (and_l (eqb a b) (false || eqb a 0) h) in let z = eqb→eq a 0 (and_r (eqb a b) (eqb a 0) h) in omega arith
level→ true a false b h = omega arith
level→ true a true b h = let e = eqb→eq a b (and_l (eqb a b) true h) in omega arith

eqb_of : (a b : ℕ) → a ≡ b → T (eqb a b)
eqb_of a b e = subst (λ (x : ℕ). T (eqb a x)) e (eqb_refl a)

-- ±a ≤ ±b: less, or level
→either : (s : Bool) (a : ℕ) (t : Bool) (b : ℕ) → Ord s a t b → T (below s a t b || level s a t b)
→either false a false b h = elim (eq-or-lt_of_le (plain a b h)) [ inl e ↦ or_r (ltb a b) (level false a false b) (and_i (eqb a b) true (eqb_of a b e) tt) | inr l ↦ or_l (ltb a b) (level false a false b) (lt→ltb a b l) ]
  where
    plain : (a b : ℕ) → a + 0 ≤ b + 0 → a ≤ b
    plain a b h = omega arith
→either false a true b h = and_i (eqb a b) (eqb a 0) (eqb_of a b (omega arith)) (eqb_of a 0 (omega arith))
→either true a false b h = go (ltb 0 (a + b)) refl
  where
    go : (c : Bool) → ltb 0 (a + b) ≡ c → T (c || level true a false b)
    go true e = tt
    go false e = let z : a + b ≤ 0 = nltb→le 0 (a + b) (subst (λ (x : Bool). T (not x)) (sym e) tt) in and_i (eqb a b) (eqb a 0) (eqb_of a b (omega arith)) (eqb_of a 0 (omega arith))
→either true a true b h = elim (eq-or-lt_of_le (plain a b h)) [ inl e ↦ or_r (ltb b a) (level true a true b) (and_i (eqb a b) true (eqb_of a b (sym e)) tt) | inr l ↦ or_l (ltb b a) (level true a true b) (lt→ltb b a l) ]
  where
    plain : (a b : ℕ) → 0 + b ≤ 0 + a → b ≤ a
    plain a b h = omega arith

either→ : (s : Bool) (a : ℕ) (t : Bool) (b : ℕ) → T (below s a t b || level s a t b) → Ord s a t b
either→ s a t b h = elim (or_split (below s a t b) (level s a t b) h) [ inl l ↦ le_of_lt (below→ s a t b l) | inr e ↦ level→ s a t b e ]

-- ---- the order of finite floats

pub le→ord : (s : Bool) (m : ℕ) (e : ℤ) (t : Bool) (n : ℕ) (d : ℤ) → T (le (fin s m e) (fin t n d)) → Ord s (m * up e * down d) t (n * up d * down e)
unfolding le
le→ord s m e t n d h = either→ s (m * up e * down d) t (n * up d * down e) h

pub ord→le : (s : Bool) (m : ℕ) (e : ℤ) (t : Bool) (n : ℕ) (d : ℤ) → Ord s (m * up e * down d) t (n * up d * down e) → T (le (fin s m e) (fin t n d))
unfolding le
ord→le s m e t n d h = →either s (m * up e * down d) t (n * up d * down e) h

pub lt→less : (s : Bool) (m : ℕ) (e : ℤ) (t : Bool) (n : ℕ) (d : ℤ) → T (lt (fin s m e) (fin t n d)) → Less s (m * up e * down d) t (n * up d * down e)
unfolding lt
lt→less s m e t n d h = below→ s (m * up e * down d) t (n * up d * down e) h

pub less→lt : (s : Bool) (m : ℕ) (e : ℤ) (t : Bool) (n : ℕ) (d : ℤ) → Less s (m * up e * down d) t (n * up d * down e) → T (lt (fin s m e) (fin t n d))
unfolding lt
less→lt s m e t n d h = →below s (m * up e * down d) t (n * up d * down e) h

-- ---- three fractions

-- by their parts: P - N over d
pub parts-trans : (P N P' N' P'' N'' d d' d'' : ℕ) → 0 < d' → P * d' + N' * d ≤ P' * d + N * d' → P' * d'' + N'' * d' ≤ P'' * d' + N' * d'' → P * d'' + N'' * d ≤ P'' * d + N * d''
parts-trans P N P' N' P'' N'' d d' d'' D h k =
    let a : P * d' * d'' + N' * d * d'' ≤ P' * d * d'' + N * d' * d'' = le_trans (le_of_eq (sym (add-mul (P * d') (N' * d) d''))) (le_trans (mul-le-mul_right d'' h) (le_of_eq (add-mul (P' * d) (N * d') d''))) in
    let b : P' * d'' * d + N'' * d' * d ≤ P'' * d' * d + N' * d'' * d = le_trans (le_of_eq (sym (add-mul (P' * d'') (N'' * d') d))) (le_trans (mul-le-mul_right d k) (le_of_eq (add-mul (P'' * d') (N' * d'') d))) in
    le_of_mul-le-mul_right
    (le_trans (le_of_eq (add-mul (P * d'') (N'' * d) d'))
    (le_trans (join (P * d'' * d') (P * d' * d'') (N'' * d * d') (N'' * d' * d) (P' * d * d'') (P' * d'' * d) (N' * d * d'') (N' * d'' * d) (P'' * d * d') (P'' * d' * d) (N * d'' * d') (N * d' * d'') (mul_right_comm P d'' d') (mul_right_comm N'' d d') (mul_right_comm P' d d'') (mul_right_comm N' d d'') (mul_right_comm P'' d d') (mul_right_comm N d'' d') a b)
    (le_of_eq (sym (add-mul (P'' * d) (N * d'') d')))))
    D
  where
    join : (a a' b b' c c' e e' f f' g g' : ℕ) → a ≡ a' → b ≡ b' → c ≡ c' → e ≡ e' → f ≡ f' → g ≡ g' → a' + e ≤ c + g' → c' + b' ≤ f' + e' → a + b ≤ f + g
    join a a' b b' c c' e e' f f' g g' p q r s t u h k = omega arith

pub parts-less : (P N P' N' P'' N'' d d' d'' : ℕ) → 0 < d'' → P * d' + N' * d < P' * d + N * d' → P' * d'' + N'' * d' ≤ P'' * d' + N' * d'' → P * d'' + N'' * d < P'' * d + N * d''
parts-less P N P' N' P'' N'' d d' d'' D h k =
    let a : P * d' * d'' + N' * d * d'' < P' * d * d'' + N * d' * d'' = lt_of_le_of_lt (le_of_eq (sym (add-mul (P * d') (N' * d) d''))) (lt_of_lt_of_le (mul-lt-mul_of_pos_right h D) (le_of_eq (add-mul (P' * d) (N * d') d''))) in
    let b : P' * d'' * d + N'' * d' * d ≤ P'' * d' * d + N' * d'' * d = le_trans (le_of_eq (sym (add-mul (P' * d'') (N'' * d') d))) (le_trans (mul-le-mul_right d k) (le_of_eq (add-mul (P'' * d') (N' * d'') d))) in
    lt_of_mul-lt-mul_right d'
    (lt_of_le_of_lt (le_of_eq (add-mul (P * d'') (N'' * d) d'))
    (lt_of_lt_of_le (join (P * d'' * d') (P * d' * d'') (N'' * d * d') (N'' * d' * d) (P' * d * d'') (P' * d'' * d) (N' * d * d'') (N' * d'' * d) (P'' * d * d') (P'' * d' * d) (N * d'' * d') (N * d' * d'') (mul_right_comm P d'' d') (mul_right_comm N'' d d') (mul_right_comm P' d d'') (mul_right_comm N' d d'') (mul_right_comm P'' d d') (mul_right_comm N d'' d') a b)
    (le_of_eq (sym (add-mul (P'' * d) (N * d'') d')))))
  where
    join : (a a' b b' c c' e e' f f' g g' : ℕ) → a ≡ a' → b ≡ b' → c ≡ c' → e ≡ e' → f ≡ f' → g ≡ g' → a' + e < c + g' → c' + b' ≤ f' + e' → a + b < f + g
    join a a' b b' c c' e e' f f' g g' p q r s t u h k = omega arith

pub pos-mul : (s : Bool) (a k : ℕ) → pos s (a * k) ≡ pos s a * k
pos-mul false a k = refl
pos-mul true a k = sym (zero-mul k)

pub neg-mul : (s : Bool) (a k : ℕ) → neg' s (a * k) ≡ neg' s a * k
neg-mul false a k = sym (zero-mul k)
neg-mul true a k = refl

module _ (s : Bool) (X d : ℕ) (t : Bool) (Y d' : ℕ) where
  left : pos s (X * d') + neg' t (Y * d) ≡ pos s X * d' + neg' t Y * d
  left = λ z. pos-mul s X d' z + neg-mul t Y d z

  right : pos t (Y * d) + neg' s (X * d') ≡ pos t Y * d + neg' s X * d'
  right = λ z. pos-mul t Y d z + neg-mul s X d' z

  pub ord→parts : Ord s (X * d') t (Y * d) → pos s X * d' + neg' t Y * d ≤ pos t Y * d + neg' s X * d'
  ord→parts h = le_trans (le_of_eq (sym left)) (le_trans h (le_of_eq right))

  pub parts→ord : pos s X * d' + neg' t Y * d ≤ pos t Y * d + neg' s X * d' → Ord s (X * d') t (Y * d)
  parts→ord h = le_trans (le_of_eq left) (le_trans h (le_of_eq (sym right)))

  pub less→parts : Less s (X * d') t (Y * d) → pos s X * d' + neg' t Y * d < pos t Y * d + neg' s X * d'
  less→parts h = lt_of_le_of_lt (le_of_eq (sym left)) (lt_of_lt_of_le h (le_of_eq right))

  pub parts→less : pos s X * d' + neg' t Y * d < pos t Y * d + neg' s X * d' → Less s (X * d') t (Y * d)
  parts→less h = lt_of_le_of_lt (le_of_eq left) (lt_of_lt_of_le h (le_of_eq (sym right)))

-- ---- the order of all floats

pub le-through : (x y z : Float) → T (le x y) → T (le y z) → T (le x z)
unfolding le
le-through nan y z h k = absurd h
le-through (inf s) nan z h k = absurd (none s h)
  where
    none : (s : Bool) → T (le (inf s) nan) → ⊥
    none true t = t
    none false t = t
le-through (inf true) (inf t) nan h k = absurd (none t k)
  where
    none : (s : Bool) → T (le (inf s) nan) → ⊥
    none true t = t
    none false t = t
le-through (inf true) (inf t) (inf true) h k = tt
le-through (inf true) (inf t) (inf false) h k = tt
le-through (inf true) (inf t) (fin u o c) h k = tt
le-through (inf true) (fin t n d) nan h k = absurd k
le-through (inf true) (fin t n d) (inf true) h k = tt
le-through (inf true) (fin t n d) (inf false) h k = tt
le-through (inf true) (fin t n d) (fin u o c) h k = tt
le-through (inf false) (inf true) z h k = absurd h
le-through (inf false) (inf false) z h k = k
le-through (inf false) (fin t n d) z h k = absurd h
le-through (fin s m e) nan z h k = absurd h
le-through (fin s m e) (inf true) z h k = absurd h
le-through (fin s m e) (inf false) nan h k = absurd k
le-through (fin s m e) (inf false) (inf true) h k = absurd k
le-through (fin s m e) (inf false) (inf false) h k = tt
le-through (fin s m e) (inf false) (fin u o c) h k = absurd k
le-through (fin s m e) (fin t n d) nan h k = absurd k
le-through (fin s m e) (fin t n d) (inf true) h k = absurd k
le-through (fin s m e) (fin t n d) (inf false) h k = tt
le-through (fin s m e) (fin t n d) (fin u o c) h k =
    ord→le s m e u o c
    (parts→ord s (m * up e) (down e) u (o * up c) (down c)
    (parts-trans (pos s (m * up e)) (neg' s (m * up e)) (pos t (n * up d)) (neg' t (n * up d)) (pos u (o * up c)) (neg' u (o * up c)) (down e) (down d) (down c) (down_pos d)
    (ord→parts s (m * up e) (down e) t (n * up d) (down d) (le→ord s m e t n d h))
    (ord→parts t (n * up d) (down d) u (o * up c) (down c) (le→ord t n d u o c k))))

pub lt-through : (x y z : Float) → T (lt x y) → T (le y z) → T (lt x z)
unfolding lt le
lt-through nan y z h k = absurd h
lt-through (inf s) nan z h k = absurd h
lt-through (inf true) (inf true) z h k = absurd h
lt-through (inf true) (inf false) nan h k = absurd k
lt-through (inf true) (inf false) (inf true) h k = absurd k
lt-through (inf true) (inf false) (inf false) h k = tt
lt-through (inf true) (inf false) (fin u o c) h k = tt
lt-through (inf true) (fin t n d) nan h k = absurd k
lt-through (inf true) (fin t n d) (inf true) h k = absurd k
lt-through (inf true) (fin t n d) (inf false) h k = tt
lt-through (inf true) (fin t n d) (fin u o c) h k = tt
lt-through (inf false) (inf t) z h k = absurd h
lt-through (inf false) (fin t n d) z h k = absurd h
lt-through (fin s m e) nan z h k = absurd h
lt-through (fin s m e) (inf true) z h k = absurd h
lt-through (fin s m e) (inf false) nan h k = absurd k
lt-through (fin s m e) (inf false) (inf true) h k = absurd k
lt-through (fin s m e) (inf false) (inf false) h k = tt
lt-through (fin s m e) (inf false) (fin u o c) h k = absurd k
lt-through (fin s m e) (fin t n d) nan h k = absurd k
lt-through (fin s m e) (fin t n d) (inf true) h k = absurd k
lt-through (fin s m e) (fin t n d) (inf false) h k = tt
lt-through (fin s m e) (fin t n d) (fin u o c) h k =
    less→lt s m e u o c
    (parts→less s (m * up e) (down e) u (o * up c) (down c)
    (parts-less (pos s (m * up e)) (neg' s (m * up e)) (pos t (n * up d)) (neg' t (n * up d)) (pos u (o * up c)) (neg' u (o * up c)) (down e) (down d) (down c) (down_pos c)
    (less→parts s (m * up e) (down e) t (n * up d) (down d) (lt→less s m e t n d h))
    (ord→parts t (n * up d) (down d) u (o * up c) (down c) (le→ord t n d u o c k))))

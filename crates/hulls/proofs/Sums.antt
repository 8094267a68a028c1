-- A computed sum grows with each of its two parts, NaN and infinities told apart. Assumes nothing.
use mathlib.Core.Path.{◌≡◌, refl, sym, ap, ◌∙◌, subst}
use Prim.Native.Nat.{ℕ, ◌+◌, ◌-◌, ◌*◌, ◌≤◌}
use native.Mathlib.Nat.{le_trans, le_of_eq, mul_comm, mul-mul-mul_comm, add-mul, mul-le-mul_right, mul-pos}
use native.Mathlib.Omega.{arith}
use mathlib.Core.Bool.{Bool, true, false, not, cond}
use lib.IntN.{ℤ}
use lib.Dec.{T, ltb, ltb→lt, nltb→le}
use lib.Ieee.{Float, nan, inf, fin, Format, up, down, round, sum, add, lt, le}
use lib.Ieee.Fits.{down_pos}
use Rattle.hulls.proofs.Signed.{pos, neg', le→ord, pos-mul, neg-mul, ord→parts, parts→ord, lt-through}
use Rattle.hulls.proofs.Rounding.{Has, round-has, round_keeps}

-- ---- a sum is the rounding of a difference

-- ±a ±b over c, as one number with a sign
pub record Sum (f : Format) (s : Bool) (a : ℕ) (t : Bool) (b c : ℕ) : Type 0 where
  pub sign : Bool
  pub size : ℕ
  pub is : sum f s a t b c ≡ round f sign size c
  pub value : pos sign size + (neg' s a + neg' t b) ≡ neg' sign size + (pos s a + pos t b)

pub sum_is : (f : Format) (s : Bool) (a : ℕ) (t : Bool) (b c : ℕ) → Sum f s a t b c
unfolding sum
sum_is f false a false b c = record { sign = false; size = a + b; is = refl; value = omega arith }
sum_is f true a true b c = record { sign = true; size = a + b; is = refl; value = omega arith }
sum_is f false a true b c = go (ltb a b) refl
  where
    go : (x : Bool) → ltb a b ≡ x → Sum f false a true b c
    go true e = let l = ltb→lt a b (subst T (sym e) tt) in record { sign = true; size = b - a; is = ap (λ x. cond x (round f true (b - a) c) (round f false (a - b) c)) e; value = omega arith }
    go false e = let l = nltb→le a b (subst (λ x. T (not x)) (sym e) tt) in record { sign = false; size = a - b; is = ap (λ x. cond x (round f true (b - a) c) (round f false (a - b) c)) e; value = omega arith }
sum_is f true a false b c = go (ltb a b) refl (ltb b a) refl
  where
    go : (x : Bool) → ltb a b ≡ x → (y : Bool) → ltb b a ≡ y → Sum f true a false b c
    go true e y g = let l = ltb→lt a b (subst T (sym e) tt) in record { sign = false; size = b - a; is = ap (λ x. cond x (round f false (b - a) c) (round f (ltb b a) (a - b) c)) e; value = omega arith }
    go false e true g = let l = ltb→lt b a (subst T (sym g) tt) in record { sign = true; size = a - b; is = ap (λ x. cond x (round f false (b - a) c) (round f (ltb b a) (a - b) c)) e ∙ ap (λ y. round f y (a - b) c) g; value = omega arith }
    go false e false g =
        let l = nltb→le a b (subst (λ x. T (not x)) (sym e) tt) in
        let k = nltb→le b a (subst (λ x. T (not x)) (sym g) tt) in
        record { sign = false; size = a - b; is = ap (λ x. cond x (round f false (b - a) c) (round f (ltb b a) (a - b) c)) e ∙ ap (λ y. round f y (a - b) c) g; value = omega arith }

-- ---- two sums of fractions

-- X / dx ≤ X' / dx' and Y / dy ≤ Y' / dy', each by its parts
combine : (P N P' N' Q M Q' M' dx dx' dy dy' : ℕ) → P * dx' + N' * dx ≤ P' * dx + N * dx' → Q * dy' + M' * dy ≤ Q' * dy + M * dy'
    → (P * dy + Q * dx) * (dx' * dy') + (N' * dy' + M' * dx') * (dx * dy) ≤ (P' * dy' + Q' * dx') * (dx * dy) + (N * dy + M * dx) * (dx' * dy')
combine P N P' N' Q M Q' M' dx dx' dy dy' h k =
    let a : P * dx' * (dy * dy') + N' * dx * (dy * dy') ≤ P' * dx * (dy * dy') + N * dx' * (dy * dy') = le_trans (le_of_eq (sym (add-mul (P * dx') (N' * dx) (dy * dy')))) (le_trans (mul-le-mul_right (dy * dy') h) (le_of_eq (add-mul (P' * dx) (N * dx') (dy * dy')))) in
    let b : Q * dy' * (dx * dx') + M' * dy * (dx * dx') ≤ Q' * dy * (dx * dx') + M * dy' * (dx * dx') = le_trans (le_of_eq (sym (add-mul (Q * dy') (M' * dy) (dx * dx')))) (le_trans (mul-le-mul_right (dx * dx') k) (le_of_eq (add-mul (Q' * dy) (M * dy') (dx * dx')))) in
    let p : (P * dy + Q * dx) * (dx' * dy') ≡ P * dx' * (dy * dy') + Q * dy' * (dx * dx') = wide P Q dx dy dx' dy' in
    let q : (N' * dy' + M' * dx') * (dx * dy) ≡ N' * dx * (dy * dy') + M' * dy * (dx * dx') = far N' M' dx' dy' dx dy in
    let r : (P' * dy' + Q' * dx') * (dx * dy) ≡ P' * dx * (dy * dy') + Q' * dy * (dx * dx') = far P' Q' dx' dy' dx dy in
    let s : (N * dy + M * dx) * (dx' * dy') ≡ N * dx' * (dy * dy') + M * dy' * (dx * dx') = wide N M dx dy dx' dy' in
    join _ _ _ _ _ _ _ _ _ _ _ _ p q r s a b
  where
    wide : (P Q dx dy dx' dy' : ℕ) → (P * dy + Q * dx) * (dx' * dy') ≡ P * dx' * (dy * dy') + Q * dy' * (dx * dx')
    wide P Q dx dy dx' dy' = add-mul (P * dy) (Q * dx) (dx' * dy') ∙ (λ z. mul-mul-mul_comm P dy dx' dy' z + (ap (λ i. Q * dx * i) (mul_comm dx' dy') ∙ mul-mul-mul_comm Q dx dy' dx') z)

    far : (P Q dx' dy' dx dy : ℕ) → (P * dy' + Q * dx') * (dx * dy) ≡ P * dx * (dy * dy') + Q * dy * (dx * dx')
    far P Q dx' dy' dx dy = wide P Q dx' dy' dx dy ∙ (λ z. P * dx * mul_comm dy' dy z + Q * dy * mul_comm dx' dx z)

    join : (l m u v a b c d e f g h : ℕ) → l ≡ a + e → m ≡ b + f → u ≡ c + g → v ≡ d + h → a + b ≤ c + d → e + f ≤ g + h → l + m ≤ u + v
    join l m u v a b c d e f g h p q r s x y = omega arith

-- the parts of a sum: those of its two numbers
settle : (p n P N p' n' P' N' c c' : ℕ) → p + N ≡ n + P → p' + N' ≡ n' + P' → P * c' + N' * c ≤ P' * c + N * c' → p * c' + n' * c ≤ p' * c + n * c'
settle p n P N p' n' P' N' c c' e g h =
    let a : p * c' + N * c' ≡ n * c' + P * c' = sym (add-mul p N c') ∙ (ap (λ i. i * c') e ∙ add-mul n P c') in
    let b : p' * c + N' * c ≡ n' * c + P' * c = sym (add-mul p' N' c) ∙ (ap (λ i. i * c) g ∙ add-mul n' P' c) in
    omega arith

pub fin-sums : (f : Format) (s : Bool) (m : ℕ) (e : ℤ) (s' : Bool) (m' : ℕ) (e' : ℤ) (t : Bool) (n : ℕ) (d : ℤ) (t' : Bool) (n' : ℕ) (d' : ℤ)
    → T (le (fin s m e) (fin s' m' e')) → T (le (fin t n d) (fin t' n' d')) → T (le (add f (fin s m e) (fin t n d)) (add f (fin s' m' e') (fin t' n' d')))
unfolding add
fin-sums f s m e s' m' e' t n d t' n' d' h k =
    let x = sum_is f s (m * up e * down d) t (n * up d * down e) (down e * down d) in
    let y = sum_is f s' (m' * up e' * down d') t' (n' * up d' * down e') (down e' * down d') in
    let c = combine (pos s (m * up e)) (neg' s (m * up e)) (pos s' (m' * up e')) (neg' s' (m' * up e')) (pos t (n * up d)) (neg' t (n * up d)) (pos t' (n' * up d')) (neg' t' (n' * up d')) (down e) (down e') (down d) (down d')
    (ord→parts s (m * up e) (down e) s' (m' * up e') (down e') (le→ord s m e s' m' e' h)) (ord→parts t (n * up d) (down d) t' (n' * up d') (down d') (le→ord t n d t' n' d' k)) in
    let v = settle (pos x.sign x.size) (neg' x.sign x.size) (pos s (m * up e) * down d + pos t (n * up d) * down e) (neg' s (m * up e) * down d + neg' t (n * up d) * down e) (pos y.sign y.size) (neg' y.sign y.size) (pos s' (m' * up e') * down d' + pos t' (n' * up d') * down e') (neg' s' (m' * up e') * down d' + neg' t' (n' * up d') * down e') (down e * down d) (down e' * down d')
    (opened x.sign x.size s (m * up e) (down d) t (n * up d) (down e) x.value) (opened y.sign y.size s' (m' * up e') (down d') t' (n' * up d') (down e') y.value) c in
    subst (λ (z : Float). T (le z (sum f s' (m' * up e' * down d') t' (n' * up d' * down e') (down e' * down d')))) (sym x.is)
    (subst (λ (z : Float). T (le (round f x.sign x.size (down e * down d)) z)) (sym y.is)
    (round_keeps f x.sign x.size (down e * down d) y.sign y.size (down e' * down d') (mul-pos (down_pos e) (down_pos d)) (mul-pos (down_pos e') (down_pos d')) (parts→ord x.sign x.size (down e * down d) y.sign y.size (down e' * down d') v)))
  where
    opened : (σ : Bool) (v : ℕ) (s : Bool) (X k : ℕ) (t : Bool) (Y j : ℕ) → pos σ v + (neg' s (X * k) + neg' t (Y * j)) ≡ neg' σ v + (pos s (X * k) + pos t (Y * j)) → pos σ v + (neg' s X * k + neg' t Y * j) ≡ neg' σ v + (pos s X * k + pos t Y * j)
    opened σ v s X k t Y j e = sym (λ z. pos σ v + (neg-mul s X k z + neg-mul t Y j z)) ∙ (e ∙ (λ z. neg' σ v + (pos-mul s X k z + pos-mul t Y j z)))

-- ---- a lower bound: a NaN and -infinity say nothing

abbrev pub Over : Float → Float → Type 0
Over nan x = Unit {0}
Over (inf true) x = Unit {0}
Over (inf false) x = T (le (inf false) x)
Over (fin s m e) x = T (le (fin s m e) x)

pub over-le : (l x : Float) → T (le l x) → Over l x
over-le nan x h = tt
over-le (inf true) x h = tt
over-le (inf false) x h = h
over-le (fin s m e) x h = h

-- a test that a bound passes is passed by what it bounds
pub over-lt : (h l x : Float) → Over l x → T (lt h l) → T (lt h x)
unfolding lt
over-lt nan l x o t = absurd t
over-lt (inf s) nan x o t = absurd t
over-lt (inf true) (inf true) x o t = absurd t
over-lt (inf false) (inf true) x o t = absurd t
over-lt (fin s m e) nan x o t = absurd t
over-lt (fin s m e) (inf true) x o t = absurd t
over-lt (inf s) (inf false) x o t = lt-through (inf s) (inf false) x t o
over-lt (inf s) (fin u n d) x o t = lt-through (inf s) (fin u n d) x t o
over-lt (fin s m e) (inf false) x o t = lt-through (fin s m e) (inf false) x t o
over-lt (fin s m e) (fin u n d) x o t = lt-through (fin s m e) (fin u n d) x t o

add-has : (f : Format) (s : Bool) (m : ℕ) (e : ℤ) (t : Bool) (n : ℕ) (d : ℤ) → T (le (add f (fin s m e) (fin t n d)) (inf false))
unfolding add
add-has f s m e t n d =
    let x = sum_is f s (m * up e * down d) t (n * up d * down e) (down e * down d) in
    subst (λ (z : Float). T (le z (inf false))) (sym x.is) (under x.sign (round f x.sign x.size (down e * down d)) (round-has f x.sign x.size (down e * down d)))
  where
    under : (s : Bool) (x : Float) → Has s x → T (le x (inf false))
    under s nan h = absurd h
    under s (inf true) h = unfold le in tt
    under s (inf false) h = unfold le in tt
    under s (fin t m e) h = unfold le in tt

pub add-over : (f : Format) (x x' y y' : Float) → Over x x' → Over y y' → Over (add f x y) (add f x' y')
unfolding add le
add-over f nan x' y y' h k = tt
add-over f (inf true) x' nan y' h k = tt
add-over f (inf true) x' (inf true) y' h k = tt
add-over f (inf true) x' (inf false) y' h k = tt
add-over f (inf true) x' (fin t n d) y' h k = tt
add-over f (inf false) x' nan y' h k = tt
add-over f (inf false) x' (inf true) y' h k = tt
add-over f (fin s m e) x' nan y' h k = tt
add-over f (fin s m e) x' (inf true) y' h k = tt
add-over f (inf false) nan (inf false) y' h k = absurd h
add-over f (inf false) (inf true) (inf false) y' h k = absurd h
add-over f (inf false) (fin u o c) (inf false) y' h k = absurd h
add-over f (inf false) (inf false) (inf false) nan h k = absurd k
add-over f (inf false) (inf false) (inf false) (inf true) h k = absurd k
add-over f (inf false) (inf false) (inf false) (inf false) h k = tt
add-over f (inf false) (inf false) (inf false) (fin u o c) h k = absurd k
add-over f (inf false) nan (fin t n d) y' h k = absurd h
add-over f (inf false) (inf true) (fin t n d) y' h k = absurd h
add-over f (inf false) (fin u o c) (fin t n d) y' h k = absurd h
add-over f (inf false) (inf false) (fin t n d) nan h k = absurd k
add-over f (inf false) (inf false) (fin t n d) (inf true) h k = absurd k
add-over f (inf false) (inf false) (fin t n d) (inf false) h k = tt
add-over f (inf false) (inf false) (fin t n d) (fin u o c) h k = tt
add-over f (fin s m e) nan (inf false) y' h k = absurd h
add-over f (fin s m e) (inf true) (inf false) y' h k = absurd h
add-over f (fin s m e) (inf false) (inf false) nan h k = absurd k
add-over f (fin s m e) (inf false) (inf false) (inf true) h k = absurd k
add-over f (fin s m e) (inf false) (inf false) (inf false) h k = tt
add-over f (fin s m e) (inf false) (inf false) (fin u o c) h k = absurd k
add-over f (fin s m e) (fin v p b) (inf false) nan h k = absurd k
add-over f (fin s m e) (fin v p b) (inf false) (inf true) h k = absurd k
add-over f (fin s m e) (fin v p b) (inf false) (inf false) h k = tt
add-over f (fin s m e) (fin v p b) (inf false) (fin u o c) h k = absurd k
add-over f (fin s m e) nan (fin t n d) y' h k = absurd h
add-over f (fin s m e) (inf true) (fin t n d) y' h k = absurd h
add-over f (fin s m e) (inf false) (fin t n d) nan h k = absurd k
add-over f (fin s m e) (inf false) (fin t n d) (inf true) h k = absurd k
add-over f (fin s m e) (inf false) (fin t n d) (inf false) h k = over-le (add f (fin s m e) (fin t n d)) (inf false) (add-has f s m e t n d)
add-over f (fin s m e) (inf false) (fin t n d) (fin u o c) h k = over-le (add f (fin s m e) (fin t n d)) (inf false) (add-has f s m e t n d)
add-over f (fin s m e) (fin v p b) (fin t n d) nan h k = absurd k
add-over f (fin s m e) (fin v p b) (fin t n d) (inf true) h k = absurd k
add-over f (fin s m e) (fin v p b) (fin t n d) (inf false) h k = over-le (add f (fin s m e) (fin t n d)) (inf false) (add-has f s m e t n d)
add-over f (fin s m e) (fin v p b) (fin t n d) (fin u o c) h k = over-le (add f (fin s m e) (fin t n d)) (add f (fin v p b) (fin u o c)) (fin-sums f s m e v p b t n d u o c h k)

-- Where rounding, products, sums and roots stay finite. Assumes nothing.
use mathlib.Core.Path.{◌≡◌, refl, sym, ap, ◌∙◌, subst}
use mathlib.Core.Bool.{Bool, true, false, cond, ◌&&◌, ◌||◌, true≢false}
use Prim.Native.Nat.{ℕ, zero, suc, ◌+◌, ◌-◌, ◌*◌, ◌/◌, ◌%◌, ◌^◌, ◌≤◌, ◌<◌, compare}
use native.Mathlib.Nat.{le_refl, le_trans, le_of_eq, lt_of_lt_of_le, zero-lt-suc, mul-pos, mul_assoc, mul_comm, mul-le-mul, mul-le-mul_right, mul-lt-mul_of_pos_right}
use native.Mathlib.Omega.{arith}
use lib.IntN.{ℤ, pos}
use lib.Dec.{T, ltb, eqb, ltb→lt}
use lib.Pow.{pow_pos, pow_mono}
use borrow.Author.Tests.{eqb-true}
use lib.Ieee.{Float, nan, inf, fin, Format, binary32, prec, emax, low, up, down, size, nearest, odd, units, round, unlike, add, sum, mul, lt, eq, le, fits}
use lib.Ieee.Fits.{up_pos, down_pos}
use lib.Ieee.Exact.{HasValue, round_exact}
use lib.Ieee.Order.{round_mono}
use lib.Ieee.Scale.{finite}
use Rattle.root.proofs.Nearest.{read}

-- ---- finite whatever the sign

odd-finite : (d : ℕ) (s : Bool) (q k l : ℕ) → finite (odd d s q k l) ≡ true
unfolding odd
odd-finite d s zero k l = refl
odd-finite d s (suc q) k l = refl

units-sign : (f : Format) (s : Bool) (q k : ℕ) → finite (units f s q k) ≡ finite (units f false q k)
unfolding units
units-sign f s q k = go (ltb (q * 2 ^ k) (2 ^ (low f + suc (emax f))))
  where
    go : (b : Bool) → finite (cond b (odd (suc (prec f)) s q k (low f)) (inf s)) ≡ finite (cond b (odd (suc (prec f)) false q k (low f)) (inf false))
    go true = odd-finite (suc (prec f)) s q k (low f) ∙ sym (odd-finite (suc (prec f)) false q k (low f))
    go false = refl

round-sign : (f : Format) (s : Bool) (a c : ℕ) → finite (round f s a c) ≡ finite (round f false a c)
unfolding round
round-sign f s a c =
    let n = a * 2 ^ low f in
    let k = size (n / c) - prec f in
    let u = c * 2 ^ k in
    units-sign f s (nearest (n / u) (compare (n % u * 2) u)) k

-- ---- not below zero: finite without a sign, or the infinity above

abbrev pub Up : Float → Type 0
Up nan = ⊥
Up (inf s) = s ≡ false
Up (fin s m e) = s ≡ false

odd-up : (d q k l : ℕ) → Up (odd d false q k l)
unfolding odd
odd-up d zero k l = refl
odd-up d (suc q) k l = refl

units-up : (f : Format) (q k : ℕ) → Up (units f false q k)
unfolding units
units-up f q k = go (ltb (q * 2 ^ k) (2 ^ (low f + suc (emax f))))
  where
    go : (b : Bool) → Up (cond b (odd (suc (prec f)) false q k (low f)) (inf false))
    go true = odd-up (suc (prec f)) q k (low f)
    go false = refl

pub round_up : (f : Format) (a c : ℕ) → Up (round f false a c)
unfolding round
round_up f a c =
    let n = a * 2 ^ low f in
    let k = size (n / c) - prec f in
    let u = c * 2 ^ k in
    units-up f (nearest (n / u) (compare (n % u * 2) u)) k

-- what is at most something finite is finite
under : (x y : Float) → Up x → T (le x y) → T (finite y) → T (finite x)
unfolding le lt eq
under nan y u h k = absurd u
under (inf true) y u h k = absurd (true≢false u)
under (inf false) nan u h k = absurd k
under (inf false) (inf t) u h k = absurd k
under (inf false) (fin t n d) u h k = absurd h
under (fin s m e) y u h k = tt

pub rounds-finite : (f : Format) (s : Bool) (a c b d : ℕ) → 0 < c → 0 < d → a * d ≤ b * c → T (finite (round f false b d)) → T (finite (round f s a c))
rounds-finite f s a c b d C D h k = subst T (sym (round-sign f s a c)) (under (round f false a c) (round f false b d) (round_up f a c) (round_mono f a c b d C D h) k)

-- ---- a value of the format rounds to itself, so it stays finite

value-finite : (x : Float) (s : Bool) (a c : ℕ) → HasValue x s a c → T (finite x)
value-finite nan s a c v = absurd v
value-finite (inf t) s a c v = absurd v
value-finite (fin t m e) s a c v = tt

pub one-finite : T (finite (round binary32 false 1 1))
unfolding round
one-finite = tt

own-finite : (t : Bool) (n : ℕ) (d : ℤ) → T (fits binary32 (fin t n d)) → T (finite (round binary32 false (n * up d) (down d)))
unfolding fits
own-finite t zero d f = rounds-finite binary32 false (0 * up d) (down d) 1 1 (down_pos d) (zero-lt-suc 0) (small (up d) (down d)) one-finite
  where
    small : (a c : ℕ) → 0 * a * 1 ≤ 1 * c
    small a c = omega arith
own-finite t (suc n) d f =
    let r = read (fin false (suc n) d) (suc n * up d) (down d) f (mul-pos (zero-lt-suc n) (up_pos d)) (refl, refl) in
    value-finite (round binary32 false (suc n * up d) (down d)) false (suc n * up d) (down d)
    (round_exact binary32 false (suc n * up d) (down d) r.0 r.1 (down_pos d) r.2.few (room r.0 r.1 r.2.few r.2.scale) r.2.value.1)
  where
    room : (s h : ℕ) → s < 16777216 → h ≤ 253 → s * 2 ^ h < 2 ^ 277
    room s h a b = lt_of_lt_of_le (mul-lt-mul_of_pos_right a (pow_pos h)) (mul-le-mul (le_refl 16777216) (pow_mono b))

-- ---- products with a factor of size at most 1

at_most : (a n e d : ℕ) → n ≤ d → a * n * e ≤ a * (e * d)
at_most a n e d h = le_trans (mul-le-mul_right e (mul-le-mul (le_refl a) h)) (le_of_eq (mul_assoc a d e ∙ ap (λ (z : ℕ). a * z) (mul_comm d e)))

pub times-small : (s : Bool) (m : ℕ) (e : ℤ) (t : Bool) (n : ℕ) (d : ℤ) → T (fits binary32 (fin s m e)) → n * up d ≤ down d → T (finite (mul binary32 (fin s m e) (fin t n d)))
unfolding mul
times-small s m e t n d f h =
    rounds-finite binary32 (unlike s t) (m * up e * (n * up d)) (down e * down d) (m * up e) (down e) (mul-pos (down_pos e) (down_pos d)) (down_pos e)
    (at_most (m * up e) (n * up d) (down e) (down d) h) (own-finite s m e f)

pub small_times : (s : Bool) (m : ℕ) (e : ℤ) (t : Bool) (n : ℕ) (d : ℤ) → m * up e ≤ down e → T (fits binary32 (fin t n d)) → T (finite (mul binary32 (fin s m e) (fin t n d)))
unfolding mul
small_times s m e t n d h f =
    rounds-finite binary32 (unlike s t) (m * up e * (n * up d)) (down e * down d) (n * up d) (down d) (mul-pos (down_pos e) (down_pos d)) (down_pos d)
    (le_trans (le_of_eq (ap (λ (z : ℕ). z * down d) (mul_comm (m * up e) (n * up d)))) (le_trans (at_most (n * up d) (m * up e) (down d) (down e) h) (le_of_eq (ap (λ (z : ℕ). n * up d * z) (mul_comm (down d) (down e))))))
    (own-finite t n d f)

-- ---- finite without a sign, and at least 1

-- the number 1
abbrev pub one : Float
one = fin false 1 (pos 0)

pub one-is : round binary32 false 1 1 ≡ one
unfolding round
one-is = refl

abbrev pub Plus : Float → Type 0
Plus x = Up x × T (finite x)

abbrev pub Over : Float → Type 0
Over x = Plus x × T (le one x)

pub or-le : (a b : ℕ) (c : Bool) → T (ltb a b || (eqb a b && c)) → a ≤ b
or-le a b c = go (ltb a b) (eqb a b) (ltb→lt a b) (eqb-true a b)
  where
    go : (x y : Bool) → (T x → a < b) → (y ≡ true → a ≡ b) → T (x || (y && c)) → a ≤ b
    go true y l e h = let k = l tt in omega arith
    go false true l e h = le_of_eq (e refl)
    go false false l e h = absurd h

-- at least 1, as fractions
pub over-says : (m : ℕ) (e : ℤ) → T (le one (fin false m e)) → down e ≤ m * up e
unfolding le lt eq
over-says m e h = let k = or-le (1 * 1 * down e) (m * up e * 1) true h in omega arith

-- at most 1, as fractions
pub most-says : (m : ℕ) (e : ℤ) → T (le (fin false m e) one) → m * up e ≤ down e
unfolding le lt eq
most-says m e h = let k = or-le (m * up e * 1) (1 * 1 * down e) true h in omega arith

rounds-over : (a c : ℕ) → 0 < c → c ≤ a → T (le one (round binary32 false a c))
rounds-over a c C h = subst (λ (x : Float). T (le x (round binary32 false a c))) one-is (round_mono binary32 1 1 a c (zero-lt-suc 0) C (omega arith))

pub rounds-most : (a c : ℕ) → 0 < c → a ≤ c → T (le (round binary32 false a c) one)
rounds-most a c C h = subst (λ (x : Float). T (le (round binary32 false a c) x)) one-is (round_mono binary32 a c 1 1 C (zero-lt-suc 0) (omega arith))

-- ---- squares

pub root-of-square : (x : Float) → T (finite (mul binary32 x x)) → T (finite x)
unfolding mul
root-of-square nan h = h
root-of-square (inf s) h = h
root-of-square (fin s m e) h = tt

pub square-plus : (x : Float) → T (finite (mul binary32 x x)) → Plus (mul binary32 x x)
unfolding mul
square-plus nan h = absurd h
square-plus (inf s) h = absurd h
square-plus (fin true m e) h = (round_up binary32 (m * up e * (m * up e)) (down e * down e), h)
square-plus (fin false m e) h = (round_up binary32 (m * up e * (m * up e)) (down e * down e), h)

pub square-over : (s : Bool) (m : ℕ) (e : ℤ) → down e ≤ m * up e → T (le one (mul binary32 (fin s m e) (fin s m e)))
unfolding mul
square-over true m e h = rounds-over (m * up e * (m * up e)) (down e * down e) (mul-pos (down_pos e) (down_pos e)) (mul-le-mul h h)
square-over false m e h = rounds-over (m * up e * (m * up e)) (down e * down e) (mul-pos (down_pos e) (down_pos e)) (mul-le-mul h h)

-- ---- sums of what has no sign

pub sum_left : (x y : Float) → T (finite (add binary32 x y)) → T (finite x)
unfolding add
sum_left nan y h = h
sum_left (inf s) nan h = h
sum_left (inf true) (inf true) h = h
sum_left (inf true) (inf false) h = h
sum_left (inf false) (inf true) h = h
sum_left (inf false) (inf false) h = h
sum_left (inf s) (fin t n d) h = h
sum_left (fin s m e) y h = tt

pub sum-right : (x y : Float) → T (finite (add binary32 x y)) → T (finite y)
unfolding add
sum-right nan y h = absurd h
sum-right (inf s) nan h = h
sum-right (inf true) (inf true) h = h
sum-right (inf true) (inf false) h = h
sum-right (inf false) (inf true) h = h
sum-right (inf false) (inf false) h = h
sum-right (inf s) (fin t n d) h = tt
sum-right (fin s m e) nan h = h
sum-right (fin s m e) (inf t) h = h
sum-right (fin s m e) (fin t n d) h = tt

pub sum-plus : (x y : Float) → Plus x → Plus y → T (finite (add binary32 x y)) → Plus (add binary32 x y)
unfolding add sum
sum-plus nan y p q h = absurd h
sum-plus (inf s) y p q h = absurd p.1
sum-plus (fin true m e) y p q h = absurd (true≢false p.0)
sum-plus (fin false m e) nan p q h = absurd h
sum-plus (fin false m e) (inf t) p q h = absurd h
sum-plus (fin false m e) (fin true n d) p q h = absurd (true≢false q.0)
sum-plus (fin false m e) (fin false n d) p q h = (round_up binary32 (m * up e * down d + n * up d * down e) (down e * down d), h)

pub sum-over-left : (x y : Float) → Plus x → Plus y → T (le one x) → T (le one (add binary32 x y))
unfolding add sum
sum-over-left nan y p q h = absurd p.1
sum-over-left (inf s) y p q h = absurd p.1
sum-over-left (fin true m e) y p q h = absurd (true≢false p.0)
sum-over-left (fin false m e) nan p q h = absurd q.1
sum-over-left (fin false m e) (inf t) p q h = absurd q.1
sum-over-left (fin false m e) (fin true n d) p q h = absurd (true≢false q.0)
sum-over-left (fin false m e) (fin false n d) p q h =
    rounds-over (m * up e * down d + n * up d * down e) (down e * down d) (mul-pos (down_pos e) (down_pos d))
    (more (m * up e * down d) (n * up d * down e) (down e * down d) (mul-le-mul_right (down d) (over-says m e h)))
  where
    more : (a b c : ℕ) → c ≤ a → c ≤ a + b
    more a b c h = omega arith

pub sum-over-right : (x y : Float) → Plus x → Plus y → T (le one y) → T (le one (add binary32 x y))
unfolding add sum
sum-over-right nan y p q h = absurd p.1
sum-over-right (inf s) y p q h = absurd p.1
sum-over-right (fin true m e) y p q h = absurd (true≢false p.0)
sum-over-right (fin false m e) nan p q h = absurd q.1
sum-over-right (fin false m e) (inf t) p q h = absurd q.1
sum-over-right (fin false m e) (fin true n d) p q h = absurd (true≢false q.0)
sum-over-right (fin false m e) (fin false n d) p q h =
    rounds-over (m * up e * down d + n * up d * down e) (down e * down d) (mul-pos (down_pos e) (down_pos d))
    (more (m * up e * down d) (n * up d * down e) (down e * down d) (le_trans (le_of_eq (mul_comm (down e) (down d))) (le_trans (mul-le-mul (le_refl (down d)) (le_refl (down e))) (le_trans (le_of_eq (mul_comm (down d) (down e))) (le_trans (le_of_eq (mul_comm (down e) (down d))) (mul-le-mul_right (down e) (over-says n d h)))))))
  where
    more : (a b c : ℕ) → c ≤ b → c ≤ a + b
    more a b c h = omega arith

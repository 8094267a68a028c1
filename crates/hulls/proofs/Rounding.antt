-- Rounding keeps the order, of fractions of either sign. Assumes nothing.
use mathlib.Core.Path.{◌≡◌, refl, sym, ap, ◌∙◌, subst}
use mathlib.Core.Logic.{inl, inr}
use Prim.Native.Nat.{ℕ, zero, suc, ◌+◌, ◌-◌, ◌*◌, ◌/◌, ◌%◌, ◌^◌, ◌<◌, compare}
use native.Mathlib.Nat.{eq-zero-or-pos, zero-mul, mul-pos}
use native.Mathlib.Omega.{arith}
use mathlib.Core.Bool.{Bool, true, false, not, cond, true≢false}
use lib.Dec.{T, ltb}
use lib.Pow.{pow_pos}
use lib.Ieee.{Float, nan, inf, fin, Format, prec, emax, low, up, down, size, nearest, odd, units, round, neg, le}
use lib.Ieee.Exact.{HasValue, round_exact}
use lib.Ieee.Order.{round_mono}
use Rattle.bits.proofs.Negated.{round-neg}
use Rattle.hulls.proofs.Signed.{Ord, le→ord, ord→le}

-- ---- the sign turned

turn : (s : Bool) (a : ℕ) (t : Bool) (b : ℕ) → Ord s a t b → Ord (not t) b (not s) a
turn false a false b h = omega arith
turn false a true b h = omega arith
turn true a false b h = omega arith
turn true a true b h = omega arith

pub le-neg : (x y : Float) → T (le x y) → T (le (neg y) (neg x))
unfolding le neg
le-neg nan y h = absurd h
le-neg (inf true) nan h = absurd h
le-neg (inf false) nan h = absurd h
le-neg (inf true) (inf true) h = tt
le-neg (inf true) (inf false) h = tt
le-neg (inf false) (inf true) h = absurd h
le-neg (inf false) (inf false) h = tt
le-neg (inf true) (fin t n d) h = tt
le-neg (inf false) (fin t n d) h = absurd h
le-neg (fin s m e) nan h = absurd h
le-neg (fin s m e) (inf true) h = absurd h
le-neg (fin s m e) (inf false) h = tt
le-neg (fin s m e) (fin t n d) h = ord→le (not t) n d (not s) m e (turn s (m * up e * down d) t (n * up d * down e) (le→ord s m e t n d h))

-- ---- a float of the sign s, which is no NaN

abbrev pub Has : Bool → Float → Type 0
Has s nan = ⊥
Has s (inf t) = t ≡ s
Has s (fin t m e) = t ≡ s

pub units-has : (f : Format) (s : Bool) (q k : ℕ) → Has s (units f s q k)
unfolding units
units-has f s q k = go (ltb (q * 2 ^ k) (2 ^ (low f + suc (emax f))))
  where
    of-odd : (d q k l : ℕ) → Has s (odd d s q k l)
    of-odd d zero k l = unfold odd in refl
    of-odd d (suc q) k l = unfold odd in refl

    go : (b : Bool) → Has s (cond b (odd (suc (prec f)) s q k (low f)) (inf s))
    go true = of-odd (suc (prec f)) q k (low f)
    go false = refl

pub round-has : (f : Format) (s : Bool) (a c : ℕ) → Has s (round f s a c)
unfolding round
round-has f s a c =
    let n = a * 2 ^ low f in
    let k = size (n / c) - prec f in
    let u = c * 2 ^ k in
    units-has f s (nearest (n / u) (compare (n % u * 2) u)) k

pub negative-first : (x y : Float) → Has true x → Has false y → T (le x y)
unfolding le
negative-first nan y h k = absurd h
negative-first (inf false) y h k = absurd (true≢false (sym h))
negative-first (inf true) nan h k = absurd k
negative-first (inf true) (inf true) h k = tt
negative-first (inf true) (inf false) h k = tt
negative-first (inf true) (fin t n d) h k = tt
negative-first (fin s m e) nan h k = absurd k
negative-first (fin s m e) (inf true) h k = absurd (true≢false k)
negative-first (fin s m e) (inf false) h k = tt
negative-first (fin false m e) (fin t n d) h k = absurd (true≢false (sym h))
negative-first (fin true m e) (fin true n d) h k = absurd (true≢false k)
negative-first (fin true m e) (fin false n d) h k = ord→le true m e false n d (omega arith)

-- ---- zeros of either sign

zero-value : (f : Format) (s : Bool) (c : ℕ) → 0 < c → HasValue (round f s 0 c) s 0 c
zero-value f s c C = round_exact f s 0 c 0 0 C (pow_pos (prec f)) (pow_pos (low f + suc (emax f))) (zero-mul (2 ^ low f) ∙ sym (zero-mul c))

zeros-level : (x y : Float) (s t : Bool) (c d : ℕ) → 0 < c → 0 < d → HasValue x s 0 c → HasValue y t 0 d → T (le x y)
zeros-level nan y s t c d C D h k = absurd h
zeros-level (inf u) y s t c d C D h k = absurd h
zeros-level (fin u m e) nan s t c d C D h k = absurd k
zeros-level (fin u m e) (inf v) s t c d C D h k = absurd k
zeros-level (fin u m e) (fin v n b) s t c d C D h k =
    let x : m * up e ≡ 0 = none (m * up e) c C (h.1 ∙ zero-mul (down e)) in
    let y : n * up b ≡ 0 = none (n * up b) d D (k.1 ∙ zero-mul (down b)) in
    ord→le u m e v n b (both u v (m * up e * down b) (n * up b * down e) (ap (λ i. i * down b) x ∙ zero-mul (down b)) (ap (λ i. i * down e) y ∙ zero-mul (down e)))
  where
    none : (a c : ℕ) → 0 < c → a * c ≡ 0 → a ≡ 0
    none a c C e = elim (eq-zero-or-pos a) [ inl z ↦ z | inr p ↦ absurd (no (a * c) (mul-pos p C) e) ]
      where
        no : (n : ℕ) → 0 < n → n ≡ 0 → ⊥
        no n h e = omega arith

    both : (u v : Bool) (a b : ℕ) → a ≡ 0 → b ≡ 0 → Ord u a v b
    both false false a b p q = omega arith
    both false true a b p q = omega arith
    both true false a b p q = omega arith
    both true true a b p q = omega arith

-- ---- rounding keeps the order

pub round_keeps : (f : Format) (s : Bool) (a c : ℕ) (t : Bool) (b d : ℕ) → 0 < c → 0 < d → Ord s (a * d) t (b * c) → T (le (round f s a c) (round f t b d))
round_keeps f false a c false b d C D h = round_mono f a c b d C D (omega arith)
round_keeps f true a c true b d C D h =
    subst (λ (x : Float). T (le x (round f true b d))) (sym (round-neg f a c))
    (subst (λ (x : Float). T (le (neg (round f false a c)) x)) (sym (round-neg f b d)) (le-neg (round f false b d) (round f false a c) (round_mono f b d a c D C (omega arith))))
round_keeps f true a c false b d C D h = negative-first (round f true a c) (round f false b d) (round-has f true a c) (round-has f false b d)
round_keeps f false a c true b d C D h =
    let x : a ≡ 0 = none a d D (omega arith) in
    let y : b ≡ 0 = none b c C (omega arith) in
    zeros-level (round f false a c) (round f true b d) false true c d C D (subst (λ i. HasValue (round f false i c) false 0 c) (sym x) (zero-value f false c C)) (subst (λ i. HasValue (round f true i d) true 0 d) (sym y) (zero-value f true d D))
  where
    none : (a c : ℕ) → 0 < c → a * c ≡ 0 → a ≡ 0
    none a c C e = elim (eq-zero-or-pos a) [ inl z ↦ z | inr p ↦ absurd (no (a * c) (mul-pos p C) e) ]
      where
        no : (n : ℕ) → 0 < n → n ≡ 0 → ⊥
        no n h e = omega arith

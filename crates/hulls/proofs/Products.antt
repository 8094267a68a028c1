-- A computed product grows with a factor where the other is not below zero, and falls where it is not above; the least product over an interval. Assumes nothing.
use mathlib.Core.Path.{◌≡◌, refl, sym, ap, ◌∙◌, subst}
use mathlib.Core.Logic.{◌⊎◌, inl, inr}
use Prim.Native.Nat.{ℕ, ◌+◌, ◌*◌, ◌≤◌, ◌<◌}
use native.Mathlib.Nat.{eq-zero-or-pos, mul_comm, mul-mul-mul_comm, mul-le-mul_right, mul-pos, zero-mul, mul-zero}
use native.Mathlib.Omega.{arith}
use mathlib.Core.Bool.{Bool, true, false, cond, true≢false}
use lib.IntN.{pos}
use lib.Dec.{T}
use lib.Ieee.{Float, nan, inf, fin, Format, binary32, unlike, up, down, round, mul, of_bits, lt, le}
use lib.Ieee.Fits.{down_pos}
use lib.Ieee.Scale.{finite}
use Rattle.bits.specs.Single.{zeroᶠ}
use Rattle.hulls.specs.Hull.{lowest}
use Rattle.hulls.proofs.Signed.{Ord, le→ord, lt→less, less→lt, le-through}
use Rattle.hulls.proofs.Rounding.{round_keeps}

-- ---- finite and not below zero; finite and not above it

abbrev pub Up : Float → Type 0
Up nan = ⊥
Up (inf s) = ⊥
Up (fin s m e) = (s ≡ false) ⊎ (m * up e ≡ 0)

abbrev pub Dn : Float → Type 0
Dn nan = ⊥
Dn (inf s) = ⊥
Dn (fin s m e) = (s ≡ true) ⊎ (m * up e ≡ 0)

zeros : (s t : Bool) (a b : ℕ) → a ≡ 0 → b ≡ 0 → Ord s a t b
zeros false false a b p q = omega arith
zeros false true a b p q = omega arith
zeros true false a b p q = omega arith
zeros true true a b p q = omega arith

vanish : (X K : ℕ) → K ≡ 0 → X * K ≡ 0
vanish X K e = ap (λ k. X * k) e ∙ mul-zero X

-- both sides times K
grow : (s : Bool) (X : ℕ) (t : Bool) (Y K : ℕ) → Ord s X t Y → Ord (unlike s false) (X * K) (unlike t false) (Y * K)
grow false X false Y K h = let k : X * K ≤ Y * K = mul-le-mul_right K (omega arith) in omega arith
grow false X true Y K h = let x : X ≡ 0 = omega arith in let y : Y ≡ 0 = omega arith in zeros false true (X * K) (Y * K) (ap (λ i. i * K) x ∙ zero-mul K) (ap (λ i. i * K) y ∙ zero-mul K)
grow true X false Y K h = omega arith
grow true X true Y K h = let k : Y * K ≤ X * K = mul-le-mul_right K (omega arith) in omega arith

-- both sides times -K
fall : (s : Bool) (X : ℕ) (t : Bool) (Y K : ℕ) → Ord s X t Y → Ord (unlike t true) (Y * K) (unlike s true) (X * K)
fall false X false Y K h = let k : X * K ≤ Y * K = mul-le-mul_right K (omega arith) in omega arith
fall false X true Y K h = let x : X ≡ 0 = omega arith in let y : Y ≡ 0 = omega arith in zeros false true (Y * K) (X * K) (ap (λ i. i * K) y ∙ zero-mul K) (ap (λ i. i * K) x ∙ zero-mul K)
fall true X false Y K h = omega arith
fall true X true Y K h = let k : Y * K ≤ X * K = mul-le-mul_right K (omega arith) in omega arith

moved : (σ : Bool) (τ : Bool) (X B dy db Y dx : ℕ) → Ord σ (X * dy * (B * db)) τ (Y * dx * (B * db)) → Ord σ (X * B * (dy * db)) τ (Y * B * (dx * db))
moved σ τ X B dy db Y dx h = subst (λ i. Ord σ i τ (Y * B * (dx * db))) (mul-mul-mul_comm X dy B db) (subst (λ i. Ord σ (X * dy * (B * db)) τ i) (mul-mul-mul_comm Y dx B db) h)

module _ (f : Format) where
  pub mul-up : (x y b : Float) → T (finite x) → T (finite y) → Up b → T (le x y) → T (le (mul f x b) (mul f y b))
  unfolding mul
  mul-up nan y b p q u h = absurd p
  mul-up (inf s) y b p q u h = absurd p
  mul-up (fin s m e) nan b p q u h = absurd q
  mul-up (fin s m e) (inf t) b p q u h = absurd q
  mul-up (fin s m e) (fin t n d) nan p q u h = absurd u
  mul-up (fin s m e) (fin t n d) (inf v) p q u h = absurd u
  mul-up (fin s m e) (fin t n d) (fin v o c) p q u h =
      round_keeps f (unlike s v) (m * up e * (o * up c)) (down e * down c) (unlike t v) (n * up d * (o * up c)) (down d * down c) (mul-pos (down_pos e) (down_pos c)) (mul-pos (down_pos d) (down_pos c))
      (moved (unlike s v) (unlike t v) (m * up e) (o * up c) (down d) (down c) (n * up d) (down e) (go v u))
    where
      go : (v : Bool) → (v ≡ false) ⊎ (o * up c ≡ 0) → Ord (unlike s v) (m * up e * down d * (o * up c * down c)) (unlike t v) (n * up d * down e * (o * up c * down c))
      go false u = grow s (m * up e * down d) t (n * up d * down e) (o * up c * down c) (le→ord s m e t n d h)
      go true (inl z) = absurd (true≢false z)
      go true (inr z) = let k : o * up c * down c ≡ 0 = ap (λ i. i * down c) z ∙ zero-mul (down c) in zeros (unlike s true) (unlike t true) _ _ (vanish (m * up e * down d) (o * up c * down c) k) (vanish (n * up d * down e) (o * up c * down c) k)

  pub mul-dn : (x y b : Float) → T (finite x) → T (finite y) → Dn b → T (le x y) → T (le (mul f y b) (mul f x b))
  unfolding mul
  mul-dn nan y b p q u h = absurd p
  mul-dn (inf s) y b p q u h = absurd p
  mul-dn (fin s m e) nan b p q u h = absurd q
  mul-dn (fin s m e) (inf t) b p q u h = absurd q
  mul-dn (fin s m e) (fin t n d) nan p q u h = absurd u
  mul-dn (fin s m e) (fin t n d) (inf v) p q u h = absurd u
  mul-dn (fin s m e) (fin t n d) (fin v o c) p q u h =
      round_keeps f (unlike t v) (n * up d * (o * up c)) (down d * down c) (unlike s v) (m * up e * (o * up c)) (down e * down c) (mul-pos (down_pos d) (down_pos c)) (mul-pos (down_pos e) (down_pos c))
      (moved (unlike t v) (unlike s v) (n * up d) (o * up c) (down e) (down c) (m * up e) (down d) (go v u))
    where
      go : (v : Bool) → (v ≡ true) ⊎ (o * up c ≡ 0) → Ord (unlike t v) (n * up d * down e * (o * up c * down c)) (unlike s v) (m * up e * down d * (o * up c * down c))
      go true u = fall s (m * up e * down d) t (n * up d * down e) (o * up c * down c) (le→ord s m e t n d h)
      go false (inl z) = absurd (true≢false (sym z))
      go false (inr z) = let k : o * up c * down c ≡ 0 = ap (λ i. i * down c) z ∙ zero-mul (down c) in zeros (unlike t false) (unlike s false) _ _ (vanish (n * up d * down e) (o * up c * down c) k) (vanish (m * up e * down d) (o * up c * down c) k)

  unlike-swap : (s t : Bool) → unlike s t ≡ unlike t s
  unlike-swap false false = refl
  unlike-swap false true = refl
  unlike-swap true false = refl
  unlike-swap true true = refl

  pub mul-swap : (x y : Float) → T (finite x) → T (finite y) → mul f x y ≡ mul f y x
  unfolding mul
  mul-swap nan y p q = absurd p
  mul-swap (inf s) y p q = absurd p
  mul-swap (fin s m e) nan p q = absurd q
  mul-swap (fin s m e) (inf t) p q = absurd q
  mul-swap (fin s m e) (fin t n d) p q = λ z. round f (unlike-swap s t z) (mul_comm (m * up e) (n * up d) z) (mul_comm (down e) (down d) z)

-- ---- zero between

zero_is : zeroᶠ ≡ fin false 0 (pos 0)
unfolding of_bits
zero_is = refl

none : (a c : ℕ) → 0 < c → a * c ≡ 0 → a ≡ 0
none a c C e = elim (eq-zero-or-pos a) [ inl z ↦ z | inr p ↦ absurd (no (a * c) (mul-pos p C) e) ]
  where
    no : (n : ℕ) → 0 < n → n ≡ 0 → ⊥
    no n h e = omega arith

pub finite-between : (lo x hi : Float) → T (finite lo) → T (finite hi) → T (le lo x) → T (le x hi) → T (finite x)
unfolding le
finite-between nan x hi p q h k = absurd p
finite-between (inf s) x hi p q h k = absurd p
finite-between (fin s m e) nan hi p q h k = absurd h
finite-between (fin s m e) (inf true) hi p q h k = absurd h
finite-between (fin s m e) (inf false) nan p q h k = absurd q
finite-between (fin s m e) (inf false) (inf t) p q h k = absurd q
finite-between (fin s m e) (inf false) (fin t n d) p q h k = absurd k
finite-between (fin s m e) (fin t n d) hi p q h k = tt

pub up-over : (x y : Float) → T (finite y) → Up x → T (le x y) → Up y
up-over nan y q u h = absurd u
up-over (inf s) y q u h = absurd u
up-over (fin s m e) nan q u h = absurd q
up-over (fin s m e) (inf t) q u h = absurd q
up-over (fin s m e) (fin false n d) q u h = inl refl
up-over (fin false m e) (fin true n d) q u h = let o = le→ord false m e true n d h in inr (none (n * up d) (down e) (down_pos e) (omega (arith, o)))
up-over (fin true m e) (fin true n d) q (inl z) h = absurd (true≢false z)
up-over (fin true m e) (fin true n d) q (inr z) h = let o = le→ord true m e true n d h in let k : m * up e * down d ≡ 0 = ap (λ i. i * down d) z ∙ zero-mul (down d) in inr (none (n * up d) (down e) (down_pos e) (omega (arith, o, k)))

pub dn-under : (x y : Float) → T (finite x) → Dn y → T (le x y) → Dn x
dn-under nan y q u h = absurd q
dn-under (inf s) y q u h = absurd q
dn-under (fin s m e) nan q u h = absurd u
dn-under (fin s m e) (inf t) q u h = absurd u
dn-under (fin true m e) (fin t n d) q u h = inl refl
dn-under (fin false m e) (fin true n d) q u h = let o = le→ord false m e true n d h in inr (none (m * up e) (down d) (down_pos d) (omega (arith, o)))
dn-under (fin false m e) (fin false n d) q (inl z) h = absurd (true≢false (sym z))
dn-under (fin false m e) (fin false n d) q (inr z) h = let o = le→ord false m e false n d h in let k : n * up d * down e ≡ 0 = ap (λ i. i * down e) z ∙ zero-mul (down e) in inr (none (m * up e) (down d) (down_pos d) (omega (arith, o, k)))

-- the two tests
below-zero : (x : Float) → T (finite x) → lt x (fin false 0 (pos 0)) ≡ true → Dn x
below-zero nan p h = absurd p
below-zero (inf s) p h = absurd p
below-zero (fin true m e) p h = inl refl
below-zero (fin false m e) p h = let l = lt→less false m e false 0 (pos 0) (subst T (sym h) tt) in let z = zero-mul (up (pos 0)) in absurd (no (m * up e * down (pos 0)) (down e) l)
  where
    no : (a d : ℕ) → a + 0 < 0 * 1 * d + 0 → ⊥
    no a d l = let z : 0 * 1 * d ≡ 0 = zero-mul d in omega arith

not-below-zero : (x : Float) → T (finite x) → lt x (fin false 0 (pos 0)) ≡ false → Up x
not-below-zero nan p h = absurd p
not-below-zero (inf s) p h = absurd p
not-below-zero (fin false m e) p h = inl refl
not-below-zero (fin true m e) p h = elim (eq-zero-or-pos (m * up e)) [ inl z ↦ inr z | inr l ↦ absurd (true≢false (sym (is (lt (fin true m e) (fin false 0 (pos 0))) (less→lt true m e false 0 (pos 0) (yes (m * up e) (down e) l))) ∙ h)) ]
  where
    yes : (a d : ℕ) → 0 < a → 0 + 0 < 0 * 1 * d + a * 1
    yes a d l = omega arith

    is : (b : Bool) → T b → b ≡ true
    is true t = refl
    is false t = absurd t

above_zero : (x : Float) → T (finite x) → lt (fin false 0 (pos 0)) x ≡ true → Up x
above_zero nan p h = absurd p
above_zero (inf s) p h = absurd p
above_zero (fin false m e) p h = inl refl
above_zero (fin true m e) p h = let l = lt→less false 0 (pos 0) true m e (subst T (sym h) tt) in absurd (no (m * up e * 1) (0 * 1 * down e) l)
  where
    no : (a d : ℕ) → d + a < 0 + 0 → ⊥
    no a d l = omega arith

not-above-zero : (x : Float) → T (finite x) → lt (fin false 0 (pos 0)) x ≡ false → Dn x
not-above-zero nan p h = absurd p
not-above-zero (inf s) p h = absurd p
not-above-zero (fin true m e) p h = inl refl
not-above-zero (fin false m e) p h = elim (eq-zero-or-pos (m * up e)) [ inl z ↦ inr z | inr l ↦ absurd (true≢false (sym (is (lt (fin false 0 (pos 0)) (fin false m e)) (less→lt false 0 (pos 0) false m e (yes (m * up e) (down e) l))) ∙ h)) ]
  where
    yes : (a d : ℕ) → 0 < a → 0 * 1 * d + 0 < a * 1 + 0
    yes a d l = let z : 0 * 1 * d ≡ 0 = zero-mul d in omega arith

    is : (b : Bool) → T b → b ≡ true
    is true t = refl
    is false t = absurd t

either_way : (x : Float) → T (finite x) → Up x ⊎ Dn x
either_way nan p = absurd p
either_way (inf s) p = absurd p
either_way (fin false m e) p = inl (inl refl)
either_way (fin true m e) p = inr (inl refl)

-- ---- the least product of two numbers from lo to hi

module _ (lo hi a b : Float) (L : T (finite lo)) (H : T (finite hi)) (la : T (le lo a)) (ah : T (le a hi)) (lb : T (le lo b)) (bh : T (le b hi)) where
  abbrev fa : T (finite a)
  fa = finite-between lo a hi L H la ah

  abbrev fb : T (finite b)
  fb = finite-between lo b hi L H lb bh

  abbrev M : Float → Float → Float
  M = mul binary32

  by : (p q : Float) → p ≡ q → T (le q (M a b)) → T (le p (M a b))
  by p q e t = subst (λ (x : Float). T (le x (M a b))) (sym e) t

  -- p ≤ b * k = k * b ≤ a * b
  chain : (p k : Float) → T (finite k) → T (le p (M b k)) → T (le (M k b) (M a b)) → T (le p (M a b))
  chain p k K s t = le-through p (M b k) (M a b) s (by (M b k) (M k b) (mul-swap binary32 b k fb K) t)

  both-up : Up lo → T (le (M lo lo) (M a b))
  both-up u = chain (M lo lo) lo L (mul-up binary32 lo b lo L fb u lb) (mul-up binary32 lo a b L fa (up-over lo b fb u lb) la)

  both-dn : Dn hi → T (le (M hi hi) (M a b))
  both-dn d = chain (M hi hi) hi H (mul-dn binary32 b hi hi fb H d bh) (mul-dn binary32 a hi b fa H (dn-under b hi fb d bh) ah)

  across : Dn lo → Up hi → T (le (M lo hi) (M a b))
  across d u = elim (either_way b fb) [
    | inl v ↦ by (M lo hi) (M hi lo) (mul-swap binary32 lo hi L H) (chain (M hi lo) lo L (mul-dn binary32 b hi lo fb H d bh) (mul-up binary32 lo a b L fa v la))
    | inr v ↦ chain (M lo hi) hi H (mul-up binary32 lo b hi L fb u lb) (mul-dn binary32 a hi b fa H v ah)
  ]

  pub lowest-le : T (le (lowest lo hi) (M a b))
  unfolding lowest
  lowest-le = subst (λ (z : Float). T (le (cond (lt lo z) (cond (lt z hi) (M lo hi) (M hi hi)) (M lo lo)) (M a b))) (sym zero_is) (go (lt lo (fin false 0 (pos 0))) refl (lt (fin false 0 (pos 0)) hi) refl)
    where
      go : (x : Bool) → lt lo (fin false 0 (pos 0)) ≡ x → (y : Bool) → lt (fin false 0 (pos 0)) hi ≡ y → T (le (cond x (cond y (M lo hi) (M hi hi)) (M lo lo)) (M a b))
      go false p y q = both-up (not-below-zero lo L p)
      go true p true q = across (below-zero lo L p) (above_zero hi H q)
      go true p false q = both-dn (not-above-zero hi H q)

-- 'c(k) nearest to 2^30 times the cosine of k/1024 of a half turn', over whole numbers. A table of 64 binary digits with document 01's four rules, whatever table it is,
-- lies less than a half from c(k) at every k. The true cosines times 2 ^ 64, each rounded to a whole number, are such a table. Assumes nothing.
use Rattle.std.proofs.Common.{◌≡◌, ℕ, zero, suc, ◌+◌, ◌-◌, ◌*◌, ◌/◌, ◌^◌, ◌<◌, ◌≤◌, Bool, true, false, cond, not, ◌&&◌, ◌||◌, T, eqb, ltb, leb, get_or, ℤ, pos, negsuc, ◌+ℤ◌, ◌-ℤ◌, ◌*ℤ◌, neg_ℤ, nat_abs, ◌≤ℤ◌, ◌<ℤ◌, sym, refl, ap, ◌∙◌, subst, inl, inr, zero-le, le_trans, le_of_eq, le_refl, lt_of_lt_of_le, le_of_suc-le-suc, lt_of_le_of_lt, le_of_lt, add-le-add, mul-le-mul, lt_of_not-le, arith, le→leb, eqb→eq, ltb→lt, leb→le, ltb-false, ltb-true}
use lib.Dec.{nleb→lt}
use lib.IntN.{pos-ne-negsuc, neg_ℤ-neg_ℤ, +ℤ_comm, pos-*ℤ-negsuc}
use lib.Signed.{le_z_yes, ≤ℤ_refl, yes_non_neg, pos-nat_abs}
use lib.Ieee.Fits.{and_l, and_r}
use Rattle.bits.proofs.Bools.{or_split}
use Rattle.angle.specs.Table.{cosines, c}
use Rattle.lists.specs.Parts.{every_below}
use Rattle.angle.specs.Rule.{rules_of, NearestAt}
use Rattle.angle.proofs.Rules.{at, first_of, falling-of, mirrored-of, doubled-of, mirrored}
use Rattle.angle.proofs.Above.{sub-up}

-- ---- from an angle of the first quarter to its double, or to what the double lacks of a half turn: 2 x(k)^2 is 2^64 times 2^64 + x(2k), or 2^64 - x(1024 - 2k)
abbrev pub partner : ℕ → ℕ
partner k = cond (leb k 256) (2 * k) (1024 - 2 * k)

abbrev pub total : ℕ → ℕ → ℕ → ℕ
total P k y = cond (leb k 256) (y + P) (P - y)

-- which of the two bounds of the partner a bound comes from
abbrev pub turned : Bool → ℕ → Bool
turned up k = cond (leb k 256) up (not up)

-- one step of Newton's towards the root of n, from g
abbrev newton : ℕ → ℕ → ℕ
newton n g = (n / g + g) / 2

abbrev widened : Bool → ℕ → ℕ
widened up v = cond up (v + 4096) (v - 4096)

-- an upper or a lower bound of x(k), at j angles before 0 or a quarter turn; where it comes from matters to nothing but the test below
unfoldable pub bound : ℕ → Bool → ℕ → ℕ
bound zero up k = cond (eqb k 0) (2 ^ 64) 0
bound (suc j) up k = cond (eqb k 512) 0 (widened up (newton (2 ^ 63 * total (2 ^ 64) k (bound j (turned up k) (partner k))) (2 ^ 34 * (get_or cosines k 0 - 2 ^ 30))))

abbrev pub lo : ℕ → ℕ
lo k = bound 9 false k

abbrev pub hi : ℕ → ℕ
hi k = bound 9 true k

-- ---- the one computed test, of the places up to 512
unfoldable pub settled : ℕ → Bool
settled k = eqb k 0 || eqb k 512

unfoldable pub settles : ℕ → ℕ → Bool
settles zero k = settled k
settles (suc j) k = settled k || settles j (partner k)

-- the squares of the bounds against the partner's bounds
abbrev pub lower-fits : ℕ → Bool
lower-fits k = ltb (2 * (lo k * lo k) + 3 * 2 ^ 64) (2 ^ 64 * total (2 ^ 64) k (bound 9 (turned false k) (partner k)))

abbrev pub upper_fits : ℕ → Bool
upper_fits k = ltb (2 ^ 64 * total (2 ^ 64) k (bound 9 (turned true k) (partner k)) + 3 * 2 ^ 64) (2 * (hi k * hi k))

unfoldable pub squares : ℕ → Bool
squares k = lower-fits k && upper_fits k

-- the bounds against c(k)
abbrev pub m : ℕ → ℕ
m k = get_or cosines k 0 - 2 ^ 30

abbrev pub lower-near : ℕ → Bool
lower-near k = ltb (2 ^ 34 * m k) (lo k + 2 ^ 33)

abbrev pub upper-near : ℕ → Bool
upper-near k = ltb (hi k) (2 ^ 34 * m k + 2 ^ 33)

unfoldable pub near : ℕ → Bool
near k = leb (2 ^ 30) (get_or cosines k 0) && lower-near k && upper-near k

abbrev pub test : ℕ → Bool
test k = settles 9 k && (settled k || squares k) && near k

passes : T (every_below 513 test)
unfolding cosines every_below bound settled settles squares near
passes = tt

pub tested : (k : ℕ) → k ≤ 512 → T (test k)
tested k h = at test 513 passes k (omega arith)

-- ---- whole numbers

minus_pos : (p q : ℕ) → q ≤ p → pos p -ℤ pos q ≡ pos (p - q)
minus_pos p zero h = ap pos (omega arith)
minus_pos p (suc q) h = sub-up p (suc q) h

apart : (a b : ℕ) → nat_abs (pos a -ℤ pos b) ≡ (a - b) + (b - a)
apart a zero = omega arith
apart a (suc b) = go (ltb a (suc b)) refl
  where
    go : (t : Bool) → ltb a (suc b) ≡ t → nat_abs (cond t (negsuc (suc b - suc a)) (pos (a - suc b))) ≡ (a - suc b) + (suc b - a)
    go true e = let l = ltb-true a (suc b) e in omega arith
    go false e = let l = ltb-false a (suc b) e in omega arith

apart-le : (a b d : ℕ) → nat_abs (pos a -ℤ pos b) ≤ d → (a ≤ b + d) × (b ≤ a + d)
apart-le a b d h = let l = subst (λ (n : ℕ). n ≤ d) (apart a b) h in (omega arith, omega arith)

apart-lt : (a b d : ℕ) → a < b + d → b < a + d → nat_abs (pos a -ℤ pos b) < d
apart-lt a b d h l = subst (λ (n : ℕ). n < d) (sym (apart a b)) (go h l)
  where
    go : a < b + d → b < a + d → (a - b) + (b - a) < d
    go h l = omega arith

self-neg : (z : ℤ) → z ≡ neg_ℤ z → z ≡ pos 0
self-neg (pos zero) e = refl
self-neg (pos (suc n)) e = absurd (pos-ne-negsuc (suc n) n e)
self-neg (negsuc n) e = absurd (pos-ne-negsuc (suc n) n (sym e))

no_less : (a b : ℤ) → pos 0 ≤ℤ a → a <ℤ b → pos 0 ≤ℤ b
no_less (pos a) (pos b) h l = le_z_yes (le→leb 0 b zero-le)
no_less (pos a) (negsuc b) h l = absurd l.lt
no_less (negsuc a) b h l = absurd h.le

lt-pos : (a b : ℕ) → pos a <ℤ pos b → a < b
lt-pos a b h = ltb→lt a b h.lt

-- a lower and an upper bound by their squares
from-below : (P l X t t' : ℕ) → 2 * (l * l) + 3 * P < P * t → t ≤ t' → P * t' ≤ 2 * (X * X) + 3 * P → l ≤ X
from-below P l X t t' h g r = le_of_suc-le-suc (lt_of_not-le (λ (s : suc X ≤ l).
    let a : P * t ≤ P * t' = mul-le-mul (le_refl P) g in
    let b : X * X ≤ l * l = mul-le-mul (le_of_lt s) (le_of_lt s) in
    absurd (clash (l * l) (X * X) P (P * t) (P * t') h a r b)))
  where
    clash : (L Q P a b : ℕ) → 2 * L + 3 * P < a → a ≤ b → b ≤ 2 * Q + 3 * P → Q ≤ L → ⊥
    clash L Q P a b h i j k = omega arith

from-above : (P u X t t' : ℕ) → P * t + 3 * P < 2 * (u * u) → t' ≤ t → 2 * (X * X) ≤ P * t' + 3 * P → X ≤ u
from-above P u X t t' h g r = le_of_suc-le-suc (lt_of_not-le (λ (s : suc u ≤ X).
    let a : P * t' ≤ P * t = mul-le-mul (le_refl P) g in
    let b : u * u ≤ X * X = mul-le-mul (le_of_lt s) (le_of_lt s) in
    absurd (clash (u * u) (X * X) P (P * t') (P * t) h a r b)))
  where
    clash : (U Q P a b : ℕ) → b + 3 * P < 2 * U → a ≤ b → 2 * Q ≤ a + 3 * P → U ≤ Q → ⊥
    clash U Q P a b h i j k = omega arith

pub partner-le : (k : ℕ) → k ≤ 512 → partner k ≤ 512
partner-le k h = go (leb k 256) (leb→le k 256) (nleb→lt k 256)
  where
    go : (t : Bool) → (T t → k ≤ 256) → (T (not t) → 256 < k) → cond t (2 * k) (1024 - 2 * k) ≤ 512
    go true f g = let l = f tt in omega arith
    go false f g = let l = g tt in omega arith

pub c-is : (k : ℕ) → 2 ^ 30 ≤ get_or cosines k 0 → c k ≡ pos (m k)
unfolding c
c-is k h = sub-up (get_or cosines k 0) (2 ^ 30) h

neg-times : (q m : ℕ) → pos q *ℤ neg_ℤ (pos m) ≡ neg_ℤ (pos (q * m))
neg-times q zero = let e : q * 0 ≡ 0 = omega arith in ap pos e ∙ sym (ap (λ (n : ℕ). neg_ℤ (pos n)) e)
neg-times q (suc m) = pos-*ℤ-negsuc q m

flipped : (a q m : ℕ) → neg_ℤ (pos a) -ℤ pos q *ℤ neg_ℤ (pos m) ≡ pos (q * m) -ℤ pos a
flipped a q m =
    ap (λ (z : ℤ). neg_ℤ (pos a) -ℤ z) (neg-times q m)
    ∙ ap (λ (z : ℤ). neg_ℤ (pos a) +ℤ z) (neg_ℤ-neg_ℤ (pos (q * m)))
    ∙ +ℤ_comm (neg_ℤ (pos a)) (pos (q * m))

-- what holds where the bounds are settled, and of each k where it holds of its partner, holds of every k
pub by-partners : (Q : ℕ → Type 0) → ((k : ℕ) → T (settled k) → Q k) → ((k : ℕ) → k ≤ 512 → T (squares k) → Q (partner k) → Q k) → (j k : ℕ) → k ≤ 512 → T (settles j k) → Q k
unfolding settles
by-partners Q base step zero k h t = base k t
by-partners Q base step (suc j) k h t = elim (or_split (settled k) (settles j (partner k)) t) [
  | inl s ↦ base k s
  | inr r ↦ elim (or_split (settled k) (squares k) (and_r (settles 9 k) (settled k || squares k) (and_l (settles 9 k && (settled k || squares k)) (near k) (tested k h)))) [
    | inl s ↦ base k s
    | inr q ↦ step k h q (by-partners Q base step j (partner k) (partner-le k h) r)
  ]
]

-- ---- a finer table with the rules
module _ (x : ℕ → ℤ) (R : T (rules_of 64 x)) where
  X : ℕ → ℕ
  X k = nat_abs (x k)

  middle : x 512 ≡ pos 0
  middle = self-neg (x 512) (mirrored-of 64 x R 512 (omega arith))

  not_neg : (d k : ℕ) → k + d ≡ 512 → pos 0 ≤ℤ x k
  not_neg zero k e =
      let z : 512 ≡ k = omega arith in
      subst (λ (j : ℕ). pos 0 ≤ℤ x j) z (subst (λ (y : ℤ). pos 0 ≤ℤ y) (sym middle) (≤ℤ_refl (pos 0)))
  not_neg (suc d) k e = no_less (x (suc k)) (x k) (not_neg d (suc k) (omega arith)) (falling-of 64 x R k (omega arith))

  is_pos : (k : ℕ) → k ≤ 512 → x k ≡ pos (X k)
  unfolding X
  is_pos k h = sym (pos-nat_abs (x k) (yes_non_neg (not_neg (512 - k) k (omega arith))))

  falls : (k : ℕ) → k < 512 → X (suc k) < X k
  falls k h =
      lt-pos (X (suc k)) (X k)
      (subst (λ (z : ℤ). pos (X (suc k)) <ℤ z) (is_pos k (le_of_lt h)) (subst (λ (z : ℤ). z <ℤ x k) (is_pos (suc k) h) (falling-of 64 x R k (omega arith))))

  top : (k : ℕ) → k ≤ 512 → X k ≤ 2 ^ 64
  unfolding X
  top zero h = le_of_eq (ap nat_abs (first_of 64 x R))
  top (suc k) h = le_trans (le_of_lt (falls k h)) (top k (le_of_lt h))

  sum_is : (k : ℕ) → k ≤ 512 → x (2 * k) +ℤ pos (2 ^ 64) ≡ pos (total (2 ^ 64) k (X (partner k)))
  sum_is k h = go (leb k 256) (leb→le k 256) (nleb→lt k 256)
    where
      go : (t : Bool) → (T t → k ≤ 256) → (T (not t) → 256 < k)
          → x (2 * k) +ℤ pos (2 ^ 64) ≡ pos (cond t (X (cond t (2 * k) (1024 - 2 * k)) + 2 ^ 64) (2 ^ 64 - X (cond t (2 * k) (1024 - 2 * k))))
      go true f g = let l = f tt in ap (λ (z : ℤ). z +ℤ pos (2 ^ 64)) (is_pos (2 * k) (omega arith))
      go false f g =
          let l = g tt in
          let j = 1024 - 2 * k in
          let s : j ≤ 512 = omega arith in
          let e : 2 * k ≡ 1024 - j = omega arith in
          ap (λ (m : ℕ). x m +ℤ pos (2 ^ 64)) e
          ∙ ap (λ (z : ℤ). z +ℤ pos (2 ^ 64)) (mirrored-of 64 x R j (omega arith))
          ∙ ap (λ (z : ℤ). neg_ℤ z +ℤ pos (2 ^ 64)) (is_pos j s)
          ∙ +ℤ_comm (neg_ℤ (pos (X j))) (pos (2 ^ 64))
          ∙ minus_pos (2 ^ 64) (X j) (top j s)

  square-is : (k : ℕ) → k ≤ 512 → (2 * (X k * X k) ≤ 2 ^ 64 * total (2 ^ 64) k (X (partner k)) + 3 * 2 ^ 64) × (2 ^ 64 * total (2 ^ 64) k (X (partner k)) ≤ 2 * (X k * X k) + 3 * 2 ^ 64)
  square-is k h =
      apart-le (2 * (X k * X k)) (2 ^ 64 * total (2 ^ 64) k (X (partner k))) (3 * 2 ^ 64)
      (subst (λ (z : ℤ). nat_abs (pos 2 *ℤ (z *ℤ z) -ℤ pos (2 ^ 64) *ℤ pos (total (2 ^ 64) k (X (partner k)))) ≤ 3 * 2 ^ 64) (is_pos k h)
      (subst (λ (z : ℤ). nat_abs (pos 2 *ℤ (x k *ℤ x k) -ℤ pos (2 ^ 64) *ℤ z) ≤ 3 * 2 ^ 64) (sum_is k h) (doubled-of 64 x R k h)))

  -- X is within the bounds
  Held : ℕ → Type 0
  Held k = (lo k ≤ X k) × (X k ≤ hi k)

  held-settled : (k : ℕ) → T (settled k) → Held k
  unfolding Held X settled bound cosines
  held-settled k t = elim (or_split (eqb k 0) (eqb k 512) t) [
    | inl e ↦ subst (λ (j : ℕ). (lo j ≤ nat_abs (x j)) × (nat_abs (x j) ≤ hi j)) (sym (eqb→eq k 0 e))
        (subst (λ (z : ℤ). (lo 0 ≤ nat_abs z) × (nat_abs z ≤ hi 0)) (sym (first_of 64 x R)) (leb→le (lo 0) (2 ^ 64) tt, leb→le (2 ^ 64) (hi 0) tt))
    | inr e ↦ subst (λ (j : ℕ). (lo j ≤ nat_abs (x j)) × (nat_abs (x j) ≤ hi j)) (sym (eqb→eq k 512 e))
        (subst (λ (z : ℤ). (lo 512 ≤ nat_abs z) × (nat_abs z ≤ hi 512)) (sym middle) (leb→le (lo 512) 0 tt, leb→le 0 (hi 512) tt))
  ]

  held-step : (k : ℕ) → k ≤ 512 → T (squares k) → Held (partner k) → Held k
  unfolding Held squares
  held-step k h t i =
      let P = 2 ^ 64 in
      let s = square-is k h in
      let a = ltb→lt (2 * (lo k * lo k) + 3 * P) (P * total P k (bound 9 (turned false k) (partner k))) (and_l (lower-fits k) (upper_fits k) t) in
      let b = ltb→lt (P * total P k (bound 9 (turned true k) (partner k)) + 3 * P) (2 * (hi k * hi k)) (and_r (lower-fits k) (upper_fits k) t) in
      let s' = between (leb k 256) P (partner k) (X (partner k)) i.0 i.1 in (
        from-below P (lo k) (X k) (total P k (bound 9 (turned false k) (partner k))) (total P k (X (partner k))) a s'.0 s.1,
        from-above P (hi k) (X k) (total P k (bound 9 (turned true k) (partner k))) (total P k (X (partner k))) b s'.1 s.0,
      )
    where
      between : (t : Bool) (P p y : ℕ) → lo p ≤ y → y ≤ hi p
          → (cond t (bound 9 (cond t false true) p + P) (P - bound 9 (cond t false true) p) ≤ cond t (y + P) (P - y))
          × (cond t (y + P) (P - y) ≤ cond t (bound 9 (cond t true false) p + P) (P - bound 9 (cond t true false) p))
      between true P p y f g = (omega arith, omega arith)
      between false P p y f g = (omega arith, omega arith)

  held : (j k : ℕ) → k ≤ 512 → T (settles j k) → Held k
  held = by-partners Held held-settled held-step

  -- and so less than a half from c(k)
  close : (k : ℕ) → k ≤ 512 → (2 ^ 30 ≤ get_or cosines k 0) × (X k < 2 ^ 34 * m k + 2 ^ 33) × (2 ^ 34 * m k < X k + 2 ^ 33)
  unfolding Held near
  close k h =
      let t = tested k h in
      let i = held 9 k h (and_l (settles 9 k) (settled k || squares k) (and_l (settles 9 k && (settled k || squares k)) (near k) t)) in
      let n = and_r (settles 9 k && (settled k || squares k)) (near k) t in
      let q = and_l (leb (2 ^ 30) (get_or cosines k 0) && lower-near k) (upper-near k) n in
      let a = leb→le (2 ^ 30) (get_or cosines k 0) (and_l (leb (2 ^ 30) (get_or cosines k 0)) (lower-near k) q) in
      let b = ltb→lt (2 ^ 34 * m k) (lo k + 2 ^ 33) (and_r (leb (2 ^ 30) (get_or cosines k 0)) (lower-near k) q) in
      let u = ltb→lt (hi k) (2 ^ 34 * m k + 2 ^ 33) (and_r (leb (2 ^ 30) (get_or cosines k 0) && lower-near k) (upper-near k) n) in
      (a, lt_of_le_of_lt i.1 u, lt_of_lt_of_le b (add-le-add i.0 (le_refl (2 ^ 33))))

  pub nearest : (k : ℕ) → k ≤ 1024 → NearestAt x k
  nearest k h = go (leb k 512) (leb→le k 512) (nleb→lt k 512)
    where
      go : (t : Bool) → (T t → k ≤ 512) → (T (not t) → 512 < k) → NearestAt x k
      go true f g =
          let l = f tt in
          let q = close k l in
          subst (λ (z : ℤ). nat_abs (z -ℤ pos (2 ^ 34) *ℤ c k) < 2 ^ 33) (sym (is_pos k l))
          (subst (λ (z : ℤ). nat_abs (pos (X k) -ℤ pos (2 ^ 34) *ℤ z) < 2 ^ 33) (sym (c-is k q.0))
          (apart-lt (X k) (2 ^ 34 * m k) (2 ^ 33) q.1 q.2))
      go false f g =
          let l = g tt in
          let j = 1024 - k in
          let s : j ≤ 512 = omega arith in
          let e : 1024 - j ≡ k = omega arith in
          let q = close j s in
          let u : x (1024 - j) ≡ neg_ℤ (pos (X j)) = mirrored-of 64 x R j (omega arith) ∙ ap neg_ℤ (is_pos j s) in
          let v : c (1024 - j) ≡ neg_ℤ (pos (m j)) = mirrored j (omega arith) ∙ ap neg_ℤ (c-is j q.0) in
          subst (λ (i : ℕ). NearestAt x i) e
          (subst (λ (z : ℤ). nat_abs (z -ℤ pos (2 ^ 34) *ℤ c (1024 - j)) < 2 ^ 33) (sym u)
          (subst (λ (z : ℤ). nat_abs (neg_ℤ (pos (X j)) -ℤ pos (2 ^ 34) *ℤ z) < 2 ^ 33) (sym v)
          (subst (λ (z : ℤ). nat_abs z < 2 ^ 33) (sym (flipped (X j) (2 ^ 34) (m j))) (apart-lt (2 ^ 34 * m j) (X j) (2 ^ 33) q.2 q.1))))

-- ---- there is such a table: at each angle two steps of Newton's towards twice the root, and the nearest half of that
unfoldable fine : ℕ → ℕ → ℕ
fine zero k = cond (eqb k 0) (2 ^ 64) 0
fine (suc j) k =
    let n = 2 ^ 65 * total (2 ^ 64) k (fine j (partner k)) in
    cond (eqb k 512) 0 ((newton n (newton n (2 ^ 35 * (get_or cosines k 0 - 2 ^ 30))) + 1) / 2)

pub finer : ℕ → ℤ
finer k = cond (leb k 512) (pos (fine 9 k)) (neg_ℤ (pos (fine 9 (1024 - k))))

pub finer-rules : T (rules_of 64 finer)
unfolding finer fine cosines every_below
finer-rules = tt

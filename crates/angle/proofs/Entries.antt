-- The entries, each 2 ^ 30 more than its c(k): what the table's rules say of them, and of a u that is 2 ^ 30 more than X. Assumes nothing.
use Rattle.std.proofs.Common.{◌≡◌, ℕ, zero, suc, ◌+◌, ◌-◌, ◌*◌, ◌/◌, ◌^◌, ◌<◌, ◌≤◌, Bool, true, false, not, T, ltb, get_or, ◌-ℤ◌, nat_abs, ◌≤ℤ◌, sym, refl, ap, ◌∙◌, subst, inl, inr, zero-le, le_trans, le_of_eq, le_of_suc-le-suc, lt_of_le_of_lt, add-zero, le_of_lt, add-suc, zero-lt-suc, div-lt_iff_lt-mul, eq-or-lt_of_le, not-le_of_lt, arith, ltb→lt, nltb→le}
use native.Mathlib.Nat.{zero-div}
use lib.IntN.{sub_ℕ}
use Rattle.angle.specs.Table.{cosines, c}
use Rattle.angle.specs.Angle.{greatest, way_at}
use Rattle.angle.proofs.Rules.{first, last, falling}
use Rattle.angle.proofs.Above.{up_le, up_lt, back-le, back-lt, back-eq, gap}
use Rattle.angle.proofs.Places.{greatest-holds, greatest-only}

-- the entry at k
abbrev pub C : ℕ → ℕ
C k = get_or cosines k 0

first_entry : C 0 ≡ 2 ^ 31
unfolding c
first_entry = back-eq (C 0) (2 ^ 31) (2 ^ 30) first

last_entry : C 1024 ≡ 0
unfolding c
last_entry = back-eq (C 1024) 0 (2 ^ 30) last

pub drops : (k : ℕ) → k < 1024 → C (suc k) < C k
unfolding c
drops k h = back-lt (C (suc k)) (C k) (2 ^ 30) (falling k h)

-- so a later entry is no larger
down : (j d : ℕ) → j + d ≤ 1024 → C (j + d) ≤ C j
down j zero h = le_of_eq (ap C (add-zero j))
down j (suc d) h =
    le_trans (le_of_eq (ap C (add-suc j d)))
    (le_trans (le_of_lt (drops (j + d) (lower j d h))) (down j d (le_of_lt (lower j d h))))
  where
    lower : (j d : ℕ) → j + suc d ≤ 1024 → j + d < 1024
    lower j d h = omega arith

drops-on : (j k : ℕ) → j ≤ k → k ≤ 1024 → C k ≤ C j
drops-on j k h l = let e : j + (k - j) ≡ k = omega arith in subst (λ (x : ℕ). C x ≤ C j) e (down j (k - j) (subst (λ (x : ℕ). x ≤ 1024) (sym e) l))

-- u is at most the first entry, and X at most c(0)
pub first-large : (u : ℕ) → u ≤ 2 ^ 31 → u ≤ C 0
first-large u h = subst (λ (x : ℕ). u ≤ x) (sym first_entry) h

pub X-small : (u : ℕ) → u ≤ 2 ^ 31 → sub_ℕ u (2 ^ 30) ≤ℤ c 0
unfolding c
X-small u h = up_le u (C 0) (2 ^ 30) (first-large u h)

-- a place whose entry is below u is not the first
pub not_first : (u k : ℕ) → u ≤ 2 ^ 31 → C k < u → 0 < k
not_first u zero p h = absurd (not-le_of_lt h (first-large u p))
not_first u (suc k) p h = zero-lt-suc k

-- a place whose entry is at least u, and past which the next, where it may be one, is below u
pub found : (u k : ℕ) → k < 1024 → u ≤ C k → (k < 1023 → C (suc k) < u) → k ≡ greatest 1023 (sub_ℕ u (2 ^ 30))
unfolding c
found u k l p f =
    sym (greatest-only 1023 k (sub_ℕ u (2 ^ 30)) (record {
      within = omega arith;
      reached = up_le u (C k) (2 ^ 30) p;
      past = λ j g i. up_lt (C j) u (2 ^ 30) (lt_of_le_of_lt (drops-on (suc k) j g (omega arith)) (f (omega arith)));
    }))

-- ---- what is known of that place
pub record Between (u k : ℕ) : Type 0 where
  pub within : k < 1024
  pub low : u ≤ C k
  pub high : C (suc k) ≤ u
  pub apart : C (suc k) < C k
  pub top : C k ≤ 2 ^ 31

pub between : (u : ℕ) → u ≤ 2 ^ 31 → Between u (greatest 1023 (sub_ℕ u (2 ^ 30)))
unfolding c
between u h =
    let k = greatest 1023 (sub_ℕ u (2 ^ 30)) in
    let g = greatest-holds 1023 (sub_ℕ u (2 ^ 30)) (X-small u h) in
    let l : k < 1024 = omega (arith, g.within) in
    let next : C (suc k) ≤ u =
    elim (eq-or-lt_of_le g.within) [
      | inl e ↦ subst (λ (x : ℕ). C (suc x) ≤ u) (sym e) (subst (λ (x : ℕ). x ≤ u) (sym last_entry) zero-le)
      | inr m ↦ le_of_lt (back-lt (C (suc k)) u (2 ^ 30) (g.past (suc k) (omega arith) m))
    ] in
    record {
      within = l;
      low = back-le u (C k) (2 ^ 30) g.reached;
      high = next;
      apart = drops k l;
      top = subst (λ (x : ℕ). C k ≤ x) first_entry (drops-on 0 k zero-le (le_of_lt l));
    }

-- A, by the entries
pub way-is : (u k : ℕ) → Between u k → 2 ^ 20 * k + 2 ^ 20 * (C k - u) / (C k - C (suc k)) ≡ way_at (sub_ℕ u (2 ^ 30)) k
unfolding c way_at
way-is u k b =
    ap (λ (n : ℕ). 2 ^ 20 * k + 2 ^ 20 * n / (C k - C (suc k))) (sym (gap (C k) u (2 ^ 30) b.low))
    ∙ ap (λ (n : ℕ). 2 ^ 20 * k + 2 ^ 20 * nat_abs (c k -ℤ sub_ℕ u (2 ^ 30)) / n) (sym (gap (C k) (C (suc k)) (2 ^ 30) (le_of_lt b.apart)))

-- the part of the way to the next entry is at most the whole of it
pub part-le : (a b u : ℕ) → b ≤ u → b < a → 1048576 * (a - u) / (a - b) ≤ 1048576
part-le a b u h g =
    let d : a - u ≤ a - b = omega arith in
    le_of_suc-le-suc ((div-lt_iff_lt-mul {k = a - b} {x = 1048576 * (a - u)} {y = 1048577} (omega arith)).1 (step (a - u) (a - b) d (omega arith)))
  where
    step : (p q : ℕ) → p ≤ q → 0 < q → 1048576 * p < 1048577 * q
    step p q h l = omega arith

-- ---- of an X that is not negative A is at most 2 ^ 29
middle : C 512 ≡ 2 ^ 30
unfolding cosines
middle = refl

pub half-way : (u k : ℕ) → 2 ^ 30 ≤ u → Between u k → 2 ^ 20 * k + 2 ^ 20 * (C k - u) / (C k - C (suc k)) ≤ 2 ^ 29
half-way u k h b = go (ltb k 512) (ltb→lt k 512) (nltb→le k 512)
  where
    go : (t : Bool) → (T t → k < 512) → (T (not t) → 512 ≤ k) → 2 ^ 20 * k + 2 ^ 20 * (C k - u) / (C k - C (suc k)) ≤ 2 ^ 29
    go true l g = let x = l tt in omega (arith, part-le (C k) (C (suc k)) u b.high b.apart)
    go false l g =
        elim (eq-or-lt_of_le (g tt)) [
          | inl e ↦
              let z : C k ≡ 2 ^ 30 = ap C (sym e) ∙ middle in
              let o : 2 ^ 20 * (C k - u) ≡ 0 = omega arith in
              le_of_eq (ap (λ (x : ℕ). 2 ^ 20 * k + x / (C k - C (suc k))) o ∙ ap (λ (x : ℕ). 2 ^ 20 * k + x) (zero-div (C k - C (suc k))) ∙ omega arith)
          | inr m ↦ absurd (not-le_of_lt (lt_of_le_of_lt (drops-on 513 k m (le_of_lt b.within)) (subst (λ (x : ℕ). C 513 < x) middle (drops 512 (omega arith)))) (le_trans h b.low))
        ]

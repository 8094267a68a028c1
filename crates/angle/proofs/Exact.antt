-- c(k) is nearest to 2^30 times the cosine, of every numbers in which there are such cosines. Assumes nothing.
use Rattle.std.proofs.Common.{◌≡◌, ℕ, zero, suc, ◌+◌, ◌-◌, ◌*◌, ◌^◌, ◌<◌, ◌≤◌, Bool, true, false, cond, not, ◌&&◌, ◌||◌, T, eqb, leb, get_or, sym, refl, ap, ◌∙◌, subst, inl, inr, le_trans, le_of_eq, le_refl, le_of_suc-le-suc, le_of_lt, suc-mul, mul_comm, add-mul, mul-le-mul, suc-add, eq-or-lt_of_le, lt_of_not-le, zero-add, zero-mul, arith, eqb→eq, ltb→lt, leb→le}
use lib.Dec.{nleb→lt}
use lib.Ieee.Fits.{and_l, and_r}
use Rattle.bits.proofs.Bools.{or_split}
use Rattle.angle.specs.Table.{cosines, c}
use Rattle.angle.specs.Cosine.{Numbers, count, Cosines, Near}
use Rattle.angle.proofs.Finer.{partner, total, turned, bound, lo, hi, settled, settles, squares, near, lower-fits, upper_fits, m, lower-near, upper-near, tested, by-partners, c-is}

-- ---- whole numbers
split : (P h : ℕ) → h ≤ P → P * (P - h) + P * h ≡ P * P
split P h l =
    ap (λ (y : ℕ). y + P * h) (mul_comm P (P - h)) ∙ ap (λ (y : ℕ). (P - h) * P + y) (mul_comm P h) ∙ sym (add-mul (P - h) h P)
    ∙ ap (λ (y : ℕ). y * P) (sum P h l)
  where
    sum : (P h : ℕ) → h ≤ P → (P - h) + h ≡ P
    sum P h l = omega arith

split-le : (P h n : ℕ) → n < P * (P - h) → P * (P - h) + P * h ≤ P * P
split-le P h n g =
    le_of_eq (split P h (le_of_suc-le-suc (lt_of_not-le (λ (l : suc P ≤ h).
    let z : P - h ≡ 0 = omega arith in
    none n (P * (P - h)) g (ap (λ (y : ℕ). P * y) z ∙ mul_comm P 0 ∙ zero-mul P)))))
  where
    none : (n a : ℕ) → n < a → a ≡ 0 → ⊥
    none n a g e = omega arith

split-ge : (P b : ℕ) → P * P ≤ P * (P - b) + P * b
split-ge P b =
    le_trans (mul-le-mul (sum P b) (le_refl P))
    (le_of_eq (add-mul (P - b) b P ∙ ap (λ (y : ℕ). y + b * P) (mul_comm (P - b) P) ∙ ap (λ (y : ℕ). P * (P - b) + y) (mul_comm b P)))
  where
    sum : (P b : ℕ) → P ≤ (P - b) + b
    sum P b = omega arith

module _ (F : Numbers) where
  abbrev le : F.R → F.R → Type 0
  le a b = F.under b a → ⊥

  le-under : (a b d : F.R) → le a b → F.under b d → F.under a d
  le-under a b d h l = elim (F.total a b) [
    | inl s ↦ F.trans a b d s l
    | inr r ↦ elim r [
      | inl e ↦ subst (λ (y : F.R). F.under y d) (sym e) l
      | inr s ↦ absurd (h s)
    ]
  ]

  count-plus : (a b : ℕ) → count F (a + b) ≡ F.plus (count F a) (count F b)
  unfolding count
  count-plus zero b = ap (count F) (zero-add b) ∙ sym (F.plus_nought (count F b))
  count-plus (suc a) b = ap (count F) (suc-add a b) ∙ ap (F.plus F.one) (count-plus a b) ∙ sym (F.plus_assoc F.one (count F a) (count F b))

  count-times : (a b : ℕ) → count F (a * b) ≡ F.times (count F a) (count F b)
  unfolding count
  count-times zero b = ap (count F) (zero-mul b) ∙ sym (F.times_nought (count F b))
  count-times (suc a) b =
      ap (count F) (suc-mul a b) ∙ count-plus (a * b) b ∙ F.plus_comm (count F (a * b)) (count F b)
      ∙ ap (λ (y : F.R). F.plus y (count F (a * b))) (sym (F.times_one (count F b)))
      ∙ ap (F.plus (F.times F.one (count F b))) (count-times a b)
      ∙ sym (F.times_plus F.one (count F a) (count F b))

  -- (s y)(s y) is s (s (y y))
  square : (s y : F.R) → F.times (F.times s y) (F.times s y) ≡ F.times s (F.times s (F.times y y))
  square s y =
      F.times_assoc s y (F.times s y)
      ∙ ap (F.times s) (F.times_comm y (F.times s y) ∙ F.times_assoc s y y)

  plus_times : (s a b : F.R) → F.times s (F.plus a b) ≡ F.plus (F.times s a) (F.times s b)
  plus_times s a b = F.times_comm s (F.plus a b) ∙ F.times_plus a b s ∙ ap (λ (y : F.R). F.plus y (F.times b s)) (F.times_comm a s) ∙ ap (F.plus (F.times s a)) (F.times_comm b s)

  -- twice the square of s y is s (s (y y + y y))
  twice-square : (s y : F.R) → F.plus (F.times (F.times s y) (F.times s y)) (F.times (F.times s y) (F.times s y)) ≡ F.times s (F.times s (F.plus (F.times y y) (F.times y y)))
  twice-square s y =
      ap (λ (z : F.R). F.plus z z) (square s y)
      ∙ sym (ap (F.times s) (plus_times s (F.times y y) (F.times y y)) ∙ plus_times s (F.times s (F.times y y)) (F.times s (F.times y y)))

  some : (n : ℕ) → F.under F.nought (count F (suc n))
  unfolding count
  some zero = subst (F.under F.nought) (sym (F.plus_comm F.one F.nought ∙ F.plus_nought F.one)) F.above
  some (suc n) = F.trans F.nought F.one (count F (suc (suc n))) F.above (subst (λ (y : F.R). F.under y (count F (suc (suc n)))) (F.plus_comm F.one F.nought ∙ F.plus_nought F.one) (F.plus_under F.nought (count F (suc n)) F.one (some n)))

  count_under : (a b : ℕ) → a < b → F.under (count F a) (count F b)
  count_under a b h =
      let e : a + suc (b - suc a) ≡ b = omega arith in
      subst (λ (n : ℕ). F.under (count F a) (count F n)) e
      (subst (F.under (count F a)) (sym (count-plus a (suc (b - suc a))))
      (subst (λ (y : F.R). F.under y (F.plus (count F a) (count F (suc (b - suc a))))) (F.plus_comm (count F a) F.nought ∙ F.plus_nought (count F a)) (F.plus_under F.nought (count F (suc (b - suc a))) (count F a) (some (b - suc a)))))

  -- ---- the order of products
  times-le : (s a b : F.R) → F.under F.nought s → le b a → F.under (F.times s a) (F.times s b) → ⊥
  times-le s a b p h l = elim (F.total a b) [
    | inl u ↦ h u
    | inr r ↦ elim r [
      | inl e ↦ F.irrefl (F.times s b) (subst (λ (y : F.R). F.under (F.times s y) (F.times s b)) e l)
      | inr u ↦ F.irrefl (F.times s a) (F.trans (F.times s a) (F.times s b) (F.times s a) l (F.times_under b a s p u))
    ]
  ]

  plus-both : (a b : F.R) → F.under a b → F.under (F.plus a a) (F.plus b b)
  plus-both a b h =
      F.trans (F.plus a a) (F.plus a b) (F.plus b b) (F.plus_under a b a h)
      (subst (λ (y : F.R). F.under y (F.plus b b)) (F.plus_comm b a) (F.plus_under a b b h))

  squares-under : (a b : F.R) → F.under F.nought a → F.under a b → F.under (F.times a a) (F.times b b)
  squares-under a b p h =
      F.trans (F.times a a) (F.times a b) (F.times b b) (F.times_under a b a p h)
      (subst (λ (y : F.R). F.under y (F.times b b)) (F.times_comm b a) (F.times_under a b b (F.trans F.nought a b p h) h))

  double-count : (l : ℕ) → F.plus (F.times (count F l) (count F l)) (F.times (count F l) (count F l)) ≡ count F (l * l + l * l)
  double-count l = sym (count-plus (l * l) (l * l) ∙ ap (λ (y : F.R). F.plus y y) (count-times l l))

  twice : F.R → F.R
  twice y = F.plus (F.times y y) (F.times y y)

  below-count : (X : F.R) (l n : ℕ) → F.under F.nought X → F.under X (count F l) → l * l + l * l < n → F.under (twice X) (count F n)
  unfolding twice
  below-count X l n p h g =
      F.trans (twice X) (count F (l * l + l * l)) (count F n)
      (subst (F.under (twice X)) (double-count l) (plus-both (F.times X X) (F.times (count F l) (count F l)) (squares-under X (count F l) p h)))
      (count_under (l * l + l * l) n g)

  above-count : (X : F.R) (u n : ℕ) → F.under F.nought (count F u) → F.under (count F u) X → n < u * u + u * u → F.under (count F n) (twice X)
  unfolding twice
  above-count X u n p h g =
      F.trans (count F n) (count F (u * u + u * u)) (twice X) (count_under n (u * u + u * u) g)
      (subst (λ (y : F.R). F.under y (twice X)) (double-count u) (plus-both (F.times (count F u) (count F u)) (F.times X X) (squares-under (count F u) X p h)))

  -- ---- up to an eighth of a turn: twice X is S (Y + S)
  module _ (P : ℕ) (some-P : F.under F.nought (count F P)) (X Y : F.R) (p : F.under F.nought X) (e : twice X ≡ F.times (count F P) (F.plus Y (count F P))) where
    plus-le : (a b s : F.R) → le a b → le (F.plus a s) (F.plus b s)
    plus-le a b s h u = elim (F.total a b) [
      | inl v ↦ F.irrefl (F.plus a s) (F.trans (F.plus a s) (F.plus b s) (F.plus a s) (subst (λ (y : F.R). F.under y (F.plus b s)) (F.plus_comm s a) (subst (F.under (F.plus s a)) (F.plus_comm s b) (F.plus_under a b s v))) u)
      | inr r ↦ elim r [
        | inl q ↦ F.irrefl (F.plus b s) (subst (λ (y : F.R). F.under (F.plus b s) (F.plus y s)) q u)
        | inr v ↦ h v
      ]
    ]

    low-1 : (l b : ℕ) → l * l + l * l < P * (b + P) → le (count F b) Y → le (count F l) X
    low-1 l b g h u =
        times-le (count F P) (F.plus Y (count F P)) (F.plus (count F b) (count F P)) some-P (plus-le (count F b) Y (count F P) h)
        (subst (λ (y : F.R). F.under y (F.times (count F P) (F.plus (count F b) (count F P)))) e
        (subst (F.under (twice X)) (count-times P (b + P) ∙ ap (F.times (count F P)) (count-plus b P)) (below-count X l (P * (b + P)) p u g)))

    high-1 : (v b : ℕ) → F.under F.nought (count F v) → P * (b + P) < v * v + v * v → le Y (count F b) → le X (count F v)
    high-1 v b q g h u =
        times-le (count F P) (F.plus (count F b) (count F P)) (F.plus Y (count F P)) some-P (plus-le Y (count F b) (count F P) h)
        (subst (F.under (F.times (count F P) (F.plus (count F b) (count F P)))) e
        (subst (λ (y : F.R). F.under y (twice X)) (count-times P (b + P) ∙ ap (F.times (count F P)) (count-plus b P)) (above-count X v (P * (b + P)) q u g)))

  -- ---- past it: twice X and S Y are S S
  count-le : (a b : ℕ) → a ≤ b → le (count F a) (count F b)
  count-le a b h u = elim (eq-or-lt_of_le h) [
    | inl e ↦ F.irrefl (count F b) (subst (λ (n : ℕ). F.under (count F b) (count F n)) e u)
    | inr l ↦ F.irrefl (count F a) (F.trans (count F a) (count F b) (count F a) (count_under a b l) u)
  ]

  plus-clash : (d a b : F.R) → le b a → F.under (F.plus d a) (F.plus d b) → ⊥
  plus-clash d a b h l = elim (F.total a b) [
    | inl u ↦ h u
    | inr r ↦ elim r [
      | inl e ↦ F.irrefl (F.plus d b) (subst (λ (y : F.R). F.under (F.plus d y) (F.plus d b)) e l)
      | inr u ↦ F.irrefl (F.plus d a) (F.trans (F.plus d a) (F.plus d b) (F.plus d a) l (F.plus_under b a d u))
    ]
  ]

  module _ (P : ℕ) (some-P : F.under F.nought (count F P)) (X Y : F.R) (p : F.under F.nought X) (e : F.plus (twice X) (F.times (count F P) Y) ≡ F.times (count F P) (count F P)) where
    with-count : (d h : ℕ) → count F (d + P * h) ≡ F.plus (count F d) (F.times (count F P) (count F h))
    with-count d h = count-plus d (P * h) ∙ ap (F.plus (count F d)) (count-times P h)

    low-2 : (l d h : ℕ) → l * l + l * l < d → d + P * h ≤ P * P → le Y (count F h) → le (count F l) X
    low-2 l d h g r i u =
        let S = count F P in
        let a : F.under (F.times S S) (F.plus (count F d) (F.times S Y)) =
        subst (λ (y : F.R). F.under y (F.plus (count F d) (F.times S Y))) e
        (subst (λ (y : F.R). F.under y (F.plus (count F d) (F.times S Y))) (F.plus_comm (F.times S Y) (twice X))
        (subst (F.under (F.plus (F.times S Y) (twice X))) (F.plus_comm (F.times S Y) (count F d)) (F.plus_under (twice X) (count F d) (F.times S Y) (below-count X l d p u g)))) in
        let c : le (F.plus (count F d) (F.times S (count F h))) (F.times S S) = subst (λ (y : F.R). le y (F.times S S)) (with-count d h) (subst (le (count F (d + P * h))) (count-times P P) (count-le (d + P * h) (P * P) r)) in
        plus-clash (count F d) (F.times S (count F h)) (F.times S Y) (λ (w : F.under (F.times S (count F h)) (F.times S Y)). times-le S (count F h) Y some-P i w)
        (le-under (F.plus (count F d) (F.times S (count F h))) (F.times S S) (F.plus (count F d) (F.times S Y)) c a)

    high-2 : (v d b : ℕ) → F.under F.nought (count F v) → d < v * v + v * v → P * P ≤ d + P * b → le (count F b) Y → le X (count F v)
    high-2 v d b q g r i u =
        let S = count F P in
        let a : F.under (F.plus (count F d) (F.times S Y)) (F.times S S) =
        subst (F.under (F.plus (count F d) (F.times S Y))) e
        (subst (F.under (F.plus (count F d) (F.times S Y))) (F.plus_comm (F.times S Y) (twice X))
        (subst (λ (y : F.R). F.under y (F.plus (F.times S Y) (twice X))) (F.plus_comm (F.times S Y) (count F d)) (F.plus_under (count F d) (twice X) (F.times S Y) (above-count X v d q u g)))) in
        let c : le (F.times S S) (F.plus (count F d) (F.times S (count F b))) = subst (le (F.times S S)) (with-count d b) (subst (λ (y : F.R). le y (count F (d + P * b))) (count-times P P) (count-le (P * P) (d + P * b) r)) in
        plus-clash (count F d) (F.times S Y) (F.times S (count F b)) (λ (w : F.under (F.times S Y) (F.times S (count F b))). times-le S Y (count F b) some-P i w)
        (under-le (F.plus (count F d) (F.times S Y)) (F.times S S) (F.plus (count F d) (F.times S (count F b))) a c)
      where
        under-le : (a b d : F.R) → F.under a b → le b d → F.under a d
        under-le a b d l h = elim (F.total b d) [
          | inl s ↦ F.trans a b d l s
          | inr r ↦ elim r [
            | inl e ↦ subst (F.under a) e l
            | inr s ↦ absurd (h s)
          ]
        ]

  -- ---- the cosines
  count-zero : count F 0 ≡ F.nought
  unfolding count
  count-zero = refl

  some_of : (n : ℕ) → 0 < n → F.under F.nought (count F n)
  some_of n h = subst (λ (y : F.R). F.under y (count F n)) count-zero (count_under 0 n h)

  halve-low : (L P t : ℕ) → 2 * L + 3 * P < t → L + L < t
  halve-low L P t h = omega arith

  halve-high : (U P t : ℕ) → t + 3 * P < 2 * U → t < U + U
  halve-high U P t h = omega arith

  not-nought : (u n : ℕ) → n < 2 * (u * u) → 0 < u
  not-nought zero n h = absurd (none n (0 * 0) h (zero-mul 0))
    where
      none : (n a : ℕ) → n < 2 * a → a ≡ 0 → ⊥
      none n a h e = omega arith
  not-nought (suc u) n h = omega arith

  module _ (x : ℕ → F.R) (K : Cosines F x) where
    S : F.R
    S = count F (2 ^ 64)

    X : ℕ → F.R
    X k = F.times S (x k)

    some-S : F.under F.nought S
    unfolding S
    some-S = some_of (2 ^ 64) (ltb→lt 0 (2 ^ 64) tt)

    some-X : (k : ℕ) → k < 512 → F.under F.nought (X k)
    unfolding X
    some-X k h = subst (λ (y : F.R). F.under y (X k)) (F.times_comm S F.nought ∙ F.times_nought S) (F.times_under F.nought (x k) S some-S (K.positive k h))

    by_one : F.times S F.one ≡ S
    by_one = F.times_comm S F.one ∙ F.times_one S

    near-way : (k : ℕ) → k ≤ 256 → twice (X k) ≡ F.times S (F.plus (X (2 * k)) S)
    unfolding X twice
    near-way k h = twice-square S (x k) ∙ ap (F.times S) (ap (F.times S) (K.double k h) ∙ plus_times S (x (2 * k)) F.one ∙ ap (F.plus (F.times S (x (2 * k)))) by_one)

    far-way : (k : ℕ) → 256 < k → k ≤ 512 → F.plus (twice (X k)) (F.times S (X (1024 - 2 * k))) ≡ F.times S S
    unfolding X twice
    far-way k h g =
        let q = F.plus (F.times (x k) (x k)) (F.times (x k) (x k)) in
        let y = x (1024 - 2 * k) in
        ap (λ (z : F.R). F.plus z (F.times S (F.times S y))) (twice-square S (x k))
        ∙ sym (plus_times S (F.times S q) (F.times S y))
        ∙ ap (F.times S) (sym (plus_times S q y) ∙ ap (F.times S) (K.beyond k h g) ∙ by_one)

    Held : ℕ → Type 0
    Held k = le (count F (lo k)) (X k) × le (X k) (count F (hi k))

    held-settled : (k : ℕ) → T (settled k) → Held k
    unfolding Held X S settled bound cosines
    held-settled k t = elim (or_split (eqb k 0) (eqb k 512) t) [
      | inl e ↦ subst Held (sym (eqb→eq k 0 e))
          (subst (λ (y : F.R). le (count F (lo 0)) y × le y (count F (hi 0))) (sym (ap (F.times S) K.first ∙ by_one)) (count-le (lo 0) (2 ^ 64) (leb→le (lo 0) (2 ^ 64) tt), count-le (2 ^ 64) (hi 0) (leb→le (2 ^ 64) (hi 0) tt)))
      | inr e ↦ subst Held (sym (eqb→eq k 512 e))
          (subst (λ (y : F.R). le (count F (lo 512)) y × le y (count F (hi 512))) (sym (ap (F.times S) K.quarter ∙ F.times_comm S F.nought ∙ F.times_nought S ∙ sym count-zero)) (count-le (lo 512) 0 (leb→le (lo 512) 0 tt), count-le 0 (hi 512) (leb→le 0 (hi 512) tt)))
    ]

    held-step : (k : ℕ) → k < 512 → T (squares k) → Held (partner k) → Held k
    unfolding squares Held S
    held-step k h t i =
        go (leb k 256) (leb→le k 256) (nleb→lt k 256)
        (ltb→lt (2 * (lo k * lo k) + 3 * 2 ^ 64) (2 ^ 64 * total (2 ^ 64) k (bound 9 (turned false k) (partner k))) (and_l (lower-fits k) (upper_fits k) t))
        (ltb→lt (2 ^ 64 * total (2 ^ 64) k (bound 9 (turned true k) (partner k)) + 3 * 2 ^ 64) (2 * (hi k * hi k)) (and_r (lower-fits k) (upper_fits k) t)) i
      where
        go : (t : Bool) → (T t → k ≤ 256) → (T (not t) → 256 < k)
            → 2 * (lo k * lo k) + 3 * 2 ^ 64 < 2 ^ 64 * cond t (bound 9 (cond t false true) (cond t (2 * k) (1024 - 2 * k)) + 2 ^ 64) (2 ^ 64 - bound 9 (cond t false true) (cond t (2 * k) (1024 - 2 * k)))
            → 2 ^ 64 * cond t (bound 9 (cond t true false) (cond t (2 * k) (1024 - 2 * k)) + 2 ^ 64) (2 ^ 64 - bound 9 (cond t true false) (cond t (2 * k) (1024 - 2 * k))) + 3 * 2 ^ 64 < 2 * (hi k * hi k)
            → Held (cond t (2 * k) (1024 - 2 * k)) → Held k
        go true f g a b i =
            let P = 2 ^ 64 in
            let p = 2 * k in (
              low-1 P some-S (X k) (X p) (some-X k h) (near-way k (f tt)) (lo k) (lo p) (halve-low (lo k * lo k) P (P * (lo p + P)) a) i.0,
              high-1 P some-S (X k) (X p) (some-X k h) (near-way k (f tt)) (hi k) (hi p) (some_of (hi k) (not-nought (hi k) (P * (hi p + P) + 3 * P) b)) (halve-high (hi k * hi k) P (P * (hi p + P)) b) i.1,
            )
        go false f g a b i =
            let P = 2 ^ 64 in
            let p = 1024 - 2 * k in
            let e = far-way k (g tt) (le_of_lt h) in
            let a' = halve-low (lo k * lo k) P (P * (P - hi p)) a in (
              low-2 P some-S (X k) (X p) (some-X k h) e (lo k) (P * (P - hi p)) (hi p) a' (split-le P (hi p) (lo k * lo k + lo k * lo k) a') i.1,
              high-2 P some-S (X k) (X p) (some-X k h) e (hi k) (P * (P - lo p)) (lo p) (some_of (hi k) (not-nought (hi k) (P * (P - lo p) + 3 * P) b)) (halve-high (hi k * hi k) P (P * (P - lo p)) b) (split-ge P (lo p)) i.0,
            )

    at-partner : (k : ℕ) → k ≤ 512 → T (squares k) → Held (partner k) → Held k
    unfolding settled
    at-partner k h q i = elim (eq-or-lt_of_le h) [
      | inl e ↦ subst Held (sym e) (held-settled 512 tt)
      | inr l ↦ held-step k l q i
    ]

    held : (j k : ℕ) → k ≤ 512 → T (settles j k) → Held k
    held = by-partners Held held-settled at-partner

    -- 2^30 times the cosine, here both times 2^34, lies less than a half from c(k)
    pub nearest : (k : ℕ) → k ≤ 512 → Near F (x k) (c k)
    unfolding Held near X S Near
    nearest k h =
        let t = tested k h in
        let i = held 9 k h (and_l (settles 9 k) (settled k || squares k) (and_l (settles 9 k && (settled k || squares k)) (near k) t)) in
        let n = and_r (settles 9 k && (settled k || squares k)) (near k) t in
        let q = and_l (leb (2 ^ 30) (get_or cosines k 0) && lower-near k) (upper-near k) n in
        let b = ltb→lt (2 ^ 34 * m k) (lo k + 2 ^ 33) (and_r (leb (2 ^ 30) (get_or cosines k 0)) (lower-near k) q) in
        let u = ltb→lt (hi k) (2 ^ 34 * m k + 2 ^ 33) (and_r (leb (2 ^ 30) (get_or cosines k 0) && lower-near k) (upper-near k) n) in (
          m k,
          c-is k (leb→le (2 ^ 30) (get_or cosines k 0) (and_l (leb (2 ^ 30) (get_or cosines k 0)) (lower-near k) q)),
          le-under (X k) (count F (hi k)) (count F (2 ^ 34 * m k + 2 ^ 33)) i.1 (count_under (hi k) (2 ^ 34 * m k + 2 ^ 33) u),
          under-lower (count F (2 ^ 34 * m k)) (lo k) (X k) (count_under (2 ^ 34 * m k) (lo k + 2 ^ 33) b) i.0,
        )
      where
        under-lower : (a : F.R) (l : ℕ) (y : F.R) → F.under a (count F (l + 2 ^ 33)) → le (count F l) y → F.under a (F.plus y (count F (2 ^ 33)))
        under-lower a l y g h =
            let s = count F (2 ^ 33) in
            let g' = subst (F.under a) (count-plus l (2 ^ 33)) g in
            elim (F.total (count F l) y) [
              | inl v ↦ F.trans a (F.plus (count F l) s) (F.plus y s) g' (subst (λ (z : F.R). F.under z (F.plus y s)) (F.plus_comm s (count F l)) (subst (F.under (F.plus s (count F l))) (F.plus_comm s y) (F.plus_under (count F l) y s v)))
              | inr r ↦ elim r [
                | inl e ↦ subst (λ (z : F.R). F.under a (F.plus z s)) e g'
                | inr v ↦ absurd (h v)
              ]
            ]

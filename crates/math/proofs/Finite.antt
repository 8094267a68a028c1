-- A held vector brought to unit length is finite: where a component is 1 or more, so are the squared length and the root, and 1 over it is at most 1; where it is at most 1, it is a factor that keeps 1 over the root finite.
-- Assumes nothing.
use mathlib.Core.Path.{◌≡◌, refl, sym, ap, ◌∙◌, subst}
use mathlib.Core.Logic.{◌⊎◌, inl, inr}
use mathlib.Core.Bool.{Bool, true, false, not, cond, ◌||◌, true≢false, false≢true}
use Prim.Native.Nat.{ℕ, zero, suc, ◌+◌, ◌*◌, ◌^◌, ◌≤◌, ◌<◌}
use native.Mathlib.Nat.{le_trans, le_of_eq, lt_of_lt_of_le, lt_irrefl, zero-lt-suc, zero-mul, mul-pos, mul_assoc, mul_comm, mul-le-mul, mul-le-mul_right, mul-mul-mul_comm, le_of_mul-le-mul_right}
use native.Mathlib.Omega.{arith}
use lib.IntN.{ℤ, negsuc}
use lib.Dec.{T, leb, eqb, leb→le, nleb→lt, lit≤}
use lib.Pow.{pow_pos}
use borrow.Author.Tests.{ne_eqb}
use lib.Ieee.{Float, nan, inf, fin, binary32, up, down, round, unlike, mul, div, eq, le, fits, of_bits}
use lib.Ieee.Fits.{up_pos, down_pos, add-fits, div-fits}
use lib.Ieee.Exact.{HasValue}
use lib.Ieee.Scale.{finite}
use Rattle.bits.specs.Word.{is_finite}
use Rattle.bits.specs.Single.{◌+ᶠ◌, ◌*ᶠ◌, ◌/ᶠ◌, zeroᶠ, oneᶠ}
use Rattle.bits.proofs.Zeros.{Side, zeros, side, zero_bits}
use Rattle.root.specs.Root.{sqrt}
use Rattle.root.specs.Nearest.{Units, Nearest}
use Rattle.root.proofs.Nearest.{read, nearest}
use Rattle.root.proofs.Patterns.{finer}
use Rattle.math.specs.declared.Vec3.{Vec3}
use Rattle.std.specs.Prelude.{None, Some}
use Rattle.math.specs.Vector.{origin, scaled_by, dot, length_of, counts, spans, points, direction, or_zero, unit_of}
use Rattle.math.specs.Held.{HeldVec}
use Rattle.math.specs.Finite.{FiniteVec}
use Rattle.math.proofs.Rounds.{rounds-finite, times-small, small_times, one, Plus, over-says, most-says, rounds-most, round_up, root-of-square, square-plus, square-over, sum_left, sum-right, sum-plus, sum-over-left, sum-over-right}

-- ---- the root of what is at least a square is at least that square's root

root_over : (n p r : ℕ) → Nearest n p → (y : Float) → Units y r → r * r ≤ n → r ≤ p
root_over n p r N y U h = go (leb r p) (leb→le r p) (nleb→lt r p)
  where
    clash : (n a b c : ℕ) → 4 * n < a → a ≤ b → b ≡ 4 * c → c ≤ n → ⊥
    clash n a b c g k e l = omega arith

    go : (b : Bool) → (T b → r ≤ p) → (T (not b) → p < r) → r ≤ p
    go true l g = l tt
    go false l g =
        let k = g tt in
        let w : p + r ≤ 2 * r = omega arith in
        absurd (clash n ((p + r) * (p + r)) ((2 * r) * (2 * r)) (r * r) (N.above y r U k) (mul-le-mul w w) (mul-mul-mul_comm 2 r 2 r) h)

-- 2 ^ -75
abbrev little : Float
little = fin false 1 (negsuc 74)

little-units : Units little (2 ^ 74)
unfolding fits
little-units = (tt, (refl, refl))

one-units : Units one (2 ^ 149)
unfolding fits
one-units = (tt, (refl, refl))

-- what is known of the root l of a squared length q
pub record Root (q l : Float) : Type 0 where
  pub n : ℕ
  pub p : ℕ
  pub squared : HasValue q false n (2 ^ 298)
  pub rooted : HasValue l false p (2 ^ 149)
  pub some : 2 ^ 149 ≤ n
  pub near : Nearest n p

rooted-of : (m : ℕ) (e : ℤ) → T (fits binary32 (fin false (suc m) e)) → Root (fin false (suc m) e) (sqrt (fin false (suc m) e))
rooted-of m e f =
    let q = fin false (suc m) e in
    let r = read q (suc m * up e) (down e) f (mul-pos (zero-lt-suc m) (up_pos e)) (refl, refl) in
    let a = r.0 * 2 ^ r.1 in
    let A : 0 < a = mul-pos r.2.some (pow_pos r.1) in
    let v = finer q a r.2.value in
    let N = nearest q (a * 2 ^ 149) f (mul-pos A (pow_pos 149)) v in
    record { n = a * 2 ^ 149; p = N.p; squared = v; rooted = N.units.1; some = once a (2 ^ 149) A; near = N.nearest }
  where
    once : (a u : ℕ) → 0 < a → u ≤ a * u
    once (suc a) u h = omega arith
    once zero u h = absurd (lt_irrefl 0 h)

one-over : (n : ℕ) (d : ℤ) → div binary32 one (fin false (suc n) d) ≡ round binary32 false (1 * 1 * down d) (suc n * up d * 1)
unfolding div
one-over n d =
    ap (λ (b : Bool). cond b (cond (eqb 1 0) nan (inf (unlike false false))) (round binary32 false (1 * 1 * down d) (suc n * up d * 1))) (ne_eqb (suc n) 0 (λ (e : suc n ≡ 0). some n e))
  where
    some : (n : ℕ) → suc n ≡ 0 → ⊥
    some n e = omega arith

-- 1 over a root l = p units of 2 ^ -149 with p at least 2 ^ 74 is finite, and with p at least 2 ^ 149 its size is at most 1
over_root : (l : Float) (p : ℕ) → HasValue l false p (2 ^ 149) → 2 ^ 74 ≤ p → Plus (div binary32 one l) × (2 ^ 149 ≤ p → T (le (div binary32 one l) one))
over_root nan p v h = absurd v
over_root (inf s) p v h = absurd v
over_root (fin true n d) p v h = absurd (true≢false v.0)
over_root (fin false zero d) p v h = absurd (none (up d) (down d) p (down_pos d) v.1 h)
  where
    none : (a c p : ℕ) → 0 < c → 0 * a * 2 ^ 149 ≡ p * c → 2 ^ 74 ≤ p → ⊥
    none a c p C e h =
        let k : 0 < p * c = mul-pos (lt_of_lt_of_le (pow_pos 74) h) C in
        no (0 * a * 2 ^ 149) (p * c) k e (nought a)
      where
        nought : (a : ℕ) → 0 * a * 2 ^ 149 ≡ 0
        nought a = ap (λ (z : ℕ). z * 2 ^ 149) (zero-mul a) ∙ zero-mul (2 ^ 149)

        no : (x y : ℕ) → 0 < y → x ≡ y → x ≡ 0 → ⊥
        no x y k e z = omega arith
over_root (fin false (suc n) d) p v h =
    let a = suc n * up d in
    let c = down d in
    let A : 0 < a * 1 = first a (mul-pos (zero-lt-suc n) (up_pos d)) in
    subst (λ (k : Float). Plus k × (2 ^ 149 ≤ p → T (le k one))) (sym (one-over n d)) (
      (round_up binary32 (1 * 1 * c) (a * 1), rounds-finite binary32 false (1 * 1 * c) (a * 1) (2 ^ 75) 1 A (zero-lt-suc 0) (little-enough a c p v.1 h) large),
      λ (k : 2 ^ 149 ≤ p). rounds-most (1 * 1 * c) (a * 1) A (one-enough a c p v.1 k),
    )
  where
    large : T (finite (round binary32 false (2 ^ 75) 1))
    large = unfold round in tt

    first : (a : ℕ) → 0 < a → 0 < a * 1
    first a h = omega arith

    one-enough : (a c p : ℕ) → a * 2 ^ 149 ≡ p * c → 2 ^ 149 ≤ p → 1 * 1 * c ≤ a * 1
    one-enough a c p e h =
        let k : c * 2 ^ 149 ≤ a * 2 ^ 149 = le_trans (le_of_eq (mul_comm c (2 ^ 149))) (le_trans (mul-le-mul_right c h) (le_of_eq (sym e))) in
        let g : c ≤ a = le_of_mul-le-mul_right k (pow_pos 149) in
        omega arith

    little-enough : (a c p : ℕ) → a * 2 ^ 149 ≡ p * c → 2 ^ 74 ≤ p → 1 * 1 * c * 1 ≤ 2 ^ 75 * (a * 1)
    little-enough a c p e h =
        let k : c * 2 ^ 74 ≤ a * 2 ^ 149 = le_trans (le_of_eq (mul_comm c (2 ^ 74))) (le_trans (mul-le-mul_right c h) (le_of_eq (sym e))) in
        let j : a * 2 ^ 149 ≡ a * 2 ^ 75 * 2 ^ 74 = sym (mul_assoc a (2 ^ 75) (2 ^ 74)) in
        let g : c ≤ a * 2 ^ 75 = le_of_mul-le-mul_right (le_trans k (le_of_eq j)) (pow_pos 74) in
        last a c (2 ^ 75) (le_trans g (le_of_eq (mul_comm a (2 ^ 75))))
      where
        last : (a c u : ℕ) → c ≤ u * a → 1 * 1 * c * 1 ≤ u * (a * 1)
        last a c u h = le_trans (le_of_eq (plain c)) (le_trans h (le_of_eq (ap (λ (z : ℕ). u * z) (same a))))
          where
            plain : (c : ℕ) → 1 * 1 * c * 1 ≡ c
            plain c = omega arith

            same : (a : ℕ) → a ≡ a * 1
            same a = omega arith

-- ---- one component

-- the inverse k of the root of q
module _ (q k : Float) (K : Plus k) (held : T (fits binary32 k)) (small : T (le one q) → T (le k one)) where
  component : (x : Float) → T (finite x) → T (fits binary32 x) → (T (le one (mul binary32 x x)) → T (le one q)) → T (finite (mul binary32 k x))
  component x F f through = go k K held small x F f through
    where
      split : (a b : ℕ) → (a ≤ b) ⊎ (b ≤ a)
      split a b = pick (leb a b) (leb→le a b) (nleb→lt a b)
        where
          pick : (t : Bool) → (T t → a ≤ b) → (T (not t) → b < a) → (a ≤ b) ⊎ (b ≤ a)
          pick true l g = inl (l tt)
          pick false l g = let h = g tt in inr (omega arith)

      go : (k : Float) → Plus k → T (fits binary32 k) → (T (le one q) → T (le k one)) → (x : Float) → T (finite x) → T (fits binary32 x) → (T (le one (mul binary32 x x)) → T (le one q)) → T (finite (mul binary32 k x))
      go nan K h s x F f t = absurd K.1
      go (inf b) K h s x F f t = absurd K.1
      go (fin true m e) K h s x F f t = absurd (true≢false K.0)
      go (fin false m e) K h s nan F f t = absurd F
      go (fin false m e) K h s (inf b) F f t = absurd F
      go (fin false m e) K h s (fin b n d) F f t = elim (split (n * up d) (down d)) [
        | inl l ↦ times-small false m e b n d h l
        | inr l ↦ small_times false m e b n d (most-says m e (s (t (square-over b n d l)))) f
      ]

-- ---- the vector

told : (x : Float) → T (finite x) → T (is_finite x)
unfolding is_finite
told nan h = h
told (inf s) h = h
told (fin s m e) h = tt

one-bits : oneᶠ ≡ one
unfolding of_bits
one-bits = refl

unscaled : (q v : Float) → T (finite (mul binary32 (div binary32 one (sqrt q)) v)) → T (is_finite (mul binary32 (div binary32 oneᶠ (sqrt q)) v))
unscaled q v h = subst (λ (i : Float). T (is_finite (mul binary32 (div binary32 i (sqrt q)) v))) (sym one-bits) (told (mul binary32 (div binary32 one (sqrt q)) v) h)

-- a squared length that spans: finite, and not zero
pub spans-says : (q : Float) → spans q ≡ true → T (finite q) × (eq q zeroᶠ ≡ false)
unfolding spans is_finite
spans-says q h = go q (eq q zeroᶠ) refl h
  where
    go : (q : Float) (b : Bool) → eq q zeroᶠ ≡ b → cond b false (is_finite q) ≡ true → T (finite q) × (eq q zeroᶠ ≡ false)
    go q true e h = absurd (false≢true h)
    go nan false e h = absurd (false≢true h)
    go (inf s) false e h = absurd (false≢true h)
    go (fin s m d) false e h = (tt, e)

pub zero-equal : {s : Bool} {e : ℤ} {l q g : Bool} → Side (fin s zero e) l q g → q ≡ true
zero-equal (zeros s e) = refl

module _ (u : Vec3) (H : HeldVec u) where
  -- the inverse of the length, where the squared length spans
  inverse : (q : Float) → T (fits binary32 q) → Plus q → eq q zeroᶠ ≡ false → Plus (div binary32 one (sqrt q)) × (T (le one q) → T (le (div binary32 one (sqrt q)) one))
  inverse nan f P z = absurd P.1
  inverse (inf s) f P z = absurd P.1
  inverse (fin true m e) f P z = absurd (true≢false P.0)
  inverse (fin false zero e) f P z = absurd (true≢false (sym (zero-equal (side (fin false zero e))) ∙ ap (eq (fin false zero e)) (sym zero_bits) ∙ z))
  inverse (fin false (suc m) e) f P z =
      let R = rooted-of m e f in
      let I = over_root (sqrt (fin false (suc m) e)) R.p R.rooted (root_over R.n R.p (2 ^ 74) R.near little little-units (le_trans (lit≤ {m = 2 ^ 74 * 2 ^ 74} {n = 2 ^ 149} tt) R.some)) in
      (I.0, λ (h : T (le one (fin false (suc m) e))). I.1 (root_over R.n R.p (2 ^ 149) R.near one one-units (enough (suc m * up e) (down e) R.n (down_pos e) R.squared.1 (over-says (suc m) e h))))
    where
      enough : (a c n : ℕ) → 0 < c → a * 2 ^ 298 ≡ n * c → c ≤ a → 2 ^ 149 * 2 ^ 149 ≤ n
      enough a c n C e h = le_of_mul-le-mul_right (le_trans (le_of_eq (mul_comm (2 ^ 298) c)) (le_trans (mul-le-mul_right (2 ^ 298) h) (le_of_eq e))) C

  scaled-finite : T (finite (dot u u)) → eq (dot u u) zeroᶠ ≡ false → FiniteVec (scaled_by u (oneᶠ /ᶠ length_of u))
  unfolding dot scaled_by length_of
  scaled-finite F z =
      let x = u.x in
      let y = u.y in
      let w = u.z in
      let xy = x *ᶠ x +ᶠ y *ᶠ y in
      let q = xy +ᶠ w *ᶠ w in
      let Fxy : T (finite xy) = sum_left xy (w *ᶠ w) F in
      let Fz : T (finite (w *ᶠ w)) = sum-right xy (w *ᶠ w) F in
      let Fx : T (finite (x *ᶠ x)) = sum_left (x *ᶠ x) (y *ᶠ y) Fxy in
      let Fy : T (finite (y *ᶠ y)) = sum-right (x *ᶠ x) (y *ᶠ y) Fxy in
      let Px = square-plus x Fx in
      let Py = square-plus y Fy in
      let Pz = square-plus w Fz in
      let Pxy = sum-plus (x *ᶠ x) (y *ᶠ y) Px Py Fxy in
      let Pq = sum-plus xy (w *ᶠ w) Pxy Pz F in
      let I = inverse q (add-fits binary32 xy (w *ᶠ w)) Pq z in
      let k = div binary32 one (sqrt q) in
      let C = component q k I.0 (div-fits binary32 one (sqrt q)) I.1 in
      record {
        x_finite = unscaled q x (C x (root-of-square x Fx) H.x_held (λ h. sum-over-left xy (w *ᶠ w) Pxy Pz (sum-over-left (x *ᶠ x) (y *ᶠ y) Px Py h)));
        y_finite = unscaled q y (C y (root-of-square y Fy) H.y_held (λ h. sum-over-left xy (w *ᶠ w) Pxy Pz (sum-over-right (x *ᶠ x) (y *ᶠ y) Px Py h)));
        z_finite = unscaled q w (C w (root-of-square w Fz) H.z_held (λ h. sum-over-right xy (w *ᶠ w) Pxy Pz h));
      }

  pub unit-finite : FiniteVec (unit_of u)
  unfolding unit_of direction or_zero
  unit-finite = go (points u) refl
    where
      nothing : FiniteVec origin
      nothing = unfold is_finite of_bits in record { x_finite = tt; y_finite = tt; z_finite = tt }

      spanned : (b : Bool) → cond b (spans (dot u u)) false ≡ true → spans (dot u u) ≡ true
      spanned true e = e
      spanned false e = absurd (false≢true e)

      go : (b : Bool) → points u ≡ b → FiniteVec (or_zero (cond b (Some (scaled_by u (oneᶠ /ᶠ length_of u))) None))
      go true e = let s = spans-says (dot u u) (spanned (counts u.x || counts u.y || counts u.z) (unfold points in e)) in scaled-finite s.0 s.1
      go false e = nothing

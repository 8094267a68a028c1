-- A regular hull covers all that it took in, and its bound is not above the dot product of any two vectors that it covers. Assumes nothing.
use mathlib.Core.Path.{◌≡◌, refl}
use mathlib.Core.Bool.{Bool, true, false, ◌&&◌, cond}
use Prim.Native.Nat.{ℕ, ◌+◌, ◌*◌}
use native.Mathlib.Nat.{le_refl}
use lib.Dec.{T}
use lib.Ieee.{Float, nan, inf, fin, binary32, of_bits, neg, up, down, mul, lt, eq, le}
use lib.Ieee.Scale.{finite}
use Rattle.bits.proofs.Bools.{T-is, and_left, and_right, or_l}
use Rattle.math.specs.declared.Vec3.{Vec3}
use Rattle.math.specs.Vector.{dot}
use Rattle.hulls.specs.declared.Hull.{Hull}
use Rattle.hulls.specs.Hull.{lesser, greater, lowest, bound, twoᶠ, minus_twoᶠ, widened, regular, above}
use Rattle.hulls.proofs.Signed.{Ord, ord→le, le-through}
use Rattle.hulls.proofs.Sums.{Over, over-le, over-lt, add-over}
use Rattle.hulls.proofs.Products.{finite-between, lowest-le}

-- ---- one number

level : (s : Bool) (a : ℕ) → Ord s a s a
level false a = le_refl (a + 0)
level true a = le_refl (0 + a)

self-l : (x y : Float) → T (le x y) → T (le x x)
unfolding le
self-l nan y h = absurd h
self-l (inf true) y h = tt
self-l (inf false) y h = tt
self-l (fin s m e) y h = ord→le s m e s m e (level s (m * up e * down e))

no-nan-r : (c : Float) → T (le c nan) → ⊥
unfolding le
no-nan-r nan t = t
no-nan-r (inf true) t = t
no-nan-r (inf false) t = t
no-nan-r (fin s m e) t = t

self-r : (x y : Float) → T (le x y) → T (le y y)
self-r x nan h = absurd (no-nan-r x h)
self-r x (inf true) h = unfold le in tt
self-r x (inf false) h = unfold le in tt
self-r x (fin t n d) h = ord→le t n d t n d (level t (n * up d * down d))

lt→le : (x y : Float) → T (lt x y) → T (le x y)
unfolding le
lt→le x y h = or_l (lt x y) (eq x y) h

no-nan-l : (c : Float) → T (le nan c) → ⊥
unfolding le
no-nan-l c t = t

lesser-law : (c a x : Float) → T (le c (lesser a x)) → T (le (lesser a x) a) × T (le (lesser a x) x)
unfolding lesser
lesser-law c a x h = go (le a x) refl (lt x a) refl h
  where
    go : (p : Bool) → le a x ≡ p → (q : Bool) → lt x a ≡ q → T (le c (cond p a (cond q x nan))) → T (le (cond p a (cond q x nan)) a) × T (le (cond p a (cond q x nan)) x)
    go true e q g k = (self-l a x (T-is e), T-is e)
    go false e true g k = (lt→le x a (T-is g), self-r c x k)
    go false e false g k = absurd (no-nan-r c k)

greater-law : (c a x : Float) → T (le (greater a x) c) → T (le a (greater a x)) × T (le x (greater a x))
unfolding greater
greater-law c a x h = go (le x a) refl (lt a x) refl h
  where
    go : (p : Bool) → le x a ≡ p → (q : Bool) → lt a x ≡ q → T (le (cond p a (cond q x nan)) c) → T (le a (cond p a (cond q x nan))) × T (le x (cond p a (cond q x nan)))
    go true e q g k = (self-r x a (T-is e), T-is e)
    go false e true g k = (lt→le a x (T-is g), self-l x c k)
    go false e false g k = absurd (no-nan-l c k)

-- ---- vectors

-- each component of u is at most that of v
pub record Under (u v : Vec3) : Type 0 where
  pub x : T (le u.x v.x)
  pub y : T (le u.y v.y)
  pub z : T (le u.z v.z)

pub under-trans : (u v w : Vec3) → Under u v → Under v w → Under u w
under-trans u v w p q = record { x = le-through u.x v.x w.x p.x q.x; y = le-through u.y v.y w.y p.y q.y; z = le-through u.z v.z w.z p.z q.z }

-- v is in the hull
pub record Covers (h : Hull) (v : Vec3) : Type 0 where
  pub lo : Under h.lo v
  pub hi : Under v h.hi

-- k is as wide as h, or wider
pub record Wider (h k : Hull) : Type 0 where
  pub lo : Under k.lo h.lo
  pub hi : Under h.hi k.hi

pub wider-covers : (h k : Hull) (v : Vec3) → Wider h k → Covers h v → Covers k v
wider-covers h k v W C = record { lo = under-trans k.lo h.lo v W.lo C.lo; hi = under-trans v h.hi k.hi C.hi W.hi }

-- ---- regular hulls

pub record Regular (h : Hull) : Type 0 where
  pub lx : T (le minus_twoᶠ h.lo.x)
  pub ly : T (le minus_twoᶠ h.lo.y)
  pub lz : T (le minus_twoᶠ h.lo.z)
  pub hx : T (le h.hi.x twoᶠ)
  pub hy : T (le h.hi.y twoᶠ)
  pub hz : T (le h.hi.z twoᶠ)

pub regular-is : (h : Hull) → regular h ≡ true → Regular h
unfolding regular
regular-is h e = go (le minus_twoᶠ h.lo.x) (le minus_twoᶠ h.lo.y) (le minus_twoᶠ h.lo.z) (le h.hi.x twoᶠ) (le h.hi.y twoᶠ) (le h.hi.z twoᶠ) e (λ a b c d f g. record { lx = a; ly = b; lz = c; hx = d; hy = f; hz = g })
  where
    go : (a b c d f g : Bool) → (a && b && c && d && f && g) ≡ true → (T a → T b → T c → T d → T f → T g → Regular h) → Regular h
    go a b c d f g e k =
        let e5 = and_left (a && b && c && d && f) g e in
        let e4 = and_left (a && b && c && d) f e5 in
        let e3 = and_left (a && b && c) d e4 in
        let e2 = and_left (a && b) c e3 in
        k (T-is (and_left a b e2)) (T-is (and_right a b e2)) (T-is (and_right (a && b) c e3)) (T-is (and_right (a && b && c) d e4)) (T-is (and_right (a && b && c && d) f e5)) (T-is (and_right (a && b && c && d && f) g e))

-- one narrower is regular too
pub wider-regular : (h k : Hull) → Wider h k → Regular k → Regular h
wider-regular h k W R =
    record {
      lx = le-through minus_twoᶠ k.lo.x h.lo.x R.lx W.lo.x;
      ly = le-through minus_twoᶠ k.lo.y h.lo.y R.ly W.lo.y;
      lz = le-through minus_twoᶠ k.lo.z h.lo.z R.lz W.lo.z;
      hx = le-through h.hi.x k.hi.x twoᶠ W.hi.x R.hx;
      hy = le-through h.hi.y k.hi.y twoᶠ W.hi.y R.hy;
      hz = le-through h.hi.z k.hi.z twoᶠ W.hi.z R.hz;
    }

pub widened-law : (h : Hull) (v : Vec3) → Regular (widened h v) → Wider h (widened h v) × Covers (widened h v) v
unfolding widened
widened-law h v R =
    let a = lesser-law minus_twoᶠ h.lo.x v.x R.lx in
    let b = lesser-law minus_twoᶠ h.lo.y v.y R.ly in
    let c = lesser-law minus_twoᶠ h.lo.z v.z R.lz in
    let d = greater-law twoᶠ h.hi.x v.x R.hx in
    let e = greater-law twoᶠ h.hi.y v.y R.hy in
    let f = greater-law twoᶠ h.hi.z v.z R.hz in
    (record { lo = record { x = a.0; y = b.0; z = c.0 }; hi = record { x = d.0; y = e.0; z = f.0 } }, record { lo = record { x = a.1; y = b.1; z = c.1 }; hi = record { x = d.1; y = e.1; z = f.1 } })

-- ---- the bound

two-finite : T (finite twoᶠ)
unfolding of_bits
two-finite = tt

minus-two-finite : T (finite minus_twoᶠ)
unfolding of_bits neg
minus-two-finite = tt

-- the products of one component
product : (lo hi a b : Float) → T (le minus_twoᶠ lo) → T (le hi twoᶠ) → T (le lo a) → T (le a hi) → T (le lo b) → T (le b hi) → Over (lowest lo hi) (mul binary32 a b)
product lo hi a b L H la ah lb bh =
    let m : T (le lo hi) = le-through lo a hi la ah in
    let fl : T (finite lo) = finite-between minus_twoᶠ lo twoᶠ minus-two-finite two-finite L (le-through lo hi twoᶠ m H) in
    let fh : T (finite hi) = finite-between minus_twoᶠ hi twoᶠ minus-two-finite two-finite (le-through minus_twoᶠ lo hi L m) H in
    over-le (lowest lo hi) (mul binary32 a b) (lowest-le lo hi a b fl fh la ah lb bh)

pub bound-over : (h : Hull) (u v : Vec3) → Regular h → Covers h u → Covers h v → Over (bound h.lo h.hi) (dot u v)
unfolding bound dot
bound-over h u v R C D =
    add-over binary32 _ _ _ _
    (add-over binary32 _ _ _ _
    (product h.lo.x h.hi.x u.x v.x R.lx R.hx C.lo.x C.hi.x D.lo.x D.hi.x)
    (product h.lo.y h.hi.y u.y v.y R.ly R.hy C.lo.y C.hi.y D.lo.y D.hi.y))
    (product h.lo.z h.hi.z u.z v.z R.lz R.hz C.lo.z C.hi.z D.lo.z D.hi.z)

is_true : (b : Bool) → T b → b ≡ true
is_true true t = refl
is_true false t = absurd t

-- what the test of a hull says of any two vectors in it
pub above-law : (h : Hull) (t : Float) (u v : Vec3) → above h t ≡ true → Covers h u → Covers h v → lt t (dot u v) ≡ true
unfolding above
above-law h t u v e C D =
    let R = regular-is h (and_left (regular h) (lt t (bound h.lo h.hi)) e) in
    is_true (lt t (dot u v)) (over-lt t (bound h.lo h.hi) (dot u v) (bound-over h u v R C D) (T-is (and_right (regular h) (lt t (bound h.lo h.hi)) e)))

pub above-regular : (h : Hull) (t : Float) → above h t ≡ true → Regular h
unfolding above
above-regular h t e = regular-is h (and_left (regular h) (lt t (bound h.lo h.hi)) e)

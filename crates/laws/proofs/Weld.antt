-- Two corners are welded to the same corner exactly when they have the same bits; then they have one normal. Assumes nothing.
use mathlib.Core.Path.{◌≡◌, refl, ◌∙◌, ap, subst}
use mathlib.Core.Bool.{Bool, true, ◌&&◌}
use mathlib.Core.List.{List, [], ◌∷◌}
use mathlib.Core.Option.{Option, some}
use lib.Dec.{T, eqb}
use lib.Ieee.{Float, binary32, to_bits, fits}
use borrow.Author.Tests.{eq-eqb, eqb-true}
use Rattle.bits.proofs.Back.{same_word}
use Rattle.math.specs.declared.Vec3.{Vec3}
use Rattle.math.specs.Held.{HeldVec}
use Rattle.definition.specs.declared.Corner.{Corner}
use Rattle.definition.specs.declared.Triangle.{Triangle}
use Rattle.lists.specs.Lists.{first}
use Rattle.definition.specs.Mesh.{Spot, corner_of}
use Rattle.definition.specs.Step4Order.{same_bits, same_vector, same_numbers, welded, welded_to}
use Rattle.lists.specs.Every.{Each, each_some, Every, every_nil, every_cons}
use Rattle.laws.proofs.World.{welded-sym}
use Rattle.bits.proofs.Bools.{and_left, and_right}
use Rattle.laws.proofs.Closed.{Found, first_found}

bits-refl : (x : Float) → same_bits x x ≡ true
unfolding same_bits
bits-refl x = eq-eqb (to_bits binary32 x) (to_bits binary32 x) refl

bits-as : (x y z : Float) → same_bits x y ≡ true → same_bits x z ≡ same_bits y z
unfolding same_bits
bits-as x y z e = ap (λ n. eqb n (to_bits binary32 z)) (eqb-true (to_bits binary32 x) (to_bits binary32 y) e)

vector-refl : (a : Vec3) → same_vector a a ≡ true
unfolding same_vector
vector-refl a = rw (bits-refl a.x, bits-refl a.y, bits-refl a.z)

vector-as : (a b c : Vec3) → same_vector a b ≡ true → same_vector a c ≡ same_vector b c
unfolding same_vector
vector-as a b c e =
    let h = and_left (same_bits a.x b.x && same_bits a.y b.y) (same_bits a.z b.z) e in
    rw (bits-as a.x b.x c.x (and_left _ _ h), bits-as a.y b.y c.y (and_right (same_bits a.x b.x) _ h), bits-as a.z b.z c.z (and_right (same_bits a.x b.x && same_bits a.y b.y) _ e))

pub welded-refl : (c : Corner) → welded c c ≡ true
unfolding welded same_numbers
welded-refl c = rw (vector-refl c.place, vector-refl c.normal, bits-refl c.u, bits-refl c.v, eq-eqb c.tag c.tag refl)

numbers_as : (c d e : Corner) → same_numbers c d ≡ true → same_numbers c e ≡ same_numbers d e
unfolding same_numbers
numbers_as c d x e =
    let pq = same_vector c.place d.place && same_vector c.normal d.normal in
    let h₁ = and_left (pq && same_bits c.u d.u) (same_bits c.v d.v) e in
    let h₂ = and_left pq (same_bits c.u d.u) h₁ in
    rw (vector-as c.place d.place x.place (and_left _ _ h₂), vector-as c.normal d.normal x.normal (and_right (same_vector c.place d.place) _ h₂), bits-as c.u d.u x.u (and_right pq _ h₁), bits-as c.v d.v x.v (and_right (pq && same_bits c.u d.u) _ e))

-- a corner is welded to whatever a corner welded to it is welded to
pub welded-as : (c d e : Corner) → welded c d ≡ true → welded c e ≡ welded d e
unfolding welded
welded-as c d x e = rw (numbers_as c d x (and_left (same_numbers c d) _ e), eqb-true c.tag d.tag (and_right (same_numbers c d) _ e))

pub first-same : {X : Type 0} (p q : X → Bool) → ((x : X) → p x ≡ q x) → (l : List X) → first p l ≡ first q l
unfolding first
first-same p q e [] = refl
first-same p q e (x ∷ l) = rw (e x, first-same p q e l)

-- welded corners are welded to one corner
pub weld-one : (ts : List Triangle) (c d : Corner) → welded c d ≡ true → welded_to ts c ≡ welded_to ts d
unfolding welded_to
weld-one ts c d e = first-same _ _ (λ s. welded-as c d (corner_of s) e) _

every_any : {X : Type 0} (l : List X) → Every (λ x. Unit {0}) l
every_any [] = every_nil
every_any (x ∷ l) = every_cons tt (every_any l)

each-inv : {X : Type 0} {P : X → Type 0} {x : X} → Each P (some x) → P x
each-inv (each_some h) = h

pub found_at : {X : Type 0} (P : X → Type 0) (x : X) {o : Option X} → Each P o → o ≡ some x → P x
found_at P x h e = each-inv (subst (λ o. Each P o) e h)

-- corners that are welded to one corner are welded
pub one-weld : (ts : List Triangle) (c d : Corner) (s : Spot) → welded_to ts c ≡ some s → welded_to ts d ≡ some s → welded c d ≡ true
unfolding welded_to
one-weld ts c d s e f =
    let h = found_at (Found (λ t. welded c (corner_of t)) (λ t. Unit {0})) s (first_found (λ t. welded c (corner_of t)) (every_any _)) e in
    let k = found_at (Found (λ t. welded d (corner_of t)) (λ t. Unit {0})) s (first_found (λ t. welded d (corner_of t)) (every_any _)) f in
    welded-as c (corner_of s) d h.passes ∙ (welded-sym (corner_of s) d ∙ k.passes)

-- ---- welded corners have one normal, where single precision holds its numbers

bits-one : (x y : Float) → T (fits binary32 x) → T (fits binary32 y) → same_bits x y ≡ true → x ≡ y
unfolding same_bits
bits-one x y h k e = same_word x y h k (eqb-true (to_bits binary32 x) (to_bits binary32 y) e)

-- vectors of the same bits are one
pub vector-one : (a b : Vec3) → HeldVec a → HeldVec b → same_vector a b ≡ true → a ≡ b
unfolding same_vector
vector-one a b h k e =
    let xy = and_left (same_bits a.x b.x && same_bits a.y b.y) (same_bits a.z b.z) e in
    λ i.
    record {
      x = bits-one a.x b.x h.x_held k.x_held (and_left _ _ xy) i;
      y = bits-one a.y b.y h.y_held k.y_held (and_right (same_bits a.x b.x) _ xy) i;
      z = bits-one a.z b.z h.z_held k.z_held (and_right (same_bits a.x b.x && same_bits a.y b.y) _ e) i;
    }

pub welded-normal : (c d : Corner) → HeldVec c.normal → HeldVec d.normal → welded c d ≡ true → c.normal ≡ d.normal
unfolding welded same_numbers
welded-normal c d h k e =
    let pq = same_vector c.place d.place && same_vector c.normal d.normal in
    let h₁ = and_left (pq && same_bits c.u d.u) (same_bits c.v d.v) (and_left (same_numbers c d) _ e) in
    vector-one c.normal d.normal h k (and_right (same_vector c.place d.place) _ (and_left pq (same_bits c.u d.u) h₁))

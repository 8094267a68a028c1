-- Chains of faces, and when numbers given to faces are the lowest of their islands. Assumes nothing.
use Prim.Native.Nat.{ℕ, zero, suc, ◌≤◌, ◌<◌}
use native.Mathlib.Omega.{arith}
use mathlib.Core.Path.{◌≡◌, refl, sym, ◌∙◌}
use mathlib.Core.Bool.{Bool, true, true≢false, false≢true}
use mathlib.Core.List.{List, [], ◌∷◌, Memᴰ}
use lib.ListN.{length}
use Rattle.definition.specs.declared.Corner.{Corner}
use Rattle.definition.specs.Handed.{used}
use Rattle.lists.specs.Lists.{has}
use Rattle.definition.specs.Triangles.{usable}
use Rattle.definition.specs.Step4Order.{welded}
use Rattle.laws.proofs.World.{welded-sym}
use Rattle.islands.specs.Islands.{face_at, touch, touches, Chain, alone, onward, Lowest, counted, Given, lowest, other}
use Rattle.laws.proofs.Part.{has_some, has_one}

-- ---- touching

-- two welded corners, one of each face
pub record Shared (f g : List Corner) (c d : Corner) : Type 0 where
  pub near : Memᴰ c (usable f)
  pub far : Memᴰ d (usable g)
  pub same : welded c d ≡ true

pub touch-shared : (f g : List Corner) → touch f g ≡ true → (c : Corner) × (d : Corner) × Shared f g c d
unfolding touch
touch-shared f g e =
    let a = has_some (λ c. has (welded c) (usable g)) (usable f) e in
    let b = has_some (welded a.0) (usable g) a.1.passes in
    (a.0, b.0, record { near = a.1.among; far = b.1.among; same = b.1.passes })

pub shared-touch : (f g : List Corner) (c d : Corner) → Shared f g c d → touch f g ≡ true
unfolding touch
shared-touch f g c d s = has_one (λ x. has (welded x) (usable g)) c s.near (has_one (welded c) d s.far s.same)

pub touch-sym : (f g : List Corner) → touch f g ≡ true → touch g f ≡ true
touch-sym f g e =
    let s = touch-shared f g e in
    shared-touch g f s.1 s.0 (record { near = s.2.far; far = s.2.near; same = welded-sym s.1 s.0 ∙ s.2.same })

pub touches-sym : (m : List (List Corner)) (f g : ℕ) → touches m f g ≡ true → touches m g f ≡ true
unfolding touches
touches-sym m f g e = touch-sym (face_at m f) (face_at m g) e

-- a face with a corner that takes a slot is of 3 or 4 corners
some-used : (p : Corner → Bool) (f : List Corner) → has p (usable f) ≡ true → used (length f) ≡ true
unfolding usable used has
some-used p [] e = absurd (false≢true e)
some-used p (c0 ∷ []) e = absurd (false≢true e)
some-used p (c0 ∷ c1 ∷ []) e = absurd (false≢true e)
some-used p (c0 ∷ c1 ∷ c2 ∷ []) e = refl
some-used p (c0 ∷ c1 ∷ c2 ∷ c3 ∷ []) e = refl
some-used p (c0 ∷ c1 ∷ c2 ∷ c3 ∷ c4 ∷ l) e = absurd (false≢true e)

pub touches-counted : (m : List (List Corner)) (f g : ℕ) → touches m f g ≡ true → counted m f ≡ true
unfolding touches touch counted
touches-counted m f g e = some-used (λ c. has (welded c) (usable (face_at m g))) (face_at m f) e

-- a face of the mesh
pub counted-below : (m : List (List Corner)) (f : ℕ) → counted m f ≡ true → f < length m
unfolding counted used
counted-below [] f e = absurd (false≢true e)
counted-below (x ∷ m) zero e = omega arith
counted-below (x ∷ m) (suc f) e = let h = counted-below m f e in omega arith

-- ---- chains

pub chain-join : (m : List (List Corner)) {f g h : ℕ} → Chain m f g → Chain m g h → Chain m f h
chain-join m (alone f) b = b
chain-join m (onward f g h t a) b = onward f g _ t (chain-join m a b)

pub chain-one : (m : List (List Corner)) (f g : ℕ) → touches m f g ≡ true → Chain m f g
chain-one m f g t = onward f g g t (alone g)

pub chain-sym : (m : List (List Corner)) {f g : ℕ} → Chain m f g → Chain m g f
chain-sym m (alone f) = alone f
chain-sym m (onward f g h t a) = chain-join m (chain-sym m a) (chain-one m g f (touches-sym m f g t))

-- ---- numbers that are the lowest of their islands

-- Enough to be seen: no number is above its face's, a chain leads to it, and faces that touch have one number.
pub record Right (m : List (List Corner)) (l : ℕ → ℕ) : Type 0 where
  pub low : (f : ℕ) → counted m f ≡ true → l f ≤ f
  pub joined : (f : ℕ) → counted m f ≡ true → Chain m f (l f)
  pub level : (f g : ℕ) → touches m f g ≡ true → l f ≡ l g

chain-level : (m : List (List Corner)) (l : ℕ → ℕ) → Right m l → {f g : ℕ} → Chain m f g → counted m f ≡ true → (l f ≡ l g) × (counted m g ≡ true)
chain-level m l r (alone f) u = (refl, u)
chain-level m l r (onward f g h t a) u = let k = chain-level m l r a (touches-counted m g f (touches-sym m f g t)) in (r.level f g t ∙ k.0, k.1)

pub right-lowest : (m : List (List Corner)) (l : ℕ → ℕ) → Right m l → (f : ℕ) → counted m f ≡ true → Lowest m f (l f)
right-lowest m l r f u = record { joined = r.joined f u; least = λ g a. let k = chain-level m l r a u in omega (arith, k.0, r.low g k.1) }

-- there is one such number
pub lowest-one : (m : List (List Corner)) (f a b : ℕ) → Lowest m f a → Lowest m f b → a ≡ b
lowest-one m f a b x y = let h = x.least b y.joined in let k = y.least a x.joined in omega arith

pub given-one : (m : List (List Corner)) (f : ℕ) {a b : ℕ} → Given m f a → Given m f b → a ≡ b
given-one m f (lowest a u x) (lowest b v y) = lowest-one m f a b x y
given-one m f (lowest a u x) (other v) = absurd (true≢false (sym u ∙ v))
given-one m f (other u) (lowest b v y) = absurd (true≢false (sym v ∙ u))
given-one m f (other u) (other v) = refl

-- Demand 3: in a shuffle of two meshes that share no welded corner each face has the frames that it had alone. Assumes nothing.
use Prim.Native.Nat.{ℕ, zero, suc, ◌+◌, ◌-◌, ◌<◌}
use native.Mathlib.Nat.{add-sub_of_le}
use native.Mathlib.Decide.{dec_lt}
use native.Mathlib.Omega.{arith}
use mathlib.Core.Path.{◌≡◌, refl, sym, ◌∙◌, ap, subst}
use mathlib.Core.Bool.{Bool, true, false, not, ◌||◌}
use mathlib.Core.List.Memᴰ
use mathlib.Core.List.{List, [], ◌∷◌, map, flat_map, Memᴰ}
use lib.Dec.{eqb, eqb-zero-suc, eqb-suc-zero, eqb-suc-suc}
use lib.Ieee.{Float}
use borrow.Author.Tests.{ne_eqb}
use Rattle.tangent.specs.declared.Reading.{Reading}
use Rattle.definition.specs.declared.Corner.{Corner}
use Rattle.definition.specs.declared.Triangle.{Triangle}
use Rattle.definition.specs.Frames.{numbered, frames_from, frames_of, frames}
use Rattle.lists.specs.Lists.{has}
use Rattle.definition.specs.Mesh.{Face}
use Rattle.definition.specs.Shuffle.{Shuffle, done, left, right, corners_of, shares}
use Rattle.definition.specs.Step4Order.{welded, sound}
use Rattle.definition.specs.Step5Links.{links}
use Rattle.definition.specs.Step6Groups.{marks}
use Rattle.definition.specs.Step7Sums.{Brought, brought_all}
use Rattle.definition.specs.Step9Copies.{face_readings}
use Rattle.definition.specs.Triangles.{usable, triangles}
use Rattle.lists.specs.Every.{Every, every_nil, every_cons}
use Rattle.laws.proofs.Part.{Part, nothing, mine, other}
use Rattle.laws.proofs.World.{World, welded-sym}
use Rattle.laws.proofs.Pieces.{OursF, TheirsF, moved_face, triangles-part, sound-part}
use Rattle.laws.proofs.Linking.{links-part}
use Rattle.laws.proofs.Walking.{marks-part}
use Rattle.laws.proofs.Bringing.{brought-part}
use Rattle.laws.proofs.Copying.{face-moved}

-- ---- membership

pub every-mem : {X : Type 0} (P : X → Type 0) (l : List X) → ((x : X) → Memᴰ x l → P x) → Every P l
every-mem P [] h = every_nil
every-mem P (x ∷ l) h = every_cons (h x (Memᴰ.head refl)) (every-mem P l (λ y m. h y (Memᴰ.tail m)))

or-false : (a b : Bool) → (a || b) ≡ false → (a ≡ false) × (b ≡ false)
or-false true b e = (e, absurd (mathlib.Core.Bool.true≢false e))
or-false false b e = (refl, e)

has-false : {X : Type 0} (p : X → Bool) (x : X) {l : List X} → Memᴰ x l → has p l ≡ false → p x ≡ false
unfolding has
has-false p x (Memᴰ.head {x = y} {xs = l} q) e = ap p q ∙ (or-false (p y) (has p l) e).0
has-false p x (Memᴰ.tail {x = y} {xs = l} m) e = has-false p x m (or-false (p y) (has p l) e).1

has-none : {X : Type 0} (p : X → Bool) (l : List X) → ((x : X) → Memᴰ x l → p x ≡ false) → has p l ≡ false
unfolding has
has-none p [] h = refl
has-none p (x ∷ l) h = rw (h x (Memᴰ.head refl)) (has-none p l (λ y m. h y (Memᴰ.tail m)))

apart_of : (a b : List (List Corner)) → shares a b ≡ false → (c d : Corner) → Memᴰ c (corners_of a) → Memᴰ d (corners_of b) → welded c d ≡ false
unfolding shares
apart_of a b e c d m n = has-false (welded c) d n (has-false (λ x. has (welded x) (corners_of b)) c m e)

-- ---- where the faces of a stand in the shuffle

place : List Bool → ℕ → ℕ
place [] k = k
place (true ∷ p) zero = zero
place (true ∷ p) (suc k) = suc (place p k)
place (false ∷ p) k = suc (place p k)

place-inj : (p : List Bool) (m n : ℕ) → eqb (place p m) (place p n) ≡ eqb m n
unfolding place
place-inj [] m n = refl
place-inj (true ∷ p) zero zero = refl
place-inj (true ∷ p) zero (suc n) = eqb-zero-suc (place p n) ∙ sym (eqb-zero-suc n)
place-inj (true ∷ p) (suc m) zero = eqb-suc-zero (place p m) ∙ sym (eqb-suc-zero m)
place-inj (true ∷ p) (suc m) (suc n) = eqb-suc-suc (place p m) (place p n) ∙ (place-inj p m n ∙ sym (eqb-suc-suc m n))
place-inj (false ∷ p) m n = eqb-suc-suc (place p m) (place p n) ∙ place-inj p m n

module _ (w : World) where
  -- what is known of the numbers at a point of the shuffle: i of a's faces and j of all are behind
  record Point (p : List Bool) (i j : ℕ) : Type 0 where
    shift : (k : ℕ) → w.rho (i + k) ≡ j + place p k
    low : (n : ℕ) → n < i → w.rho n < j

  here : (p : List Bool) (i j : ℕ) → Point (true ∷ p) i j → w.rho i ≡ j
  unfolding place
  here p i j h = ap w.rho (omega arith) ∙ (h.shift 0 ∙ omega arith)

  low-left : (p : List Bool) (i j : ℕ) → Point (true ∷ p) i j → (n : ℕ) → n < suc i → Dec (n < i) → w.rho n < suc j
  low-left p i j h n l (yes m) = omega (arith, h.low n m)
  low-left p i j h n l (no m) =
      let e : n ≡ i = omega arith in
      let e' : w.rho n ≡ j = ap w.rho e ∙ here p i j h in
      omega arith

  step_left : (p : List Bool) (i j : ℕ) → Point (true ∷ p) i j → Point p (suc i) (suc j)
  unfolding place
  step_left p i j h = record { shift = λ k. ap w.rho (omega arith) ∙ (h.shift (suc k) ∙ omega arith); low = λ n l. low-left p i j h n l (dec_lt n i) }

  step_right : (p : List Bool) (i j : ℕ) → Point (false ∷ p) i j → Point p i (suc j)
  unfolding place
  step_right p i j h = record { shift = λ k. h.shift k ∙ omega arith; low = λ n l. omega (arith, h.low n l) }

  ne-ours : (p : List Bool) (i j : ℕ) → Point (false ∷ p) i j → (n : ℕ) → Dec (n < i) → j ≡ w.rho n → ⊥
  unfolding place
  ne-ours p i j h n (yes m) e = omega (arith, h.low n m)
  ne-ours p i j h n (no m) e =
      let a : i + (n - i) ≡ n = add-sub_of_le (omega arith) in
      let b : w.rho n ≡ j + suc (place p (n - i)) = ap w.rho (sym a) ∙ h.shift (n - i) in
      omega arith

  not_ours : (p : List Bool) (i j : ℕ) → Point (false ∷ p) i j → (n : ℕ) → eqb j (w.rho n) ≡ false
  not_ours p i j h n = ne_eqb j (w.rho n) (ne-ours p i j h n (dec_lt n i))

  -- the faces of a, numbered there
  faces-part : {p : List Bool} {a b m : List (List Corner)} → Shuffle p a b m → (i j : ℕ) → Point p i j → ((c : Corner) → Memᴰ c (corners_of a) → w.OursC c) → ((c : Corner) → Memᴰ c (corners_of b) → w.TheirsC c) → Part (moved_face w) (OursF w) (TheirsF w) (numbered i a) (numbered j m)
  unfolding numbered corners_of moved_face flat_map
  faces-part done i j h f g = nothing
  faces-part (left {p} {x} {a} {b} {m} s) i j h f g =
      let r = faces-part s (suc i) (suc j) (step_left p i j h) (λ c y. f c (Memᴰ.append_right (usable x) y)) g in
      let o : OursF w (record { number = i; corners = x }) = record { corners = every-mem w.OursC (usable x) (λ c y. f c (Memᴰ.append_left (corners_of a) y)) } in
      subst (λ n. Part (moved_face w) (OursF w) (TheirsF w) (record { number = i; corners = x } ∷ numbered (suc i) a) (record { number = n; corners = x } ∷ numbered (suc j) m)) (here p i j h) (mine o r)
  faces-part (right {p} {x} {a} {b} {m} s) i j h f g =
      other
      (record { name = not_ours p i j h; corners = every-mem w.TheirsC (usable x) (λ c y. g c (Memᴰ.append_left (corners_of b) y)) })
      (faces-part s i (suc j) (step_right p i j h) f (λ c y. g c (Memᴰ.append_right (usable x) y)))

-- ---- one of the two

world_of : (p : List Bool) (a b : List (List Corner)) → shares a b ≡ false → World
world_of p a b e =
    record {
      rho = place p;
      inj = place-inj p;
      OursC = λ c. Memᴰ c (corners_of a);
      TheirsC = λ c. Memᴰ c (corners_of b);
      apart = λ c d m n. apart_of a b e c d m n;
    }

start : (p : List Bool) (a b : List (List Corner)) (e : shares a b ≡ false) → Point (world_of p a b e) p 0 0
unfolding world_of
start p a b e = record { shift = λ k. let z : 0 + k ≡ k = omega arith in ap (place p) z ∙ omega arith; low = λ n l. omega arith }

sound_of : List Face → List Triangle
sound_of fs = sound (triangles fs)

brought_of : Float → List Face → List Brought
brought_of h fs = brought_all h (sound_of fs) (marks (sound_of fs) (links (sound_of fs)))

-- the readings of a face in a mesh
readings_in : Float → List Face → Face → List Reading
readings_in h fs f = face_readings (brought_of h fs) (sound_of fs) f

frames-are : (h : Float) (m : List (List Corner)) → frames h m ≡ map (readings_in h (numbered 0 m)) (numbered 0 m)
unfolding frames frames_of frames_from readings_in brought_of sound_of
frames-are h m = refl

-- each face of ours has there the readings that it has alone
one_side : (w : World) (h : Float) {fs gs : List Face} → Part (moved_face w) (OursF w) (TheirsF w) fs gs → (f : Face) → OursF w f → readings_in h gs (moved_face w f) ≡ readings_in h fs f
unfolding readings_in brought_of sound_of
one_side w h r f o =
    let t = sound-part w (triangles-part w r) in
    face-moved w (brought-part w h t (marks-part w t (links-part w t))) t f o

-- ---- both

module _ (v w : World) (ga gb gm : Face → List Reading) (ea : (f : Face) → OursF v f → gm (moved_face v f) ≡ ga f) (eb : (f : Face) → OursF w f → gm (moved_face w f) ≡ gb f) where
  same_at : (u : World) (g : Face → List Reading) (e : (f : Face) → OursF u f → gm (moved_face u f) ≡ g f) (i j : ℕ) (x : List Corner) → u.rho i ≡ j → OursF u (record { number = i; corners = x }) → gm (record { number = j; corners = x }) ≡ g (record { number = i; corners = x })
  unfolding moved_face
  same_at u g e i j x q o = ap (λ n. gm (record { number = n; corners = x })) (sym q) ∙ e (record { number = i; corners = x }) o

  weave : {p : List Bool} {a b m : List (List Corner)} → Shuffle p a b m → (i k j : ℕ) → Point v p i j → Point w (map not p) k j → ((c : Corner) → Memᴰ c (corners_of a) → v.OursC c) → ((c : Corner) → Memᴰ c (corners_of b) → w.OursC c) → Shuffle p (map ga (numbered i a)) (map gb (numbered k b)) (map gm (numbered j m))
  unfolding numbered corners_of flat_map
  weave done i k j y z f g = done
  weave (left {p} {x} {a} {b} {m} s) i k j y z f g =
      let o : OursF v (record { number = i; corners = x }) = record { corners = every-mem v.OursC (usable x) (λ c n. f c (Memᴰ.append_left (corners_of a) n)) } in
      rw (same_at v ga ea i j x (here v p i j y) o)
      (left (weave s (suc i) k (suc j) (step_left v p i j y) (step_right w (map not p) k j z) (λ c n. f c (Memᴰ.append_right (usable x) n)) g))
  weave (right {p} {x} {a} {b} {m} s) i k j y z f g =
      let o : OursF w (record { number = k; corners = x }) = record { corners = every-mem w.OursC (usable x) (λ c n. g c (Memᴰ.append_left (corners_of b) n)) } in
      rw (same_at w gb eb k j x (here w (map not p) k j z) o)
      (right (weave s i (suc k) (suc j) (step_right v p i j y) (step_left w (map not p) k j z) f (λ c n. g c (Memᴰ.append_right (usable x) n))))

swap : {X : Type 0} {p : List Bool} {a b m : List X} → Shuffle p a b m → Shuffle (map not p) b a m
swap done = done
swap (left s) = right (swap s)
swap (right s) = left (swap s)

shares-sym : (a b : List (List Corner)) → shares a b ≡ false → shares b a ≡ false
unfolding shares
shares-sym a b e =
    has-none (λ c. has (welded c) (corners_of a)) (corners_of b)
    (λ d n. has-none (welded d) (corners_of a) (λ c m. welded-sym d c ∙ apart_of a b e c d m n))

-- Demand 3, of the definition: frames of a shuffle are the shuffle of the frames, by the same pattern.
pub shuffled : (h : Float) {p : List Bool} {a b m : List (List Corner)} → Shuffle p a b m → shares a b ≡ false → Shuffle p (frames h a) (frames h b) (frames h m)
unfolding world_of
shuffled h {p} {a} {b} {m} s e =
    let v = world_of p a b e in
    let w = world_of (map not p) b a (shares-sym a b e) in
    let y = start p a b e in
    let z = start (map not p) b a (shares-sym a b e) in
    let ra = faces-part v s 0 0 y (λ c n. n) (λ c n. n) in
    let rb = faces-part w (swap s) 0 0 z (λ c n. n) (λ c n. n) in
    rw (frames-are h a, frames-are h b, frames-are h m)
    (weave v w (readings_in h (numbered 0 a)) (readings_in h (numbered 0 b)) (readings_in h (numbered 0 m)) (one_side v h ra) (one_side w h rb) s 0 0 0 y z (λ c n. n) (λ c n. n))

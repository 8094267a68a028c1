-- The frames put together from the islands are the frames of the whole mesh. Assumes nothing.
use Prim.Native.Nat.{ℕ, zero, suc, ◌+◌, ◌<◌}
use native.Mathlib.Nat.{le_of_suc-le-suc, not-suc-le-zero}
use native.Mathlib.Omega.{arith}
use mathlib.Core.Path.{◌≡◌, refl, sym, ◌∙◌, ap, subst}
use mathlib.Core.Bool.{Bool, true, false, cond, not, ◌||◌, true≢false, false≢true}
use mathlib.Core.List.{List, [], ◌∷◌, ◌++◌, flat_map}
use lib.Dec.{eqb}
use lib.ListN.{length, get_or}
use lib.Seq.{ext_get_or}
use lib.Ieee.{Float}
use borrow.Author.Tests.{eq-eqb, not-true}
use Rattle.definition.specs.declared.Corner.{Corner}
use Rattle.definition.specs.declared.Triangle.{Triangle}
use Rattle.definition.specs.Handed.{used}
use Rattle.lists.specs.Lists.{has}
use Rattle.definition.specs.Shuffle.{Shuffle, done, left, right, corners_of, shares}
use Rattle.definition.specs.Triangles.{usable}
use Rattle.definition.specs.Step4Order.{welded}
use Rattle.definition.specs.Step7Sums.{Brought}
use Rattle.definition.specs.Step9Copies.{nooks, face_readings}
use Rattle.definition.specs.Frames.{numbered, frames_from, frames_of, frames}
use Rattle.laws.proofs.Shuffled.{shuffled}
use Rattle.lists.specs.Loops.{list_of}
use Rattle.lists.proofs.Loops.{length-list_of, get_or-list_of}
use Rattle.islands.specs.Islands.{face_at, touch, touches, counted, island_of}
use Rattle.islands.specs.Together.{picked, rank, Closed, in_island, island, apart_frames, together}
use Rattle.islands.proofs.Agree.{touching}
use Rattle.laws.proofs.Part.{has_some, has_one}

-- ---- those that pass, and the others, are a shuffle

unfoldable pub pattern_of : {X : Type 0} → (ℕ → Bool) → ℕ → List X → List Bool
pattern_of p n [] = []
pattern_of p n (x ∷ l) = p n ∷ pattern_of p (suc n) l

-- those that do not pass
abbrev pub others : (ℕ → Bool) → ℕ → Bool
others p n = not (p n)

next : {X : Type 0} (x : X) {p : List Bool} {a b m : List X} (t : Bool) → Shuffle p a b m → Shuffle (t ∷ p) (cond t (x ∷ a) a) (cond (not t) (x ∷ b) b) (x ∷ m)
next x true s = left s
next x false s = right s

pub split : {X : Type 0} (p : ℕ → Bool) (n : ℕ) (l : List X) → Shuffle (pattern_of p n l) (picked p n l) (picked (others p) n l) l
unfolding pattern_of picked
split p n [] = done
split p n (x ∷ l) = next x (p n) (split p (suc n) l)

-- ---- an element of a shuffle

count_in : List Bool → ℕ → ℕ
count_in [] k = 0
count_in (b ∷ p) zero = 0
count_in (b ∷ p) (suc k) = let r = count_in p k in cond b (suc r) r

at : {X : Type 0} (d : X) {p : List Bool} {a b m : List X} → Shuffle p a b m → (k : ℕ) → get_or p k false ≡ true → get_or m k d ≡ get_or a (count_in p k) d
unfolding count_in
at d done k e = absurd (false≢true e)
at d (left s) zero e = refl
at d (left s) (suc k) e = at d s k e
at d (right s) zero e = absurd (false≢true e)
at d (right s) (suc k) e = at d s k e

count_is : {X : Type 0} (p : ℕ → Bool) (n : ℕ) (l : List X) (k : ℕ) → k < length l → count_in (pattern_of p n l) k ≡ rank p n k
unfolding count_in pattern_of rank
count_is p n [] k h = absurd (not-suc-le-zero h)
count_is p n (x ∷ l) zero h = refl
count_is p n (x ∷ l) (suc k) h = ap (λ r. cond (p n) (suc r) r) (count_is p (suc n) l k (le_of_suc-le-suc h))

pattern-is : {X : Type 0} (p : ℕ → Bool) (n : ℕ) (l : List X) (k : ℕ) → k < length l → get_or (pattern_of p n l) k false ≡ p (n + k)
unfolding pattern_of
pattern-is p n [] k h = absurd (not-suc-le-zero h)
pattern-is p n (x ∷ l) zero h = ap p (omega arith)
pattern-is p n (x ∷ l) (suc k) h = pattern-is p (suc n) l k (le_of_suc-le-suc h) ∙ ap p (omega arith)

-- ---- corners of those that pass

or-else : {P : Type 0} (a b : Bool) → (a || b) ≡ true → (a ≡ true → P) → (b ≡ true → P) → P
or-else true b e f g = f refl
or-else false b e f g = g e

has-append : {X : Type 0} (p : X → Bool) (a b : List X) → has p (a ++ b) ≡ (has p a || has p b)
unfolding has
has-append p [] b = refl
has-append p (x ∷ a) b = ap (λ t. p x || t) (has-append p a b) ∙ assoc (p x) (has p a) (has p b)
  where
    assoc : (x y z : Bool) → (x || (y || z)) ≡ ((x || y) || z)
    assoc true y z = refl
    assoc false y z = refl

-- number k of the faces from n on passes, and has a corner that passes
record Sits (q : ℕ → Bool) (p : Corner → Bool) (n : ℕ) (l : List (List Corner)) (k : ℕ) : Type 0 where
  passes : q (n + k) ≡ true
  holds : has p (usable (face_at l k)) ≡ true

first-sits : (q : ℕ → Bool) (p : Corner → Bool) (n : ℕ) (x : List Corner) (l : List (List Corner)) → q n ≡ true → has p (usable x) ≡ true → Sits q p n (x ∷ l) 0
first-sits q p n x l e h = record { passes = ap q (omega arith) ∙ e; holds = h }

later-sits : (q : ℕ → Bool) (p : Corner → Bool) (n : ℕ) (x : List Corner) (l : List (List Corner)) (k : ℕ) → Sits q p (suc n) l k → Sits q p n (x ∷ l) (suc k)
later-sits q p n x l k s = record { passes = ap q (omega arith) ∙ s.passes; holds = s.holds }

sits-of : (q : ℕ → Bool) (p : Corner → Bool) (n : ℕ) (x : List Corner) (l r : List (List Corner)) → (has p (corners_of r) ≡ true → (k : ℕ) × Sits q p (suc n) l k) → (t : Bool) → q n ≡ t → has p (corners_of (cond t (x ∷ r) r)) ≡ true → (k : ℕ) × Sits q p n (x ∷ l) k
unfolding corners_of flat_map
sits-of q p n x l r i true e h =
    or-else (has p (usable x)) (has p (corners_of r)) (sym (has-append p (usable x) (corners_of r)) ∙ h)
    (λ f. (0, first-sits q p n x l e f))
    (λ f. let s = i f in (suc s.0, later-sits q p n x l s.0 s.1))
sits-of q p n x l r i false e h = let s = i h in (suc s.0, later-sits q p n x l s.0 s.1)

sits : (q : ℕ → Bool) (p : Corner → Bool) (n : ℕ) (l : List (List Corner)) → has p (corners_of (picked q n l)) ≡ true → (k : ℕ) × Sits q p n l k
unfolding picked corners_of flat_map has
sits q p n [] h = absurd (false≢true h)
sits q p n (x ∷ l) h = sits-of q p n x l (picked q (suc n) l) (λ f. sits q p (suc n) l f) (q n) refl h

-- ---- faces that are closed under touching share no corner with the others

clash : (q : ℕ → Bool) (m : List (List Corner)) → Closed q m → shares (picked q 0 m) (picked (others q) 0 m) ≡ true → ⊥
unfolding Closed shares touches touch
clash q m c e =
    let b = corners_of (picked (others q) 0 m) in
    let s = sits q (λ x. has (welded x) b) 0 m e in
    let x = has_some (λ x. has (welded x) b) (usable (face_at m s.0)) s.1.holds in
    let t = sits (others q) (welded x.0) 0 m x.1.passes in
    let h : touches m s.0 t.0 ≡ true = has_one (λ y. has (welded y) (usable (face_at m t.0))) x.0 x.1.among t.1.holds in
    let k : q s.0 ≡ q t.0 = c s.0 t.0 h in
    let z : q (0 + s.0) ≡ q s.0 = ap q (omega arith) in
    let y : q (0 + t.0) ≡ q t.0 = ap q (omega arith) in
    true≢false (sym s.1.passes ∙ z ∙ k ∙ sym y ∙ not-true (q (0 + t.0)) t.1.passes)

is_false : (b : Bool) → (b ≡ true → ⊥) → b ≡ false
is_false true h = absurd (h refl)
is_false false h = refl

pub apart : (q : ℕ → Bool) (m : List (List Corner)) → Closed q m → shares (picked q 0 m) (picked (others q) 0 m) ≡ false
apart q m c = is_false (shares (picked q 0 m) (picked (others q) 0 m)) (clash q m c)

-- Demand 3 of any faces that are closed under touching: each of them has the frames that it has among them alone.
pub closed_frames : (h : Float) (q : ℕ → Bool) (m : List (List Corner)) → Closed q m → (f : ℕ) → f < length m → q f ≡ true → get_or (frames h m) f [] ≡ get_or (frames h (picked q 0 m)) (rank q 0 f) []
closed_frames h q m c f l e =
    let z : q (0 + f) ≡ q f = ap q (omega arith) in
    at [] (shuffled h (split q 0 m) (apart q m c)) f (pattern-is q 0 m f l ∙ z ∙ e)
    ∙ ap (λ k. get_or (frames h (picked q 0 m)) k []) (count_is q 0 m f l)

-- ---- faces of other sizes

unusable : (f : List Corner) → used (length f) ≡ false → usable f ≡ []
unfolding usable used
unusable [] e = refl
unusable (c0 ∷ []) e = refl
unusable (c0 ∷ c1 ∷ []) e = refl
unusable (c0 ∷ c1 ∷ c2 ∷ []) e = absurd (true≢false e)
unusable (c0 ∷ c1 ∷ c2 ∷ c3 ∷ []) e = absurd (true≢false e)
unusable (c0 ∷ c1 ∷ c2 ∷ c3 ∷ c4 ∷ l) e = refl

no-readings : (bs : List Brought) (ss : List Triangle) (k : ℕ) (m : List (List Corner)) (f : ℕ) → counted m f ≡ false → get_or (frames_from (numbered k m) ss bs) f [] ≡ []
unfolding frames_from numbered face_readings counted nooks
no-readings bs ss k [] f e = refl
no-readings bs ss k (x ∷ m) zero e = rw (unusable x e) refl
no-readings bs ss k (x ∷ m) (suc f) e = no-readings bs ss (suc k) m f e

none-there : (h : Float) (m : List (List Corner)) (f : ℕ) → counted m f ≡ false → get_or (frames h m) f [] ≡ []
unfolding frames frames_of
none-there h m f e = no-readings _ _ 0 m f e

readings-length : (bs : List Brought) (ss : List Triangle) (k : ℕ) (m : List (List Corner)) → length (frames_from (numbered k m) ss bs) ≡ length m
unfolding frames_from numbered
readings-length bs ss k [] = refl
readings-length bs ss k (x ∷ m) = ap suc (readings-length bs ss (suc k) m)

pub frames-length : (h : Float) (m : List (List Corner)) → length (frames h m) ≡ length m
unfolding frames frames_of
frames-length h m = readings-length _ _ 0 m

-- ---- the law

island-closed : (m : List (List Corner)) (i : ℕ) → Closed (in_island m i) m
unfolding Closed in_island
island-closed m i f g t = ap (λ n. eqb n i) (touching m f g t)

in-own : (m : List (List Corner)) (f : ℕ) → in_island m (island_of m f) f ≡ true
unfolding in_island
in-own m f = eq-eqb (island_of m f) (island_of m f) refl

apart-is : (h : Float) (m : List (List Corner)) (f : ℕ) → f < length m → apart_frames h m f ≡ get_or (frames h m) f []
unfolding apart_frames island
apart-is h m f l = go (counted m f) refl
  where
    go : (t : Bool) → counted m f ≡ t → cond t (get_or (frames h (picked (in_island m (island_of m f)) 0 m)) (rank (in_island m (island_of m f)) 0 f) []) [] ≡ get_or (frames h m) f []
    go true e = sym (closed_frames h (in_island m (island_of m f)) m (island-closed m (island_of m f)) f l (in-own m f))
    go false e = sym (none-there h m f e)

-- 'The finished list is the same .. as from one call'
pub together-is : (h : Float) (m : List (List Corner)) → together h m ≡ frames h m
unfolding together
together-is h m =
    ext_get_or [] (list_of (length m) (apart_frames h m)) (frames h m) (length-list_of (length m) (apart_frames h m) ∙ sym (frames-length h m))
    (λ i l. let k : i < length m = subst (λ n. i < n) (length-list_of (length m) (apart_frames h m)) l in get_or-list_of (length m) (apart_frames h m) [] i k ∙ apart-is h m i k)

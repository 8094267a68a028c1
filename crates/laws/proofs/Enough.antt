-- The walk of step 6 has steps enough, so it obeys its equation with no count in it. Assumes nothing.
use Prim.Native.Nat.{ℕ, zero, suc, ◌≤◌, ◌<◌}
use native.Mathlib.Omega.{arith}
use mathlib.Core.Path.{◌≡◌, refl, sym, ◌∙◌, ap}
use mathlib.Core.Bool.{Bool, true, false, cond, not, ◌&&◌, ◌||◌, false≢true}
use mathlib.Core.List.{List, [], ◌∷◌, ◌++◌, Memᴰ, append_assoc, append-nil}
use mathlib.Core.Option.{Option, none, some}
use lib.ListN.{length}
use borrow.Author.Tests.{eq-eqb}
use Rattle.bits.proofs.Bools.{and_left, or_left, beq-refl, or-holds}
use Rattle.definition.specs.declared.Corner.{Corner}
use Rattle.definition.specs.declared.Triangle.{Triangle}
use Rattle.lists.specs.Lists.{keep, has}
use Rattle.definition.specs.Mesh.{Third, one, two, three, Spot, prior, corner_of, same_third, same_triangle, same_spot}
use Rattle.definition.specs.Step4Order.{welded, spots}
use Rattle.definition.specs.Step5Links.{Link}
use Rattle.definition.specs.Step6Groups.{Mark, grouped, stops, over, going, walk, fan}
use Rattle.lists.specs.Every.{Each, each_none, each_some}

-- ---- counting

module _ {X : Type 0} (p q : X → Bool) (le : (x : X) → q x ≡ true → p x ≡ true) where
  keep-le : (l : List X) → length (keep q l) ≤ length (keep p l)
  unfolding keep
  keep-le [] = omega arith
  keep-le (x ∷ l) = go (q x) (p x) (le x) (keep-le l)
    where
      go : (a b : Bool) → (a ≡ true → b ≡ true) → length (keep q l) ≤ length (keep p l) → length (cond a (x ∷ keep q l) (keep q l)) ≤ length (cond b (x ∷ keep p l) (keep p l))
      go true true e h = omega arith
      go true false e h = absurd (false≢true (e refl))
      go false true e h = omega arith
      go false false e h = h

  pub keep-lt : (x : X) → q x ≡ false → p x ≡ true → {l : List X} → Memᴰ x l → length (keep q l) < length (keep p l)
  unfolding keep
  keep-lt x a b (Memᴰ.head {x = y} {xs = l} e) =
      let a' : q y ≡ false = ap q (sym e) ∙ a in
      let b' : p y ≡ true = ap p (sym e) ∙ b in
      let h = keep-le l in
      rw (a', b') (omega arith)
  keep-lt x a b (Memᴰ.tail {x = y} {xs = l} m) = go (q y) (p y) (le y) (keep-lt x a b m)
    where
      go : (a b : Bool) → (a ≡ true → b ≡ true) → length (keep q l) < length (keep p l) → length (cond a (y ∷ keep q l) (keep q l)) < length (cond b (y ∷ keep p l) (keep p l))
      go true true e h = omega arith
      go true false e h = absurd (false≢true (e refl))
      go false true e h = omega arith
      go false false e h = h

-- ---- tests

pub has-append : {X : Type 0} (p : X → Bool) (l k : List X) → has p l ≡ true → has p (l ++ k) ≡ true
unfolding has
has-append p [] k e = absurd (false≢true e)
has-append p (x ∷ l) k e = go (p x) e (λ h. has-append p l k h)
  where
    go : (b : Bool) → (b || has p l) ≡ true → (has p l ≡ true → has p (l ++ k) ≡ true) → (b || has p (l ++ k)) ≡ true
    go true h r = refl
    go false h r = r h

pub has_last : {X : Type 0} (p : X → Bool) (l : List X) (x : X) → p x ≡ true → has p (l ++ (x ∷ [])) ≡ true
unfolding has
has_last p [] x e = rw e
has_last p (y ∷ l) x e = or-holds (p y) (has p (l ++ (x ∷ []))) (has_last p l x e)

-- ---- names

pub third-refl : (i : Third) → same_third i i ≡ true
unfolding same_third
third-refl one = refl
third-refl two = refl
third-refl three = refl

pub spot-refl : (s : Spot) → same_spot s s ≡ true
unfolding same_spot same_triangle
spot-refl s = rw (eq-eqb s.tri.face s.tri.face refl, beq-refl s.tri.second, third-refl s.at)

-- ---- grouped corners stay grouped

-- ns begins with ms, and so what is grouped in ms is grouped in ns
pub record Grows (ms ns : List Mark) : Type 0 where
  pub added : List Mark
  pub is : ns ≡ ms ++ added
  pub stay : (s : Spot) → grouped ms s ≡ true → grouped ns s ≡ true

pub grows-refl : (ms : List Mark) → Grows ms ms
grows-refl ms = record { added = []; is = sym (append-nil ms); stay = λ s e. e }

pub grows-trans : {ls ms ns : List Mark} → Grows ls ms → Grows ms ns → Grows ls ns
grows-trans {ls} a b = record { added = a.added ++ b.added; is = b.is ∙ (ap (λ l. l ++ b.added) a.is ∙ append_assoc ls a.added b.added); stay = λ s e. b.stay s (a.stay s e) }

pub grows-snoc : (ms : List Mark) (m : Mark) → Grows ms (ms ++ (m ∷ []))
unfolding grouped
grows-snoc ms m = record { added = m ∷ []; is = refl; stay = λ s e. has-append (λ k. same_spot k.spot s) ms (m ∷ []) e }

pub grows-cond : (b : Bool) {ls ms ns : List Mark} → Grows ls ms → Grows ls ns → Grows ls (cond b ms ns)
grows-cond true p q = p
grows-cond false p q = q

pub grows-going : (F : List Mark → Spot → List Mark) → ((ms : List Mark) (s : Spot) → Grows ms (F ms s)) → (ms : List Mark) (o : Option Spot) → Grows ms (going F ms o)
unfolding going
grows-going F f ms none = grows-refl ms
grows-going F f ms (some s) = f ms s

pub walk-grows : (n : ℕ) (ls : List Link) (g : Spot) (w : Bool) (ms : List Mark) (s : Spot) → Grows ms (walk n ls g w ms s)
unfolding walk
walk-grows zero ls g w ms s = grows-refl ms
walk-grows (suc n) ls g w ms s =
    grows-cond (stops ms w s) (grows-refl ms)
    (grows-trans (grows-snoc ms _)
    (grows-trans (grows-going _ (λ ms' s'. walk-grows n ls g w ms' s') _ (over ls (corner_of g) (prior s)))
    (grows-going _ (λ ms' s'. walk-grows n ls g w ms' s') _ (over ls (corner_of g) s))))

pub grouped-mark : (ms : List Mark) (m : Mark) → grouped (ms ++ (m ∷ [])) m.spot ≡ true
unfolding grouped
grouped-mark ms m = has_last (λ k. same_spot k.spot m.spot) ms m (spot-refl m.spot)

-- ---- steps enough

eq-cond : {X : Type 0} (b : Bool) (m x y : X) → (b ≡ false → x ≡ y) → cond b m x ≡ cond b m y
eq-cond true m x y f = refl
eq-cond false m x y f = f refl

pub going-eq : (P : Spot → Type 0) (F G : List Mark → Spot → List Mark) (ms : List Mark) → ((s : Spot) → P s → F ms s ≡ G ms s) → (o : Option Spot) → Each P o → going F ms o ≡ going G ms o
unfolding going
going-eq P F G ms e none each_none = refl
going-eq P F G ms e (some s) (each_some h) = e s h

-- a corner of one of the triangles, welded to c
pub record Near (ss : List Triangle) (c : Corner) (s : Spot) : Type 0 where
  pub inside : Memᴰ s (spots ss)
  pub joined : welded c (corner_of s) ≡ true

module _ (ss : List Triangle) (ls : List Link) (g : Spot) (w : Bool) (near : (s : Spot) → Near ss (corner_of g) s → Each (Near ss (corner_of g)) (over ls (corner_of g) s) × Each (Near ss (corner_of g)) (over ls (corner_of g) (prior s))) where
  -- corners that the walk may still mark
  unfoldable pub open' : List Mark → Spot → Bool
  open' ms s = welded (corner_of g) (corner_of s) && not (grouped ms s)

  unfoldable pub left' : List Mark → ℕ
  left' ms = length (keep (open' ms) (spots ss))

  open-less : {ms ns : List Mark} → Grows ms ns → (s : Spot) → open' ns s ≡ true → open' ms s ≡ true
  unfolding open'
  open-less {ms} {ns} r s e = go (welded (corner_of g) (corner_of s)) (grouped ms s) (grouped ns s) (r.stay s) e
    where
      go : (a b c : Bool) → (b ≡ true → c ≡ true) → (a && not c) ≡ true → (a && not b) ≡ true
      go false b c f e = e
      go true false c f e = refl
      go true true c f e = sym (ap not (f refl)) ∙ e

  pub left_less : {ms ns : List Mark} → Grows ms ns → left' ns ≤ left' ms
  unfolding left'
  left_less {ms} {ns} r = keep-le (open' ms) (open' ns) (open-less r) (spots ss)

  abbrev marked : List Mark → Spot → List Mark
  marked ms s = ms ++ (record { spot = s; start = g; orientation = w } ∷ [])

  grouped-marked : (ms : List Mark) (s : Spot) → grouped (marked ms s) s ≡ true
  unfolding grouped
  grouped-marked ms s = has_last (λ k. same_spot k.spot s) ms (record { spot = s; start = g; orientation = w }) (spot-refl s)

  -- a corner that is marked is one less
  pub left-drop : (ms : List Mark) (s : Spot) → Near ss (corner_of g) s → grouped ms s ≡ false → left' (marked ms s) < left' ms
  unfolding left' open'
  left-drop ms s h e =
      keep-lt (open' ms) (open' (marked ms s)) (open-less (grows-snoc ms _)) s
      (rw (h.joined, grouped-marked ms s)) (rw (h.joined, e)) h.inside

  pub stops-grouped : (ms : List Mark) (s : Spot) → stops ms w s ≡ false → grouped ms s ≡ false
  unfolding stops
  stops-grouped ms s e = or_left (grouped ms s) _ e

  -- as many steps as there are corners left are enough
  pub enough : (n : ℕ) (ms : List Mark) (s : Spot) → Near ss (corner_of g) s → left' ms ≤ n → walk n ls g w ms s ≡ walk (suc n) ls g w ms s
  unfolding walk
  enough zero ms s h b = none_left (stops ms w s) refl
    where
      none_left : (t : Bool) → stops ms w s ≡ t → ms ≡ walk 1 ls g w ms s
      none_left true e = rw (e, walk)
      none_left false e = absurd (let k = left-drop ms s h (stops-grouped ms s e) in omega arith)
  enough (suc n) ms s h b =
      eq-cond (stops ms w s) ms _ _
      (λ e.
      let d = left-drop ms s h (stops-grouped ms s e) in
      let o₁ = over ls (corner_of g) (prior s) in
      let o₂ = over ls (corner_of g) s in
      let m₂ = going (λ ms' s'. walk n ls g w ms' s') (marked ms s) o₁ in
      let l = left_less (grows-going (λ ms' s'. walk n ls g w ms' s') (λ ms' s'. walk-grows n ls g w ms' s') (marked ms s) o₁) in
      going-eq (Near ss (corner_of g)) (λ ms' s'. walk n ls g w ms' s') (λ ms' s'. walk (suc n) ls g w ms' s') m₂ (λ s' h'. enough n m₂ s' h' (omega arith)) o₂ (near s h).0
      ∙ ap (λ m. going (λ ms' s'. walk (suc n) ls g w ms' s') m o₂)
      (going-eq (Near ss (corner_of g)) (λ ms' s'. walk n ls g w ms' s') (λ ms' s'. walk (suc n) ls g w ms' s') (marked ms s) (λ s' h'. enough n (marked ms s) s' h' (omega arith)) o₁ (near s h).1))

  pub open-fan : (ms : List Mark) → left' ms ≤ fan ss (corner_of g)
  unfolding left' open' fan
  open-fan ms = keep-le (λ s. welded (corner_of g) (corner_of s)) (open' ms) (λ s. and_left (welded (corner_of g) (corner_of s)) _) (spots ss)

  -- The equation of the walk, with no count: this is what code is proved against.
  unfoldable pub walked : List Mark → Spot → List Mark
  walked ms s = walk (fan ss (corner_of g)) ls g w ms s

  pub walked-eq : (ms : List Mark) (s : Spot) → Near ss (corner_of g) s → walked ms s ≡ cond (stops ms w s) ms (going walked (going walked (marked ms s) (over ls (corner_of g) (prior s))) (over ls (corner_of g) s))
  unfolding walked walk
  walked-eq ms s h = enough (fan ss (corner_of g)) ms s h (open-fan ms)

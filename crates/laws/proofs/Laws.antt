-- Request E11's laws of groups, of step 6's marks. Assumes nothing.
use Prim.Native.Nat.{ℕ, zero, suc, ◌<◌}
use native.Mathlib.Omega.{arith}
use mathlib.Core.Path.{◌≡◌, refl, sym, ◌∙◌, subst}
use mathlib.Core.Bool.{Bool, true, false, cond, not, ◌||◌, beq, true≢false, false≢true}
use mathlib.Core.List.{List, [], ◌∷◌, ◌++◌, Memᴰ}
use mathlib.Core.Option.{Option, none, some}
use borrow.Author.Tests.{eq-eqb}
use Rattle.bits.proofs.Bools.{or_left, or_right, beq-refl}
use Rattle.definition.specs.declared.Corner.{Corner}
use Rattle.definition.specs.Triangles.{nook, make}
use Rattle.definition.specs.declared.Triangle.{Triangle}
use Rattle.lists.specs.Lists.{first, has, run}
use Rattle.definition.specs.Mesh.{Spot, prior, corner_of, same_triangle, same_spot}
use Rattle.definition.specs.Step4Order.{welded, spots}
use Rattle.definition.specs.Step5Links.{Link}
use Rattle.definition.specs.Step6Groups.{Mark, grouped, way_of, touched, facing, stops, over, going, walk, fan, start_at, marks}
use Rattle.lists.specs.Every.{Each, each_none, each_some, Every, every_nil, every_cons}
use Rattle.laws.proofs.Part.{every_map, every_append}
use Rattle.laws.proofs.Enough.{Near, Grows, grows-refl, grows-trans, grows-cond, grows-going, grouped-mark, keep-lt, walk-grows}
use Rattle.laws.proofs.Closed.{Between, over-near}
use Rattle.laws.proofs.Weld.{welded-refl}
use Rattle.laws.proofs.Shuffled.{every-mem}

abbrev pub mark : Spot → Spot → Mark
mark g s = record { spot = s; start = g; orientation = g.tri.orientation }

-- a triangle of one corner, where any triangle will do
abbrev pub some-triangle : Corner → Triangle
some-triangle c = make 0 false 3 (nook 0 c) (nook 1 c) (nook 2 c)

-- ---- what holds of all marks, by what one mark more keeps

module _ (ss : List Triangle) (ls : List Link) (B : Between ss ls) (Inv : List Mark → Type 0) where
  inv-cond : (b : Bool) {ms ns : List Mark} → Inv ms → (b ≡ false → Inv ns) → Inv (cond b ms ns)
  inv-cond true h k = h
  inv-cond false h k = k refl

  inv-going : (P : Spot → Type 0) (F : List Mark → Spot → List Mark) → ((ms : List Mark) (s : Spot) → P s → Inv ms → Inv (F ms s)) → (ms : List Mark) (o : Option Spot) → Each P o → Inv ms → Inv (going F ms o)
  unfolding going
  inv-going P F f ms none each_none h = h
  inv-going P F f ms (some s) (each_some p) h = f ms s p h

  module _ (step : (g : Spot) → g.tri.any ≡ false → (ms : List Mark) (s : Spot) → Near ss (corner_of g) s → stops ms g.tri.orientation s ≡ false → Inv ms → Inv (ms ++ (mark g s ∷ []))) where
    walk-inv : (n : ℕ) (g : Spot) → g.tri.any ≡ false → (ms : List Mark) (s : Spot) → Near ss (corner_of g) s → Inv ms → Inv (walk n ls g g.tri.orientation ms s)
    unfolding walk
    walk-inv zero g e ms s p h = h
    walk-inv (suc n) g e ms s p h =
        inv-cond (stops ms g.tri.orientation s) h
        (λ b.
        inv-going (Near ss (corner_of g)) _ (λ ms' s' p' h'. walk-inv n g e ms' s' p' h') _ (over ls (corner_of g) s) (over-near ss ls B (corner_of g) s)
        (inv-going (Near ss (corner_of g)) _ (λ ms' s' p' h'. walk-inv n g e ms' s' p' h') _ (over ls (corner_of g) (prior s)) (over-near ss ls B (corner_of g) (prior s))
        (step g e ms s p b h)))

    start-inv : (ms : List Mark) (s : Spot) → Memᴰ s (spots ss) → Inv ms → Inv (start_at ss ls ms s)
    unfolding start_at
    start-inv ms s m h =
        inv-cond (s.tri.any || grouped ms s) h
        (λ b. walk-inv (fan ss (corner_of s)) s (or_left s.tri.any (grouped ms s) b) ms s (record { inside = m; joined = welded-refl (corner_of s) }) h)

    run-inv : {xs : List Spot} → Every (λ s. Memᴰ s (spots ss)) xs → (ms : List Mark) → Inv ms → Inv (run (start_at ss ls) ms xs)
    unfolding run
    run-inv every_nil ms h = h
    run-inv (every_cons {x = s} m r) ms h = run-inv r (start_at ss ls ms s) (start-inv ms s m h)

    pub marks-inv : Inv [] → Inv (marks ss ls)
    unfolding marks
    marks-inv h = run-inv (every-mem _ (spots ss) (λ s m. m)) [] h

-- ---- E11: one welded corner per group

module _ (ss : List Triangle) (ls : List Link) (B : Between ss ls) where
  pub one_corner : Every (λ m. welded (corner_of m.start) (corner_of m.spot) ≡ true) (marks ss ls)
  one_corner =
      marks-inv ss ls B (Every (λ m. welded (corner_of m.start) (corner_of m.spot) ≡ true))
      (λ g e ms s p b h. every_append h (every_cons p.joined every_nil))
      every_nil

  -- every mark stands on a corner of the triangles
  pub marks-inside : Every (λ m. Memᴰ m.spot (spots ss)) (marks ss ls)
  marks-inside = marks-inv ss ls B (Every (λ m. Memᴰ m.spot (spots ss))) (λ g e ms s p b h. every_append h (every_cons p.inside every_nil)) every_nil

  -- one orientation per group: that of the triangle at which it started, which isn't `group_with_any`
  pub one_way : Every (λ m. (m.orientation ≡ m.start.tri.orientation) × (m.start.tri.any ≡ false)) (marks ss ls)
  one_way =
      marks-inv ss ls B (Every (λ m. (m.orientation ≡ m.start.tri.orientation) × (m.start.tri.any ≡ false)))
      (λ g e ms s p b h. every_append h (every_cons (refl, e) every_nil))
      every_nil

-- ---- every corner in at most one group

-- no corner is marked twice
pub data Once : List Mark → Type 0 where
  once-nil : Once []
  once-cons : {m : Mark} {ms : List Mark} → Every (λ k. same_spot m.spot k.spot ≡ false) ms → Once ms → Once (m ∷ ms)

once-snoc : {ms : List Mark} → Once ms → (m : Mark) → grouped ms m.spot ≡ false → Once (ms ++ (m ∷ []))
unfolding grouped has
once-snoc once-nil m e = once-cons every_nil once-nil
once-snoc (once-cons {m = k} {ms} h r) m e = once-cons (every_append h (every_cons (or_left (same_spot k.spot m.spot) _ e) every_nil)) (once-snoc r m (or_right (same_spot k.spot m.spot) _ e))

module _ (ss : List Triangle) (ls : List Link) (B : Between ss ls) where
  pub at_most_one : Once (marks ss ls)
  unfolding stops
  at_most_one = marks-inv ss ls B Once (λ g e ms s p b h. once-snoc h (mark g s) (or_left (grouped ms s) _ b)) once-nil

-- ---- exactly one where the triangle isn't `group_with_any`

pub stops-own : (ms : List Mark) (s : Spot) → s.tri.any ≡ false → grouped ms s ≡ false → stops ms s.tri.orientation s ≡ false
unfolding stops facing
stops-own ms s f e = rw (e, f, beq-refl s.tri.orientation)

-- a walk from an ungrouped corner of such a triangle marks that corner first
walk_first : (n : ℕ) (ls : List Link) (ms : List Mark) (s : Spot) → s.tri.any ≡ false → grouped ms s ≡ false → Grows (ms ++ (mark s s ∷ [])) (walk (suc n) ls s s.tri.orientation ms s)
unfolding walk
walk_first n ls ms s f e =
    rw (stops-own ms s f e)
    (grows-trans (grows-going _ (λ ms' s'. walk-grows n ls s s.tri.orientation ms' s') _ (over ls (corner_of s) (prior s))) (grows-going _ (λ ms' s'. walk-grows n ls s s.tri.orientation ms' s') _ (over ls (corner_of s) s)))

walk-marks : (n : ℕ) (ls : List Link) (ms : List Mark) (s : Spot) → s.tri.any ≡ false → grouped ms s ≡ false → grouped (walk (suc n) ls s s.tri.orientation ms s) s ≡ true
walk-marks n ls ms s f e = (walk_first n ls ms s f e).stay s (grouped-mark ms (mark s s))

pub fan-pos : (ss : List Triangle) (s : Spot) → Memᴰ s (spots ss) → 0 < fan ss (corner_of s)
unfolding fan
fan-pos ss s m = let h = keep-lt (λ t. welded (corner_of s) (corner_of t)) (λ t. false) (λ x e. absurd (false≢true e)) s refl (welded-refl (corner_of s)) m in omega arith

pub start-marks : (ss : List Triangle) (ls : List Link) (ms : List Mark) (s : Spot) → Memᴰ s (spots ss) → s.tri.any ≡ false → grouped (start_at ss ls ms s) s ≡ true
unfolding start_at
start-marks ss ls ms s m f = go s.tri.any f (grouped ms s) refl (fan ss (corner_of s)) (fan-pos ss s m)
  where
    go : (a : Bool) → a ≡ false → (b : Bool) → grouped ms s ≡ b → (n : ℕ) → 0 < n → grouped (cond (a || b) ms (walk n ls s s.tri.orientation ms s)) s ≡ true
    go true q b e n h = absurd (true≢false q)
    go false q true e n h = e
    go false q false e zero h = absurd (omega arith)
    go false q false e (suc n) h = walk-marks n ls ms s f e

-- and so does a group that starts there
pub start_first : (ss : List Triangle) (ls : List Link) (ms : List Mark) (s : Spot) → Memᴰ s (spots ss) → s.tri.any ≡ false → grouped ms s ≡ false → Grows (ms ++ (mark s s ∷ [])) (start_at ss ls ms s)
unfolding start_at
start_first ss ls ms s m f e = go s.tri.any f (grouped ms s) e (fan ss (corner_of s)) (fan-pos ss s m)
  where
    go : (a : Bool) → a ≡ false → (b : Bool) → b ≡ false → (n : ℕ) → 0 < n → Grows (ms ++ (mark s s ∷ [])) (cond (a || b) ms (walk n ls s s.tri.orientation ms s))
    go true q b r n h = absurd (true≢false q)
    go false q true r n h = absurd (true≢false r)
    go false q false r zero h = absurd (omega arith)
    go false q false r (suc n) h = walk_first n ls ms s f e

pub start-grows : (ss : List Triangle) (ls : List Link) (ms : List Mark) (s : Spot) → Grows ms (start_at ss ls ms s)
unfolding start_at
start-grows ss ls ms s = grows-cond (s.tri.any || grouped ms s) (grows-refl ms) (walk-grows (fan ss (corner_of s)) ls s s.tri.orientation ms s)

run-grows : (ss : List Triangle) (ls : List Link) (xs : List Spot) (ms : List Mark) → Grows ms (run (start_at ss ls) ms xs)
unfolding run
run-grows ss ls [] ms = grows-refl ms
run-grows ss ls (x ∷ xs) ms = grows-trans (start-grows ss ls ms x) (run-grows ss ls xs (start_at ss ls ms x))

run-marks : (ss : List Triangle) (ls : List Link) (s : Spot) → Memᴰ s (spots ss) → s.tri.any ≡ false → {xs : List Spot} → Memᴰ s xs → (ms : List Mark) → grouped (run (start_at ss ls) ms xs) s ≡ true
unfolding run
run-marks ss ls s m f (Memᴰ.head {x} {xs} e) ms = (run-grows ss ls xs (start_at ss ls ms x)).stay s (subst (λ y. grouped (start_at ss ls ms y) s ≡ true) e (start-marks ss ls ms s m f))
run-marks ss ls s m f (Memᴰ.tail {x} {xs} k) ms = run-marks ss ls s m f k (start_at ss ls ms x)

pub at_least_one : (ss : List Triangle) (ls : List Link) (s : Spot) → Memᴰ s (spots ss) → s.tri.any ≡ false → grouped (marks ss ls) s ≡ true
unfolding marks
at_least_one ss ls s m f = run-marks ss ls s m f m []

-- ---- a triangle's orientation never changes after its first corner is grouped

pub first-append : {X : Type 0} (p : X → Bool) (x : X) (l k : List X) → first p l ≡ some x → first p (l ++ k) ≡ some x
unfolding first
first-append p x [] k e = absurd (let z : ◌≡◌ {A = ℕ} 0 1 = cc in omega arith)
first-append p x (y ∷ l) k e = go (p y) e (λ h. first-append p x l k h)
  where
    go : (b : Bool) → cond b (some y) (first p l) ≡ some x → (first p l ≡ some x → first p (l ++ k) ≡ some x) → cond b (some y) (first p (l ++ k)) ≡ some x
    go true h r = h
    go false h r = r h

pub stays : (ms ns : List Mark) (t : Triangle) (m : Mark) (v v' : Bool) → touched ms t ≡ some m → facing (ms ++ ns) t v ≡ facing ms t v'
unfolding facing way_of touched
stays ms ns t m v v' e = rw (e, first-append (λ k. same_triangle k.spot.tri t) m ms ns e)

-- ---- one final orientation per group: every member's triangle has it at the end

pub tri-refl : (t : Triangle) → same_triangle t t ≡ true
unfolding same_triangle
tri-refl t = rw (eq-eqb t.face t.face refl, beq-refl t.second)

-- at ms, the triangle of the mark has the mark's orientation, and some mark touched it
pub record Settled (ms : List Mark) (m : Mark) : Type 0 where
  pub by : Mark
  pub is : touched ms m.spot.tri ≡ some by
  pub way : (v : Bool) → facing ms m.spot.tri v ≡ m.orientation

pub settled-more : (ms : List Mark) (k m : Mark) → Settled ms m → Settled (ms ++ (k ∷ [])) m
unfolding touched
settled-more ms k m h = record { by = h.by; is = first-append _ h.by ms (k ∷ []) h.is; way = λ v. stays ms (k ∷ []) m.spot.tri h.by v v h.is ∙ h.way v }

pub beq_same : (a b : Bool) → not (beq a b) ≡ false → a ≡ b
beq_same true true e = refl
beq_same true false e = absurd (true≢false e)
beq_same false true e = absurd (true≢false e)
beq_same false false e = refl

pub facing-is : (ms : List Mark) (w : Bool) (s : Spot) → stops ms w s ≡ false → facing ms s.tri w ≡ w
unfolding stops
facing-is ms w s e = beq_same (facing ms s.tri w) w (or_right (grouped ms s) _ e)

pub first-last : {X : Type 0} (p : X → Bool) (x : X) (l : List X) → first p l ≡ none → p x ≡ true → first p (l ++ (x ∷ [])) ≡ some x
unfolding first
first-last p x [] e h = rw h
first-last p x (y ∷ l) e h = go (p y) e (λ k. first-last p x l k h)
  where
    go : (b : Bool) → cond b (some y) (first p l) ≡ none → (first p l ≡ none → first p (l ++ (x ∷ [])) ≡ some x) → cond b (some y) (first p (l ++ (x ∷ []))) ≡ some x
    go true k r = absurd (let z : ◌≡◌ {A = ℕ} 0 1 = cc in omega arith)
    go false k r = r k

pub facing-none : (ms : List Mark) (t : Triangle) (w : Bool) → touched ms t ≡ none → facing ms t w ≡ cond t.any w t.orientation
unfolding facing way_of
facing-none ms t w e = rw e

pub facing-some : (ms : List Mark) (t : Triangle) (v : Bool) (m : Mark) → touched ms t ≡ some m → facing ms t v ≡ cond t.any m.orientation t.orientation
unfolding facing way_of
facing-some ms t v m e = rw e

pub settled-new : (ms : List Mark) (g s : Spot) → stops ms g.tri.orientation s ≡ false → Settled (ms ++ (mark g s ∷ [])) (mark g s)
unfolding touched
settled-new ms g s b = go (touched ms s.tri) refl
  where
    go : (o : Option Mark) → touched ms s.tri ≡ o → Settled (ms ++ (mark g s ∷ [])) (mark g s)
    go none e =
        let i : touched (ms ++ (mark g s ∷ [])) s.tri ≡ some (mark g s) = first-last (λ k. same_triangle k.spot.tri s.tri) (mark g s) ms e (tri-refl s.tri) in
        record { by = mark g s; is = i; way = λ v. facing-some (ms ++ (mark g s ∷ [])) s.tri v (mark g s) i ∙ (sym (facing-none ms s.tri g.tri.orientation e) ∙ facing-is ms g.tri.orientation s b) }
    go (some k) e =
        let i : touched (ms ++ (mark g s ∷ [])) s.tri ≡ some k = first-append (λ k. same_triangle k.spot.tri s.tri) k ms (mark g s ∷ []) e in
        record { by = k; is = i; way = λ v. stays ms (mark g s ∷ []) s.tri k v g.tri.orientation e ∙ facing-is ms g.tri.orientation s b }

module _ (ss : List Triangle) (ls : List Link) (B : Between ss ls) where
  pub final-way : Every (λ m. (v : Bool) → facing (marks ss ls) m.spot.tri v ≡ m.orientation) (marks ss ls)
  final-way =
      every_map (λ m h. h.way)
      (marks-inv ss ls B (λ ms. Every (Settled ms) ms)
      (λ g e ms s p b h. every_append (every_map (λ m k. settled-more ms (mark g s) m k) h) (every_cons (settled-new ms g s b) every_nil))
      every_nil)

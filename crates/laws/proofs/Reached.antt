-- What the walks of step 6 reach: a group holds all that its walk can come to, and nothing else. Assumes nothing.
use Prim.Native.Nat.{ℕ, zero, suc, ◌≤◌, ◌<◌}
use native.Mathlib.Omega.{arith}
use mathlib.Core.Path.{◌≡◌, refl, sym, ◌∙◌, ap, subst}
use mathlib.Core.Bool.{Bool, true, false, cond, not, ◌||◌, beq, true≢false}
use mathlib.Core.List.{List, [], ◌∷◌, ◌++◌, Memᴰ, nil≢cons, head-eq_of_cons-eq, tail-eq_of_cons-eq}
use mathlib.Core.Option.{Option, none, some, some-injective, none-ne-some}
use Rattle.bits.proofs.Bools.{or_left, or_right, beq-refl}
use Rattle.definition.specs.declared.Triangle.{Triangle}
use Rattle.lists.specs.Lists.{run}
use Rattle.definition.specs.Mesh.{Spot, prior, corner_of}
use Rattle.definition.specs.Step4Order.{spots}
use Rattle.definition.specs.Step5Links.{Link}
use Rattle.definition.specs.Step6Groups.{Mark, grouped, facing, stops, over, going, walk, fan, start_at, marks}
use Rattle.lists.specs.Every.{Each, each_none, each_some, Every, every_nil, every_cons}
use Rattle.laws.proofs.Part.{every_map, every_append, every-pair}
use Rattle.laws.proofs.Enough.{Near, Grows, grows-refl, grows-trans, grows-snoc, grows-going, walk-grows, grouped-mark, left', left_less, left-drop, stops-grouped, open-fan}
use Rattle.laws.proofs.Closed.{Between, over-near}
use Rattle.laws.proofs.Weld.{welded-refl}
use Rattle.laws.proofs.Shuffled.{every-mem}
use Rattle.laws.proofs.Laws.{mark}

-- ---- the walk and the groups as relations, with no count in them

-- the walk of the group that starts at g leads from the marks ms over an optional corner to the marks ns
pub data Goes (ls : List Link) (g : Spot) : List Mark → Option Spot → List Mark → Type 0 where
  nowhere : {ms : List Mark} → Goes ls g ms none ms
  halted : {ms : List Mark} {s : Spot} → stops ms g.tri.orientation s ≡ true → Goes ls g ms (some s) ms
  entered : {ms ns ks : List Mark} {s : Spot} → stops ms g.tri.orientation s ≡ false → Goes ls g (ms ++ (mark g s ∷ [])) (over ls (corner_of g) (prior s)) ns → Goes ls g ns (over ls (corner_of g) s) ks → Goes ls g ms (some s) ks

-- marks that groups make, one group after the other
pub data Made (ls : List Link) : List Mark → Type 0 where
  made_none : Made ls []
  made_more : {ms ns : List Mark} (g : Spot) → Made ls ms → g.tri.any ≡ false → grouped ms g ≡ false → Goes ls g ms (some g) ns → Made ls ns

module _ (ss : List Triangle) (ls : List Link) (B : Between ss ls) where
  module _ (g : Spot) where
    abbrev way : Bool
    way = g.tri.orientation

    abbrev near : (s : Spot) → Near ss (corner_of g) s → Each (Near ss (corner_of g)) (over ls (corner_of g) s) × Each (Near ss (corner_of g)) (over ls (corner_of g) (prior s))
    near s h = (over-near ss ls B (corner_of g) s, over-near ss ls B (corner_of g) (prior s))

    abbrev room : List Mark → ℕ
    room ms = left' ss ls g way near ms

    abbrev on : ℕ → List Mark → Spot → List Mark
    on n ms s = walk n ls g way ms s

    -- where there is a corner to go to
    going-goes : (n : ℕ) → ((ms : List Mark) (s : Spot) → Near ss (corner_of g) s → room ms ≤ n → Goes ls g ms (some s) (on n ms s)) → (ms : List Mark) (o : Option Spot) → Each (Near ss (corner_of g)) o → room ms ≤ n → Goes ls g ms o (going (on n) ms o)
    unfolding going
    going-goes n f ms none each_none h = nowhere
    going-goes n f ms (some s) (each_some p) h = f ms s p h

    -- a corner at which the walk does not stop leaves less room
    drop : (ms : List Mark) (s : Spot) → Near ss (corner_of g) s → stops ms way s ≡ false → room (ms ++ (mark g s ∷ [])) < room ms
    drop ms s p e = left-drop ss ls g way near ms s p (stops-grouped ss ls g way near ms s e)

    -- with steps enough the walk is that relation
    walk-goes : (n : ℕ) (ms : List Mark) (s : Spot) → Near ss (corner_of g) s → room ms ≤ n → Goes ls g ms (some s) (on n ms s)
    unfolding walk
    walk-goes zero ms s p h = go (stops ms way s) refl
      where
        go : (b : Bool) → stops ms way s ≡ b → Goes ls g ms (some s) ms
        go true e = halted e
        go false e = absurd (let d = drop ms s p e in omega arith)
    walk-goes (suc n) ms s p h = go (stops ms way s) refl (going-goes n (λ ms' s' p' h'. walk-goes n ms' s' p' h'))
      where
        go : (b : Bool) → stops ms way s ≡ b → ((ns : List Mark) (o : Option Spot) → Each (Near ss (corner_of g)) o → room ns ≤ n → Goes ls g ns o (going (on n) ns o)) → Goes ls g ms (some s) (cond b ms (going (on n) (going (on n) (ms ++ (mark g s ∷ [])) (over ls (corner_of g) (prior s))) (over ls (corner_of g) s)))
        go true e f = halted e
        go false e f =
            let d = drop ms s p e in
            let ns = ms ++ (mark g s ∷ []) in
            let o = over ls (corner_of g) (prior s) in
            let l = left_less ss ls g way near (grows-going (on n) (λ ms' s'. walk-grows n ls g way ms' s') ns o) in
            entered e (f ns o (over-near ss ls B (corner_of g) (prior s)) (omega arith)) (f _ (over ls (corner_of g) s) (over-near ss ls B (corner_of g) s) (omega arith))

    start-goes : (ms : List Mark) → Memᴰ g (spots ss) → Goes ls g ms (some g) (walk (fan ss (corner_of g)) ls g way ms g)
    start-goes ms m = walk-goes (fan ss (corner_of g)) ms g (record { inside = m; joined = welded-refl (corner_of g) }) (open-fan ss ls g way near ms)

  start-made : (ms : List Mark) (s : Spot) → Memᴰ s (spots ss) → Made ls ms → Made ls (start_at ss ls ms s)
  unfolding start_at
  start-made ms s m h = go (s.tri.any || grouped ms s) refl
    where
      go : (b : Bool) → (s.tri.any || grouped ms s) ≡ b → Made ls (cond b ms (walk (fan ss (corner_of s)) ls s s.tri.orientation ms s))
      go true e = h
      go false e = made_more s h (or_left s.tri.any (grouped ms s) e) (or_right s.tri.any (grouped ms s) e) (start-goes s ms m)

  run-made : {xs : List Spot} → Every (λ s. Memᴰ s (spots ss)) xs → (ms : List Mark) → Made ls ms → Made ls (run (start_at ss ls) ms xs)
  unfolding run
  run-made every_nil ms h = h
  run-made (every_cons {x = s} m r) ms h = run-made r (start_at ss ls ms s) (start-made ms s m h)

  -- the marks of the triangles are made so
  pub marks-made : Made ls (marks ss ls)
  unfolding marks
  marks-made = run-made (every-mem _ (spots ss) (λ s m. m)) [] made_none

-- ---- a walk stops at no corner that it could enter

-- over one of the two sides at the corner of a mark lies the corner y
pub data Crossed (ls : List Link) (m : Mark) (y : Spot) : Type 0 where
  ahead : over ls (corner_of m.start) m.spot ≡ some y → Crossed ls m y
  behind : over ls (corner_of m.start) (prior m.spot) ≡ some y → Crossed ls m y

-- and the mark's group can always enter it: its triangle isn't `group_with_any` and has the group's orientation
pub record Open (ls : List Link) (m : Mark) (y : Spot) : Type 0 where
  pub crossed : Crossed ls m y
  pub plain : y.tri.any ≡ false
  pub faced : y.tri.orientation ≡ m.orientation

-- all such corners are grouped
pub record Shut (ls : List Link) (ms : List Mark) (m : Mark) : Type 0 where
  pub shut : (y : Spot) → Open ls m y → grouped ms y ≡ true

shut-more : {ls : List Link} {ms ns : List Mark} → Grows ms ns → (m : Mark) → Shut ls ms m → Shut ls ns m
shut-more r m h = record { shut = λ y o. r.stay y (h.shut y o) }

-- a triangle that isn't `group_with_any` has its own orientation
pub facing-own : (ms : List Mark) (t : Triangle) (w : Bool) → t.any ≡ false → facing ms t w ≡ t.orientation
unfolding facing
facing-own ms t w e = rw e

-- a walk that stops at a corner that the group can enter stops because it is grouped
not-beq : (a b : Bool) → a ≡ b → not (beq a b) ≡ false
not-beq a b e = ap (λ c. not (beq c b)) e ∙ ap not (beq-refl b)

stops-in : (ms : List Mark) (w : Bool) (y : Spot) → stops ms w y ≡ true → y.tri.any ≡ false → y.tri.orientation ≡ w → grouped ms y ≡ true
unfolding stops
stops-in ms w y e f q = go (grouped ms y) (not (beq (facing ms y.tri w) w)) e (not-beq (facing ms y.tri w) w (facing-own ms y.tri w f ∙ q))
  where
    go : (a b : Bool) → (a || b) ≡ true → b ≡ false → a ≡ true
    go true b e q = refl
    go false b e q = sym q ∙ e

module _ {ls : List Link} {g : Spot} where
  -- a walk leaves all marks that were there
  goes-grows : {ms ns : List Mark} {o : Option Spot} → Goes ls g ms o ns → Grows ms ns
  goes-grows (nowhere {ms}) = grows-refl ms
  goes-grows (halted {ms} e) = grows-refl ms
  goes-grows (entered {ms} {s = s} e a b) = grows-trans (grows-snoc ms (mark g s)) (grows-trans (goes-grows a) (goes-grows b))

  -- the corner that it comes to is grouped afterwards, where the group can enter it
  goes-reach : {ms ns : List Mark} {o : Option Spot} → Goes ls g ms o ns → (y : Spot) → o ≡ some y → y.tri.any ≡ false → y.tri.orientation ≡ g.tri.orientation → grouped ns y ≡ true
  goes-reach nowhere y q f w = absurd (none-ne-some y q)
  goes-reach (halted {ms} {s} e) y q f w = stops-in ms g.tri.orientation y (ap (stops ms g.tri.orientation) (sym (some-injective s y q)) ∙ e) f w
  goes-reach (entered {ms} {ks = ks} {s} e a b) y q f w = ap (grouped ks) (sym (some-injective s y q)) ∙ (grows-trans (goes-grows a) (goes-grows b)).stay s (grouped-mark ms (mark g s))

-- a mark of the group that starts at g, on a corner that was in no group of ms
record Fresh (g : Spot) (ms : List Mark) (m : Mark) : Type 0 where
  of-group : m.start ≡ g
  ungrouped : grouped ms m.spot ≡ false

-- what a walk leaves: the marks that were there, and fresh ones that are shut
record Trip (ls : List Link) (g : Spot) (ms ns : List Mark) : Type 1 where
  grows : Grows ms ns
  all : (P : Mark → Type 0) → Every P ms → ((m : Mark) → Fresh g ms m → Shut ls ns m → P m) → Every P ns

fresh-less : {g : Spot} {ms ns : List Mark} → Grows ms ns → (m : Mark) → Fresh g ns m → Fresh g ms m
fresh-less {g} {ms} {ns} r m h = record { of-group = h.of-group; ungrouped = go (grouped ms m.spot) refl }
  where
    go : (b : Bool) → grouped ms m.spot ≡ b → b ≡ false
    go true e = sym (r.stay m.spot e) ∙ h.ungrouped
    go false e = refl

module _ {ls : List Link} {g : Spot} where
  trip-none : (ms : List Mark) → Trip ls g ms ms
  trip-none ms = record { grows = grows-refl ms; all = λ P h f. h }

  trip-trans : {ms ns ks : List Mark} → Trip ls g ms ns → Trip ls g ns ks → Trip ls g ms ks
  trip-trans a b =
      record {
        grows = grows-trans a.grows b.grows;
        all = λ P h f. b.all P (a.all P h (λ m u v. f m u (shut-more b.grows m v))) (λ m u v. f m (fresh-less a.grows m u) v);
      }

  trip-enter : (ms ns : List Mark) (s : Spot) → grouped ms s ≡ false → Shut ls ns (mark g s) → Trip ls g (ms ++ (mark g s ∷ [])) ns → Trip ls g ms ns
  trip-enter ms ns s e h t =
      let r = grows-snoc ms (mark g s) in
      record {
        grows = grows-trans r t.grows;
        all = λ P k f. t.all P (every_append k (every_cons (f (mark g s) (record { of-group = refl; ungrouped = e }) h) every_nil)) (λ m u v. f m (fresh-less r m u) v);
      }

  -- the corner that a walk has left is shut: it went over both of its sides
  left-shut : {ms ns ks : List Mark} (s : Spot) → Goes ls g ms (over ls (corner_of g) (prior s)) ns → Goes ls g ns (over ls (corner_of g) s) ks → Shut ls ks (mark g s)
  left-shut {ks = ks} s a b = record { shut = λ y o. go y o.crossed o.plain o.faced }
    where
      go : (y : Spot) → Crossed ls (mark g s) y → y.tri.any ≡ false → y.tri.orientation ≡ g.tri.orientation → grouped ks y ≡ true
      go y (ahead e) f w = goes-reach b y e f w
      go y (behind e) f w = (goes-grows b).stay y (goes-reach a y e f w)

  trip : {ms ns : List Mark} {o : Option Spot} → Goes ls g ms o ns → Trip ls g ms ns
  unfolding stops
  trip (nowhere {ms}) = trip-none ms
  trip (halted {ms} e) = trip-none ms
  trip (entered {ms} {ks = ks} {s} e a b) = trip-enter ms ks s (or_left (grouped ms s) _ e) (left-shut s a b) (trip-trans (trip a) (trip b))

module _ (ls : List Link) where
  -- when a group ends all marks are shut
  made-shut : {ms : List Mark} → Made ls ms → Every (Shut ls ms) ms
  made-shut made_none = every_nil
  made-shut (made_more {ns = ns} g r f e w) = let t = trip w in t.all (Shut ls ns) (every_map (shut-more t.grows) (made-shut r)) (λ m u v. v)

-- Every corner that lies over a side at a grouped corner, of a triangle that isn't `group_with_any` and has the group's orientation, is grouped.
pub closed : (ss : List Triangle) (ls : List Link) → Between ss ls → Every (Shut ls (marks ss ls)) (marks ss ls)
closed ss ls B = made-shut ls (marks-made ss ls B)

-- ---- every group is connected

-- how a mark came about: it stands on the corner at which its group started, or over a side at an earlier corner of its group
pub data Reached (ls : List Link) (pre : List Mark) (m : Mark) : Type 0 where
  at-start : m.spot ≡ m.start → Reached ls pre m
  from : (k : Mark) → Memᴰ k pre → k.start ≡ m.start → Crossed ls k m.spot → Reached ls pre m

-- every mark came about so from those before it
record Trail (ls : List Link) (ms : List Mark) : Type 0 where
  reached : (pre post : List Mark) (m : Mark) → ms ≡ pre ++ (m ∷ post) → Reached ls pre m

-- an element of a list with one more at its end: an earlier one, or that one
data Split {X : Type 0} (l : List X) (k : X) (pre : List X) (x : X) : Type 0 where
  earlier : (post : List X) → l ≡ pre ++ (x ∷ post) → Split l k pre x
  last : l ≡ pre → k ≡ x → Split l k pre x

split : {X : Type 0} (l : List X) (k : X) (pre post : List X) (x : X) → l ++ (k ∷ []) ≡ pre ++ (x ∷ post) → Split l k pre x
split [] k [] post x e = last refl (head-eq_of_cons-eq e)
split [] k (p ∷ []) post x e = absurd (nil≢cons (tail-eq_of_cons-eq e))
split [] k (p ∷ q ∷ pre) post x e = absurd (nil≢cons (tail-eq_of_cons-eq e))
split (y ∷ l) k [] post x e = earlier l (λ i. head-eq_of_cons-eq e i ∷ l)
split (y ∷ l) k (p ∷ pre) post x e = go (split l k pre post x (tail-eq_of_cons-eq e))
  where
    go : Split l k pre x → Split (y ∷ l) k (p ∷ pre) x
    go (earlier r q) = earlier r (λ i. head-eq_of_cons-eq e i ∷ q i)
    go (last q h) = last (λ i. head-eq_of_cons-eq e i ∷ q i) h

trail-snoc : {ls : List Link} {ms : List Mark} → Trail ls ms → (k : Mark) → Reached ls ms k → Trail ls (ms ++ (k ∷ []))
trail-snoc {ls} {ms} t k h = record { reached = λ pre post m e. go pre m (split ms k pre post m e) }
  where
    go : (pre : List Mark) (m : Mark) → Split ms k pre m → Reached ls pre m
    go pre m (earlier post e) = t.reached pre post m e
    go pre m (last e q) = subst (λ l. Reached ls l m) e (subst (Reached ls ms) q h)

-- what was marked stays marked
mem-grows : {ms ns : List Mark} → Grows ms ns → (k : Mark) → Memᴰ k ms → Memᴰ k ns
mem-grows r k m = subst (Memᴰ k) (sym r.is) (mathlib.Core.List.Memᴰ.append_left r.added m)

module _ {ls : List Link} {g : Spot} where
  goes-trail : {ms ns : List Mark} {o : Option Spot} → Goes ls g ms o ns → Trail ls ms → ((s : Spot) → o ≡ some s → Reached ls ms (mark g s)) → Trail ls ns
  goes-trail nowhere t f = t
  goes-trail (halted e) t f = t
  goes-trail (entered {ms} {s = s} e a b) t f =
      let k = mark g s in
      let m : Memᴰ k (ms ++ (k ∷ [])) = mathlib.Core.List.Memᴰ.append_right ms (mathlib.Core.List.Memᴰ.head refl) in
      goes-trail b (goes-trail a (trail-snoc t k (f s refl)) (λ y q. from k m refl (behind q))) (λ y q. from k (mem-grows (goes-grows a) k m) refl (ahead q))

made-trail : {ls : List Link} {ms : List Mark} → Made ls ms → Trail ls ms
made-trail made_none = record { reached = λ pre post m e. absurd (none_in pre post m e) }
  where
    none_in : (pre post : List Mark) (m : Mark) → [] ≡ pre ++ (m ∷ post) → ⊥
    none_in [] post m e = nil≢cons e
    none_in (x ∷ pre) post m e = nil≢cons e
made-trail (made_more g r f e w) = goes-trail w (made-trail r) (λ s q. at-start (sym (some-injective g s q)))

-- Every group is connected over linked sides that end in its corner: each mark stands on its group's start, or over a side at the corner of an earlier mark of the group.
pub connected : (ss : List Triangle) (ls : List Link) → Between ss ls → (pre post : List Mark) (m : Mark) → marks ss ls ≡ pre ++ (m ∷ post) → Reached ls pre m
connected ss ls B = (made-trail (marks-made ss ls B)).reached

-- ---- corners that lie over sides of each other are in one group

-- two marks, each of which the other's group can enter, are in one group
abbrev pub Joint : List Link → Mark → Mark → Type 0
Joint ls m n = Open ls m n.spot → Open ls n m.spot → m.start ≡ n.start

-- a shut mark opens on no fresh one
shut-fresh : {ls : List Link} {ms : List Mark} {g : Spot} (m n : Mark) → Shut ls ms m → Fresh g ms n → Open ls m n.spot → ⊥
shut-fresh m n h u o = true≢false (sym (h.shut n.spot o) ∙ u.ungrouped)

-- that holds of all marks that groups make: where one of the two was made by an earlier group, it is shut when that group ends
pub made-joint : (ls : List Link) {ms : List Mark} → Made ls ms → Every (λ m. Every (Joint ls m) ms) ms
made-joint ls made_none = every_nil
made-joint ls (made_more {ns = ns} g r f e w) =
    let t = trip w in
    let old = made-shut ls r in
    t.all (λ m. Every (Joint ls m) ns)
    (every_map (λ m h. t.all (Joint ls m) h.1 (λ n u v a b. absurd (shut-fresh m n h.0 u a))) (every-pair old (made-joint ls r)))
    (λ m u v. t.all (Joint ls m) (every_map (λ n h a b. absurd (shut-fresh n m h u b)) old) (λ n u' v' a b. u.of-group ∙ sym u'.of-group))

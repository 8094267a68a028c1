-- Request E7: how many triangles stand behind what a member brings, and that it is never none. Assumes nothing.
use Prim.Native.Nat.{ℕ, zero, suc, ◌+◌, ◌%◌, ◌≤◌, ◌<◌}
use native.Mathlib.Omega.{arith}
use mathlib.Core.Path.{◌≡◌, refl, sym, ◌∙◌, ap, subst}
use mathlib.Core.Bool.{Bool, true, false, cond, not, ◌||◌, false≢true}
use mathlib.Core.List.Memᴰ
use mathlib.Core.List.{List, [], ◌∷◌, ◌++◌, Memᴰ}
use mathlib.Core.Option.{some}
use lib.Dec.{eqb}
use lib.ListN.{length}
use lib.Ieee.{Float}
use borrow.Author.Tests.{eq-eqb}
use Rattle.math.specs.declared.Vec3.{Vec3}
use Rattle.lists.specs.Lists.{keep, first, has, run}
use Rattle.lists.specs.Every.{Every, every_nil, every_cons}
use Rattle.definition.specs.declared.Corner.{Corner}
use Rattle.definition.specs.declared.Triangle.{Triangle}
use Rattle.definition.specs.declared.Sum.{Sum}
use Rattle.definition.specs.Names.{Names}
use Rattle.definition.specs.Mesh.{Spot, corner_of, same_triangle, same_spot}
use Rattle.definition.specs.Step4Order.{spots, welded}
use Rattle.definition.specs.Step5Links.{Link}
use Rattle.definition.specs.Step6Groups.{Mark, marks, members, corner_in}
use Rattle.definition.specs.Step7Sums.{empty_sum, weighed, add_spot, contribute, finish, evaluate, close, joins, subgroup}
use Rattle.bits.proofs.Bools.{and_left}
use Rattle.laws.proofs.Part.{every_map, every-keep, every-pair, keep-passes, has_some, has_one, mem-keep}
use Rattle.laws.proofs.Shuffled.{every-mem}
use Rattle.laws.proofs.Mutual.{spots-apart, apart-inj, every-at, one_name, corner-tri}
use Rattle.laws.proofs.Closed.{Between, corners-in}
use Rattle.laws.proofs.Laws.{one_corner, marks-inside, one_way, tri-refl}
use Rattle.laws.proofs.Enough.{third-refl}
use Rattle.laws.proofs.Reached.{Reached, at-start, from, connected}
use mathlib.Core.List.{append_assoc}
use lib.ListN.{length-append}

-- ---- lists

-- where an element of a list stands
record Place {X : Type 0} (l : List X) (x : X) : Type 0 where
  pre : List X
  post : List X
  is : l ≡ pre ++ (x ∷ post)

place : {X : Type 0} {x : X} {l : List X} → Memᴰ x l → Place l x
place (Memᴰ.head {xs = l} q) = record { pre = []; post = l; is = λ i. sym q i ∷ l }
place (Memᴰ.tail {x = y} m) = let p = place m in record { pre = y ∷ p.pre; post = p.post; is = λ i. y ∷ p.is i }

-- a list with an element is not empty
mem_long : {X : Type 0} {x : X} {l : List X} → Memᴰ x l → 0 < length l
mem_long (Memᴰ.head q) = omega arith
mem_long (Memᴰ.tail m) = omega arith

-- where one passes, one is found
pub first_one : {X : Type 0} (p : X → Bool) (l : List X) → has p l ≡ true → (x : X) × (first p l ≡ some x)
unfolding first has
first_one p [] e = absurd (false≢true e)
first_one p (x ∷ l) e = go (p x) (first_one p l) e
  where
    go : (b : Bool) → (has p l ≡ true → (y : _) × (first p l ≡ some y)) → (b || has p l) ≡ true → (y : _) × (cond b (some x) (first p l) ≡ some y)
    go true r f = (x, refl)
    go false r f = r f

-- ---- what contributes is counted

-- the triangles that are not `group_with_any`
abbrev pub plain : Triangle → Bool
plain t = not t.any

-- the corner is found in a triangle
abbrev Finds : Corner → Triangle → Type 0
Finds c t = (s : Spot) × (corner_in c t ≡ some s)

module _ (c : Corner) (z : Sum) (t : Triangle) where
  none_more : t.any ≡ true → contribute c z t ≡ z
  unfolding contribute
  none_more e = ap (λ (b : Bool). cond b z (add_spot z (corner_in c t))) e

  one_more : t.any ≡ false → Finds c t → (contribute c z t).behind ≡ (z.behind + 1) % 4294967296
  unfolding contribute add_spot weighed
  one_more e f = ap (λ (x : Sum). x.behind) (ap (λ (b : Bool). cond b z (add_spot z (corner_in c t))) e ∙ ap (add_spot z) f.1)

counts : (c : Corner) (z : Sum) {ts : List Triangle} → Every (Finds c) ts → z.behind + length (keep plain ts) < 4294967296 → (run (contribute c) z ts).behind ≡ z.behind + length (keep plain ts)
unfolding run keep
counts c z every_nil l = omega arith
counts c z (every_cons {x = t} {l = ts} f r) l = go (λ z k. counts c z r k) t.any refl l
  where
    go : ((z : Sum) → z.behind + length (keep plain ts) < 4294967296 → (run (contribute c) z ts).behind ≡ z.behind + length (keep plain ts))
        → (b : Bool) → t.any ≡ b → z.behind + length (cond (not b) (t ∷ keep plain ts) (keep plain ts)) < 4294967296
        → (run (contribute c) (contribute c z t) ts).behind ≡ z.behind + length (cond (not b) (t ∷ keep plain ts) (keep plain ts))
    go rest true e k = ap (λ (x : Sum). (run (contribute c) x ts).behind) (none_more c z t e) ∙ rest z k
    go rest false e k = let b = one_more c z t e f in rest (contribute c z t) (omega (arith, k, b)) ∙ omega (arith, k, b)

pub evaluate-counts : (c : Corner) {ts : List Triangle} → Every (Finds c) ts → length (keep plain ts) < 4294967296 → (evaluate c ts).behind ≡ length (keep plain ts)
unfolding evaluate finish
evaluate-counts c r l = counts c empty_sum r (omega (arith, l)) ∙ omega arith

-- a `group_with_any` triangle joins with any
any-joins : (h : Float) (n : Vec3) (a b : Triangle) → a.any ≡ true → joins h n a b ≡ true
unfolding joins
any-joins h n a b e = ap (λ (x : Bool). x || b.any || eqb a.face b.face || close h n a.tangent b.tangent) e

-- ---- in a subgroup every triangle has the corner, and one is plain

same_self : (s : Spot) → same_spot s s ≡ true
unfolding same_spot
same_self s = rw (tri-refl s.tri, third-refl s.at)

module _ (ss : List Triangle) (ls : List Link) (B : Between ss ls) (names : Names ss) where
  abbrev ms : List Mark
  ms = marks ss ls

  -- the mark of the corner at which a mark's group started
  record Started (m : Mark) : Type 0 where
    by : Mark
    here : Memᴰ by ms
    spot : by.spot ≡ m.start
    start : by.start ≡ m.start

  from_start : (pre post : List Mark) (m : Mark) → ms ≡ pre ++ (m ∷ post) → ((k : Mark) → Memᴰ k pre → Started k) → Reached ls pre m → Started m
  from_start pre post m e r (at-start q) = record { by = m; here = subst (Memᴰ m) (sym e) (Memᴰ.append_right pre (Memᴰ.head refl)); spot = q; start = refl }
  from_start pre post m e r (from k i q c) = let s = r k i in record { by = s.by; here = s.here; spot = s.spot ∙ q; start = s.start ∙ q }

  started-from : (n : ℕ) (pre post : List Mark) (m : Mark) → length pre ≤ n → ms ≡ pre ++ (m ∷ post) → Started m
  started-from zero pre post m l e = from_start pre post m e (λ k i. let h = mem_long i in absurd (omega (arith, h, l))) (connected ss ls B pre post m e)
  started-from (suc n) pre post m l e =
      from_start pre post m e
      (λ k i.
      let p = place i in
      started-from n p.pre (p.post ++ (m ∷ post)) k (omega (arith, l, ap length p.is, length-append p.pre (k ∷ p.post)))
      (e ∙ ap (λ (x : List Mark). x ++ (m ∷ post)) p.is ∙ append_assoc p.pre (k ∷ p.post) (m ∷ post)))
      (connected ss ls B pre post m e)

  started : (m : Mark) → Memᴰ m ms → Started m
  started m h = let p = place h in started-from (length p.pre) p.pre p.post m (omega arith) p.is

  -- a mark's start is a corner of the triangles
  start-inside : (m : Mark) → Memᴰ m ms → Memᴰ m.start (spots ss)
  start-inside m h = let s = started m h in subst (λ (x : Spot). Memᴰ x (spots ss)) s.spot (every-at (marks-inside ss ls B) s.here)

  -- a member of m's group
  record Member (m k : Mark) : Type 0 where
    here : Memᴰ k ms
    start : k.start ≡ m.start

  member : (m k : Mark) → Memᴰ m ms → Memᴰ k (members ms m) → Member m k
  unfolding members
  member m k h i =
      let here = every-at (every-keep (λ (k : Mark). same_spot k.start m.start) (every-mem (λ x. Memᴰ x ms) ms (λ x j. j))) i in
      record { here = here; start = apart-inj (spots-apart names) k.start m.start (start-inside k here) (start-inside m h) (every-at (keep-passes (λ (k : Mark). same_spot k.start m.start) ms) i) }

  -- the triangle of a mark
  tri-inside : (m : Mark) → Memᴰ m ms → Memᴰ m.spot.tri ss
  tri-inside m h = corner-tri ss m.spot (every-at (marks-inside ss ls B) h)

  module _ (h : Float) (m : Mark) (here : Memᴰ m ms) where
    -- every triangle of its subgroup has its group's corner
    subgroup-finds : Every (Finds (corner_of m.start)) (subgroup h ss ms m)
    unfolding subgroup corner_in
    subgroup-finds = every_map (λ t p. found t p.0 (and_left _ _ p.1)) (every-pair (every-keep _ (every-mem (λ t. Memᴰ t ss) ss (λ t j. j))) (keep-passes _ ss))
      where
        in-triangle : (t : Triangle) → Memᴰ t ss → (k : Mark) → Member m k → same_triangle k.spot.tri t ≡ true → Finds (corner_of m.start) t
        in-triangle t i k n e =
            let same = one_name names k.spot.tri t (tri-inside k n.here) i e in
            let joined = ap (λ (s : Spot). welded (corner_of s) (corner_of k.spot)) (sym n.start) ∙ every-at (one_corner ss ls B) n.here in
            subst (Finds (corner_of m.start)) same (first_one (λ s. welded (corner_of m.start) (corner_of s)) (spots (k.spot.tri ∷ [])) (has_one (λ s. welded (corner_of m.start) (corner_of s)) k.spot (corners-in (k.spot.tri ∷ []) k.spot.tri k.spot.at (Memᴰ.head refl)) joined))

        found : (t : Triangle) → Memᴰ t ss → has (λ k. same_triangle k.spot.tri t) (members ms m) ≡ true → Finds (corner_of m.start) t
        found t i e = let p = has_some (λ (k : Mark). same_triangle k.spot.tri t) (members ms m) e in in-triangle t i p.0 (member m p.0 here p.1.among) p.1.passes

    -- one of its triangles is plain: its own, or that at which its group started
    one_plain : (t : Triangle) → Memᴰ t ss → t.any ≡ false → has (λ k. same_triangle k.spot.tri t) (members ms m) ≡ true → joins h (corner_of m.spot).normal m.spot.tri t ≡ true → 0 < length (keep plain (subgroup h ss ms m))
    unfolding subgroup
    one_plain t i p e j = mem_long (mem-keep plain t (mem-keep _ t i (rw (e, j))) (ap not p))

    in_group : (k : Mark) → Memᴰ k ms → k.start ≡ m.start → has (λ k'. same_triangle k'.spot.tri k.spot.tri) (members ms m) ≡ true
    unfolding members
    in_group k i e = has_one (λ k'. same_triangle k'.spot.tri k.spot.tri) k (mem-keep _ k i (ap (λ (s : Spot). same_spot s m.start) e ∙ same_self m.start)) (tri-refl k.spot.tri)

    pub some-plain : 0 < length (keep plain (subgroup h ss ms m))
    unfolding joins
    some-plain = go m.spot.tri.any refl
      where
        go : (b : Bool) → m.spot.tri.any ≡ b → 0 < length (keep plain (subgroup h ss ms m))
        go false e = one_plain m.spot.tri (tri-inside m here) e (in_group m here refl) (rw (e, eq-eqb m.spot.tri.face m.spot.tri.face refl))
        go true e =
            let s = started m here in
            one_plain s.by.spot.tri (tri-inside s.by s.here) (ap (λ (x : Spot). x.tri.any) s.spot ∙ (every-at (one_way ss ls B) here).1) (in_group s.by s.here s.start) (any-joins h (corner_of m.spot).normal m.spot.tri s.by.spot.tri e)

    -- what it brings counts them
    pub brings-plain : length (keep plain (subgroup h ss ms m)) < 4294967296 → (evaluate (corner_of m.start) (subgroup h ss ms m)).behind ≡ length (keep plain (subgroup h ss ms m))
    brings-plain l = evaluate-counts (corner_of m.start) subgroup-finds l

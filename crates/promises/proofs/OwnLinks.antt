-- Request E11 holds of every accepted mesh. Assumes nothing.
use Prim.Native.Nat.{ℕ, zero, suc, ◌<◌}
use native.Mathlib.Omega.{arith}
use mathlib.Core.Path.{◌≡◌, refl, sym, ap, ◌∙◌, subst}
use mathlib.Core.Bool.{Bool, true, false, cond}
use mathlib.Core.List.{List, [], ◌∷◌, ◌++◌, append_assoc, Memᴰ}
use mathlib.Core.Option.{Option, none, some, none-ne-some}
use lib.ListN.{length, length-append}
use Rattle.lists.specs.Lists.{first, run}
use Rattle.definition.specs.Desk.{at_desk}
use Rattle.definition.specs.declared.Corner.{Corner}
use Rattle.definition.specs.declared.Triangle.{Triangle}
use Rattle.definition.specs.Mesh.{Spot, next, corner_of, same_triangle}
use Rattle.definition.specs.Frames.{numbered, triangles_of}
use Rattle.definition.specs.Handed.{mesh_of}
use Rattle.definition.specs.Triangles.{triangles}
use Rattle.definition.specs.Step4Order.{is_sound, sound, welded}
use Rattle.definition.specs.Step5Links.{end_of, links}
use Rattle.definition.specs.Step6Groups.{Mark, facing, way_of, touched, marks}
use Rattle.laws.proofs.Closed.{links-sound, spots-every}
use Rattle.lists.specs.Every.{Every, every_nil, every_cons}
use Rattle.definition.specs.Names.{Names}
use Rattle.laws.proofs.Mutual.{every-at, mutual', one_name, corner-tri}
use Rattle.laws.proofs.Shuffled.{every-mem}
use Rattle.laws.proofs.Numbers.{names-keep, triangles-names}
use Rattle.laws.proofs.Sharp.{Sharp, sharp-ends, mesh-sharp, accepted-real}
use Rattle.laws.proofs.Laws as laws
use Rattle.laws.proofs.Leftover as left
use Rattle.laws.proofs.Reached as reach
use Rattle.laws.proofs.OneGroup as group
use Rattle.laws.proofs.Verdict.{fine}
use Rattle.promises.specs.OwnLinks.{Of, OfLinks, Joined, MetFrom, way_after, OfGroups, sound_of, Promised, after, before, start, member}
use Rattle.promises.proofs.Acceptance.{no_row}

-- ---- the orientation that the last mark on a triangle gave it

module _ (t : Triangle) where
  abbrev on : Mark → Bool
  on m = same_triangle m.spot.tri t

  abbrev turned : Bool → List Mark → Bool
  turned z ms = run (λ w m. cond (on m) m.orientation w) z ms

  -- where all marks on it have the orientation x, and it has it already
  stays-level : (x z : Bool) {ms : List Mark} → Every (λ m. on m ≡ true → m.orientation ≡ x) ms → z ≡ x → turned z ms ≡ x
  unfolding run
  stays-level x z every_nil e = e
  stays-level x z (every_cons {x = m} p h) e = stays-level x (cond (on m) m.orientation z) h (go (on m) p)
    where
      go : (b : Bool) → (b ≡ true → m.orientation ≡ x) → cond b m.orientation z ≡ x
      go true p = p refl
      go false p = e

  -- or one of them is there
  gets-level : (x z : Bool) (k : Mark) {ms : List Mark} → Every (λ m. on m ≡ true → m.orientation ≡ x) ms → touched ms t ≡ some k → turned z ms ≡ x
  unfolding run touched first
  gets-level x z k every_nil e = absurd (none-ne-some k e)
  gets-level x z k (every_cons {x = m} {l} p h) e = go (on m) p e (λ q. gets-level x z k h q)
    where
      go : (b : Bool) → (b ≡ true → m.orientation ≡ x) → cond b (some m) (first on l) ≡ some k → (first on l ≡ some k → turned z l ≡ x) → turned (cond b m.orientation z) l ≡ x
      go true p e r = stays-level x m.orientation h (p refl)
      go false p e r = r e

  -- or none is on it
  never_on : (z : Bool) (ms : List Mark) → touched ms t ≡ none → turned z ms ≡ z
  unfolding run touched first
  never_on z [] e = refl
  never_on z (m ∷ ms) e = go (on m) e (λ q. never_on z ms q)
    where
      go : (b : Bool) → cond b (some m) (first on ms) ≡ none → (first on ms ≡ none → turned z ms ≡ z) → turned (cond b m.orientation z) ms ≡ z
      go true e r = absurd (none-ne-some m (sym e))
      go false e r = r e

either_same : (b w : Bool) → cond b w w ≡ w
either_same true w = refl
either_same false w = refl

-- an element stands between two parts of its list
split-mem : {X : Type 0} (l : List X) (x : X) → Memᴰ x l → (pre : List X) × (post : List X) × (l ≡ pre ++ (x ∷ post))
split-mem [] x h = absurd (mathlib.Core.List.Memᴰ.not-nil h)
split-mem (y ∷ l) x (mathlib.Core.List.Memᴰ.head e) = ([], l, λ i. sym e i ∷ l)
split-mem (y ∷ l) x (mathlib.Core.List.Memᴰ.tail h) = let r = split-mem l x h in (y ∷ r.0, r.1, ap (λ k. y ∷ k) r.2)

module _ (ss : List Triangle) (N : Names ss) (S : Every Sharp ss) where
  -- no side has welded ends
  ends : (s : Spot) → Of ss s → welded (corner_of s) (end_of s) ≡ false
  unfolding end_of next
  ends s h = sharp-ends s.tri (every-at (spots-every S) h) s.at

  pub of-links : OfLinks ss
  of-links =
      record {
        inside = λ s t h e. (left.across ss N s t h e).inside;
        across = λ s t h e. (left.across ss N s t h e).turned;
        back = mutual' ss N;
        once = left.once ss N;
        none_left = λ s t h k o a b. left.leftover ss N s t h k (ends s h) (ends t k) o a b;
      }

  joined : (k : Mark) (s : Spot) → reach.Crossed (links ss) k s → Joined ss k s
  joined k s (reach.ahead e) = after e
  joined k s (reach.behind e) = before e

  met : (earlier : List Mark) (m : Mark) → reach.Reached (links ss) earlier m → MetFrom ss earlier m
  met earlier m (reach.at-start e) = start e
  met earlier m (reach.from k h e c) = member k h e (joined k m.spot c)

  own_way : (t : Triangle) (v : Bool) → t.any ≡ false → facing (marks ss (links ss)) t v ≡ t.orientation
  unfolding facing
  own_way t v e = ap (λ b. cond b (way_of v (touched (marks ss (links ss)) t)) t.orientation) e

  abbrev ms : List Mark
  ms = marks ss (links ss)

  -- ---- a group's start

  abbrev Starts : Mark → Type 0
  Starts m = (k : Mark) × Memᴰ k ms × (k.spot ≡ m.start) × (k.start ≡ m.start)

  starts : (n : ℕ) (pre post : List Mark) (m : Mark) → length pre < n → ms ≡ pre ++ (m ∷ post) → Starts m
  starts zero pre post m h e = absurd (omega arith)
  starts (suc n) pre post m h e = go (reach.connected ss (links ss) (links-sound ss) pre post m e) (λ pre' post' k l q. starts n pre' post' k l q)
    where
      go : reach.Reached (links ss) pre m → ((pre' post' : List Mark) (k : Mark) → length pre' < n → ms ≡ pre' ++ (k ∷ post') → Starts k) → Starts m
      go (reach.at-start q) again = (m, subst (Memᴰ m) (sym e) (mathlib.Core.List.Memᴰ.append_right pre (mathlib.Core.List.Memᴰ.head refl)), q, refl)
      go (reach.from k i q c) again =
          let r = split-mem pre k i in
          let shorter : length r.0 < n = omega (arith, h, ap length r.2, length-append r.0 (k ∷ r.1)) in
          let z = again r.0 (r.1 ++ (m ∷ post)) k shorter (e ∙ (ap (λ x. x ++ (m ∷ post)) r.2 ∙ append_assoc r.0 (k ∷ r.1) (m ∷ post))) in
          (z.0, z.1, z.2 ∙ q, z.3 ∙ q)

  start_in : (m : Mark) → Memᴰ m ms → Starts m
  start_in m h = let r = split-mem ms m h in starts (suc (length r.0)) r.0 r.1 m (omega arith) r.2

  -- ---- the moments

  module _ (earlier later : List Mark) (e : ms ≡ earlier ++ later) (t : Triangle) (h : Memᴰ t ss) where
    abbrev way : Bool
    way = facing earlier t t.orientation

    -- a mark on the triangle has the orientation that it has
    level : (k : Mark) → touched earlier t ≡ some k → (m : Mark) → Memᴰ m earlier → same_triangle m.spot.tri t ≡ true → m.orientation ≡ way
    level k q m i s =
        let j : Memᴰ m ms = subst (Memᴰ m) (sym e) (mathlib.Core.List.Memᴰ.append_left later i) in
        let own = one_name N m.spot.tri t (corner-tri ss m.spot (every-at (laws.marks-inside ss (links ss) (links-sound ss)) j)) h s in
        sym (every-at (laws.final-way ss (links ss) (links-sound ss)) j t.orientation)
        ∙ (ap (λ x. facing ms x t.orientation) own ∙ (ap (λ l. facing l t t.orientation) e ∙ laws.stays earlier later t k t.orientation t.orientation q))

    way_now : way_after earlier t ≡ way
    unfolding way_after
    way_now = go (touched earlier t) refl
      where
        go : (o : Option Mark) → touched earlier t ≡ o → turned t t.orientation earlier ≡ facing earlier t t.orientation
        go none q = never_on t t.orientation earlier q ∙ sym (laws.facing-none earlier t t.orientation q ∙ either_same t.any t.orientation)
        go (some k) q = gets-level t way t.orientation k (every-mem _ earlier (level k q)) q

  unchanged : (earlier between later : List Mark) → ms ≡ earlier ++ (between ++ later) → (t : Triangle) → Memᴰ t ss → (m : Mark) → touched earlier t ≡ some m → way_after (earlier ++ between) t ≡ way_after earlier t
  unchanged earlier between later e t h m q =
      way_now (earlier ++ between) later (e ∙ sym (append_assoc earlier between later)) t h
      ∙ (laws.stays earlier between t m t.orientation t.orientation q ∙ sym (way_now earlier (between ++ later) e t h))

  pub of-groups : OfGroups ss
  of-groups =
      record {
        inside = λ m h. every-at (laws.marks-inside ss (links ss) (links-sound ss)) h;
        start_way = λ m h. every-at (laws.one_way ss (links ss) (links-sound ss)) h;
        start_in = start_in;
        own_way = own_way;
        one_corner = λ m h. every-at (laws.one_corner ss (links ss) (links-sound ss)) h;
        one_way = λ m h v. every-at (laws.final-way ss (links ss) (links-sound ss)) h v ∙ (every-at (laws.one_way ss (links ss) (links-sound ss)) h).0;
        at_most_one = λ s m n h k p q. group.one-mark ss s m n (record { here = h; at = p }) (record { here = k; at = q });
        at_least_one = laws.at_least_one ss (links ss);
        settled = λ earlier later e t m h v u. ap (λ ms. facing ms t v) e ∙ laws.stays earlier later t m v u h;
        way_now = way_now;
        unchanged = unchanged;
        own_unchanged = λ earlier later e t h q. way_now earlier later e t h ∙ reach.facing-own earlier t t.orientation q;
        one_group = λ s t h e a b o m n i j p q. group.one_group ss N S s t (record { inside = h; link = e; plain = a; plain-mate = b; level = o }) m n (record { here = i; at = p }) (record { here = j; at = q });
        one_group_end = λ s t h e a b o m n i j p q. group.one_group_end ss N S s t (record { inside = h; link = e; plain = a; plain-mate = b; level = o }) m n (record { here = i; at = p }) (record { here = j; at = q });
        connected = λ earlier later m e. met earlier m (reach.connected ss (links ss) (links-sound ss) earlier later m e);
      }

pub own-links : Promised
unfolding Promised sound_of
own-links x fit e =
    let good = (fine (at_desk x) (no_row x e)).good in
    let S = mesh-sharp (mesh_of x.mesh) (accepted-real x.mesh.positions x.mesh.normals x.mesh.texture fit 0 x.mesh.sizes good) in
    let N = own-names (mesh_of x.mesh) in
    (of-links (sound (triangles_of x.mesh)) N S, of-groups (sound (triangles_of x.mesh)) N S)
  where
    own-names : (m : List (List Corner)) → Names (sound (triangles (numbered 0 m)))
    own-names m = unfold sound in names-keep is_sound (triangles-names 0 m)

-- Linked corners of triangles that aren't `group_with_any`, of one orientation, are in one group; every corner of such a triangle has one mark. Assumes nothing.
use mathlib.Core.Path.{◌≡◌, refl, sym, ◌∙◌, ap, subst}
use mathlib.Core.Bool.{Bool, true, false, ◌||◌, true≢false}
use mathlib.Core.List.{List, [], ◌∷◌, Memᴰ}
use mathlib.Core.Option.{some}
use Rattle.definition.specs.declared.Corner.{Corner}
use Rattle.definition.specs.declared.Triangle.{Triangle}
use Rattle.lists.specs.Lists.{has}
use Rattle.definition.specs.Mesh.{Third, one, two, three, after, before, Spot, next, prior, corner_of, same_spot}
use Rattle.definition.specs.Step4Order.{welded, spots}
use Rattle.definition.specs.Step5Links.{Link, end_of, opposite, links, beyond}
use Rattle.definition.specs.Step6Groups.{Mark, grouped, facing, corner_in, over_to, over, marks}
use Rattle.lists.specs.Every.{Every}
use Rattle.laws.proofs.Enough.{spot-refl}
use Rattle.bits.proofs.Bools.{and_left}
use Rattle.laws.proofs.Closed.{spots-every}
use Rattle.laws.proofs.Weld.{welded-as, first-same}
use Rattle.laws.proofs.Closed.{links-sound}
use Rattle.laws.proofs.Laws.{one_corner, marks-inside, Once, once-nil, once-cons, at_most_one, at_least_one, final-way}
use Rattle.definition.specs.Names.{Names}
use Rattle.laws.proofs.Mutual.{spots-apart, apart-inj, spot-sym, every-at, mutual'}
use Rattle.laws.proofs.Sharp.{Sharp, sharp-own}
use Rattle.laws.proofs.World.{welded-sym}
use Rattle.laws.proofs.Leftover.{across}
use Rattle.laws.proofs.Reached.{ahead, behind, Open, facing-own, made-joint, marks-made}

-- the corner of a triangle that is welded to c depends on what c is welded to alone
corner_in-as : (c d : Corner) → welded c d ≡ true → (t : Triangle) → corner_in c t ≡ corner_in d t
unfolding corner_in
corner_in-as c d e t = first-same _ _ (λ s. welded-as c d (corner_of s) e) _

-- over a linked side lies a corner of the triangle beyond
over-is : (ls : List Link) (c : Corner) (s t : Spot) → beyond ls s ≡ some t → over ls c s ≡ corner_in c t.tri
unfolding over over_to
over-is ls c s t e = ap (over_to c) e

-- before the next side comes the side itself
prior-next : (s : Spot) → prior (next s) ≡ s
unfolding prior next before after
prior-next s = go s.at
  where
    go : (i : Third) → ◌≡◌ {A = Spot} (record { tri = s.tri; at = before (after i) }) (record { tri = s.tri; at = i })
    go one = refl
    go two = refl
    go three = refl

-- a side starts where the side run opposite ends
ends-meet : (s t : Spot) → opposite s t ≡ true → welded (corner_of s) (corner_of (next t)) ≡ true
unfolding opposite end_of
ends-meet s t e = and_left (welded (corner_of s) (corner_of (next t))) (welded (corner_of (next s)) (corner_of t)) e

-- a mark on the corner s
pub record On (ss : List Triangle) (s : Spot) (m : Mark) : Type 0 where
  pub here : Memᴰ m (marks ss (links ss))
  pub at : m.spot ≡ s

-- a side and the side linked with it, of triangles that aren't `group_with_any` and have one orientation
pub record Mates (ss : List Triangle) (s t : Spot) : Type 0 where
  pub inside : Memᴰ s (spots ss)
  pub link : beyond (links ss) s ≡ some t
  pub plain : s.tri.any ≡ false
  pub plain-mate : t.tri.any ≡ false
  pub level : s.tri.orientation ≡ t.tri.orientation

-- each is the other's mate
pub mates-sym : (ss : List Triangle) → Names ss → (s t : Spot) → Mates ss s t → Mates ss t s
mates-sym ss names s t h =
    record {
      inside = (across ss names s t h.inside h.link).inside;
      link = mutual' ss names s t h.inside h.link;
      plain = h.plain-mate;
      plain-mate = h.plain;
      level = sym h.level;
    }

module _ (ss : List Triangle) where
  -- the orientation of a mark is that of its triangle, where that isn't `group_with_any`
  own_way : (s : Spot) (m : Mark) → On ss s m → s.tri.any ≡ false → s.tri.orientation ≡ m.orientation
  own_way s m h f =
      sym (facing-own (marks ss (links ss)) s.tri true f)
      ∙ (ap (λ x. facing (marks ss (links ss)) x.tri true) (sym h.at) ∙ every-at (final-way ss (links ss) (links-sound ss)) h.here true)

  -- a mark on a corner is at the group's corner
  own-corner : (s : Spot) (m : Mark) → On ss s m → (c : Corner) → welded (corner_of s) c ≡ true → welded (corner_of m.start) c ≡ true
  own-corner s m h c e =
      welded-as (corner_of m.start) (corner_of m.spot) c (every-at (one_corner ss (links ss) (links-sound ss)) h.here) ∙ (ap (λ x. welded (corner_of x) c) h.at ∙ e)

  -- over a side u lies the corner y of the triangle beyond that is welded to the group's corner
  lies : (s : Spot) (m : Mark) → On ss s m → (u v y : Spot) → beyond (links ss) u ≡ some v → v.tri ≡ y.tri → welded (corner_of s) (corner_of y) ≡ true → Sharp y.tri → over (links ss) (corner_of m.start) u ≡ some y
  lies s m h u v y e q w S =
      let c = corner_of m.start in
      over-is (links ss) c u v e ∙ (ap (corner_in c) q ∙ (corner_in-as c (corner_of y) (own-corner s m h (corner_of y) w) y.tri ∙ sharp-own y.tri S y.at))

  module _ (names : Names ss) (sharp : Every Sharp ss) (s t : Spot) (j : Mates ss s t) where
    abbrev met : welded (corner_of s) (corner_of (next t)) ≡ true
    met = ends-meet s t (across ss names s t j.inside j.link).turned

    -- from the corner s the group can enter the corner at which the side beyond ends
    there : (m : Mark) → On ss s m → Open (links ss) m (next t)
    unfolding next
    there m h =
        record {
          crossed = ahead (ap (over (links ss) (corner_of m.start)) h.at ∙ lies s m h s t (next t) j.link refl met (every-at (spots-every sharp) (mates-sym ss names s t j).inside));
          plain = j.plain-mate;
          faced = sym j.level ∙ own_way s m h j.plain;
        }

    -- and back
    back : (n : Mark) → On ss (next t) n → Open (links ss) n s
    unfolding next
    back n h =
        record {
          crossed = behind (ap (λ x. over (links ss) (corner_of n.start) (prior x)) h.at ∙ (ap (over (links ss) (corner_of n.start)) (prior-next t) ∙ lies (next t) n h t s s (mates-sym ss names s t j).link refl (welded-sym (corner_of (next t)) (corner_of s) ∙ met) (every-at (spots-every sharp) j.inside)));
          plain = j.plain;
          faced = j.level ∙ own_way (next t) n h j.plain-mate;
        }

-- The start of a side and the end of the side linked with it are in one group, where the two triangles aren't `group_with_any` and have one orientation: every mark on the one has the start of every mark on the other.
pub one_group : (ss : List Triangle) → Names ss → Every Sharp ss → (s t : Spot) → Mates ss s t → (m n : Mark) → On ss s m → On ss (next t) n → m.start ≡ n.start
one_group ss names sharp s t j m n h k =
    every-at (every-at (made-joint (links ss) (marks-made ss (links ss) (links-sound ss))) h.here) k.here
    (subst (Open (links ss) m) (sym k.at) (there ss names sharp s t j m h))
    (subst (Open (links ss) n) (sym h.at) (back ss names sharp s t j n k))

-- And so are the end of the side and the start of the one linked with it.
pub one_group_end : (ss : List Triangle) → Names ss → Every Sharp ss → (s t : Spot) → Mates ss s t → (m n : Mark) → On ss (next s) m → On ss t n → m.start ≡ n.start
one_group_end ss names sharp s t j m n h k = sym (one_group ss names sharp t s (mates-sym ss names s t j) n m k h)

-- ---- every corner of a triangle that isn't `group_with_any` has one mark

-- an element that passes a test
record Hit {X : Type 0} (p : X → Bool) (l : List X) : Type 0 where
  it : X
  inside : Memᴰ it l
  passes : p it ≡ true

has-hit : {X : Type 0} (p : X → Bool) (l : List X) → has p l ≡ true → Hit p l
unfolding has
has-hit p [] e = absurd (true≢false (sym e))
has-hit p (x ∷ l) e = go (p x) refl e (λ q. has-hit p l q)
  where
    go : (b : Bool) → p x ≡ b → (b || has p l) ≡ true → (has p l ≡ true → Hit p l) → Hit p (x ∷ l)
    go true q h f = record { it = x; inside = Memᴰ.head refl; passes = q }
    go false q h f = let k = f h in record { it = k.it; inside = Memᴰ.tail k.inside; passes = k.passes }

-- a corner and a mark on it
pub record Marked (ss : List Triangle) (s : Spot) : Type 0 where
  pub by : Mark
  pub on : On ss s by

-- Every corner of a triangle that isn't `group_with_any` has a mark.
pub marked : (ss : List Triangle) → Names ss → (s : Spot) → Memᴰ s (spots ss) → s.tri.any ≡ false → Marked ss s
unfolding grouped
marked ss names s h f =
    let k = has-hit (λ m. same_spot m.spot s) (marks ss (links ss)) (at_least_one ss (links ss) s h f) in
    record { by = k.it; on = record { here = k.inside; at = apart-inj (spots-apart names) k.it.spot s (every-at (marks-inside ss (links ss) (links-sound ss)) k.inside) h k.passes } }

-- marks on two corners that have one name
once-inj : {ms : List Mark} → Once ms → (m n : Mark) → Memᴰ m ms → Memᴰ n ms → same_spot m.spot n.spot ≡ true → m ≡ n
once-inj once-nil m n k _ e = elim k [ ]
once-inj (once-cons h r) m n (Memᴰ.head a) (Memᴰ.head b) e = a ∙ sym b
once-inj (once-cons h r) m n (Memᴰ.head a) (Memᴰ.tail k) e = absurd (true≢false (sym e ∙ (ap (λ x. same_spot x.spot n.spot) a ∙ every-at h k)))
once-inj (once-cons h r) m n (Memᴰ.tail k) (Memᴰ.head b) e = absurd (true≢false (sym e ∙ (spot-sym m.spot n.spot ∙ (ap (λ x. same_spot x.spot m.spot) b ∙ every-at h k))))
once-inj (once-cons h r) m n (Memᴰ.tail k) (Memᴰ.tail l) e = once-inj r m n k l e

-- No corner has two marks.
pub one-mark : (ss : List Triangle) (s : Spot) (m n : Mark) → On ss s m → On ss s n → m ≡ n
one-mark ss s m n h k = once-inj (at_most_one ss (links ss) (links-sound ss)) m n h.here k.here (ap (λ x. same_spot x n.spot) (h.at ∙ sym k.at) ∙ spot-refl n.spot)

-- Request E11: what holds of the links of step 5 and the groups of step 6, for the sound triangles of every accepted mesh. Definitions only.
use Rattle.std.specs.Prelude.{ℕ, ◌≡◌, Bool, true, false, cond, T, get_or}
use mathlib.Core.List.{List, ◌∷◌, ◌++◌, Memᴰ}
use Rattle.std.proofs.Math.Option.{none, some}
use Rattle.std.specs.Float.{nan, binary32}
use Rattle.std.specs.Float.Ieee.{fits}
use Rattle.definition.specs.declared.Triangle.{Triangle}
use Rattle.lists.specs.Lists.{run}
use Rattle.definition.specs.Mesh.{Spot, next, prior, corner_of, same_triangle}
use Rattle.definition.specs.Frames.{triangles_of}
use Rattle.definition.specs.Step4Order.{sound, spots, welded}
use Rattle.definition.specs.Step5Links.{opposite, links, beyond}
use Rattle.definition.specs.Step6Groups.{Mark, grouped, touched, facing, over, marks}
use Rattle.definition.specs.Handed.{Call}
use Rattle.promises.specs.Calls.{Accepted}

-- s is a corner of the triangles, or the side that runs from it
abbrev pub Of : List Triangle → Spot → Type 0
Of ss s = Memᴰ s (spots ss)

-- the side t is beyond the side s
abbrev pub Beyond : List Triangle → Spot → Spot → Type 0
Beyond ss s t = beyond (links ss) s ≡ some t

pub record OfLinks (ss : List Triangle) : Type 0 where
  -- a link joins two sides of the triangles, with the same two welded ends, run opposite ways
  pub inside : (s t : Spot) → Of ss s → Beyond ss s t → Of ss t
  pub across : (s t : Spot) → Of ss s → Beyond ss s t → opposite s t ≡ true
  -- links are mutual
  pub back : (s t : Spot) → Of ss s → Beyond ss s t → Beyond ss t s
  -- no side is linked twice: no two sides have one side beyond them
  pub once : (s t u : Spot) → Of ss s → Of ss t → Beyond ss s u → Beyond ss t u → s ≡ t
  -- no two unlinked sides with the same ends, run opposite ways, are left over
  pub none_left : (s t : Spot) → Of ss s → Of ss t → opposite s t ≡ true → beyond (links ss) s ≡ none → beyond (links ss) t ≡ none → ⊥

-- all marks of the triangles: a mark is a corner, the corner at which its group started, and the group's orientation
abbrev pub marks_of : List Triangle → List Mark
marks_of ss = marks ss (links ss)

-- a member of a group is joined to another corner over a linked side that ends in the group's corner: the side after the member's corner, or the side before it
pub data Joined (ss : List Triangle) (k : Mark) (s : Spot) : Type 0 where
  after : over (links ss) (corner_of k.start) k.spot ≡ some s → Joined ss k s
  before : over (links ss) (corner_of k.start) (prior k.spot) ≡ some s → Joined ss k s

-- what a mark was met from, among those before it: it is its group's start, or joined to an earlier member of its group
pub data MetFrom (ss : List Triangle) (earlier : List Mark) (m : Mark) : Type 0 where
  start : m.spot ≡ m.start → MetFrom ss earlier m
  member : (k : Mark) → Memᴰ k earlier → k.start ≡ m.start → Joined ss k m.spot → MetFrom ss earlier m

-- the orientation of a triangle when the marks ms have been made, where each mark gives its triangle its group's orientation: that of the last mark on it, or step 3's where there is none
unfoldable pub way_after : List Mark → Triangle → Bool
way_after ms t = run (λ w m. cond (same_triangle m.spot.tri t) m.orientation w) t.orientation ms

pub record OfGroups (ss : List Triangle) : Type 0 where
  -- a mark is a corner of the triangles
  pub inside : (m : Mark) → Memᴰ m (marks_of ss) → Of ss m.spot
  -- its orientation is that of the triangle at which its group started, which isn't `group_with_any`
  pub start_way : (m : Mark) → Memᴰ m (marks_of ss) → (m.orientation ≡ m.start.tri.orientation) × (m.start.tri.any ≡ false)
  -- that corner is a member of the group, and so a corner of the triangles
  pub start_in : (m : Mark) → Memᴰ m (marks_of ss) → (k : Mark) × Memᴰ k (marks_of ss) × (k.spot ≡ m.start) × (k.start ≡ m.start)
  -- a triangle that isn't `group_with_any` keeps step 3's orientation
  pub own_way : (t : Triangle) (v : Bool) → t.any ≡ false → facing (marks_of ss) t v ≡ t.orientation
  -- one welded corner per group: each member's corner is welded to the corner at which the group started
  pub one_corner : (m : Mark) → Memᴰ m (marks_of ss) → welded (corner_of m.start) (corner_of m.spot) ≡ true
  -- one final orientation per group: each member's triangle ends with the orientation of the triangle at which the group started
  pub one_way : (m : Mark) → Memᴰ m (marks_of ss) → (v : Bool) → facing (marks_of ss) m.spot.tri v ≡ m.start.tri.orientation
  -- every corner is in at most one group: two marks of one corner are one
  pub at_most_one : (s : Spot) (m n : Mark) → Memᴰ m (marks_of ss) → Memᴰ n (marks_of ss) → m.spot ≡ s → n.spot ≡ s → m ≡ n
  -- and in exactly one where its triangle isn't `group_with_any`
  pub at_least_one : (s : Spot) → Of ss s → s.tri.any ≡ false → grouped (marks_of ss) s ≡ true
  -- a triangle's orientation never changes after its first corner is grouped: it is what it was when only the marks `earlier` had been made, one of them of the triangle
  pub settled : (earlier later : List Mark) → marks_of ss ≡ earlier ++ later → (t : Triangle) (m : Mark) → touched earlier t ≡ some m → (v u : Bool) → facing (marks_of ss) t v ≡ facing earlier t u
  -- the moments of step 6 are the beginnings of the list of marks. At every moment a triangle has the orientation that the last mark on it gave it, which is the one that the walk goes by (`facing`)
  pub way_now : (earlier later : List Mark) → marks_of ss ≡ earlier ++ later → (t : Triangle) → Memᴰ t ss → way_after earlier t ≡ facing earlier t t.orientation
  -- so, from any moment at which one of its corners is grouped to any later one, no mark changes it
  pub unchanged : (earlier between later : List Mark) → marks_of ss ≡ earlier ++ (between ++ later) → (t : Triangle) → Memᴰ t ss → (m : Mark) → touched earlier t ≡ some m → way_after (earlier ++ between) t ≡ way_after earlier t
  -- nor ever that of a triangle that isn't `group_with_any`
  pub own_unchanged : (earlier later : List Mark) → marks_of ss ≡ earlier ++ later → (t : Triangle) → Memᴰ t ss → t.any ≡ false → way_after earlier t ≡ t.orientation
  -- two triangles that aren't `group_with_any`, of one orientation and with a linked side, have each end of that side in one group
  pub one_group : (s t : Spot) → Of ss s → Beyond ss s t → s.tri.any ≡ false → t.tri.any ≡ false → s.tri.orientation ≡ t.tri.orientation → (m n : Mark) → Memᴰ m (marks_of ss) → Memᴰ n (marks_of ss) → m.spot ≡ s → n.spot ≡ next t → m.start ≡ n.start
  pub one_group_end : (s t : Spot) → Of ss s → Beyond ss s t → s.tri.any ≡ false → t.tri.any ≡ false → s.tri.orientation ≡ t.tri.orientation → (m n : Mark) → Memᴰ m (marks_of ss) → Memᴰ n (marks_of ss) → m.spot ≡ next s → n.spot ≡ t → m.start ≡ n.start
  -- every group is connected over linked sides that end in its corner
  pub connected : (earlier later : List Mark) (m : Mark) → marks_of ss ≡ earlier ++ (m ∷ later) → MetFrom ss earlier m

-- the sound triangles of a call's mesh
unfoldable pub sound_of : Call → List Triangle
sound_of x = sound (triangles_of x.mesh)

-- the promise: of every accepted call whose positions are numbers of single precision, as every list of them in code is
unfoldable pub Promised : Type 0
Promised = (x : Call) → ((i : ℕ) → T (fits binary32 (get_or x.mesh.positions i nan))) → Accepted x → OfLinks (sound_of x) × OfGroups (sound_of x)

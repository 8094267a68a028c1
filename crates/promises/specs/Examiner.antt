-- Request E10: the examiner (crate examine; dokphalun_examine of the archive) and our own lists (dokphalun_links), of whatever their contracts allow. Definitions only.
use Rattle.std.specs.Prelude.{ℕ, zero, suc, ◌+◌, ◌*◌, ◌≤◌, ◌<◌, ◌≡◌, cond, false, List, length, get_or, take, drop}
use Rattle.definition.specs.Limits.{highest_refusal}
use Rattle.tangent.specs.Slot.{flag}
use Rattle.definition.specs.declared.Triangle.{Triangle}
use Rattle.definition.specs.Mesh.{Third, same_spot}
use Rattle.definition.specs.Step5Links.{links, beyond}
use Rattle.definition.specs.Step6Groups.{Mark, marks, grouped, facing}
use Rattle.view.specs.Rows.{row, spot_at}
use Rattle.view.specs.Links.{LinkWord}
use Rattle.asked.specs.Meaning.{LinksAccepted, GroupsAccepted}
use Rattle.asked.specs.Meaning as meaning
use Rattle.examine.specs.declared.Examined.{Examined}
use Rattle.examine.specs.declared.Owned as outcome
use Rattle.examine.specs.Contract.{sound_of, cleared_for, Examines, Hands}
use Rattle.definition.specs.Handed.{Handed}

-- a call: a mesh; links, groups and orientations, handed in or lent; the work list, which is lent
pub record Asking : Type 0 where
  pub mesh : Handed
  pub links : List ℕ
  pub groups : List ℕ
  pub ways : List ℕ
  pub work : List ℕ

-- a call of the examiner that was made: what it returned, and the work list after it, as its contract allows
pub record Asked (x : Asking) : Type 0 where
  pub returned : Examined
  pub work : List ℕ
  pub meets : Examines x.mesh x.links x.groups x.ways x.work returned work

-- a call for our own lists that was made
pub record Fetched (x : Asking) : Type 0 where
  pub returned : outcome.Owned
  pub links : List ℕ
  pub groups : List ℕ
  pub ways : List ℕ
  pub work : List ℕ
  pub meets : Hands x.mesh x.links x.groups x.ways x.work returned links groups ways work

-- the sound triangles of a mesh
abbrev pub sound_in : Handed → List Triangle
sound_in m = sound_of m

-- the two sentences of request E10, of the lists of a call; d is any triangle, and stands for numbers past the last
pub record Sound (x : Asking) (d : Triangle) : Type 0 where
  pub links : LinksAccepted (sound_in x.mesh) d x.links
  pub groups : GroupsAccepted (sound_in x.mesh) d x.links x.groups x.ways

-- 'the first objection that applies, at its lowest place' is number k at place p
abbrev pub Objects : Asking → Triangle → ℕ → ℕ → Type 0
Objects x d k p = meaning.Examines (sound_in x.mesh) d x.links x.groups x.ways k p

-- a refusal: 1, 2, 4, 7 or 6; no objection is made, and the work list is as it was
pub record Refused (x : Asking) (r : Examined) (u : List ℕ) : Type 0 where
  pub low : 0 < r.refusal
  pub high : r.refusal ≤ highest_refusal
  pub not_3 : r.refusal ≡ 3 → ⊥
  pub not_5 : r.refusal ≡ 5 → ⊥
  pub objection_0 : r.objection ≡ 0
  pub same_work : u ≡ x.work

-- of the examiner
pub record Examiner : Type 1 where
  -- a refusal, or a verdict, which clears the work list
  pub refused : (x : Asking) (a : Asked x) → (a.returned.refusal ≡ 0 → ⊥) → Refused x a.returned a.work
  pub clears : (x : Asking) (a : Asked x) → a.returned.refusal ≡ 0 → a.work ≡ cleared_for x.mesh.sizes x.work
  -- 'It accepts links exactly if .. It accepts groups exactly if ..'
  pub accepts : (x : Asking) (a : Asked x) (d : Triangle) → a.returned.refusal ≡ 0 → Sound x d → (a.returned.objection ≡ 0) × (a.returned.place ≡ 0)
  pub accepted : (x : Asking) (a : Asked x) (d : Triangle) → a.returned.refusal ≡ 0 → a.returned.objection ≡ 0 → Sound x d
  -- each objection, and 0, is given exactly when it is the verdict
  pub given : (x : Asking) (a : Asked x) (d : Triangle) → a.returned.refusal ≡ 0 → Objects x d a.returned.objection a.returned.place
  pub no_other : (x : Asking) (a : Asked x) (d : Triangle) → a.returned.refusal ≡ 0 → (k p : ℕ) → Objects x d k p → (a.returned.objection ≡ k) × (a.returned.place ≡ p)
  -- any two outcomes that the contract allows are equal
  pub determined : (x : Asking) (a b : Asked x) → (a.returned ≡ b.returned) × (a.work ≡ b.work)

-- y asks about the lists that the call f for our own left: the same mesh, and the words at the fronts of the three lists
pub record AboutOwn (x : Asking) (f : Fetched x) (y : Asking) : Type 0 where
  pub mesh : y.mesh ≡ x.mesh
  pub links : y.links ≡ take (3 * f.returned.sound) f.links
  pub groups : y.groups ≡ take (3 * f.returned.sound) f.groups
  pub ways : y.ways ≡ take f.returned.sound f.ways

-- 'so lists made by our own steps 5 and 6 are always accepted', over both calls; with a work list as long as the other call had, nothing is refused
unfoldable pub OwnAccepted : Type 0
OwnAccepted = (x : Asking) (f : Fetched x) → f.returned.number ≡ 0 → (y : Asking) → AboutOwn x f y → (a : Asked y) → ((a.returned.refusal ≡ 0) → (a.returned.objection ≡ 0) × (a.returned.place ≡ 0)) × (length y.work ≡ length x.work → a.returned.refusal ≡ 0)

-- the number of the group of mark number j: groups are numbered from 1 on, in the order in which they were started; e is any mark
unfoldable pub group_number : List Mark → Mark → ℕ → ℕ
group_number ms e zero = 1
group_number ms e (suc j) = group_number ms e j + cond (same_spot (get_or ms j e).start (get_or ms (suc j) e).start) 0 1

-- our own lists, by the definition's links and marks of the sound triangles ss
pub record Own (ss : List Triangle) (d : Triangle) (e : Mark) (L G O : List ℕ) : Type 0 where
  pub long_links : length L ≡ 3 * length ss
  pub long_groups : length G ≡ 3 * length ss
  pub long_ways : length O ≡ length ss
  -- a side's word names the side beyond it
  pub link : (t : ℕ) (i : Third) → t < length ss → LinkWord ss d (beyond (links ss) (spot_at ss d t i)) (get_or L (row t i) 0)
  -- a corner's word is the number of its group, and 0 where it is in none
  pub group : (j t : ℕ) (i : Third) → j < length (marks ss (links ss)) → t < length ss → (get_or (marks ss (links ss)) j e).spot ≡ spot_at ss d t i → get_or G (row t i) 0 ≡ group_number (marks ss (links ss)) e j
  pub free : (t : ℕ) (i : Third) → t < length ss → grouped (marks ss (links ss)) (spot_at ss d t i) ≡ false → get_or G (row t i) 0 ≡ 0
  -- a triangle's word is its final orientation
  pub way : (t : ℕ) → t < length ss → get_or O t 0 ≡ flag (facing (marks ss (links ss)) (get_or ss t d) (get_or ss t d).orientation)

-- a call for our own lists that says 0: the number of sound triangles, our lists at the fronts of those that were lent, which are as they were past them, and the work list cleared
pub record OwnGiven (x : Asking) (f : Fetched x) (d : Triangle) (e : Mark) : Type 0 where
  pub place_0 : f.returned.place ≡ 0
  pub sound : f.returned.sound ≡ length (sound_in x.mesh)
  pub own : Own (sound_in x.mesh) d e (take (3 * f.returned.sound) f.links) (take (3 * f.returned.sound) f.groups) (take f.returned.sound f.ways)
  pub links_past : drop (3 * f.returned.sound) f.links ≡ drop (3 * f.returned.sound) x.links
  pub groups_past : drop (3 * f.returned.sound) f.groups ≡ drop (3 * f.returned.sound) x.groups
  pub ways_past : drop f.returned.sound f.ways ≡ drop f.returned.sound x.ways
  pub work : f.work ≡ cleared_for x.mesh.sizes x.work

-- of the call for our own lists
pub record OwnLists : Type 1 where
  pub given : (x : Asking) (f : Fetched x) → f.returned.number ≡ 0 → (d : Triangle) (e : Mark) → OwnGiven x f d e
  -- any two outcomes that the contract allows are equal
  pub determined : (x : Asking) (f g : Fetched x) → (f.returned ≡ g.returned) × (f.links ≡ g.links) × (f.groups ≡ g.groups) × (f.ways ≡ g.ways) × (f.work ≡ g.work)

-- Step 5 decides each side's link among the sides with the same ends, in their order: sorting sides by their ends first changes no link. Assumes nothing.
use mathlib.Core.Path.{◌≡◌, refl, sym, ◌∙◌, ap}
use mathlib.Core.Bool.{Bool, true, false, cond, not, ◌&&◌, ◌||◌, true≢false}
use mathlib.Core.List.{List, [], ◌∷◌, Memᴰ}
use mathlib.Core.Option.{Option, none, some}
use Rattle.lists.specs.Lists.{keep, first}
use Rattle.definition.specs.Mesh.{Spot, corner_of, same_spot}
use Rattle.definition.specs.Step4Order.{welded}
use Rattle.definition.specs.Step5Links.{Link, end_of, opposite, linked, add_link, link_one, link_all, beyond}
use Rattle.lists.specs.Every.{Each, each_none, each_some, Every, every_nil, every_cons}
use Rattle.laws.proofs.Part.{Part, nothing, mine, other, mapped, part-first, first-ours, first-theirs, part-has, part-cond, part-cond-other}
use Rattle.laws.proofs.World.{welded-sym}
use Rattle.bits.proofs.Bools.{and_left, and_right, or-holds}
use Rattle.laws.proofs.Weld.{welded-refl, welded-as}
use Rattle.laws.proofs.Mutual.{Apart, apart-inj}

-- the same two ends, run either way
unfoldable pub same_ends : Spot → Spot → Bool
same_ends s t = welded (corner_of s) (corner_of t) && welded (end_of s) (end_of t) || opposite s t

or_split : (a b : Bool) → (a || b) ≡ true → (P : Type 0) → (a ≡ true → P) → (b ≡ true → P) → P
or_split true b e P f g = f refl
or_split false b e P f g = g e

cross : (a b c d : Bool) → (d && c || b && a) ≡ (a && b || c && d)
cross true true true true = refl
cross true true true false = refl
cross true true false true = refl
cross true true false false = refl
cross true false true true = refl
cross true false true false = refl
cross true false false true = refl
cross true false false false = refl
cross false true true true = refl
cross false true true false = refl
cross false true false true = refl
cross false true false false = refl
cross false false true true = refl
cross false false true false = refl
cross false false false true = refl
cross false false false false = refl

and_comm : (a b : Bool) → (a && b) ≡ (b && a)
and_comm true true = refl
and_comm true false = refl
and_comm false true = refl
and_comm false false = refl

pub opposite-sym : (s t : Spot) → opposite s t ≡ opposite t s
unfolding opposite
opposite-sym s t = rw (welded-sym (corner_of s) (end_of t), welded-sym (end_of s) (corner_of t)) (and_comm (welded (end_of t) (corner_of s)) (welded (corner_of t) (end_of s)))

-- sides with the same ends have the same ends as the same sides
pub ends_as : (s x t : Spot) → same_ends s x ≡ true → same_ends s t ≡ same_ends x t
unfolding same_ends opposite
ends_as s x t e =
    or_split (welded (corner_of s) (corner_of x) && welded (end_of s) (end_of x)) (welded (corner_of s) (end_of x) && welded (end_of s) (corner_of x)) e _
    (λ h.
    let a = and_left (welded (corner_of s) (corner_of x)) _ h in
    let b = and_right (welded (corner_of s) (corner_of x)) _ h in
    rw (welded-as (corner_of s) (corner_of x) (corner_of t) a, welded-as (end_of s) (end_of x) (end_of t) b, welded-as (corner_of s) (corner_of x) (end_of t) a, welded-as (end_of s) (end_of x) (corner_of t) b))
    (λ h.
    let a = and_left (welded (corner_of s) (end_of x)) _ h in
    let b = and_right (welded (corner_of s) (end_of x)) _ h in
    rw (welded-as (corner_of s) (end_of x) (corner_of t) a, welded-as (end_of s) (corner_of x) (end_of t) b, welded-as (corner_of s) (end_of x) (end_of t) a, welded-as (end_of s) (corner_of x) (corner_of t) b)
    (cross (welded (corner_of x) (corner_of t)) (welded (end_of x) (end_of t)) (welded (corner_of x) (end_of t)) (welded (end_of x) (corner_of t))))

-- ---- the sides with the ends of s₀, and the others

module _ (all : List Spot) (names : Apart all) (s₀ : Spot) where
  abbrev Ours : Spot → Type 0
  Ours x = Memᴰ x all × (same_ends s₀ x ≡ true)

  abbrev Theirs : Spot → Type 0
  Theirs y = Memᴰ y all × (same_ends s₀ y ≡ false)

  -- a side of one kind has neither the name nor the ends of one of the other
  unlike : (x y : Spot) → Ours x → Theirs y → (b : Bool) → same_spot y x ≡ b → b ≡ false
  unlike x y o h true e = absurd (true≢false (sym o.1 ∙ (ap (same_ends s₀) (sym (apart-inj names y x h.0 o.0 e)) ∙ h.1)))
  unlike x y o h false e = refl

  no_name : (x y : Spot) → Ours x → Theirs y → same_spot y x ≡ false
  no_name x y o h = unlike x y o h (same_spot y x) refl

  unmet : (x y : Spot) → Ours x → Theirs y → (b : Bool) → opposite x y ≡ b → b ≡ false
  unfolding same_ends
  unmet x y o h true e = absurd (true≢false (sym (or-holds (welded (corner_of x) (corner_of y) && welded (end_of x) (end_of y)) (opposite x y) e) ∙ (sym (ends_as s₀ x y o.1) ∙ h.1)))
  unmet x y o h false e = refl

  no-link : (x y : Spot) → Ours x → Theirs y → opposite x y ≡ false
  no-link x y o h = unmet x y o h (opposite x y) refl

  same : Spot → Spot
  same s = s

  same_link : Link → Link
  same_link l = l

  abbrev OursL : Link → Type 0
  OursL l = Ours l.near × Ours l.far

  abbrev TheirsL : Link → Type 0
  TheirsL l = Theirs l.near × Theirs l.far

  abbrev Links : List Link → List Link → Type 0
  Links l k = Part same_link OursL TheirsL l k

  abbrev Spots : List Spot → List Spot → Type 0
  Spots l k = Part same Ours Theirs l k

  linked-as : {l k : List Link} → Links l k → (s : Spot) → Ours s → linked k s ≡ linked l s
  unfolding linked same_link
  linked-as r s o = part-has _ _ (λ x g. refl) (λ y h. rw (no_name s y.near o h.0, no_name s y.far o h.1)) r

  mapped-same : (o : Option Spot) → mapped same o ≡ o
  unfolding mapped same
  mapped-same none = refl
  mapped-same (some s) = refl

  add-ours : {l k : List Link} → Links l k → (s : Spot) (o : Option Spot) → Ours s → Each Ours o → Links (add_link s o l) (add_link s o k)
  unfolding add_link same_link
  add-ours r s none h each_none = r
  add-ours r s (some t) h (each_some g) = mine (h, g) r

  add-theirs : {l k : List Link} → Links l k → (s : Spot) (o : Option Spot) → Theirs s → Each Theirs o → Links l (add_link s o k)
  unfolding add_link
  add-theirs r s none h each_none = r
  add-theirs r s (some t) h (each_some g) = other (h, g) r

  one-ours : {l k : List Link} {ss ts : List Spot} → Links l k → Spots ss ts → (s : Spot) → Ours s → Links (link_one l s ss) (link_one k s ts)
  unfolding link_one same
  one-ours {l} {k} {ss} {ts} r q s o =
      let e : first (λ t. opposite s t && not (linked k t)) ts ≡ mapped same (first (λ t. opposite s t && not (linked l t)) ss) =
      part-first _ _ (λ x g. rw (linked-as r x g)) (λ y h. rw (no-link s y o h)) q in
      rw (linked-as r s o, e, mapped-same) (part-cond same_link OursL TheirsL (linked l s) r (add-ours r s _ o (first-ours _ q)))

  one-theirs : {l k : List Link} {ss ts : List Spot} → Links l k → Spots ss ts → (s : Spot) → Theirs s → Links l (link_one k s ts)
  unfolding link_one same
  one-theirs {l} {k} {ss} {ts} r q s h =
      let e : (x : Spot) → Ours x → (opposite s x && not (linked k x)) ≡ false = λ x o. rw (opposite-sym s x, no-link x s o h) in
      part-cond-other same_link OursL TheirsL (linked k s) r (add-theirs r s _ h (first-theirs (λ t. opposite s t && not (linked k t)) e q))

  all-part : {l k : List Link} {ss ts : List Spot} → Spots ss ts → Links l k → Links (link_all l ss) (link_all k ts)
  unfolding link_all same
  all-part nothing r = r
  all-part {l = l} {k = k} (mine {x = s} {l = l'} {k = k'} o q) r = all-part {l = link_one l s l'} {k = link_one k s k'} q (one-ours r q s o)
  all-part {l = l} {k = k} (other {y = s} {k = k'} h q) r = all-part {l = l} {k = link_one k s k'} q (one-theirs r q s h)

  beyond-as : {l k : List Link} → Links l k → (s : Spot) → Ours s → beyond k s ≡ beyond l s
  unfolding beyond same_link
  beyond-as nothing s o = refl
  beyond-as (mine {x} g r) s o = rw (beyond-as r s o)
  beyond-as (other {y} h r) s o = rw (no_name s y.near o h.0, no_name s y.far o h.1) (beyond-as r s o)

  -- the bucket of s₀ is a part of the sides
  bucket : (l : List Spot) → Every (λ s. Memᴰ s all) l → Spots (keep (same_ends s₀) l) l
  unfolding keep same
  bucket [] every_nil = nothing
  bucket (s ∷ l) (every_cons m r) = go (same_ends s₀ s) refl (bucket l r)
    where
      go : (b : Bool) → same_ends s₀ s ≡ b → Spots (keep (same_ends s₀) l) l → Spots (cond b (s ∷ keep (same_ends s₀) l) (keep (same_ends s₀) l)) (s ∷ l)
      go true e h = mine (m, e) h
      go false e h = other (m, e) h

ends-refl : (s : Spot) → same_ends s s ≡ true
unfolding same_ends
ends-refl s = rw (welded-refl (corner_of s), welded-refl (end_of s))

-- a side's link is decided in its bucket
pub bucket-link : (all : List Spot) → Apart all → (l : List Spot) → Every (λ s. Memᴰ s all) l → (s : Spot) → Memᴰ s all → beyond (link_all [] l) s ≡ beyond (link_all [] (keep (same_ends s) l)) s
bucket-link all names l r s m = beyond-as all names s (all-part all names s (bucket all names s l r) nothing) s (m, ends-refl s)

-- So sides in any order that leaves each bucket as it is have the same links: in particular those of step 5, sorted by lower corner, higher corner, triangle.
pub any_order : (all : List Spot) → Apart all → (l k : List Spot) → Every (λ s. Memᴰ s all) l → Every (λ s. Memᴰ s all) k → (s : Spot) → Memᴰ s all → keep (same_ends s) l ≡ keep (same_ends s) k → beyond (link_all [] l) s ≡ beyond (link_all [] k) s
any_order all names l k rl rk s m e = bucket-link all names l rl s m ∙ (ap (λ x. beyond (link_all [] x) s) e ∙ sym (bucket-link all names k rk s m))

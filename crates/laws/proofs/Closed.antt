-- The links of a list of triangles stay among them; laws of links; a walk from a corner stays at its corner. Assumes nothing.
use mathlib.Core.Path.{◌≡◌, refl}
use mathlib.Core.Bool.{Bool, true, false, cond, not, ◌&&◌}
use mathlib.Core.List.Memᴰ
use mathlib.Core.List.{List, [], ◌∷◌, Memᴰ}
use mathlib.Core.Option.{Option, none, some}
use Rattle.bits.proofs.Bools.{and_left}
use Rattle.definition.specs.declared.Corner.{Corner}
use Rattle.definition.specs.declared.Triangle.{Triangle}
use Rattle.lists.specs.Lists.{first}
use Rattle.definition.specs.Mesh.{Third, one, two, three, Spot, corner_of, same_spot}
use Rattle.definition.specs.Step4Order.{welded, spots}
use Rattle.definition.specs.Step5Links.{Link, opposite, linked, add_link, link_one, link_all, links, beyond}
use Rattle.definition.specs.Step6Groups.{corner_in, over_to, over}
use Rattle.lists.specs.Every.{Each, each_none, each_some, Every, every_nil, every_cons}
use Rattle.laws.proofs.Part.{every-cond, cond-each₂}
use Rattle.laws.proofs.Enough.{Near}

-- ---- the first that passes is one of the list, and passes

pub record Found {X : Type 0} (p : X → Bool) (P : X → Type 0) (x : X) : Type 0 where
  pub passes : p x ≡ true
  pub known : P x

pub first_found : {X : Type 0} (p : X → Bool) {P : X → Type 0} {l : List X} → Every P l → Each (Found p P) (first p l)
unfolding first
first_found p every_nil = each_none
first_found p {P} (every_cons {x} {l} o r) = go (p x) refl (first_found p r)
  where
    go : (b : Bool) → p x ≡ b → Each (Found p P) (first p l) → Each (Found p P) (cond b (some x) (first p l))
    go true e h = each_some (record { passes = e; known = o })
    go false e h = h

pub each_map : {X : Type 0} {P Q : X → Type 0} → ((x : X) → P x → Q x) → {o : Option X} → Each P o → Each Q o
each_map f each_none = each_none
each_map f (each_some {x} h) = each_some (f x h)

-- ---- links

module _ (P : Spot → Type 0) where
  -- what is known of every link: both sides are known, and they run opposite ways
  pub record Sound (l : Link) : Type 0 where
    pub from : P l.near
    pub to : P l.far
    pub across : opposite l.near l.far ≡ true

  add-sound : (s : Spot) (o : Option Spot) (ls : List Link) → P s → Each (λ t. P t × (opposite s t ≡ true)) o → Every Sound ls → Every Sound (add_link s o ls)
  unfolding add_link
  add-sound s none ls h each_none r = r
  add-sound s (some t) ls h (each_some k) r = every_cons (record { from = h; to = k.0; across = k.1 }) r

  pub one-sound : (ls : List Link) (s : Spot) (later : List Spot) → P s → Every P later → Every Sound ls → Every Sound (link_one ls s later)
  unfolding link_one
  one-sound ls s later h k r =
      every-cond (linked ls s) r
      (add-sound s _ ls h (each_map (λ t f. (f.known, and_left (opposite s t) _ f.passes)) (first_found (λ t. opposite s t && not (linked ls t)) k)) r)

  pub all_sound : {ss : List Spot} → Every P ss → (ls : List Link) → Every Sound ls → Every Sound (link_all ls ss)
  unfolding link_all
  all_sound every_nil ls r = r
  all_sound (every_cons {x = s} {l = later} h k) ls r = all_sound k (link_one ls s later) (one-sound ls s later h k r)

  pub beyond-known : {ls : List Link} → Every Sound ls → (s : Spot) → Each P (beyond ls s)
  unfolding beyond
  beyond-known every_nil s = each_none
  beyond-known (every_cons {x = l} h r) s = cond-each₂ P (same_spot l.near s) (same_spot l.far s) l.far l.near h.to h.from (beyond-known r s)

-- ---- corners

-- every corner of the triangle is among the corners of the triangles
pub record Whole (ss : List Triangle) (t : Triangle) : Type 0 where
  pub at : (i : Third) → Memᴰ (record { tri = t; at = i }) (spots ss)

-- what holds of every triangle holds of the triangle of every corner
pub spots-every : {P : Triangle → Type 0} {ts : List Triangle} → Every P ts → Every (λ s. P s.tri) (spots ts)
unfolding spots
spots-every every_nil = every_nil
spots-every (every_cons h r) = every_cons h (every_cons h (every_cons h (spots-every r)))

module _ (ss : List Triangle) where
  pub spots-whole : (ts : List Triangle) → ((s : Spot) → Memᴰ s (spots ts) → Memᴰ s (spots ss)) → Every (λ s. Whole ss s.tri) (spots ts)
  unfolding spots
  spots-whole [] f = every_nil
  spots-whole (t ∷ ts) f =
      let h : Whole ss t =
      record { at = λ i. elim i as (λ (k : Third). Memᴰ {A = Spot} (record { tri = t; at = k }) (spots ss)) [ one ↦ f _ (Memᴰ.head refl) | two ↦ f _ (Memᴰ.tail (Memᴰ.head refl)) | three ↦ f _ (Memᴰ.tail (Memᴰ.tail (Memᴰ.head refl))) ] } in
      every_cons h (every_cons h (every_cons h (spots-whole ts (λ s m. f s (Memᴰ.tail (Memᴰ.tail (Memᴰ.tail m)))))))

  -- links among the triangles, run opposite ways: all that steps 6 to 9 ask of step 5, in either edition
  abbrev pub Between : List Link → Type 0
  Between ls = Every (Sound (λ s. Whole ss s.tri)) ls

  -- those of edition 1
  pub links-sound : Between (links ss)
  unfolding links
  links-sound = all_sound (λ s. Whole ss s.tri) (spots-whole ss (λ s m. m)) [] every_nil

  corner_in-near : (c : Corner) (t : Triangle) → Whole ss t → Each (Near ss c) (corner_in c t)
  unfolding corner_in spots
  corner_in-near c t h =
      each_map (λ s f. record { inside = f.known; joined = f.passes })
      (first_found (λ s. welded c (corner_of s)) {P = λ s. Memᴰ s (spots ss)} (every_cons (h.at one) (every_cons (h.at two) (every_cons (h.at three) every_nil))))

  over_to-near : (c : Corner) (o : Option Spot) → Each (λ s. Whole ss s.tri) o → Each (Near ss c) (over_to c o)
  unfolding over_to
  over_to-near c none each_none = each_none
  over_to-near c (some s) (each_some h) = corner_in-near c s.tri h

  -- over a side to a corner of the triangles, welded to c
  pub over-near : (ls : List Link) → Between ls → (c : Corner) (s : Spot) → Each (Near ss c) (over ls c s)
  unfolding over
  over-near ls B c s = over_to-near c (beyond ls s) (beyond-known (λ t. Whole ss t.tri) B s)

-- the corners of a triangle of the list are corners of the list
pub corners-in : (l : List Triangle) (t : Triangle) (i : Third) → Memᴰ t l → Memᴰ (record { tri = t; at = i }) (spots l)
unfolding spots
corners-in [] t i h = absurd (Memᴰ.not-nil h)
corners-in (x ∷ l) t one (Memᴰ.head e) = Memᴰ.head (λ z. record { tri = e z; at = one })
corners-in (x ∷ l) t two (Memᴰ.head e) = Memᴰ.tail (Memᴰ.head (λ z. record { tri = e z; at = two }))
corners-in (x ∷ l) t three (Memᴰ.head e) = Memᴰ.tail (Memᴰ.tail (Memᴰ.head (λ z. record { tri = e z; at = three })))
corners-in (x ∷ l) t i (Memᴰ.tail h) = Memᴰ.tail (Memᴰ.tail (Memᴰ.tail (corners-in l t i h)))

-- Request E11's law of links: a link is mutual, and no side is linked twice. Assumes nothing.
use borrow.Author.Tests.{not-true}
use Prim.Native.Nat.{ℕ}
use native.Mathlib.Omega.{arith}
use mathlib.Core.Path.{◌≡◌, refl, sym, ◌∙◌, ap, subst}
use mathlib.Core.Bool.{Bool, true, false, cond, not, ◌&&◌, ◌||◌, true≢false, and-false}
use mathlib.Core.List.{List, [], ◌∷◌, Memᴰ}
use mathlib.Core.Option.{Option, none, some}
use Rattle.definition.specs.declared.Triangle.{Triangle}
use Rattle.lists.specs.Lists.{first, has}
use Rattle.definition.specs.Names.{Names, names_nil, names_cons}
use Rattle.definition.specs.Mesh.{Third, one, two, three, Spot, same_third, same_triangle, same_spot}
use Rattle.definition.specs.Step4Order.{spots}
use Rattle.definition.specs.Step5Links.{Link, opposite, linked, add_link, link_one, link_all, links, beyond}
use Rattle.lists.specs.Every.{Each, each_none, each_some, Every, every_nil, every_cons}
use Rattle.laws.proofs.World.{eqb-sym}
use Rattle.laws.proofs.Enough.{spot-refl}
use Rattle.bits.proofs.Bools.{and_right, beq-sym}
use Rattle.laws.proofs.Closed.{first_found, Sound, all_sound, beyond-known, each_map, spots-every, corners-in}
use Rattle.laws.proofs.Shuffled.{every-mem}

-- ---- names

-- no two of the corners are one
pub data Apart : List Spot → Type 0 where
  apart-nil : Apart []
  apart_cons : {s : Spot} {l : List Spot} → Every (λ k. same_spot s k ≡ false) l → Apart l → Apart (s ∷ l)

third-sym : (i j : Third) → same_third i j ≡ same_third j i
unfolding same_third
third-sym one one = refl
third-sym one two = refl
third-sym one three = refl
third-sym two one = refl
third-sym two two = refl
third-sym two three = refl
third-sym three one = refl
third-sym three two = refl
third-sym three three = refl

pub spot-sym : (s t : Spot) → same_spot s t ≡ same_spot t s
unfolding same_spot same_triangle
spot-sym s t = rw (eqb-sym s.tri.face t.tri.face, beq-sym s.tri.second t.tri.second, third-sym s.at t.at)

spot-other : (t k : Triangle) (i j : Third) → same_triangle t k ≡ false → same_spot (record { tri = t; at = i }) (record { tri = k; at = j }) ≡ false
unfolding same_spot
spot-other t k i j h = rw h

spots-other : (t : Triangle) (i : Third) {ts : List Triangle} → Every (λ k. same_triangle t k ≡ false) ts → Every (λ k. same_spot (record { tri = t; at = i }) k ≡ false) (spots ts)
unfolding spots
spots-other t i every_nil = every_nil
spots-other t i (every_cons {x = k} h r) = every_cons (spot-other t k i one h) (every_cons (spot-other t k i two h) (every_cons (spot-other t k i three h) (spots-other t i r)))

pub spots-apart : {ts : List Triangle} → Names ts → Apart (spots ts)
unfolding spots same_spot same_third
spots-apart names_nil = apart-nil
spots-apart (names_cons {t} h r) =
    let d = and-false (same_triangle t t) in
    apart_cons (every_cons d (every_cons d (spots-other t one h)))
    (apart_cons (every_cons d (spots-other t two h)) (apart_cons (spots-other t three h) (spots-apart r)))

pub every-at : {X : Type 0} {P : X → Type 0} {x : X} {l : List X} → Every P l → Memᴰ x l → P x
every-at every_nil m = elim m [ ]
every-at {P = P} (every_cons h r) (Memᴰ.head e) = subst P (sym e) h
every-at (every_cons h r) (Memᴰ.tail m) = every-at r m

-- one name, one side
pub apart-inj : {l : List Spot} → Apart l → (s t : Spot) → Memᴰ s l → Memᴰ t l → same_spot s t ≡ true → s ≡ t
apart-inj apart-nil s t m _ e = elim m [ ]
apart-inj (apart_cons h r) s t (Memᴰ.head a) (Memᴰ.head b) e = a ∙ sym b
apart-inj (apart_cons {s = x} h r) s t (Memᴰ.head a) (Memᴰ.tail n) e = absurd (true≢false (sym e ∙ (ap (λ y. same_spot y t) a ∙ every-at h n)))
apart-inj (apart_cons {s = x} h r) s t (Memᴰ.tail m) (Memᴰ.head b) e = absurd (true≢false (sym e ∙ (spot-sym s t ∙ (ap (λ y. same_spot y s) b ∙ every-at h m))))
apart-inj (apart_cons h r) s t (Memᴰ.tail m) (Memᴰ.tail n) e = apart-inj r s t m n e

-- a corner of the list is a corner of a triangle of the list
pub corner-tri : (l : List Triangle) (s : Spot) → Memᴰ s (spots l) → Memᴰ s.tri l
corner-tri l s h = every-at (spots-every (every-mem (λ t. Memᴰ t l) l (λ t k. k))) h

-- one name, one triangle
pub one_name : {ss : List Triangle} → Names ss → (s t : Triangle) → Memᴰ s ss → Memᴰ t ss → same_triangle s t ≡ true → s ≡ t
unfolding same_spot same_third
one_name {ss} N s t h k e =
    ap (λ (x : Spot). x.tri) (apart-inj (spots-apart N) (record { tri = s; at = one }) (record { tri = t; at = one }) (corners-in ss s one h) (corners-in ss t one k) (λ i. e i && true))

-- ---- no side is linked twice

pub data Tidy : List Link → Type 0 where
  tidy-nil : Tidy []
  tidy-cons : {l : Link} {ls : List Link} → same_spot l.near l.far ≡ false → linked ls l.near ≡ false → linked ls l.far ≡ false → Tidy ls → Tidy (l ∷ ls)

add-tidy : (s : Spot) (o : Option Spot) (ls : List Link) → linked ls s ≡ false → Each (λ t. (same_spot s t ≡ false) × (linked ls t ≡ false)) o → Tidy ls → Tidy (add_link s o ls)
unfolding add_link
add-tidy s none ls e each_none r = r
add-tidy s (some t) ls e (each_some h) r = tidy-cons h.0 e h.1 r

one-tidy : (ls : List Link) (s : Spot) (later : List Spot) → Every (λ k. same_spot s k ≡ false) later → Tidy ls → Tidy (link_one ls s later)
unfolding link_one
one-tidy ls s later h r = go (linked ls s) refl
  where
    go : (b : Bool) → linked ls s ≡ b → Tidy (cond b ls (add_link s (first (λ t. opposite s t && not (linked ls t)) later) ls))
    go true e = r
    go false e = add-tidy s _ ls e (each_map (λ t f. (f.known, not-true (linked ls t) (and_right (opposite s t) _ f.passes))) (first_found (λ t. opposite s t && not (linked ls t)) h)) r

pub all-tidy : {ss : List Spot} → Apart ss → (ls : List Link) → Tidy ls → Tidy (link_all ls ss)
unfolding link_all
all-tidy apart-nil ls r = r
all-tidy (apart_cons {s} {l = later} h k) ls r = all-tidy k (link_one ls s later) (one-tidy ls s later h r)

-- ---- mutual

linked_of : (ls : List Link) (s t : Spot) → beyond ls s ≡ some t → linked ls s ≡ true
unfolding linked beyond has
linked_of [] s t e = absurd (let z : ◌≡◌ {A = ℕ} 0 1 = cc in omega arith)
linked_of (l ∷ ls) s t e = go (same_spot l.near s) (same_spot l.far s) e (λ h. linked_of ls s t h)
  where
    go : (a b : Bool) → cond a (some l.far) (cond b (some l.near) (beyond ls s)) ≡ some t → (beyond ls s ≡ some t → linked ls s ≡ true) → (a || b || linked ls s) ≡ true
    go true b e f = refl
    go false true e f = refl
    go false false e f = f e

-- a side of the list, and its link
module _ (all : List Spot) (names : Apart all) where
  abbrev In : Spot → Type 0
  In s = Memᴰ s all

  far-near : (l : Link) (ls : List Link) → same_spot l.near l.far ≡ false → beyond (l ∷ ls) l.far ≡ some l.near
  unfolding beyond
  far-near l ls e = rw (e, spot-refl l.far)

  near-far : (l : Link) (ls : List Link) → beyond (l ∷ ls) l.near ≡ some l.far
  unfolding beyond
  near-far l ls = rw (spot-refl l.near)

  some_inj : (a b : Spot) → some a ≡ some b → a ≡ b
  some_inj a b e = cc

  -- a side linked in ls has not the name of one that isn't
  unlike : (ls : List Link) (x t s : Spot) → In x → In t → linked ls x ≡ false → beyond ls t ≡ some s → (b : Bool) → same_spot x t ≡ b → b ≡ false
  unlike ls x t s hx ht e f true q = absurd (true≢false (sym (linked_of ls t s f) ∙ (ap (linked ls) (sym (apart-inj names x t hx ht q)) ∙ e)))
  unlike ls x t s hx ht e f false q = refl

  found_in : (ls : List Link) (s t : Spot) → Each In (beyond ls s) → beyond ls s ≡ some t → In t
  found_in ls s t h e = inv (subst (λ o. Each In o) e h)
    where
      inv : Each In (some t) → In t
      inv (each_some k) = k

  pub mutual-in : {ls : List Link} → Tidy ls → Every (Sound In) ls → (s t : Spot) → In s → beyond ls s ≡ some t → beyond ls t ≡ some s
  unfolding beyond
  mutual-in tidy-nil every_nil s t h e = absurd (let z : ◌≡◌ {A = ℕ} 0 1 = cc in omega arith)
  mutual-in (tidy-cons {l} {ls} d n f r) (every_cons k ks) s t h e = go (same_spot l.near s) refl (same_spot l.far s) refl e (λ q. mutual-in r ks s t h q)
    where
      go : (a : Bool) → same_spot l.near s ≡ a → (b : Bool) → same_spot l.far s ≡ b → cond a (some l.far) (cond b (some l.near) (beyond ls s)) ≡ some t → (beyond ls s ≡ some t → beyond ls t ≡ some s) → beyond (l ∷ ls) t ≡ some s
      go true p b q e i = ap (beyond (l ∷ ls)) (sym (some_inj l.far t e)) ∙ (far-near l ls d ∙ ap some (apart-inj names l.near s k.from h p))
      go false p true q e i = ap (beyond (l ∷ ls)) (sym (some_inj l.near t e)) ∙ (near-far l ls ∙ ap some (apart-inj names l.far s k.to h q))
      go false p false q e i =
          let ht : In t = found_in ls s t (beyond-known In ks s) e in
          let g = i e in
          rw (unlike ls l.near t s k.from ht n g (same_spot l.near t) refl, unlike ls l.far t s k.to ht f g (same_spot l.far t) refl) g

-- the links of the triangles are between their sides, run opposite ways
pub links-in : (ss : List Triangle) → Every (Sound (λ x. Memᴰ x (spots ss))) (links ss)
unfolding links
links-in ss = all_sound (λ x. Memᴰ x (spots ss)) (every-mem _ (spots ss) (λ x m. m)) [] every_nil

-- E11: every link is mutual
pub mutual' : (ss : List Triangle) → Names ss → (s t : Spot) → Memᴰ s (spots ss) → beyond (links ss) s ≡ some t → beyond (links ss) t ≡ some s
unfolding links
mutual' ss n s t h e =
    mutual-in (spots ss) (spots-apart n) (all-tidy (spots-apart n) [] tidy-nil) (links-in ss) s t h e

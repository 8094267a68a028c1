-- The closed form of step 5's links: of the sides with the same two ends, the k-th run one way is linked with the k-th run the other way. Assumes nothing.
use Prim.Native.Nat.{ℕ, zero, suc, ◌≤◌, ◌<◌, max}
use native.Mathlib.Nat.{max_comm}
use native.Mathlib.Omega.{arith}
use mathlib.Core.Path.{◌≡◌, refl, sym, ◌∙◌, ap, subst}
use mathlib.Core.Bool.{Bool, true, false, cond, not, ◌&&◌, ◌||◌, and_comm, or-true, true≢false}
use mathlib.Core.List.{List, [], ◌∷◌, ◌++◌, Memᴰ, nil≢cons}
use mathlib.Core.Option.{Option, none, some, some-injective, none-ne-some}
use lib.Dec.{ltb, leb-suc-suc}
use lib.ListN.{length, drop, get_elem?}
use borrow.Author.Tests.{lt-ltb, le-ltb, ltb-true, ltb-false}
use Rattle.definition.specs.declared.Triangle.{Triangle}
use Rattle.lists.specs.Lists.{keep, first, has}
use Rattle.definition.specs.Mesh.{Spot, corner_of, same_spot}
use Rattle.definition.specs.Step4Order.{welded, spots}
use Rattle.definition.specs.Step5Links.{Link, end_of, opposite, linked, add_link, link_one, link_all, links, beyond}
use Rattle.definition.specs.Step5Sorted.{alike}
use Rattle.lists.specs.Every.{Every, every_nil, every_cons}
use Rattle.laws.proofs.Part.{every_map, every-keep}
use Rattle.laws.proofs.World.{welded-sym}
use Rattle.bits.proofs.Bools.{and_left, and_right}
use Rattle.laws.proofs.Enough.{spot-refl}
use Rattle.laws.proofs.Weld.{welded-refl, welded-as}
use Rattle.definition.specs.Names.{Names}
use Rattle.laws.proofs.Mutual.{Apart, apart-nil, apart_cons, spots-apart, spot-sym, apart-inj}
use Rattle.laws.proofs.Shuffled.{every-mem}
use Rattle.laws.proofs.Buckets.{same_ends, bucket-link}

-- ---- lists by index

-- the element with which the rest of a list begins
record Front {X : Type 0} (l : List X) (i : ℕ) (x : X) (r : List X) : Type 0 where
  is : get_elem? l i ≡ some x
  rest : drop (suc i) l ≡ r
  inside : i < length l

front : {X : Type 0} (l : List X) (i : ℕ) (x : X) (r : List X) → drop i l ≡ x ∷ r → Front l i x r
front [] zero x r e = absurd (nil≢cons e)
front [] (suc i) x r e = absurd (nil≢cons e)
front (y ∷ l) zero x r e = record { is = cc; rest = cc; inside = omega arith }
front (y ∷ l) (suc i) x r e = let h = front l i x r e in record { is = h.is; rest = h.rest; inside = omega arith }

-- where nothing is left, the list has ended
past : {X : Type 0} (l : List X) (i : ℕ) → drop i l ≡ [] → length l ≤ i
past [] i e = omega arith
past (y ∷ l) zero e = absurd (nil≢cons (sym e))
past (y ∷ l) (suc i) e = let h = past l i e in omega arith

pub index-lt : {X : Type 0} (l : List X) (i : ℕ) (x : X) → get_elem? l i ≡ some x → i < length l
index-lt [] i x e = absurd (none-ne-some x e)
index-lt (y ∷ l) zero x e = omega arith
index-lt (y ∷ l) (suc i) x e = let h = index-lt l i x e in omega arith

seam : {X : Type 0} (l : List X) (x : X) (r : List X) → get_elem? (l ++ (x ∷ r)) (length l) ≡ some x
seam [] x r = refl
seam (y ∷ l) x r = seam l x r

at-index : {X : Type 0} {P : X → Type 0} {l : List X} → Every P l → (i : ℕ) (x : X) → get_elem? l i ≡ some x → P x
at-index every_nil i x e = absurd (none-ne-some x e)
at-index {P = P} (every_cons h r) zero x e = subst P (some-injective _ x e) h
at-index (every_cons h r) (suc i) x e = at-index r i x e

-- whether there is something
there : {X : Type 0} → Option X → Bool
there none = false
there (some x) = true

index-there : {X : Type 0} (l : List X) (i : ℕ) → i < length l → there (get_elem? l i) ≡ true
unfolding there
index-there [] i h = absurd (omega arith)
index-there (y ∷ l) zero h = refl
index-there (y ∷ l) (suc i) h = index-there l i (omega arith)

-- the first of the rest from b on that stands at a or later is the one at a
first-from : {X : Type 0} (q : X → Bool) (l : List X) (b a : ℕ) → b ≤ a → ((j : ℕ) (x : X) → get_elem? l j ≡ some x → q x ≡ not (ltb j a)) → first q (drop b l) ≡ get_elem? l a
unfolding first
first-from q [] zero a h f = refl
first-from q [] (suc b) a h f = refl
first-from q (y ∷ l) (suc b) zero h f = absurd (omega arith)
first-from q (y ∷ l) (suc b) (suc a) h f = first-from q l b a (omega arith) (λ j x e. f (suc j) x e ∙ ap not (leb-suc-suc (suc j) a))
first-from q (y ∷ l) zero zero h f = rw (f zero y refl)
first-from q (y ∷ l) zero (suc a) h f = rw (f zero y refl, lt-ltb 0 (suc a) (omega arith)) (first-from q l zero a (omega arith) (λ j x e. f (suc j) x e ∙ ap not (leb-suc-suc (suc j) a)))

-- the first that passes two tests, o and q, where o says the same as p
first-both : {X : Type 0} (o p q : X → Bool) → ((x : X) → o x ≡ p x) → (l : List X) → first (λ x. o x && q x) l ≡ first q (keep p l)
unfolding first keep
first-both o p q e [] = refl
first-both o p q e (x ∷ l) = rw (e x, first-both o p q e l) (go (p x))
  where
    go : (b : Bool) → cond (b && q x) (some x) (first q (keep p l)) ≡ first q (cond b (x ∷ keep p l) (keep p l))
    go true = refl
    go false = refl

-- ---- links by index: two lists of sides, of which those at one index are linked with each other, as far as index n

-- a side is linked exactly where there is one beyond it
linked-there : (ls : List Link) (s : Spot) → linked ls s ≡ there (beyond ls s)
unfolding linked has beyond there
linked-there [] s = refl
linked-there (l ∷ ls) s = ap (λ b. same_spot l.near s || same_spot l.far s || b) (linked-there ls s) ∙ go (same_spot l.near s) (same_spot l.far s)
  where
    go : (a b : Bool) → (a || b || there (beyond ls s)) ≡ there (cond a (some l.far) (cond b (some l.near) (beyond ls s)))
    go true b = refl
    go false true = refl
    go false false = refl

-- each side of xs at an index below n has that of ys beyond it; the others of xs have none
abbrev Half : List Spot → List Spot → ℕ → List Link → Type 0
Half xs ys n ls = (j : ℕ) (x : Spot) → get_elem? xs j ≡ some x → beyond ls x ≡ cond (ltb j n) (get_elem? ys j) none

-- and the other way round
record Paired (xs ys : List Spot) (n : ℕ) (ls : List Link) : Type 0 where
  to : Half xs ys n ls
  fro : Half ys xs n ls

swapped : {xs ys : List Spot} {n : ℕ} {ls : List Link} → Paired xs ys n ls → Paired ys xs n ls
swapped h = record { to = h.fro; fro = h.to }

-- before the first link
unlinked : {xs ys : List Spot} → Paired xs ys 0 []
unfolding beyond
unlinked {xs} {ys} = record { to = λ j x e. none_yet ys j; fro = λ j x e. none_yet xs j }
  where
    none_yet : (l : List Spot) (j : ℕ) → none ≡ cond (ltb j 0) (get_elem? l j) none
    none_yet l j = ap (λ c. cond c (get_elem? l j) none) (sym (le-ltb j 0 (omega arith)))

-- a name stands at one index of a list
abbrev Own : List Spot → Type 0
Own l = (i j : ℕ) (x y : Spot) → get_elem? l i ≡ some x → get_elem? l j ≡ some y → same_spot x y ≡ true → i ≡ j

-- and in one of two lists
record Told (xs ys : List Spot) : Type 0 where
  left : Own xs
  right : Own ys
  apart : (i j : ℕ) (x y : Spot) → get_elem? xs i ≡ some x → get_elem? ys j ≡ some y → same_spot x y ≡ false

turned : {xs ys : List Spot} → Told xs ys → Told ys xs
turned h = record { left = h.right; right = h.left; apart = λ i j x y e f. spot-sym x y ∙ h.apart j i y x f e }

-- a side of xs is linked if its index is below n, and a side of ys has that index then
linked-below : (xs ys : List Spot) (n : ℕ) (ls : List Link) → Half xs ys n ls → (j : ℕ) (x : Spot) → (j < n → j < length ys) → get_elem? xs j ≡ some x → linked ls x ≡ ltb j n
unfolding there
linked-below xs ys n ls h j x f e = linked-there ls x ∙ (ap there (h j x e) ∙ go (ltb j n) refl)
  where
    go : (b : Bool) → ltb j n ≡ b → there (cond b (get_elem? ys j) none) ≡ b
    go true d = index-there ys j (f (ltb-true j n d))
    go false d = refl

-- one more index: nothing changes but at that index
one_more : (j a : ℕ) (o : Option Spot) → (j ≡ a → o ≡ none) → cond (ltb j a) o none ≡ cond (ltb j (suc a)) o none
one_more j a o f = go (ltb j a) refl (ltb j (suc a)) refl
  where
    go : (b : Bool) → ltb j a ≡ b → (c : Bool) → ltb j (suc a) ≡ c → cond b o none ≡ cond c o none
    go true d true e = refl
    go true d false e = absurd (omega (arith, ltb-true j a d, ltb-false j (suc a) e))
    go false d true e = sym (f (omega (arith, ltb-false j a d, ltb-true j (suc a) e)))
    go false d false e = refl

-- where ys ends, or xs does
half-end : (xs ys : List Spot) (a : ℕ) (ls : List Link) → get_elem? ys a ≡ none → Half xs ys a ls → Half xs ys (suc a) ls
half-end xs ys a ls e h j x f = h j x f ∙ one_more j a (get_elem? ys j) (λ d. ap (get_elem? ys) d ∙ e)

half-past : (xs ys : List Spot) (a : ℕ) (ls : List Link) → get_elem? xs a ≡ none → Half xs ys a ls → Half xs ys (suc a) ls
half-past xs ys a ls e h j x f = h j x f ∙ one_more j a (get_elem? ys j) (λ d. absurd (none-ne-some x (sym e ∙ (ap (get_elem? xs) (sym d) ∙ f))))

-- the side at index a of xs, linked with that of ys
half-more : (xs ys : List Spot) (a : ℕ) (ls : List Link) (u v : Spot) → Own xs → get_elem? xs a ≡ some u → get_elem? ys a ≡ some v → Half xs ys a ls → (j : ℕ) (x : Spot) → get_elem? xs j ≡ some x → cond (same_spot u x) (some v) (beyond ls x) ≡ cond (ltb j (suc a)) (get_elem? ys j) none
half-more xs ys a ls u v own e f h j x g = go (same_spot u x) refl
  where
    go : (b : Bool) → same_spot u x ≡ b → cond b (some v) (beyond ls x) ≡ cond (ltb j (suc a)) (get_elem? ys j) none
    go true d = let i : a ≡ j = own a j u x e g d in rw (lt-ltb j (suc a) (omega arith)) (sym f ∙ ap (get_elem? ys) i)
    go false d = h j x g ∙ one_more j a (get_elem? ys j) (λ i. absurd (true≢false (sym (spot-refl u) ∙ (ap (same_spot u) (some-injective u x (sym e ∙ (ap (get_elem? xs) (sym i) ∙ g))) ∙ d))))

-- ---- one side, number a of its kind, where b of the other kind were passed

module _ (xs ys : List Spot) (told : Told xs ys) (a b : ℕ) (ls : List Link) (s : Spot) (at_a : get_elem? xs a ≡ some s) where
  -- fewer of its kind were passed: it is linked
  passed : a < b → b ≤ length ys → (later : List Spot) → Paired xs ys b ls → Paired xs ys b (link_one ls s later)
  unfolding link_one
  passed h k later r = rw (linked-below xs ys b ls r.to a s (λ d. omega arith) at_a, lt-ltb a b h) r

  add-pair : (o : Option Spot) → get_elem? ys a ≡ o → Paired xs ys a ls → Paired xs ys (suc a) (add_link s o ls)
  unfolding add_link beyond
  add-pair none e r = record { to = half-end xs ys a ls e r.to; fro = half-past ys xs a ls e r.fro }
  add-pair (some t) e r =
      record {
        to = λ j x f. rw ((turned told).apart a j t x e f) (half-more xs ys a ls s t told.left at_a e r.to j x f);
        fro = λ j y f. rw (told.apart a j s y at_a f) (half-more ys xs a ls t s told.right e at_a r.fro j y f);
      }

  -- otherwise it takes the side of the other kind at its index
  taken : b ≤ a → (later : List Spot) → first (λ t. opposite s t && not (linked ls t)) later ≡ first (λ t. not (linked ls t)) (drop b ys) → Paired xs ys a ls → Paired xs ys (suc a) (link_one ls s later)
  unfolding link_one
  taken h later e r =
      let i = index-lt xs a s at_a in
      let found = first-from (λ t. not (linked ls t)) ys b a h (λ j y f. ap not (linked-below ys xs a ls r.fro j y (λ d. omega arith) f)) in
      rw (linked-below xs ys a ls r.to a s (λ d. absurd (omega arith)) at_a, le-ltb a a (omega arith), e, found) (add-pair (get_elem? ys a) refl r)

  -- in either case
  step : b ≤ length ys → (later : List Spot) → first (λ t. opposite s t && not (linked ls t)) later ≡ first (λ t. not (linked ls t)) (drop b ys) → Paired xs ys (max a b) ls → Paired xs ys (max (suc a) b) (link_one ls s later)
  step k later e r = go (ltb a b) refl
    where
      go : (c : Bool) → ltb a b ≡ c → Paired xs ys (max (suc a) b) (link_one ls s later)
      go true d =
          let h = ltb-true a b d in
          let m : max a b ≡ b = omega arith in
          let n : max (suc a) b ≡ b = omega arith in
          rw n (passed h k later (rw m at r))
      go false d =
          let h = ltb-false a b d in
          let m : max a b ≡ a = omega arith in
          let n : max (suc a) b ≡ suc a = omega arith in
          rw n (taken h later e (rw m at r))

-- ---- all sides of a list

-- what runs opposite to x are those that pass C: the first later unlinked one of them
later_first : (ls : List Link) (x : Spot) (later ys : List Spot) (b : ℕ) (C : Spot → Bool) → ((t : Spot) → opposite x t ≡ C t) → drop b ys ≡ keep C later → first (λ t. opposite x t && not (linked ls t)) later ≡ first (λ t. not (linked ls t)) (drop b ys)
later_first ls x later ys b C f e = first-both (opposite x) C (λ t. not (linked ls t)) f later ∙ ap (first (λ t. not (linked ls t))) (sym e)

module _ (A B : Spot → Bool) where
  -- a side of one of the two kinds: what runs opposite is of the other
  data Kind (x : Spot) : Type 0 where
    of-A : A x ≡ true → B x ≡ false → ((t : Spot) → opposite x t ≡ B t) → Kind x
    of-B : A x ≡ false → B x ≡ true → ((t : Spot) → opposite x t ≡ A t) → Kind x

  module _ (xs ys : List Spot) (told : Told xs ys) where
    walk : {l : List Spot} → Every Kind l → (ls : List Link) (a b : ℕ) → drop a xs ≡ keep A l → drop b ys ≡ keep B l → a ≤ length xs → b ≤ length ys → Paired xs ys (max a b) ls → (j : ℕ) (x : Spot) → get_elem? xs j ≡ some x → beyond (link_all ls l) x ≡ get_elem? ys j
    unfolding link_all keep
    walk every_nil ls a b e f h k r j x g =
        let i = index-lt xs j x g in
        let m = past xs a e in
        r.to j x g ∙ ap (λ c. cond c (get_elem? ys j) none) (lt-ltb j (max a b) (omega arith))
    walk (every_cons {x = s} {l} (of-A p q o) w) ls a b e f h k r j x g =
        let e' = front xs a s (keep A l) (e ∙ ap (λ c. cond c (s ∷ keep A l) (keep A l)) p) in
        let f' : drop b ys ≡ keep B l = f ∙ ap (λ c. cond c (s ∷ keep B l) (keep B l)) q in
        walk w (link_one ls s l) (suc a) b e'.rest f' e'.inside k (step xs ys told a b ls s e'.is k l (later_first ls s l ys b B o f') r) j x g
    walk (every_cons {x = s} {l} (of-B p q o) w) ls a b e f h k r j x g =
        let e' : drop a xs ≡ keep A l = e ∙ ap (λ c. cond c (s ∷ keep A l) (keep A l)) p in
        let f' = front ys b s (keep B l) (f ∙ ap (λ c. cond c (s ∷ keep B l) (keep B l)) q) in
        let r' : Paired ys xs (max b a) ls = rw (max_comm b a) (swapped r) in
        let n = step ys xs (turned told) b a ls s f'.is h l (later_first ls s l xs a A o e') r' in
        walk w (link_one ls s l) a (suc b) e' f'.rest h f'.inside (rw (max_comm a (suc b)) (swapped n)) j x g

-- ---- what two tests keep

pub keep-keep : {X : Type 0} (p q : X → Bool) → ((x : X) → p x ≡ true → q x ≡ true) → (l : List X) → keep p (keep q l) ≡ keep p l
unfolding keep
keep-keep p q f [] = refl
keep-keep p q f (x ∷ l) = go (q x) refl (p x) refl (keep-keep p q f l)
  where
    go : (b : Bool) → q x ≡ b → (c : Bool) → p x ≡ c → keep p (keep q l) ≡ keep p l → keep p (cond b (x ∷ keep q l) (keep q l)) ≡ cond c (x ∷ keep p l) (keep p l)
    go true d c e i = rw (e, i)
    go false d true e i = absurd (true≢false (sym (f x e) ∙ d))
    go false d false e i = i

pub keep_append : {X : Type 0} (p : X → Bool) (l k : List X) → keep p (l ++ k) ≡ keep p l ++ keep p k
unfolding keep
keep_append p [] k = refl
keep_append p (x ∷ l) k = rw (keep_append p l k) (go (p x))
  where
    go : (b : Bool) → cond b (x ∷ (keep p l ++ keep p k)) (keep p l ++ keep p k) ≡ cond b (x ∷ keep p l) (keep p l) ++ keep p k
    go true = refl
    go false = refl

-- one that passes stands after those that pass before it
keep-seam : {X : Type 0} (p : X → Bool) (l : List X) (x : X) (k : List X) → p x ≡ true → get_elem? (keep p (l ++ (x ∷ k))) (length (keep p l)) ≡ some x
unfolding keep
keep-seam p l x k e = rw (keep_append p l (x ∷ k), e) (seam (keep p l) x (keep p k))

keep_known : {X : Type 0} (P : X → Type 0) (p : X → Bool) {l : List X} → Every P l → Every (λ x. P x × (p x ≡ true)) (keep p l)
unfolding keep
keep_known P p every_nil = every_nil
keep_known P p (every_cons {x} {l} h r) = go (p x) refl (keep_known P p r)
  where
    go : (b : Bool) → p x ≡ b → Every (λ x. P x × (p x ≡ true)) (keep p l) → Every (λ x. P x × (p x ≡ true)) (cond b (x ∷ keep p l) (keep p l))
    go true e i = every_cons (h, e) i
    go false e i = i

apart-keep : (p : Spot → Bool) {l : List Spot} → Apart l → Apart (keep p l)
unfolding keep
apart-keep p apart-nil = apart-nil
apart-keep p (apart_cons {s} {l} h r) = go (p s) (every-keep p h) (apart-keep p r)
  where
    go : (b : Bool) → Every (λ k. same_spot s k ≡ false) (keep p l) → Apart (keep p l) → Apart (cond b (s ∷ keep p l) (keep p l))
    go true g i = apart_cons g i
    go false g i = i

own-index : {l : List Spot} → Apart l → Own l
own-index apart-nil i j x y e f d = absurd (none-ne-some x e)
own-index (apart_cons h r) zero zero x y e f d = refl
own-index (apart_cons h r) zero (suc j) x y e f d = absurd (true≢false (sym d ∙ (ap (λ z. same_spot z y) (sym (some-injective _ x e)) ∙ at-index h j y f)))
own-index (apart_cons h r) (suc i) zero x y e f d = absurd (true≢false (sym d ∙ (spot-sym x y ∙ (ap (λ z. same_spot z x) (sym (some-injective _ y f)) ∙ at-index h i x e))))
own-index (apart_cons h r) (suc i) (suc j) x y e f d = ap suc (own-index r i j x y e f d)

-- ---- the sides with the ends of s: those run alike, and those run opposite

module _ (s : Spot) (ends : welded (corner_of s) (end_of s) ≡ false) where
  alike-opposite : (x t : Spot) → alike s x ≡ true → opposite x t ≡ opposite s t
  unfolding alike opposite
  alike-opposite x t e = rw (welded-as (corner_of s) (corner_of x) (end_of t) (and_left _ _ e), welded-as (end_of s) (end_of x) (corner_of t) (and_right (welded (corner_of s) (corner_of x)) _ e))

  pub opposite_alike : (x t : Spot) → opposite s x ≡ true → opposite x t ≡ alike s t
  unfolding alike opposite
  opposite_alike x t e = rw (welded-as (corner_of s) (end_of x) (corner_of t) (and_left _ _ e), welded-as (end_of s) (corner_of x) (end_of t) (and_right (welded (corner_of s) (end_of x)) _ e)) (and_comm (welded (corner_of x) (end_of t)) (welded (end_of x) (corner_of t)))

  not-both : (x : Spot) → alike s x ≡ true → opposite s x ≡ false
  unfolding alike opposite
  not-both x e = go (opposite s x) refl
    where
      go : (b : Bool) → opposite s x ≡ b → b ≡ false
      go true f = absurd (true≢false (sym (and_right (welded (corner_of s) (end_of x)) _ f) ∙ (welded-sym (end_of s) (corner_of x) ∙ (sym (welded-as (corner_of s) (corner_of x) (end_of s) (and_left _ _ e)) ∙ ends))))
      go false f = refl

  kind : (x : Spot) → same_ends s x ≡ true → Kind (alike s) (opposite s) x
  unfolding same_ends alike
  kind x e = go (alike s x) refl e
    where
      go : (b : Bool) → alike s x ≡ b → (b || opposite s x) ≡ true → Kind (alike s) (opposite s) x
      go true f e = of-A f (not-both x f) (λ t. alike-opposite x t f)
      go false f e = of-B f e (λ t. opposite_alike x t e)

  module _ (all : List Spot) (names : Apart all) where
    told-apart : Told (keep (alike s) all) (keep (opposite s) all)
    told-apart =
        record {
          left = own-index (apart-keep (alike s) names);
          right = own-index (apart-keep (opposite s) names);
          apart = λ i j x y e f. go x y (at-index (keep_known _ (alike s) inside) i x e) (at-index (keep_known _ (opposite s) inside) j y f) (same_spot x y) refl;
        }
      where
        inside : Every (λ x. Memᴰ x all) all
        inside = every-mem _ all (λ x h. h)

        go : (x y : Spot) → (Memᴰ x all × (alike s x ≡ true)) → (Memᴰ y all × (opposite s y ≡ true)) → (b : Bool) → same_spot x y ≡ b → b ≡ false
        go x y h k true e = absurd (true≢false (sym k.1 ∙ (ap (opposite s) (sym (apart-inj names x y h.0 k.0 e)) ∙ not-both x h.1)))
        go x y h k false e = refl

    -- in the bucket of s
    bucket-pairs : (k : ℕ) → get_elem? (keep (alike s) all) k ≡ some s → beyond (link_all [] (keep (same_ends s) all)) s ≡ get_elem? (keep (opposite s) all) k
    unfolding same_ends alike
    bucket-pairs k e =
        walk (alike s) (opposite s) (keep (alike s) all) (keep (opposite s) all) told-apart (every_map (λ x h. kind x h.1) (keep_known _ (same_ends s) (every-mem _ all (λ x h. h)))) [] 0 0
        (sym (keep-keep (alike s) (same_ends s) (λ x d. ap (λ b. b || opposite s x) d) all)) (sym (keep-keep (opposite s) (same_ends s) (λ x d. ap (λ b. alike s x || b) d ∙ or-true (alike s x)) all)) (omega arith) (omega arith)
        unlinked k s e

-- The k-th side run one way is linked with the k-th run the other way between the same ends, if there is one.
pub kth-pair : (ss : List Triangle) → Names ss → (s : Spot) → welded (corner_of s) (end_of s) ≡ false → (k : ℕ) → get_elem? (keep (alike s) (spots ss)) k ≡ some s → beyond (links ss) s ≡ get_elem? (keep (opposite s) (spots ss)) k
unfolding links
kth-pair ss names s ends k e =
    let all = every-mem (λ x. Memᴰ x (spots ss)) (spots ss) (λ x h. h) in
    bucket-link (spots ss) (spots-apart names) (spots ss) all s (at-index (keep_known _ (alike s) all) k s e).0 ∙ bucket-pairs s ends (spots ss) (spots-apart names) k e

-- The same with its number counted: as many as were run the same way before it.
pub pairs : (ss : List Triangle) → Names ss → (s : Spot) → welded (corner_of s) (end_of s) ≡ false → (pre post : List Spot) → spots ss ≡ pre ++ (s ∷ post) → beyond (links ss) s ≡ get_elem? (keep (opposite s) (spots ss)) (length (keep (alike s) pre))
unfolding alike
pairs ss names s ends pre post e =
    kth-pair ss names s ends (length (keep (alike s) pre)) (ap (λ l. get_elem? (keep (alike s) l) (length (keep (alike s) pre))) e ∙ keep-seam (alike s) pre s post (rw (welded-refl (corner_of s), welded-refl (end_of s))))

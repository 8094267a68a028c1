-- What the verdicts mean: each has its ground, and no other verdict has that ground. Assumes nothing.
use Prim.Native.Nat.{ℕ, ◌+◌, ◌≤◌, ◌<◌}
use native.Mathlib.Omega.{arith}
use mathlib.Core.Path.{◌≡◌, refl, sym, ap, ◌∙◌}
use mathlib.Core.Bool.{Bool, true, false, cond, not, ◌&&◌, and-false, true≢false}
use mathlib.Core.Logic.{◌⊎◌, inl, inr}
use mathlib.Core.List.{List}
use lib.ListN.{get_or}
use lib.Dec.{eqb, leb}
use borrow.Author.Tests.{eqb-true, eqb-false, eq-eqb, ne_eqb, leb-true, leb-false, le-leb, lt-leb, ltb-true, ltb-false, lt-ltb, le-ltb}
use Rattle.lists.specs.Parts.{every_below}
use Rattle.lists.proofs.Parts.{every-at, every-fails, every-all}
use Rattle.packed.specs.Component.{furthest, size, negative, within, cut, units, signed, component, amount}
use Rattle.packed.proofs.Range.{units-le, cut-le}
use Rattle.packed.proofs.Signs.{amount-signed}
use Rattle.worth.specs.Worth.{absent_slot, good_slot, lost_slot, blank_slot, long_slot, short_slot, least_bits, finite, counted, shown, some_of, in_both, in_all, directed, present_worth, worth}
use Rattle.worth.specs.Meaning.{OneOf, one_of, Counts, Shows, Directions, NoDirections, turned, no_number, no_tangent, no_bi_tangent, Near, Zeros, tangent_zeros, bi_tangent_zeros, IsGood, Told, absent, lost, blank, long, short, good}
use Rattle.worth.proofs.Some.{every-failing, some-passing, some_at, some-none, none-at}

-- a component shows, or is packed as 0
pub shows-yes : (w : ℕ) → shown w ≡ true → Shows w
unfolding shown component amount
shows-yes w e h = absurd (true≢false (sym e ∙ ap not (eq-eqb (units (cut w)) 0 none)))
  where
    none : units (cut w) ≡ 0
    none = sym (amount-signed (negative w) (units (cut w)) (units-le (cut w) (cut-le w))) ∙ ap amount h

signed-none : (s : Bool) → signed s 0 ≡ 0
unfolding signed
signed-none true = refl
signed-none false = refl

pub shows-no : (w : ℕ) → shown w ≡ false → component w ≡ 0
unfolding shown component
shows-no w e = go (eqb (units (cut w)) 0) refl
  where
    go : (t : Bool) → eqb (units (cut w)) 0 ≡ t → signed (negative w) (units (cut w)) ≡ 0
    go true h = ap (signed (negative w)) (eqb-true _ _ h) ∙ signed-none (negative w)
    go false h = absurd (true≢false (sym (ap not h) ∙ e))

-- and back
yes-shows : (w : ℕ) → Shows w → shown w ≡ true
yes-shows w h = go (shown w) refl
  where
    go : (t : Bool) → shown w ≡ t → shown w ≡ true
    go true e = e
    go false e = absurd (h (shows-no w e))

no-shows : (w : ℕ) → component w ≡ 0 → shown w ≡ false
no-shows w h = go (shown w) refl
  where
    go : (t : Bool) → shown w ≡ t → shown w ≡ false
    go true e = absurd (shows-yes w e h)
    go false e = e

-- one of three words that passes a test, where the test says P
module _ (P : ℕ → Type 0) (p : ℕ → Bool) (k : ℕ) (slot : List ℕ) where
  one-yes : ((w : ℕ) → p w ≡ true → P w) → some_of p k slot ≡ true → OneOf P k slot
  unfolding some_of
  one-yes f e = some-passing 3 (λ i. p (get_or slot (k + i) 0)) e (λ i l h. one_of i l (f (get_or slot (k + i) 0) h))

  yes-one : ((w : ℕ) → P w → p w ≡ true) → OneOf P k slot → some_of p k slot ≡ true
  unfolding some_of
  yes-one f (one_of i l h) = some_at 3 i (λ i. p (get_or slot (k + i) 0)) l (f (get_or slot (k + i) 0) h)

-- three words that do not
module _ (p : ℕ → Bool) (k : ℕ) (slot : List ℕ) where
  none_of : some_of p k slot ≡ false → (i : ℕ) → i < 3 → p (get_or slot (k + i) 0) ≡ false
  unfolding some_of
  none_of e i l = none-at 3 i (λ i. p (get_or slot (k + i) 0)) e l

  of_none : ((i : ℕ) → i < 3 → p (get_or slot (k + i) 0) ≡ false) → some_of p k slot ≡ false
  unfolding some_of
  of_none f = some-none 3 (λ i. p (get_or slot (k + i) 0)) f

-- the test of component i of a slot
abbrev at : (ℕ → Bool) → List ℕ → ℕ → Bool
at p slot i = p (get_or slot (1 + i) 0)

-- a component counts, or not
counts-yes : (w : ℕ) → counted w ≡ true → Counts w
unfolding counted
counts-yes w e = ltb-true least_bits (size w) e

yes-counts : (w : ℕ) → Counts w → counted w ≡ true
unfolding counted
yes-counts w h = lt-ltb least_bits (size w) h

counts-no : (w : ℕ) → counted w ≡ false → size w ≤ least_bits
unfolding counted
counts-no w e = ltb-false least_bits (size w) e

no-counts : (w : ℕ) → size w ≤ least_bits → counted w ≡ false
unfolding counted
no-counts w h = le-ltb least_bits (size w) h

-- a slot has an orientation and two directions, or lacks something
decided : (slot : List ℕ) → Directions slot ⊎ NoDirections slot
unfolding finite
decided slot = go (leb (get_or slot 9 0) 1) (every_below 6 (at finite slot)) (some_of counted 1 slot) (some_of counted 4 slot) refl refl refl refl
  where
    go : (o f t b : Bool) → leb (get_or slot 9 0) 1 ≡ o → every_below 6 (at finite slot) ≡ f → some_of counted 1 slot ≡ t → some_of counted 4 slot ≡ b → Directions slot ⊎ NoDirections slot
    go false f t b w x y z = inr (turned (leb-false _ _ w))
    go true false t b w x y z = every-failing 6 (at finite slot) x (λ i l h. inr (no_number i l (ltb-false _ _ h)))
    go true true false b w x y z = inr (no_tangent (λ i l. counts-no (get_or slot (1 + i) 0) (none_of counted 1 slot y i l)))
    go true true true false w x y z = inr (no_bi_tangent (λ i l. counts-no (get_or slot (4 + i) 0) (none_of counted 4 slot z i l)))
    go true true true true w x y z =
        inl
        (record {
          orientation = leb-true _ _ w;
          numbers = λ i l. ltb-true _ _ (every-at 6 i (at finite slot) x l);
          tangent = one-yes Counts counted 1 slot counts-yes y;
          bi_tangent = one-yes Counts counted 4 slot counts-yes z;
        })

-- and the test says so
pub directed-yes : (slot : List ℕ) → Directions slot → directed slot ≡ true
unfolding directed in_all in_both finite
directed-yes slot D =
    λ z. le-leb _ _ D.orientation z
    && every-all 6 (at finite slot) (λ i l. lt-ltb _ _ (D.numbers i l)) z
    && (yes-one Counts counted 1 slot yes-counts D.tangent z && yes-one Counts counted 4 slot yes-counts D.bi_tangent z)

pub directed-no : (slot : List ℕ) → NoDirections slot → directed slot ≡ false
unfolding directed in_all in_both finite
directed-no slot (turned h) = ap (λ (t : Bool). t && every_below 6 (at finite slot) && (some_of counted 1 slot && some_of counted 4 slot)) (lt-leb _ _ h)
directed-no slot (no_number i l h) =
    ap (λ (t : Bool). leb (get_or slot 9 0) 1 && t && (some_of counted 1 slot && some_of counted 4 slot)) (every-fails 6 i (at finite slot) l (le-ltb _ _ h))
    ∙ ap (λ (t : Bool). t && (some_of counted 1 slot && some_of counted 4 slot)) (and-false (leb (get_or slot 9 0) 1))
directed-no slot (no_tangent f) =
    ap (λ (t : Bool). leb (get_or slot 9 0) 1 && every_below 6 (at finite slot) && (t && some_of counted 4 slot)) (of_none counted 1 slot (λ i l. no-counts (get_or slot (1 + i) 0) (f i l)))
    ∙ and-false (leb (get_or slot 9 0) 1 && every_below 6 (at finite slot))
directed-no slot (no_bi_tangent f) =
    ap (λ (t : Bool). leb (get_or slot 9 0) 1 && every_below 6 (at finite slot) && (some_of counted 1 slot && t)) (of_none counted 4 slot (λ i l. no-counts (get_or slot (4 + i) 0) (f i l)))
    ∙ (ap (λ (t : Bool). leb (get_or slot 9 0) 1 && every_below 6 (at finite slot) && t) (and-false (some_of counted 1 slot))
    ∙ and-false (leb (get_or slot 9 0) 1 && every_below 6 (at finite slot)))

yes-directed : (slot : List ℕ) → directed slot ≡ true → Directions slot
yes-directed slot e = go (decided slot)
  where
    go : Directions slot ⊎ NoDirections slot → Directions slot
    go (inl D) = D
    go (inr N) = absurd (true≢false (sym e ∙ directed-no slot N))

no-directed : (slot : List ℕ) → directed slot ≡ false → NoDirections slot
no-directed slot e = go (decided slot)
  where
    go : Directions slot ⊎ NoDirections slot → NoDirections slot
    go (inl D) = absurd (true≢false (sym (directed-yes slot D) ∙ e))
    go (inr N) = N

-- no component is beyond, or one is
near-yes : (slot : List ℕ) → Near slot → in_all within slot ≡ true
unfolding in_all within
near-yes slot f = every-all 6 (at within slot) (λ i l. le-leb _ _ (f i l))

yes_near : (slot : List ℕ) → in_all within slot ≡ true → Near slot
unfolding in_all within
yes_near slot e i l = leb-true _ _ (every-at 6 i (at within slot) e l)

near-no : (slot : List ℕ) (i : ℕ) → i < 6 → furthest < size (get_or slot (1 + i) 0) → in_all within slot ≡ false
unfolding in_all within
near-no slot i l h = every-fails 6 i (at within slot) l (lt-leb _ _ h)

no_near : {P : Type 0} (slot : List ℕ) → in_all within slot ≡ false → ((i : ℕ) → i < 6 → furthest < size (get_or slot (1 + i) 0) → P) → P
unfolding in_all within
no_near slot e f = every-failing 6 (at within slot) e (λ i l h. f i l (leb-false _ _ h))

-- both show, or one is packed as three zeros
zeros-no : (slot : List ℕ) → Zeros slot → in_both shown slot ≡ false
unfolding in_both
zeros-no slot (tangent_zeros f) = ap (λ (t : Bool). t && some_of shown 4 slot) (of_none shown 1 slot (λ i l. no-shows (get_or slot (1 + i) 0) (f i l)))
zeros-no slot (bi_tangent_zeros f) =
    ap (λ (t : Bool). some_of shown 1 slot && t) (of_none shown 4 slot (λ i l. no-shows (get_or slot (4 + i) 0) (f i l))) ∙ and-false (some_of shown 1 slot)

shows-both : (slot : List ℕ) → OneOf Shows 1 slot → OneOf Shows 4 slot → in_both shown slot ≡ true
unfolding in_both
shows-both slot a b = λ z. yes-one Shows shown 1 slot yes-shows a z && yes-one Shows shown 4 slot yes-shows b z

zeros : (slot : List ℕ) (k : ℕ) → some_of shown k slot ≡ false → (i : ℕ) → i < 3 → component (get_or slot (k + i) 0) ≡ 0
zeros slot k x i l = shows-no (get_or slot (k + i) 0) (none_of shown k slot x i l)

both-shows : {P : Type 0} (slot : List ℕ) (t : Bool) → in_both shown slot ≡ t → (t ≡ true → OneOf Shows 1 slot → OneOf Shows 4 slot → P) → (t ≡ false → Zeros slot → P) → P
unfolding in_both
both-shows {P} slot t e f g = go (some_of shown 1 slot) (some_of shown 4 slot) refl refl
  where
    go : (a b : Bool) → some_of shown 1 slot ≡ a → some_of shown 4 slot ≡ b → P
    go false b x y = g (sym e ∙ zeros-no slot (tangent_zeros (zeros slot 1 x))) (tangent_zeros (zeros slot 1 x))
    go true false x y = g (sym e ∙ zeros-no slot (bi_tangent_zeros (zeros slot 4 y))) (bi_tangent_zeros (zeros slot 4 y))
    go true true x y =
        let a = one-yes Shows shown 1 slot shows-yes x in
        let b = one-yes Shows shown 4 slot shows-yes y in
        f (sym e ∙ shows-both slot a b) a b

-- a slot whose word 0 is 1 has one of four verdicts
present-told : (slot : List ℕ) → get_or slot 0 0 ≡ 1 → Told slot (present_worth slot)
unfolding present_worth
present-told slot one = go (directed slot) (in_all within slot) (in_both shown slot) refl refl refl
  where
    go : (d n s : Bool) → directed slot ≡ d → in_all within slot ≡ n → in_both shown slot ≡ s → Told slot (cond d (cond n (cond s good_slot short_slot) long_slot) blank_slot)
    go false n s x y z = blank refl one (no-directed slot x)
    go true false s x y z = no_near slot y (λ i l h. long refl one (yes-directed slot x) i l h)
    go true true s x y z =
        both-shows slot s z
        (λ e a b. good (ap (λ (t : Bool). cond t good_slot short_slot) e) (record { present = one; directions = yes-directed slot x; near = yes_near slot y; tangent_shows = a; bi_tangent_shows = b }))
        (λ e Z. short (ap (λ (t : Bool). cond t good_slot short_slot) e) one (yes-directed slot x) (yes_near slot y) Z)

-- every slot has a verdict, with its ground
pub told : (slot : List ℕ) → Told slot (worth slot)
unfolding worth
told slot = go (eqb (get_or slot 0 0) 0) (eqb (get_or slot 0 0) 1) refl refl
  where
    go : (a b : Bool) → eqb (get_or slot 0 0) 0 ≡ a → eqb (get_or slot 0 0) 1 ≡ b → Told slot (cond a absent_slot (cond b (present_worth slot) lost_slot))
    go true b x y = absent refl (eqb-true _ _ x)
    go false true x y = present-told slot (eqb-true _ _ y)
    go false false x y = lost refl (eqb-false _ _ x) (eqb-false _ _ y)

-- what a slot is worth whose word 0 is 1
of-present : (slot : List ℕ) → get_or slot 0 0 ≡ 1 → present_worth slot ≡ worth slot
unfolding worth
of-present slot e = simp (ne_eqb (get_or slot 0 0) 0 (λ k. omega (arith, e, k)), eq-eqb _ _ e)

-- each of its four verdicts, by the three tests
by_tests : (slot : List ℕ) (d n s : Bool) → directed slot ≡ d → in_all within slot ≡ n → in_both shown slot ≡ s → cond d (cond n (cond s good_slot short_slot) long_slot) blank_slot ≡ present_worth slot
unfolding present_worth
by_tests slot d n s x y z = λ t. cond (sym x t) (cond (sym y t) (cond (sym z t) good_slot short_slot) long_slot) blank_slot

absent-worth : (slot : List ℕ) → get_or slot 0 0 ≡ 0 → absent_slot ≡ worth slot
unfolding worth
absent-worth slot h = simp (eq-eqb _ _ h)

lost-worth : (slot : List ℕ) → (get_or slot 0 0 ≡ 0 → ⊥) → (get_or slot 0 0 ≡ 1 → ⊥) → lost_slot ≡ worth slot
unfolding worth
lost-worth slot f g = simp (ne_eqb _ _ f, ne_eqb _ _ g)

-- and a ground has one verdict
pub told-only : (slot : List ℕ) (k : ℕ) → Told slot k → k ≡ worth slot
told-only slot k (absent e h) = e ∙ absent-worth slot h
told-only slot k (lost e f g) = e ∙ lost-worth slot f g
told-only slot k (blank e h N) = e ∙ (by_tests slot false _ _ (directed-no slot N) refl refl ∙ of-present slot h)
told-only slot k (long e h D i l b) = e ∙ (by_tests slot true false _ (directed-yes slot D) (near-no slot i l b) refl ∙ of-present slot h)
told-only slot k (short e h D N Z) = e ∙ (by_tests slot true true false (directed-yes slot D) (near-yes slot N) (zeros-no slot Z) ∙ of-present slot h)
told-only slot k (good e G) =
    e ∙ (by_tests slot true true true (directed-yes slot G.directions) (near-yes slot G.near) (shows-both slot G.tangent_shows G.bi_tangent_shows) ∙ of-present slot G.present)

-- good exactly if it is so
pub good_is : (slot : List ℕ) → worth slot ≡ good_slot → IsGood slot
good_is slot e = go (worth slot) e (told slot)
  where
    go : (k : ℕ) → k ≡ good_slot → Told slot k → IsGood slot
    go k e (absent f h) = absurd (omega (arith, e, f))
    go k e (lost f g h) = absurd (omega (arith, e, f))
    go k e (blank f h N) = absurd (omega (arith, e, f))
    go k e (long f h D i l b) = absurd (omega (arith, e, f))
    go k e (short f h D N Z) = absurd (omega (arith, e, f))
    go k e (good f G) = G

pub is_good : (slot : List ℕ) → IsGood slot → worth slot ≡ good_slot
is_good slot G = sym (told-only slot good_slot (good refl G))

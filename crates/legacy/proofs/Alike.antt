-- Two rows with the same corner are merged alike: with one row, or each with itself. Assumes nothing.
use Prim.Native.Nat.{ℕ, zero, suc, ◌+◌, ◌-◌, ◌≤◌, ◌<◌}
use native.Mathlib.Omega.{arith}
use mathlib.Core.Path.{◌≡◌, refl, sym, ap, ◌∙◌, subst}
use mathlib.Core.Bool.{Bool, true, false, cond, ◌&&◌, and-false, true≢false}
use mathlib.Core.List.{List, [], ◌∷◌}
use mathlib.Core.Option.{Option, none, some}
use lib.Dec.{eqb, leb, ltb}
use lib.ListN.{length, get_or, set, take, length-set}
use lib.Seq.{slice, length-slice, get_or-take, get_or-drop, get_or-set_same}
use borrow.Author.Tests.{eq-eqb, ne_eqb, eqb-true, eqb-false, ltb-true, lt-ltb, le-ltb, le-leb, lt-leb}
use lib.Ieee as Ieee
use lib.Ieee.{Float}
use Rattle.lists.specs.Lists.{first, run}
use Rattle.definition.specs.declared.Corner.{Corner}
use Rattle.definition.specs.Mesh.{Third}
use Rattle.definition.specs.Step5Quick.{swapped}
use Rattle.definition.specs.Step5Old.{numbers_from, run_end}
use Rattle.definition.specs.Step5Sorted.{sorted_by}
use Rattle.definition.specs.Step4Old.{along, Box, box_of, widest, Merging, Halves, halved, merged_here, or_row, same_values, Way, leave, weld, cut, way_of, side_of, done, merge, merge_runs, bucket_in, merged_rows}
use Rattle.sort.specs.Sort.{sorted}
use Rattle.sort.proofs.Sorted.{all-at, all-index, rises-at, rises_sorted, length-sorted, KeysRise}
use Rattle.sort.proofs.Rising.{sorted_all}
use Rattle.quick.proofs.Enough.{length-swapped}
use Rattle.quick.proofs.Halves.{Cut, halved-cut}
use Rattle.quick.proofs.Apart.{swapped_other}
use Rattle.edges.proofs.Whole.{length-numbers, numbers-at, set_holds}
use Rattle.quick.proofs.Searches.{run_past}
use Rattle.merge.specs.Rows.{merged_one}
use Rattle.merge.proofs.Stable.{sorted-same}
use Rattle.legacy.proofs.Rows.{merge_keeps, set_keeps}
use Rattle.legacy.proofs.Halving.{by_place, swapped-first, swapped-last, halved-keeps, merge-exchanges, Sides, halved-sides}

-- ---- rows that are told by a test stand at the places from one up to another

pub record Class (D : ℕ → Bool) (n from to : ℕ) (l : List ℕ) : Type 0 where
  pub inside : (p : ℕ) → from ≤ p → p < to → D (get_or l p 0) ≡ true
  pub before : (p : ℕ) → p < from → D (get_or l p 0) ≡ false
  pub after : (p : ℕ) → to ≤ p → p < n → D (get_or l p 0) ≡ false

-- what holds of two places holds of all after their exchange
swapped-holds : (P : ℕ → Type 0) (c d p : ℕ) (l : List ℕ) → P (get_or l c 0) → P (get_or l d 0) → P (get_or l p 0) → P (get_or (swapped c d l) p 0)
unfolding swapped
swapped-holds P c d p l x y z = set_holds P (set l c (get_or l d 0)) d (get_or l c 0) p x (set_holds P l c (get_or l d 0) p y z)

class-within : (D : ℕ → Bool) (n from to c d : ℕ) (l : List ℕ) → from ≤ c → c < to → from ≤ d → d < to → Class D n from to l → Class D n from to (swapped c d l)
class-within D n from to c d l h i j k Z = record {
  inside = λ p x y. swapped-holds (λ r. D r ≡ true) c d p l (Z.inside c h i) (Z.inside d j k) (Z.inside p x y);
  before = λ p x. ap D (swapped_other c d p l (λ e. omega (arith, e, x, h)) (λ e. omega (arith, e, x, j))) ∙ Z.before p x;
  after = λ p x y. ap D (swapped_other c d p l (λ e. omega (arith, e, x, i)) (λ e. omega (arith, e, x, k))) ∙ Z.after p x y;
}

class-before : (D : ℕ → Bool) (n from to c d : ℕ) (l : List ℕ) → c < from → d < from → from ≤ to → Class D n from to l → Class D n from to (swapped c d l)
class-before D n from to c d l h i o Z = record {
  inside = λ p x y. ap D (swapped_other c d p l (λ e. omega (arith, e, x, h)) (λ e. omega (arith, e, x, i))) ∙ Z.inside p x y;
  before = λ p x. swapped-holds (λ r. D r ≡ false) c d p l (Z.before c h) (Z.before d i) (Z.before p x);
  after = λ p x y. ap D (swapped_other c d p l (λ e. omega (arith, e, x, h, o)) (λ e. omega (arith, e, x, i, o))) ∙ Z.after p x y;
}

-- a row stands at one of n places
pub record Somewhere (n : ℕ) (l : List ℕ) (r : ℕ) : Type 0 where
  pub place : ℕ
  pub small : place < n
  pub is : get_or l place 0 ≡ r

-- with the length, since exchanges are made in the list
record Stands (n r : ℕ) (l : List ℕ) : Type 0 where
  long : length l ≡ n
  there : Somewhere n l r

stands-swapped : (n r c d : ℕ) (l : List ℕ) → c < n → d < n → Stands n r l → Stands n r (swapped c d l)
stands-swapped n r c d l h k Z = record {
  long = length-swapped c d l ∙ Z.long;
  there = go (eqb c Z.there.place) refl (eqb d Z.there.place) refl;
}
  where
    go : (s : Bool) → eqb c Z.there.place ≡ s → (t : Bool) → eqb d Z.there.place ≡ t → Somewhere n (swapped c d l) r
    go true x t y = record { place = d; small = k; is = swapped-last c d l (let z = Z.long in omega (arith, z, k)) ∙ ap (λ (j : ℕ). get_or l j 0) (eqb-true c Z.there.place x) ∙ Z.there.is }
    go false x true y = record { place = c; small = h; is = swapped-first c d l (let z = Z.long in omega (arith, z, h)) (let z = Z.long in omega (arith, z, k)) ∙ ap (λ (j : ℕ). get_or l j 0) (eqb-true d Z.there.place y) ∙ Z.there.is }
    go false x false y = record { place = Z.there.place; small = Z.there.small; is = swapped_other c d Z.there.place l (eqb-false c Z.there.place x) (eqb-false d Z.there.place y) ∙ Z.there.is }

-- ---- the rows of a leaf

module _ (C : ℕ → Corner) (l : List ℕ) where
  -- what a row is merged with
  abbrev found : ℕ → ℕ
  found r = or_row r (first (λ x. same_values (C r) (C x)) l)

  run-set : (k into : List ℕ) (r : ℕ) → get_or into r 0 ≡ found r → get_or (run (merged_one C l) into k) r 0 ≡ found r
  unfolding run
  run-set [] into r h = h
  run-set (x ∷ k) into r h = run-set k (merged_one C l into x) r (set_keeps (λ j v. j ≡ r → v ≡ found r) into x (found x) r (λ e. ap found e) (λ e. h) refl)

  run_in : (k into : List ℕ) (r j : ℕ) → r < length into → j < length k → get_or k j 0 ≡ r → get_or (run (merged_one C l) into k) r 0 ≡ found r
  unfolding run
  run_in [] into r j h i e = absurd (omega arith)
  run_in (x ∷ k) into r zero h i e = run-set k (merged_one C l into x) r (subst (λ (y : ℕ). get_or (set into y (found y)) r 0 ≡ found r) (sym e) (get_or-set_same into r (found r) 0 h))
  run_in (x ∷ k) into r (suc j) h i e = run_in k (merged_one C l into x) r j (let z = length-set into x (found x) in omega (arith, z, h)) (omega arith) e

  run_out : (k into : List ℕ) (r : ℕ) → ((j : ℕ) → j < length k → get_or k j 0 ≡ r → ⊥) → get_or (run (merged_one C l) into k) r 0 ≡ get_or into r 0
  unfolding run
  run_out [] into r f = refl
  run_out (x ∷ k) into r f = run_out k (merged_one C l into x) r (λ j h e. f (suc j) (omega arith) e) ∙ set_keeps (λ j v. j ≡ r → v ≡ get_or into r 0) into x (found x) r (λ e. absurd (f 0 (omega arith) e)) (λ e. refl) refl

-- a place of a part
slice_at : (from to j : ℕ) (l : List ℕ) → j < to - from → get_or (slice from to l) j 0 ≡ get_or l (from + j) 0
slice_at from to j l h = get_or-drop from (take to l) j 0 ∙ get_or-take to l (from + j) 0 (omega (arith, h))

-- ---- where a run of equal keys ends, before place n

record RunIs (K : ℕ → ℕ) (l : List ℕ) (i n e : ℕ) : Type 0 where
  high : e ≤ n
  same : (p : ℕ) → i ≤ p → p < e → K (get_or l p 0) ≡ K (get_or l i 0)
  other : e < n → K (get_or l e 0) ≡ K (get_or l i 0) → ⊥

run_is : (K : ℕ → ℕ) (l : List ℕ) (k i : ℕ) → RunIs K l i (i + suc k) (run_end k K l i)
unfolding run_end
run_is K l zero i = record { high = omega arith; same = λ p g j. ap (λ (x : ℕ). K (get_or l x 0)) (let z : p ≡ i = omega (arith, g, j) in z); other = λ g. absurd (omega (arith, g)) }
run_is K l (suc k) i = go (eqb (K (get_or l i 0)) (K (get_or l (suc i) 0))) refl (run_is K l k (suc i))
  where
    go : (b : Bool) → eqb (K (get_or l i 0)) (K (get_or l (suc i) 0)) ≡ b → RunIs K l (suc i) (suc i + suc k) (run_end k K l (suc i)) → RunIs K l i (i + suc (suc k)) (cond b (run_end k K l (suc i)) (suc i))
    go true q R =
        let x = eqb-true (K (get_or l i 0)) (K (get_or l (suc i) 0)) q in
        record {
          high = let z = R.high in omega (arith, z);
          same = λ p g j. by_place (K (get_or l p 0) ≡ K (get_or l i 0)) p i (λ z. absurd (omega (arith, g, z))) (λ z. ap (λ (y : ℕ). K (get_or l y 0)) z) (λ z. R.same p z j ∙ sym x);
          other = λ g f. R.other (omega (arith, g)) (f ∙ x);
        }
    go false q R = record {
      high = omega arith;
      same = λ p g j. ap (λ (x : ℕ). K (get_or l x 0)) (let z : p ≡ i = omega (arith, g, j) in z);
      other = λ g f. eqb-false (K (get_or l i 0)) (K (get_or l (suc i) 0)) q (sym f);
    }

-- ---- two rows with one corner

-- the rows that they are merged with
pub data Same (r q : ℕ) : ℕ → ℕ → Type 0 where
  one-row : (x : ℕ) → Same r q x x
  own-rows : Same r q r q

module _ (C : ℕ → Corner) (r q : ℕ) (e : C r ≡ C q) where
  abbrev pub Alike : List ℕ → Type 0
  Alike into = Same r q (get_or into r 0) (get_or into q 0)

  same-found : (l : List ℕ) → Same r q (or_row r (first (λ x. same_values (C r) (C x)) l)) (or_row q (first (λ x. same_values (C q) (C x)) l))
  same-found l = subst (λ (o : Option ℕ). Same r q (or_row r (first (λ x. same_values (C r) (C x)) l)) (or_row q o)) (λ i. first (λ x. same_values (e i) (C x)) l) (go (first (λ x. same_values (C r) (C x)) l))
    where
      go : (o : Option ℕ) → Same r q (or_row r o) (or_row q o)
      go none = unfold or_row in own-rows
      go (some x) = unfold or_row in one-row x

  same_by : (a b c d : ℕ) → a ≡ c → b ≡ d → Same r q c d → Same r q a b
  same_by a b c d x y S = subst (λ (z : ℕ). Same r q z b) (sym x) (subst (λ (z : ℕ). Same r q c z) (sym y) S)

  -- what is asked of the rows, for a part of n of them
  record Asks (D : ℕ → Bool) (n from to : ℕ) (m : Merging) : Type 0 where
    ends : from ≤ to
    within : to ≤ n
    class : Class D n from to m.rows
    first-stands : Stands n r m.rows
    second-stands : Stands n q m.rows
    together : D r ≡ D q
    first-low : r < length m.into
    second-low : q < length m.into
    alike : Alike m.into

  leaf-alike : (D : ℕ → Bool) (n from to : ℕ) (m : Merging) → Asks D n from to m → Alike (merged_here C (slice from to m.rows) m.into)
  unfolding merged_here
  leaf-alike D n from to m A = go (D r) refl
    where
      k : List ℕ
      k = slice from to m.rows

      long : length k ≡ to - from
      long = length-slice from to m.rows (let z = A.first-stands.long in let y = A.within in omega (arith, z, y))

      -- a row of the class is merged here
      in-it : (x : ℕ) → Stands n x m.rows → x < length m.into → D x ≡ true → get_or (run (merged_one C k) m.into k) x 0 ≡ or_row x (first (λ y. same_values (C x) (C y)) k)
      in-it x S h d = run_in C k k m.into x (p - from) h (omega (arith, long, low, high)) (slice_at from to (p - from) m.rows (omega (arith, low, high)) ∙ ap (λ (j : ℕ). get_or m.rows j 0) (let z : from + (p - from) ≡ p = omega (arith, low) in z) ∙ S.there.is)
        where
          p : ℕ
          p = S.there.place

          no : (D (get_or m.rows p 0) ≡ false) → ⊥
          no f = true≢false (sym d ∙ sym (ap D S.there.is) ∙ f)

          low : from ≤ p
          low = by_place (from ≤ p) p from (λ z. absurd (no (A.class.before p z))) (λ z. omega (arith, z)) (λ z. omega (arith, z))

          high : p < to
          high = by_place (p < to) p to (λ z. z) (λ z. absurd (no (A.class.after p (omega (arith, z)) S.there.small))) (λ z. absurd (no (A.class.after p (omega (arith, z)) S.there.small)))

      -- another is left
      out_of : (x : ℕ) → D x ≡ false → get_or (run (merged_one C k) m.into k) x 0 ≡ get_or m.into x 0
      out_of x d = run_out C k k m.into x (λ j h f. true≢false (sym (A.class.inside (from + j) (omega arith) (omega (arith, h, long))) ∙ ap D (sym (slice_at from to j m.rows (omega (arith, h, long))) ∙ f) ∙ d))

      go : (b : Bool) → D r ≡ b → Alike (run (merged_one C k) m.into k)
      go true d = same_by _ _ _ _ (in-it r A.first-stands A.first-low d) (in-it q A.second-stands A.second-low (sym A.together ∙ d)) (same-found k)
      go false d = same_by _ _ _ _ (out_of r d) (out_of q (sym A.together ∙ d)) A.alike

  side_same : (c : Third) (x : Float) → side_of (λ y. (C y).place) c x r ≡ side_of (λ y. (C y).place) c x q
  unfolding side_of
  side_same c x = λ i. cond (Ieee.lt (along c (e i).place) x) 0 1

  -- rows that are cut in two
  module _ (D : ℕ → Bool) (n from to : ℕ) (m : Merging) (A : Asks D n from to m) (c : Third) (x : Float) (f : ℕ) where
    abbrev K : ℕ → ℕ
    K = side_of (λ y. (C y).place) c x

    abbrev h : Halves
    h = halved (to - from) K m.rows from to

    abbrev start : Merging
    start = record { rows = h.list; into = m.into }

    abbrev lower : Merging
    lower = merge f C from h.at start

    Z : Cut from to m.rows h
    Z = halved-cut (to - from) K m.rows from to A.ends

    S : Sides K from to h
    S = halved-sides (to - from) K m.rows from to A.ends (let z = A.first-stands.long in let y = A.within in omega (arith, z, y)) (omega arith)

    all : Class D n from to h.list
    all = halved-keeps (Class D n from to) from to (λ c d l a b x y z. class-within D n from to c d l a b x y z) (to - from) K m.rows from to (omega arith) (omega arith) A.class

    stands : (y : ℕ) → Stands n y m.rows → Stands n y h.list
    stands y = halved-keeps (Stands n y) from to (λ c d l a b p g z. stands-swapped n y c d l (let w = A.within in omega (arith, b, w)) (let w = A.within in omega (arith, g, w)) z) (to - from) K m.rows from to (omega arith) (omega arith)

    -- the rows of the lower part, and of the other
    abbrev D₁ : ℕ → Bool
    D₁ y = D y && ltb (K y) 1

    abbrev D₂ : ℕ → Bool
    D₂ y = D y && leb 1 (K y)

    class-under : Class D₁ n from h.at h.list
    class-under = record {
      inside = λ p a b. let w = Z.high in λ i. all.inside p a (omega (arith, b, w)) i && lt-ltb (K (get_or h.list p 0)) 1 (S.under p a b) i;
      before = λ p a. λ i. all.before p a i && ltb (K (get_or h.list p 0)) 1;
      after = λ p a b. by_place (D₁ (get_or h.list p 0) ≡ false) p to
          (λ z. (λ i. D (get_or h.list p 0) && le-ltb (K (get_or h.list p 0)) 1 (S.over p a z) i) ∙ and-false (D (get_or h.list p 0)))
          (λ z i. all.after p (omega (arith, z)) b i && ltb (K (get_or h.list p 0)) 1)
          (λ z i. all.after p (omega (arith, z)) b i && ltb (K (get_or h.list p 0)) 1);
    }

    class-over : Class D₂ n h.at to h.list
    class-over = record {
      inside = λ p a b. let w = Z.low in λ i. all.inside p (omega (arith, a, w)) b i && le-leb 1 (K (get_or h.list p 0)) (S.over p a b) i;
      before = λ p a. by_place (D₂ (get_or h.list p 0) ≡ false) p from
          (λ z i. all.before p z i && leb 1 (K (get_or h.list p 0)))
          (λ z. (λ i. D (get_or h.list p 0) && lt-leb 1 (K (get_or h.list p 0)) (S.under p (omega (arith, z)) a) i) ∙ and-false (D (get_or h.list p 0)))
          (λ z. (λ i. D (get_or h.list p 0) && lt-leb 1 (K (get_or h.list p 0)) (S.under p (omega (arith, z)) a) i) ∙ and-false (D (get_or h.list p 0)));
      after = λ p a b i. all.after p a b i && leb 1 (K (get_or h.list p 0));
    }

    asks-under : Asks D₁ n from h.at start
    asks-under = record {
      ends = Z.low;
      within = let y = Z.high in let w = A.within in omega (arith, y, w);
      class = class-under;
      first-stands = stands r A.first-stands;
      second-stands = stands q A.second-stands;
      together = λ i. A.together i && ltb (side_same c x i) 1;
      first-low = A.first-low;
      second-low = A.second-low;
      alike = A.alike;
    }

    lower-stands : (y : ℕ) → Stands n y m.rows → Stands n y lower.rows
    lower-stands y z = merge-exchanges (Stands n y) from h.at (λ c d l a b p g z. stands-swapped n y c d l (let v = Z.high in let w = A.within in omega (arith, b, v, w)) (let v = Z.high in let w = A.within in omega (arith, g, v, w)) z) C f from h.at start (omega arith) Z.low (omega arith) (stands y z)

    asks-over : Alike lower.into → Asks D₂ n h.at to lower
    asks-over L = record {
      ends = Z.high;
      within = A.within;
      class = merge-exchanges (Class D₂ n h.at to) from h.at (λ c d l a b p g z. class-before D₂ n h.at to c d l b g Z.high z) C f from h.at start (omega arith) Z.low (omega arith) class-over;
      first-stands = lower-stands r A.first-stands;
      second-stands = lower-stands q A.second-stands;
      together = λ i. A.together i && leb 1 (side_same c x i);
      first-low = into-low r A.first-low;
      second-low = into-low q A.second-low;
      alike = L;
    }
      where
        into-low : (y : ℕ) → y < length m.into → y < length lower.into
        into-low y b = merge_keeps (λ l. y < length l) C (λ l into z g. let w = length-set into z (or_row z (first (λ v. same_values (C z) (C v)) l)) in omega (arith, w, g)) f from h.at start b

  merge-alike : (f : ℕ) (D : ℕ → Bool) (n from to : ℕ) (m : Merging) → Asks D n from to m → Alike (merge f C from to m).into
  unfolding merge
  merge-alike zero D n from to m A = A.alike
  merge-alike (suc f) D n from to m A = go (way_of (λ y. (C y).place) (slice from to m.rows)) (λ E a b k B. merge-alike f E n a b k B)
    where
      go : (w : Way) → ((E : ℕ → Bool) (a b : ℕ) (k : Merging) → Asks E n a b k → Alike (merge f C a b k).into) → Alike (done C (λ a b k. merge f C a b k) w from to m).into
      go leave g = A.alike
      go weld g = leaf-alike D n from to m A
      go (cut c x) g = g _ _ to _ (asks-over D n from to m A c x f (g _ from _ _ (asks-under D n from to m A c x f)))

  -- ---- run by run: B the bucket of a row, O that of a place

  module _ (B O : ℕ → ℕ) (n : ℕ) (rise : (p s : ℕ) → p ≤ s → s < n → O p ≤ O s) (together : B r ≡ B q) where
    record Going (i : ℕ) (m : Merging) : Type 0 where
      keys : (p : ℕ) → p < n → B (get_or m.rows p 0) ≡ O p
      past : (p s : ℕ) → p < i → i ≤ s → s < n → O p < O s
      first-stands : Stands n r m.rows
      second-stands : Stands n q m.rows
      first-low : r < length m.into
      second-low : q < length m.into
      alike : Alike m.into

    -- one run
    module _ (i : ℕ) (m : Merging) (h : i < n) (G : Going i m) where
      abbrev stop : ℕ
      stop = run_end (n - 1 - i) B m.rows i

      abbrev after : Merging
      after = merge (stop - i) C i stop m

      R : RunIs B m.rows i n stop
      R = subst (λ (x : ℕ). RunIs B m.rows i x stop) (let z : i + suc (n - 1 - i) ≡ n = omega (arith, h) in z) (run_is B m.rows (n - 1 - i) i)

      level : (p : ℕ) → i ≤ p → p < stop → O p ≡ O i
      level p a b = let z = R.high in sym (G.keys p (omega (arith, b, z))) ∙ R.same p a b ∙ G.keys i h

      gap : (s : ℕ) → stop ≤ s → s < n → O i < O s
      gap s a b = by_place (O i < O s) (O i) (O stop) (λ z. let y = rise stop s a b in omega (arith, y, z)) (λ z. absurd (R.other (omega (arith, a, b)) (G.keys stop (omega (arith, a, b)) ∙ sym z ∙ sym (G.keys i h)))) (λ z. absurd (let y = rise i stop (let w = run_past B m.rows (n - 1 - i) i in omega (arith, w)) (omega (arith, a, b)) in omega (arith, y, z)))

      run-asks : Asks (λ x. eqb (B x) (O i)) n i stop m
      run-asks = record {
        ends = let z = run_past B m.rows (n - 1 - i) i in omega (arith, z);
        within = R.high;
        class = record {
          inside = λ p a b. let z = R.high in eq-eqb (B (get_or m.rows p 0)) (O i) (G.keys p (omega (arith, b, z)) ∙ level p a b);
          before = λ p a. ne_eqb (B (get_or m.rows p 0)) (O i) (λ z. let y = G.keys p (omega (arith, a, h)) in let x = G.past p i a (omega arith) h in omega (arith, x, y, z));
          after = λ p a b. ne_eqb (B (get_or m.rows p 0)) (O i) (λ z. let y = G.keys p b in let x = gap p a b in omega (arith, x, y, z));
        };
        first-stands = G.first-stands;
        second-stands = G.second-stands;
        together = ap (λ (x : ℕ). eqb x (O i)) together;
        first-low = G.first-low;
        second-low = G.second-low;
        alike = G.alike;
      }

      keys-swapped : (c d : ℕ) (l : List ℕ) → i ≤ c → c < stop → i ≤ d → d < stop → ((p : ℕ) → p < n → B (get_or l p 0) ≡ O p) → (p : ℕ) → p < n → B (get_or (swapped c d l) p 0) ≡ O p
      unfolding swapped
      keys-swapped c d l a b x y f p =
          let z = R.high in
          set_keeps (λ j v. j < n → B v ≡ O j) (set l c (get_or l d 0)) d (get_or l c 0) p (λ w. f c (omega (arith, b, z)) ∙ level c a b ∙ sym (level d x y))
          (set_keeps (λ j v. j < n → B v ≡ O j) l c (get_or l d 0) p (λ w. f d (omega (arith, y, z)) ∙ level d x y ∙ sym (level c a b)) (f p))

      stands_after : (y : ℕ) → Stands n y m.rows → Stands n y after.rows
      stands_after y = merge-exchanges (Stands n y) i stop (λ c d l a b p g z. stands-swapped n y c d l (let w = R.high in omega (arith, b, w)) (let w = R.high in omega (arith, g, w)) z) C (stop - i) i stop m (omega arith) run-asks.ends (omega arith)

      low-after : (y : ℕ) → y < length m.into → y < length after.into
      low-after y b = merge_keeps (λ l. y < length l) C (λ l into z g. let w = length-set into z (or_row z (first (λ v. same_values (C z) (C v)) l)) in omega (arith, w, g)) (stop - i) i stop m b

      goes : Going stop after
      goes = record {
        keys = merge-exchanges (λ l. (p : ℕ) → p < n → B (get_or l p 0) ≡ O p) i stop keys-swapped C (stop - i) i stop m (omega arith) run-asks.ends (omega arith) G.keys;
        past = λ p s a b c. by_place (O p < O s) p i (λ z. let w = run-asks.ends in G.past p s z (omega (arith, b, w)) c) (λ z. let w = level p (omega (arith, z)) a in let y = gap s b c in omega (arith, w, y)) (λ z. let w = level p (omega (arith, z)) a in let y = gap s b c in omega (arith, w, y));
        first-stands = stands_after r G.first-stands;
        second-stands = stands_after q G.second-stands;
        first-low = low-after r G.first-low;
        second-low = low-after q G.second-low;
        alike = merge-alike (stop - i) (λ x. eqb (B x) (O i)) n i stop m run-asks;
      }

    runs-alike : (f i : ℕ) (m : Merging) → i < n → Going i m → Alike (merge_runs f B C n m i).into
    unfolding merge_runs
    runs-alike zero i m h G = G.alike
    runs-alike (suc f) i m h G = go (ltb (stop i m h G) n) refl (λ z. runs-alike f (stop i m h G) (after i m h G) z (goes i m h G))
      where
        go : (t : Bool) → ltb (stop i m h G) n ≡ t → (stop i m h G < n → Alike (merge_runs f B C n (after i m h G) (stop i m h G)).into) → Alike (cond t (merge_runs f B C n (after i m h G) (stop i m h G)) (after i m h G)).into
        go true z g = g (ltb-true (stop i m h G) n z)
        go false z g = (goes i m h G).alike

  -- ---- all rows

  module _ (B : ℕ → ℕ) (n : ℕ) where
    abbrev l : List ℕ
    l = sorted B (numbers_from 0 n)

    long : length l ≡ n
    long = length-sorted B (numbers_from 0 n) ∙ length-numbers 0 n

    number : (x : ℕ) → x < n → get_or (numbers_from 0 n) x 0 ≡ x
    number x h = numbers-at 0 n x h ∙ (let z : 0 + x ≡ x = omega arith in z)

    there : (x : ℕ) → x < n → Somewhere n l x
    there x h = all-at (λ y. y ≡ x → Somewhere n l x) (numbers_from 0 n) x (sorted_all B (λ y. y ≡ x → Somewhere n l x) (numbers_from 0 n) (all-index (λ y. y ≡ x → Somewhere n l x) l (λ p g z. record { place = p; small = omega (arith, g, long); is = z }))) (let z = length-numbers 0 n in omega (arith, z, h)) (number x h)

    rises : (p s : ℕ) → p ≤ s → s < n → B (get_or l p 0) ≤ B (get_or l s 0)
    rises p s a b = by_place (B (get_or l p 0) ≤ B (get_or l s 0)) p s (λ z. rises-at (KeysRise B) l p s (rises_sorted B (numbers_from 0 n)) z (omega (arith, b, long))) (λ z. let w = ap (λ (y : ℕ). B (get_or l y 0)) z in omega (arith, w)) (λ z. absurd (omega (arith, a, z)))

    start-alike : r < n → q < n → 0 < n → B r ≡ B q → Alike (merge_runs n B C n (record { rows = sorted_by (λ x y. leb (B x) (B y)) (numbers_from 0 n); into = numbers_from 0 n }) 0).into
    start-alike a b c t =
        subst (λ (k : List ℕ). Alike (merge_runs n B C n (record { rows = k; into = numbers_from 0 n }) 0).into) (sorted-same B B n n 0 (omega arith) (λ x y h k. refl))
        (runs-alike B (λ p. B (get_or l p 0)) n rises t n 0 (record { rows = l; into = numbers_from 0 n }) c (record {
          keys = λ p h. refl;
          past = λ p s h. absurd (omega (arith, h));
          first-stands = record { long = long; there = there r a };
          second-stands = record { long = long; there = there q b };
          first-low = let z = length-numbers 0 n in omega (arith, z, a);
          second-low = let z = length-numbers 0 n in omega (arith, z, b);
          alike = same_by _ _ _ _ (number r a) (number q b) own-rows;
        }))

  bucket-same : (b : Box) (c : Third) → bucket_in b c (λ y. (C y).place) r ≡ bucket_in b c (λ y. (C y).place) q
  unfolding bucket_in
  bucket-same b c = λ i. bucket_in b c (λ _. (e i).place) r

  pub merged-alike : (n : ℕ) → r < n → q < n → Alike (merged_rows C n)
  unfolding merged_rows
  merged-alike zero a b = absurd (omega arith)
  merged-alike (suc k) a b = start-alike _ (suc k) a b (omega arith) (bucket-same (box_of (λ y. (C y).place) 0 (numbers_from 1 k)) (widest (box_of (λ y. (C y).place) 0 (numbers_from 1 k))))

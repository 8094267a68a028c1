-- What is merged depends on the corners of the rows alone: two functions that agree on the first n rows merge them alike. Assumes nothing.
use Rattle.std.proofs.Common.{◌≡◌, ℕ, zero, suc, ◌+◌, ◌-◌, ◌<◌, ◌≤◌, Bool, true, false, cond, eqb, ltb, leb, List, [], ◌∷◌, length, get_or, take, set, sym, refl, ap, ◌∙◌, subst, arith, get_or-drop, get_or-set_other, get_or-take, get_or-set_same, ltb-false, ltb-true, eqb-true}
use mathlib.Core.Option.{some}
use lib.ListN.{get_or-eq_default}
use lib.Seq.{slice, set_out}
use lib.Ieee as Ieee
use lib.Ieee.{Float}
use borrow.Author.Tests.{eqb-false}
use Rattle.math.specs.declared.Vec3.{Vec3}
use Rattle.math.specs.Vector.{vec}
use Rattle.lists.specs.Lists.{first, run}
use Rattle.definition.specs.declared.Corner.{Corner}
use Rattle.definition.specs.Mesh.{Third}
use Rattle.definition.specs.Step5Quick.{swapped, seek_up, seek_down}
use Rattle.definition.specs.Step5Old.{numbers_from, run_end}
use Rattle.definition.specs.Step5Sorted.{sorted_by}
use Rattle.definition.specs.Step4Old.{along, least, greatest, Box, box_of, widest, Merging, Halves, halved, merged_here, or_row, same_values, Way, leave, weld, cut, way_in, way_of, side_of, in_halves, done, merge, merge_runs, bucket_in, merged_rows}
use Rattle.sort.specs.Sort.{sorted}
use Rattle.sort.proofs.Sorted.{All, all_map, all-at, all-sorted}
use Rattle.merge.specs.Rows.{merged_one}
use Rattle.merge.proofs.Reading.{take-most}
use Rattle.merge.proofs.Stable.{numbers-between, sorted-same}

-- ---- lists of rows below n

-- every row of a list is below n; what stands past its end, 0, is too
abbrev pub Below : ℕ → List ℕ → Type 0
Below n l = (k : ℕ) → get_or l k 0 < n

module _ (n : ℕ) (some-rows : 0 < n) where
  pub past : (l : List ℕ) (k : ℕ) → length l ≤ k → get_or l k 0 < n
  past l k h = subst (λ (x : ℕ). x < n) (sym (get_or-eq_default l 0 h)) some-rows

  below-take : (t : ℕ) (l : List ℕ) → Below n l → Below n (take t l)
  below-take t l B k = go (ltb k t) refl
    where
      go : (b : Bool) → ltb k t ≡ b → get_or (take t l) k 0 < n
      go true e = subst (λ (x : ℕ). x < n) (sym (get_or-take t l k 0 (ltb-true k t e))) (B k)
      go false e = let z = take-most t l in let y = ltb-false k t e in past (take t l) k (omega (arith, z, y))

  pub below-slice : (a t : ℕ) (l : List ℕ) → Below n l → Below n (slice a t l)
  below-slice a t l B k = subst (λ (x : ℕ). x < n) (sym (get_or-drop a (take t l) k 0)) (below-take t l B (a + k))

  pub below_set : (l : List ℕ) (i x : ℕ) → x < n → Below n l → Below n (set l i x)
  below_set l i x h B k = go (eqb k i) refl (ltb i (length l)) refl
    where
      go : (b : Bool) → eqb k i ≡ b → (c : Bool) → ltb i (length l) ≡ c → get_or (set l i x) k 0 < n
      go b q false e = subst (λ (m : List ℕ). get_or m k 0 < n) (sym (set_out l i x (ltb-false i (length l) e))) (B k)
      go true q true e = subst (λ (j : ℕ). get_or (set l i x) j 0 < n) (sym (eqb-true k i q)) (subst (λ (y : ℕ). y < n) (sym (get_or-set_same l i x 0 (ltb-true i (length l) e))) h)
      go false q true e = subst (λ (y : ℕ). y < n) (sym (get_or-set_other l i k x 0 (eqb-false k i q))) (B k)

  below-swapped : (i j : ℕ) (l : List ℕ) → Below n l → Below n (swapped i j l)
  unfolding swapped
  below-swapped i j l B = below_set (set l i (get_or l j 0)) j (get_or l i 0) (B i) (below_set l i (get_or l j 0) (B j) B)

-- ---- functions that agree on rows below n

module _ {S : Type 0} (n : ℕ) where
  run_agree : (f g : S → ℕ → S) → ((s : S) (r : ℕ) → r < n → f s r ≡ g s r) → (l : List ℕ) (s : S) → Below n l → run f s l ≡ run g s l
  unfolding run
  run_agree f g e [] s B = refl
  run_agree f g e (r ∷ l) s B = ap (λ (t : S). run f t l) (e s r (B 0)) ∙ run_agree f g e l (g s r) (λ k. B (suc k))

first-agree : (n : ℕ) (p q : ℕ → Bool) → ((r : ℕ) → r < n → p r ≡ q r) → (l : List ℕ) → Below n l → first p l ≡ first q l
unfolding first
first-agree n p q e [] B = refl
first-agree n p q e (r ∷ l) B = λ i. cond (e r (B 0) i) (some r) (first-agree n p q e l (λ k. B (suc k)) i)

module _ (n : ℕ) (K L : ℕ → ℕ) (e : (r : ℕ) → r < n → K r ≡ L r) (p : ℕ) where
  up-agree : (f : ℕ) (l : List ℕ) (a : ℕ) → Below n l → seek_up f K p l a ≡ seek_up f L p l a
  unfolding seek_up
  up-agree zero l a B = refl
  up-agree (suc f) l a B = λ i. cond (leb p (e (get_or l a 0) (B a) i)) a (up-agree f l (suc a) B i)

  down-agree : (f : ℕ) (l : List ℕ) (b : ℕ) → Below n l → seek_down f K p l b ≡ seek_down f L p l b
  unfolding seek_down
  down-agree zero l b B = refl
  down-agree (suc f) l b B = λ i. cond (leb (e (get_or l b 0) (B b) i) p) b (down-agree f l (b - 1) B i)

module _ (n : ℕ) (some-rows : 0 < n) where
  -- ---- two parts

  halved-agree : (K L : ℕ → ℕ) → ((r : ℕ) → r < n → K r ≡ L r) → (f : ℕ) (l : List ℕ) (s e : ℕ) → Below n l → halved f K l s e ≡ halved f L l s e
  unfolding halved
  halved-agree K L a zero l s e B = λ i. record { list = l; at = up-agree n K L a 1 (e - s) l s B i }
  halved-agree K L a (suc f) l s e B =
      let u : seek_up (e - s) K 1 l s ≡ seek_up (e - s) L 1 l s = up-agree n K L a 1 (e - s) l s B in
      let d : seek_down (e - 1 - seek_up (e - s) K 1 l s) K 0 l (e - 1) ≡ seek_down (e - 1 - seek_up (e - s) L 1 l s) L 0 l (e - 1) = down-agree n K L a 0 (e - 1 - seek_up (e - s) K 1 l s) l (e - 1) B ∙ ap (λ (x : ℕ). seek_down (e - 1 - x) L 0 l (e - 1)) u in
      (λ i. cond (ltb (u i) (d i)) (halved f K (swapped (u i) (d i) l) (suc (u i)) (d i)) (record { list = l; at = u i }))
      ∙ ap (λ (h : Halves). cond (ltb (seek_up (e - s) L 1 l s) (seek_down (e - 1 - seek_up (e - s) L 1 l s) L 0 l (e - 1))) h (record { list = l; at = seek_up (e - s) L 1 l s }))
      (halved-agree K L a f (swapped (seek_up (e - s) L 1 l s) (seek_down (e - 1 - seek_up (e - s) L 1 l s) L 0 l (e - 1)) l) (suc (seek_up (e - s) L 1 l s)) (seek_down (e - 1 - seek_up (e - s) L 1 l s) L 0 l (e - 1)) (below-swapped n some-rows (seek_up (e - s) L 1 l s) (seek_down (e - 1 - seek_up (e - s) L 1 l s) L 0 l (e - 1)) l B))

  pub halved-below : (K : ℕ → ℕ) (f : ℕ) (l : List ℕ) (s e : ℕ) → Below n l → Below n (halved f K l s e).list
  unfolding halved
  halved-below K zero l s e B = B
  halved-below K (suc f) l s e B =
      let a = seek_up (e - s) K 1 l s in
      let b = seek_down (e - 1 - a) K 0 l (e - 1) in
      go (ltb a b) (halved f K (swapped a b l) (suc a) b) (record { list = l; at = a }) (halved-below K f (swapped a b l) (suc a) b (below-swapped n some-rows a b l B)) B
    where
      go : (t : Bool) (g h : Halves) → Below n g.list → Below n h.list → Below n (cond t g h).list
      go true g h p q = p
      go false g h p q = q

  module _ (C D : ℕ → Corner) (e : (r : ℕ) → r < n → C r ≡ D r) where
    -- ---- boxes and ways

    place-agree : (r : ℕ) → r < n → (C r).place ≡ (D r).place
    place-agree r h = ap (λ (c : Corner). c.place) (e r h)

    least-agree : (X : Vec3 → Float) (r : ℕ) (l : List ℕ) → r < n → Below n l → least (λ i. X (C i).place) (X (C r).place) l ≡ least (λ i. X (D i).place) (X (D r).place) l
    unfolding least
    least-agree X r l h B =
        run_agree n (λ m r. cond (Ieee.lt (X (C r).place) m) (X (C r).place) m) (λ m r. cond (Ieee.lt (X (D r).place) m) (X (D r).place) m) (λ m r h. λ i. cond (Ieee.lt (X (place-agree r h i)) m) (X (place-agree r h i)) m) l (X (C r).place) B
        ∙ ap (λ (v : Vec3). run (λ m r. cond (Ieee.lt (X (D r).place) m) (X (D r).place) m) (X v) l) (place-agree r h)

    greatest-agree : (X : Vec3 → Float) (r : ℕ) (l : List ℕ) → r < n → Below n l → greatest (λ i. X (C i).place) (X (C r).place) l ≡ greatest (λ i. X (D i).place) (X (D r).place) l
    unfolding greatest
    greatest-agree X r l h B =
        run_agree n (λ m r. cond (Ieee.lt m (X (C r).place)) (X (C r).place) m) (λ m r. cond (Ieee.lt m (X (D r).place)) (X (D r).place) m) (λ m r h. λ i. cond (Ieee.lt m (X (place-agree r h i))) (X (place-agree r h i)) m) l (X (C r).place) B
        ∙ ap (λ (v : Vec3). run (λ m r. cond (Ieee.lt m (X (D r).place)) (X (D r).place) m) (X v) l) (place-agree r h)

    box-agree : (r : ℕ) (l : List ℕ) → r < n → Below n l → box_of (λ i. (C i).place) r l ≡ box_of (λ i. (D i).place) r l
    unfolding box_of
    box-agree r l h B = λ i.
        record {
          low = vec (least-agree (λ v. v.x) r l h B i) (least-agree (λ v. v.y) r l h B i) (least-agree (λ v. v.z) r l h B i);
          high = vec (greatest-agree (λ v. v.x) r l h B i) (greatest-agree (λ v. v.y) r l h B i) (greatest-agree (λ v. v.z) r l h B i);
        }

    way-agree : (l : List ℕ) → Below n l → way_of (λ i. (C i).place) l ≡ way_of (λ i. (D i).place) l
    unfolding way_of
    way-agree [] B = refl
    way-agree (r ∷ []) B = refl
    way-agree (r ∷ q ∷ l) B = ap (λ (b : Box). way_in b (widest b)) (box-agree r (q ∷ l) (B 0) (λ k. B (suc k)))

    side-agree : (c : Third) (x : Float) (r : ℕ) → r < n → side_of (λ i. (C i).place) c x r ≡ side_of (λ i. (D i).place) c x r
    unfolding side_of
    side-agree c x r h = ap (λ (v : Vec3). cond (Ieee.lt (along c v) x) 0 1) (place-agree r h)

    -- ---- leaves

    here-agree : (l into : List ℕ) → Below n l → merged_here C l into ≡ merged_here D l into
    unfolding merged_here
    here-agree l into B = run_agree n (merged_one C l) (merged_one D l) (λ m r h. λ i. set m r (or_row r (one r h i))) l into B
      where
        one : (r : ℕ) → r < n → first (λ q. same_values (C r) (C q)) l ≡ first (λ q. same_values (D r) (D q)) l
        one r h = first-agree n (λ q. same_values (C r) (C q)) (λ q. same_values (D r) (D q)) (λ q k. λ i. same_values (e r h i) (e q k i)) l B

    -- ---- pieces

    pub merge-below : (f from to : ℕ) (m : Merging) → Below n m.rows → Below n (merge f C from to m).rows
    unfolding merge
    merge-below zero from to m B = B
    merge-below (suc f) from to m B = go (way_of (λ r. (C r).place) (slice from to m.rows)) (λ a b k. merge-below f a b k)
      where
        go : (w : Way) → ((a b : ℕ) (k : Merging) → Below n k.rows → Below n (merge f C a b k).rows) → Below n (done C (λ a b k. merge f C a b k) w from to m).rows
        go leave g = B
        go weld g = B
        go (cut c x) g =
            let h = halved (to - from) (side_of (λ r. (C r).place) c x) m.rows from to in
            g h.at to (merge f C from h.at (record { rows = h.list; into = m.into })) (g from h.at (record { rows = h.list; into = m.into }) (halved-below (side_of (λ r. (C r).place) c x) (to - from) m.rows from to B))

    merge-agree : (f from to : ℕ) (m : Merging) → Below n m.rows → merge f C from to m ≡ merge f D from to m
    unfolding merge
    merge-agree zero from to m B = refl
    merge-agree (suc f) from to m B =
        go (way_of (λ r. (C r).place) (slice from to m.rows)) (λ a b k. merge-agree f a b k)
        ∙ ap (λ (w : Way). done D (λ a b k. merge f D a b k) w from to m) (way-agree (slice from to m.rows) (below-slice n some-rows from to m.rows B))
      where
        go : (w : Way) → ((a b : ℕ) (k : Merging) → Below n k.rows → merge f C a b k ≡ merge f D a b k) → done C (λ a b k. merge f C a b k) w from to m ≡ done D (λ a b k. merge f D a b k) w from to m
        go leave g = refl
        go weld g = λ i. record { rows = m.rows; into = here-agree (slice from to m.rows) m.into (below-slice n some-rows from to m.rows B) i }
        go (cut c x) g =
            let h = halved (to - from) (side_of (λ r. (C r).place) c x) m.rows from to in
            let start : Merging = record { rows = h.list; into = m.into } in
            let N : Below n h.list = halved-below (side_of (λ r. (C r).place) c x) (to - from) m.rows from to B in
            g h.at to (merge f C from h.at start) (merge-below f from h.at start N)
            ∙ ap (merge f D h.at to) (g from h.at start N)
            ∙ ap (in_halves (λ a b k. merge f D a b k) from to m.into) (halved-agree (side_of (λ r. (C r).place) c x) (side_of (λ r. (D r).place) c x) (side-agree c x) (to - from) m.rows from to B)

    -- ---- runs

    end-agree : (B G : ℕ → ℕ) → ((r : ℕ) → r < n → B r ≡ G r) → (f : ℕ) (l : List ℕ) (i : ℕ) → Below n l → run_end f B l i ≡ run_end f G l i
    unfolding run_end
    end-agree B G a zero l i N = refl
    end-agree B G a (suc f) l i N = λ j. cond (eqb (a (get_or l i 0) (N i) j) (a (get_or l (suc i) 0) (N (suc i)) j)) (end-agree B G a f l (suc i) N j) (suc i)

    runs-agree : (B G : ℕ → ℕ) → ((r : ℕ) → r < n → B r ≡ G r) → (f all : ℕ) (m : Merging) (i : ℕ) → Below n m.rows → merge_runs f B C all m i ≡ merge_runs f G D all m i
    unfolding merge_runs
    runs-agree B G a zero all m i N = refl
    runs-agree B G a (suc f) all m i N =
        let t = run_end (all - 1 - i) B m.rows i in
        let u = run_end (all - 1 - i) G m.rows i in
        let p : t ≡ u = end-agree B G a (all - 1 - i) m.rows i N in
        let k : merge (t - i) C i t m ≡ merge (u - i) D i u m = merge-agree (t - i) i t m N ∙ ap (λ (x : ℕ). merge (x - i) D i x m) p in
        ap (λ (r : Merging). cond (ltb t all) r (merge (t - i) C i t m)) (runs-agree B G a f all (merge (t - i) C i t m) t (merge-below (t - i) i t m N))
        ∙ (λ j. cond (ltb (p j) all) (merge_runs f G D all (k j) (p j)) (k j))

-- ---- all rows

module _ (n : ℕ) (C D : ℕ → Corner) (e : (r : ℕ) → r < suc n → C r ≡ D r) where
  -- a list all of whose rows are below
  pub all-below : (l : List ℕ) → All (λ y. (0 ≤ y) × (y < 0 + suc n)) l → Below (suc n) l
  all-below l A j = go (ltb j (length l)) refl
    where
      go : (b : Bool) → ltb j (length l) ≡ b → get_or l j 0 < suc n
      go true q = let z = all-at (λ y. (0 ≤ y) × (y < 0 + suc n)) l j A (ltb-true j (length l) q) in omega (arith, z.1)
      go false q = past (suc n) (omega arith) l j (ltb-false j (length l) q)

  later : Below (suc n) (numbers_from 1 n)
  later = all-below (numbers_from 1 n) (all_map (λ y. (1 ≤ y) × (y < 1 + n)) (λ y. (0 ≤ y) × (y < 0 + suc n)) (numbers_from 1 n) (λ y h. (omega arith, omega (arith, h.1))) (numbers-between n 1))

  boxes : box_of (λ r. (C r).place) 0 (numbers_from 1 n) ≡ box_of (λ r. (D r).place) 0 (numbers_from 1 n)
  boxes = box-agree (suc n) (omega arith) C D e 0 (numbers_from 1 n) (omega arith) later

  -- the buckets of either
  abbrev B : ℕ → ℕ
  B = bucket_in (box_of (λ r. (C r).place) 0 (numbers_from 1 n)) (widest (box_of (λ r. (C r).place) 0 (numbers_from 1 n))) (λ r. (C r).place)

  abbrev G : ℕ → ℕ
  G = bucket_in (box_of (λ r. (D r).place) 0 (numbers_from 1 n)) (widest (box_of (λ r. (D r).place) 0 (numbers_from 1 n))) (λ r. (D r).place)

  buckets-agree : (r : ℕ) → r < suc n → B r ≡ G r
  unfolding bucket_in
  buckets-agree r h = λ i. bucket_in (boxes i) (widest (boxes i)) (λ _. (e r h i).place) r

  sorts : sorted B (numbers_from 0 (suc n)) ≡ sorted_by (λ x y. leb (B x) (B y)) (numbers_from 0 (suc n))
  sorts = sorted-same B B (suc n) (suc n) 0 (omega arith) (λ x y h k. refl)

  sorts-alike : sorted_by (λ x y. leb (B x) (B y)) (numbers_from 0 (suc n)) ≡ sorted_by (λ x y. leb (G x) (G y)) (numbers_from 0 (suc n))
  sorts-alike = sym sorts ∙ sorted-same B G (suc n) (suc n) 0 (omega arith) (λ x y h k. λ i. leb (buckets-agree x (omega (arith, h, k)) i) (buckets-agree y k i))

  pub in_order : Below (suc n) (sorted_by (λ x y. leb (B x) (B y)) (numbers_from 0 (suc n)))
  in_order = subst (Below (suc n)) sorts (all-below (sorted B (numbers_from 0 (suc n))) (all-sorted B (λ y. (0 ≤ y) × (y < 0 + suc n)) (numbers_from 0 (suc n)) (numbers-between (suc n) 0)))

  some-agree : merged_rows C (suc n) ≡ merged_rows D (suc n)
  unfolding merged_rows
  some-agree =
      ap (λ (m : Merging). m.into) (runs-agree (suc n) (omega arith) C D e B G buckets-agree (suc n) (suc n) (record { rows = sorted_by (λ x y. leb (B x) (B y)) (numbers_from 0 (suc n)); into = numbers_from 0 (suc n) }) 0 in_order)
      ∙ ap (λ (l : List ℕ). (merge_runs (suc n) G D (suc n) (record { rows = l; into = numbers_from 0 (suc n) }) 0).into) sorts-alike

pub merged-agree : (n : ℕ) (C D : ℕ → Corner) → ((r : ℕ) → r < n → C r ≡ D r) → merged_rows C n ≡ merged_rows D n
unfolding merged_rows
merged-agree zero C D e = refl
merged-agree (suc n) C D e = some-agree n C D e

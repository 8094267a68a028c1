-- Each of n rows is merged with one of them. Assumes nothing.
use Rattle.std.proofs.Common.{ℕ, zero, suc, ◌-◌, ◌<◌, Bool, true, false, cond, ltb, leb, List, [], ◌∷◌, get_or, sym, refl, subst, arith}
use mathlib.Core.Option.{Option, some}
use lib.Seq.{slice}
use lib.Ieee.{Float}
use Rattle.lists.specs.Lists.{first, run}
use Rattle.table.specs.Table.{column}
use Rattle.table.specs.Columns.{corner_column}
use Rattle.weld.specs.Welding.{corner_in}
use Rattle.definition.specs.declared.Corner.{Corner}
use Rattle.definition.specs.Step5Old.{numbers_from, run_end}
use Rattle.definition.specs.Step5Sorted.{sorted_by}
use Rattle.definition.specs.Step4Old.{box_of, widest, Merging, halved, merged_here, or_row, same_values, Way, leave, weld, cut, way_of, side_of, done, merge, merge_runs, bucket_in, merged_rows}
use Rattle.merge.specs.Rows.{into, merged_one, Merged}
use Rattle.merge.proofs.Stable.{numbers-between}
use Rattle.merge.proofs.Agree.{Below, below-slice, below_set, halved-below, merge-below, all-below, in_order}

module _ (n : ℕ) (some-rows : 0 < n) where
  -- what is found is one of the rows
  found_below : (p : ℕ → Bool) (r : ℕ) → r < n → (l : List ℕ) → Below n l → or_row r (first p l) < n
  unfolding first or_row
  found_below p r h [] B = h
  found_below p r h (q ∷ l) B = go (p q) (first p l) (found_below p r h l (λ k. B (suc k)))
    where
      go : (b : Bool) (o : Option ℕ) → or_row r o < n → or_row r (cond b (some q) o) < n
      go true o k = B 0
      go false o k = k

  module _ (C : ℕ → Corner) where
    leaf-below : (l k into : List ℕ) → Below n l → Below n k → Below n into → Below n (run (merged_one C l) into k)
    unfolding run
    leaf-below l [] into B D N = N
    leaf-below l (r ∷ k) into B D N = leaf-below l k (merged_one C l into r) B (λ j. D (suc j)) (below_set n some-rows into r (or_row r (first (λ q. same_values (C r) (C q)) l)) (found_below (λ q. same_values (C r) (C q)) r (D 0) l B) N)

    here-below : (l into : List ℕ) → Below n l → Below n into → Below n (merged_here C l into)
    unfolding merged_here
    here-below l into B N = leaf-below l l into B B N

    rows-below : (f from to : ℕ) (m : Merging) → Below n m.rows → Below n (merge f C from to m).rows
    rows-below f from to m B = merge-below n some-rows C C (λ r h. refl) f from to m B

    into-below : (f from to : ℕ) (m : Merging) → Below n m.rows → Below n m.into → Below n (merge f C from to m).into
    unfolding merge
    into-below zero from to m B N = N
    into-below (suc f) from to m B N = go (way_of (λ r. (C r).place) (slice from to m.rows)) (λ a b k. into-below f a b k)
      where
        go : (w : Way) → ((a b : ℕ) (k : Merging) → Below n k.rows → Below n k.into → Below n (merge f C a b k).into) → Below n (done C (λ a b k. merge f C a b k) w from to m).into
        go leave g = N
        go weld g = here-below (slice from to m.rows) m.into (below-slice n some-rows from to m.rows B) N
        go (cut c x) g =
            let h = halved (to - from) (side_of (λ r. (C r).place) c x) m.rows from to in
            let start : Merging = record { rows = h.list; into = m.into } in
            let M : Below n h.list = halved-below n some-rows (side_of (λ r. (C r).place) c x) (to - from) m.rows from to B in
            g h.at to (merge f C from h.at start) (rows-below f from h.at start M) (g from h.at start M N)

    runs-below : (K : ℕ → ℕ) (f all : ℕ) (m : Merging) (i : ℕ) → Below n m.rows → Below n m.into → Below n (merge_runs f K C all m i).into
    unfolding merge_runs
    runs-below K zero all m i B N = N
    runs-below K (suc f) all m i B N =
        let e = run_end (all - 1 - i) K m.rows i in
        let k = merge (e - i) C i e m in
        let M : Below n k.into = into-below (e - i) i e m B N in
        go (ltb e all) (merge_runs f K C all k e) k (runs-below K f all k e (rows-below (e - i) i e m B) M) M
      where
        go : (t : Bool) (g h : Merging) → Below n g.into → Below n h.into → Below n (cond t g h).into
        go true g h p q = p
        go false g h p q = q

some-inside : (k : ℕ) (C : ℕ → Corner) → Below (suc k) (merged_rows C (suc k))
unfolding merged_rows
some-inside k C = runs-below (suc k) (omega arith) C (bucket_in (box_of (λ r. (C r).place) 0 (numbers_from 1 k)) (widest (box_of (λ r. (C r).place) 0 (numbers_from 1 k))) (λ r. (C r).place)) (suc k) (suc k) (record { rows = sorted_by (λ x y. leb (bucket_in (box_of (λ r. (C r).place) 0 (numbers_from 1 k)) (widest (box_of (λ r. (C r).place) 0 (numbers_from 1 k))) (λ r. (C r).place) x) (bucket_in (box_of (λ r. (C r).place) 0 (numbers_from 1 k)) (widest (box_of (λ r. (C r).place) 0 (numbers_from 1 k))) (λ r. (C r).place) y)) (numbers_from 0 (suc k)); into = numbers_from 0 (suc k) }) 0 (in_order k C C (λ r h. refl)) (all-below k C C (λ r h. refl) (numbers_from 0 (suc k)) (numbers-between (suc k) 0))

pub merged-inside : (n : ℕ) (C : ℕ → Corner) → 0 < n → Below n (merged_rows C n)
merged-inside zero C h = absurd (omega arith)
merged-inside (suc k) C h = some-inside k C

-- so it is in the column
pub into-inside : (rows n : ℕ) (ps ns ts : List Float) (w u : List ℕ) → 0 < n → Merged rows n ps ns ts w u → (r : ℕ) → get_or (into rows n u) r 0 < n
into-inside rows n ps ns ts w u h M r = subst (λ (l : List ℕ). get_or l r 0 < n) (sym M.is) (merged-inside n (corner_in ps ns ts (column rows corner_column w)) h r)

-- The rows that rows are merged with: as many, each of them, and at an equal position. Assumes nothing.
use Prim.Native.Nat.{ℕ, zero, suc, ◌+◌, ◌-◌, ◌<◌}
use native.Mathlib.Omega.{arith}
use mathlib.Core.Path.{◌≡◌, refl, sym, ap, ◌∙◌, subst}
use mathlib.Core.Bool.{Bool, true, false, cond, ◌&&◌}
use mathlib.Core.List.{List, [], ◌∷◌}
use mathlib.Core.Option.{Option, some}
use lib.Dec.{eqb, ltb}
use lib.ListN.{length, get_or, set, length-set}
use lib.Seq.{slice, get_or-set_same, get_or-set_other, set_out}
use lib.Ieee as Ieee
use lib.Ieee.{Float}
use borrow.Author.Tests.{eqb-true, eqb-false, ltb-true, ltb-false}
use Rattle.bits.proofs.Bools.{and_left, and_right}
use Rattle.math.specs.declared.Vec3.{Vec3}
use Rattle.math.specs.Vector.{equals}
use Rattle.lists.specs.Lists.{first, run}
use Rattle.definition.specs.declared.Corner.{Corner}
use Rattle.definition.specs.Step5Old.{numbers_from, run_end}
use Rattle.definition.specs.Step4Old.{box_of, widest, Merging, halved, merged_here, or_row, same_values, Way, leave, weld, cut, way_of, side_of, done, merge, merge_runs, bucket_in, merged_rows}
use Rattle.view.proofs.Lists.{bool_iff}
use Rattle.quick.proofs.Equal.{eq_trans, eq-sym}
use Rattle.edges.proofs.Whole.{length-numbers, numbers-at}
use Rattle.merge.specs.Rows.{merged_one}

-- ---- what every merging of one row keeps, merging all rows keeps

module _ (P : List ℕ → Type 0) (C : ℕ → Corner) (keeps : (l into : List ℕ) (r : ℕ) → P into → P (merged_one C l into r)) where
  leaf-keeps : (l k into : List ℕ) → P into → P (run (merged_one C l) into k)
  unfolding run
  leaf-keeps l [] into p = p
  leaf-keeps l (r ∷ k) into p = leaf-keeps l k (merged_one C l into r) (keeps l into r p)

  here-keeps : (l into : List ℕ) → P into → P (merged_here C l into)
  unfolding merged_here
  here-keeps l into p = leaf-keeps l l into p

  pub merge_keeps : (f from to : ℕ) (m : Merging) → P m.into → P (merge f C from to m).into
  unfolding merge
  merge_keeps zero from to m p = p
  merge_keeps (suc f) from to m p = go (way_of (λ r. (C r).place) (slice from to m.rows)) (λ a b k. merge_keeps f a b k)
    where
      go : (w : Way) → ((a b : ℕ) (k : Merging) → P k.into → P (merge f C a b k).into) → P (done C (λ a b k. merge f C a b k) w from to m).into
      go leave g = p
      go weld g = here-keeps (slice from to m.rows) m.into p
      go (cut c x) g =
          let h = halved (to - from) (side_of (λ r. (C r).place) c x) m.rows from to in
          let start : Merging = record { rows = h.list; into = m.into } in
          g h.at to (merge f C from h.at start) (g from h.at start p)

  runs-keep : (K : ℕ → ℕ) (f all : ℕ) (m : Merging) (i : ℕ) → P m.into → P (merge_runs f K C all m i).into
  unfolding merge_runs
  runs-keep K zero all m i p = p
  runs-keep K (suc f) all m i p =
      let e = run_end (all - 1 - i) K m.rows i in
      let k = merge (e - i) C i e m in
      let q : P k.into = merge_keeps (e - i) i e m p in
      go (ltb e all) (merge_runs f K C all k e) k (runs-keep K f all k e q) q
    where
      go : (t : Bool) (g h : Merging) → P g.into → P h.into → P (cond t g h).into
      go true g h p q = p
      go false g h p q = q

  pub rows-keep : (n : ℕ) → P (numbers_from 0 n) → P (merged_rows C n)
  unfolding merged_rows numbers_from
  rows-keep zero p = p
  rows-keep (suc k) p = runs-keep (bucket_in (box_of (λ r. (C r).place) 0 (numbers_from 1 k)) (widest (box_of (λ r. (C r).place) 0 (numbers_from 1 k))) (λ r. (C r).place)) (suc k) (suc k) _ 0 p

pub length_merged : (C : ℕ → Corner) (n : ℕ) → length (merged_rows C n) ≡ n
length_merged C n = rows-keep (λ l. length l ≡ n) C (λ l into r e. length-set into r _ ∙ e) n (length-numbers 0 n)

-- ---- equal positions

eq-as : (p x y : Float) → Ieee.eq x y ≡ true → Ieee.eq p y ≡ Ieee.eq p x
eq-as p x y e = bool_iff (Ieee.eq p y) (Ieee.eq p x) (λ h. eq_trans p y x h (eq-sym x y e)) (λ h. eq_trans p x y h e)

pub equals-as : (p u v : Vec3) → equals u v ≡ true → equals p v ≡ equals p u
unfolding equals
equals-as p u v e =
    let xy = and_left (Ieee.eq u.x v.x && Ieee.eq u.y v.y) (Ieee.eq u.z v.z) e in
    λ i. eq-as p.x u.x v.x (and_left (Ieee.eq u.x v.x) (Ieee.eq u.y v.y) xy) i && eq-as p.y u.y v.y (and_right (Ieee.eq u.x v.x) (Ieee.eq u.y v.y) xy) i && eq-as p.z u.z v.z (and_right (Ieee.eq u.x v.x && Ieee.eq u.y v.y) (Ieee.eq u.z v.z) e) i

-- two positions are equal to the same ones
abbrev pub Near : Vec3 → Vec3 → Type 0
Near u v = (p : Vec3) → equals p v ≡ equals p u

same-near : (c e : Corner) → same_values c e ≡ true → Near c.place e.place
unfolding same_values
same-near c e h p =
    let a = and_left (equals c.place e.place && equals c.normal e.normal && Ieee.eq c.u e.u) (Ieee.eq c.v e.v) h in
    let b = and_left (equals c.place e.place && equals c.normal e.normal) (Ieee.eq c.u e.u) a in
    equals-as p c.place e.place (and_left (equals c.place e.place) (equals c.normal e.normal) b)

-- a row's own, or one that passes
found-passes : (Q : ℕ → Type 0) (t : ℕ → Bool) (r : ℕ) → Q r → ((q : ℕ) → t q ≡ true → Q q) → (l : List ℕ) → Q (or_row r (first t l))
unfolding first or_row
found-passes Q t r o f [] = o
found-passes Q t r o f (q ∷ l) = go (t q) refl (first t l) (found-passes Q t r o f l)
  where
    go : (b : Bool) → t q ≡ b → (m : Option ℕ) → Q (or_row r m) → Q (or_row r (cond b (some q) m))
    go true e m h = f q e
    go false e m h = h

pub set_keeps : (R : ℕ → ℕ → Type 0) (l : List ℕ) (i v j : ℕ) → R i v → R j (get_or l j 0) → R j (get_or (set l i v) j 0)
set_keeps R l i v j a b = go (eqb j i) refl (ltb i (length l)) refl
  where
    go : (s : Bool) → eqb j i ≡ s → (t : Bool) → ltb i (length l) ≡ t → R j (get_or (set l i v) j 0)
    go false e t f = subst (R j) (sym (get_or-set_other l i j v 0 (eqb-false j i e))) b
    go true e false f = subst (λ (m : List ℕ). R j (get_or m j 0)) (sym (set_out l i v (ltb-false i (length l) f))) b
    go true e true f = let q = eqb-true j i e in subst (λ (k : ℕ). R k (get_or (set l i v) k 0)) (sym q) (subst (R i) (sym (get_or-set_same l i v 0 (ltb-true i (length l) f))) a)

-- a row is merged with one at an equal position
pub merged-near : (C : ℕ → Corner) (n k : ℕ) → k < n → Near (C k).place (C (get_or (merged_rows C n) k 0)).place
merged-near C n k h =
    rows-keep (λ l. Near (C k).place (C (get_or l k 0)).place) C
    (λ l into r p. set_keeps (λ j q. Near (C j).place (C q).place) into r _ k (found-passes (λ q. Near (C r).place (C q).place) (λ q. same_values (C r) (C q)) r (λ p. refl) (λ q e. same-near (C r) (C q) e) l) p)
    n (λ p. ap (λ (j : ℕ). equals p (C j).place) (numbers-at 0 n k h ∙ (let z : 0 + k ≡ k = omega arith in z)))

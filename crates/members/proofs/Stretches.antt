-- Stretches of a column sorted one after the other. Assumes nothing.
use Prim.Native.Nat.{ℕ, zero, suc, ◌+◌, ◌*◌, ◌-◌, ◌≤◌, ◌<◌}
use native.Mathlib.Nat.{eq-or-lt_of_le, le_refl}
use native.Mathlib.Omega.{arith}
use mathlib.Core.Path.{◌≡◌, refl, sym, ap, ◌∙◌, subst}
use mathlib.Core.List.{List, ◌++◌, append_assoc}
use mathlib.Core.Logic.{⊎_elim}
use lib.ListN.{length, get_or, take, drop, length-append, take-append-drop, get_or-append}
use lib.Seq.{slice, slice_empty, length-slice, take-take, take_at, drop_at, length-take-le, get_or-take, get_or-drop, get_or-append-add, ext_get_or}
use Rattle.table.specs.Table.{column}
use Rattle.table.specs.Columns.{columns, order_column}
use Rattle.table.proofs.Laws.{length-column}
use Rattle.sort.specs.Sort.{sorted, key, SortedPart}
use Rattle.sort.proofs.Sorted.{length-sorted}

-- ---- slices

-- a list cut at two places
cut : (f t : ℕ) (l : List ℕ) → f ≤ t → l ≡ take f l ++ (slice f t l ++ drop t l)
cut f t l h =
    sym (take-append-drop t l)
    ∙ (ap (λ (a : List ℕ). a ++ drop t l) (sym (take-append-drop f (take t l)) ∙ ap (λ (a : List ℕ). a ++ slice f t l) (take-take f t l h))
    ∙ append_assoc (take f l) (slice f t l) (drop t l))

pub get_or-slice : (f t i : ℕ) (l : List ℕ) → f + i < t → get_or (slice f t l) i 0 ≡ get_or l (f + i) 0
get_or-slice f t i l h = get_or-drop f (take t l) i 0 ∙ get_or-take t l (f + i) 0 h

-- lists that agree between two places have the same slice there
pub slice-same : (x y : ℕ) (l m : List ℕ) → y ≤ length l → y ≤ length m → ((i : ℕ) → x ≤ i → i < y → get_or l i 0 ≡ get_or m i 0) → slice x y l ≡ slice x y m
slice-same x y l m hl hm e =
    ext_get_or 0 (slice x y l) (slice x y m) (length-slice x y l hl ∙ sym (length-slice x y m hm))
    (λ k h. let b : x + k < y = omega (arith, h, length-slice x y l hl) in get_or-slice x y k l b ∙ (e (x + k) (omega arith) b ∙ sym (get_or-slice x y k m b)))

-- ---- one part sorted

module _ (rows f t : ℕ) (u v : List ℕ) (h : f ≤ t) (fits : t ≤ rows) (long : columns * rows ≤ length u) (S : SortedPart rows f t u v) where
  abbrev c : List ℕ
  c = column rows order_column u

  abbrev M : List ℕ
  M = sorted (key rows u) (slice f t c)

  size : length c ≡ rows
  size = length-column rows u order_column (omega arith)

  before : length (take f c) ≡ f
  before = length-take-le f c (omega (arith, size))

  middle : length (slice f t c) ≡ t - f
  middle = length-slice f t c (omega (arith, size))

  front : length (take f c ++ M) ≡ t
  front = omega (arith, length-append (take f c) M, before, length-sorted (key rows u) (slice f t c), middle)

  is : column rows order_column v ≡ (take f c ++ M) ++ drop t c
  is = S.part (take f c) (slice f t c) (drop t c) (cut f t c h) before (omega (arith, before, middle)) ∙ sym (append_assoc (take f c) M (drop t c))

  -- within the part
  pub part-sorted : slice f t (column rows order_column v) ≡ M
  part-sorted = ap (slice f t) is ∙ (ap (drop f) (take_at (take f c ++ M) (drop t c) t front) ∙ drop_at (take f c) M f before)

  -- before it
  pub part_low : (i : ℕ) → i < f → get_or (column rows order_column v) i 0 ≡ get_or c i 0
  part_low i l =
      ap (λ (a : List ℕ). get_or a i 0) is
      ∙ (get_or-append (take f c ++ M) (drop t c) 0 i (omega (arith, front)) ∙ (get_or-append (take f c) M 0 i (omega (arith, before)) ∙ get_or-take f c i 0 l))

  -- after it
  pub part-high : (i : ℕ) → t ≤ i → get_or (column rows order_column v) i 0 ≡ get_or c i 0
  part-high i l =
      let e : t + (i - t) ≡ i = omega arith in
      let g : length (take f c ++ M) + (i - t) ≡ i = omega (arith, front) in
      ap (λ (a : List ℕ). get_or a i 0) is
      ∙ (ap (λ (k : ℕ). get_or ((take f c ++ M) ++ drop t c) k 0) (sym g)
      ∙ (get_or-append-add (take f c ++ M) (drop t c) (i - t) 0 ∙ (get_or-drop t c (i - t) 0 ∙ ap (λ (k : ℕ). get_or c k 0) e)))

-- ---- stretches between the places b 0, b 1, ..

module _ (b : ℕ → ℕ) (rises : (q : ℕ) → b q ≤ b (suc q)) where
  mono : (p d : ℕ) → b p ≤ b (p + d)
  mono p zero = let e : p + 0 ≡ p = omega arith in subst (λ (k : ℕ). b p ≤ b k) (sym e) (le_refl (b p))
  mono p (suc d) = let e : suc (p + d) ≡ p + suc d = omega arith in subst (λ (k : ℕ). b p ≤ b k) e (omega (arith, mono p d, rises (p + d)))

  pub up-to : (p q : ℕ) → p ≤ q → b p ≤ b q
  up-to p q h = let e : p + (q - p) ≡ q = omega arith in subst (λ (k : ℕ). b p ≤ b k) e (mono p (q - p))

  -- from the list C, the first q stretches are sorted in c, and the rest stands
  pub record Far (K : ℕ → ℕ) (C c : List ℕ) (q : ℕ) : Type 0 where
    pub size : length c ≡ length C
    pub done : (p : ℕ) → p < q → slice (b p) (b (suc p)) c ≡ sorted K (slice (b p) (b (suc p)) C)
    pub rest : (i : ℕ) → b q ≤ i → get_or c i 0 ≡ get_or C i 0

  pub far_none : (K : ℕ → ℕ) (C : List ℕ) → Far K C C 0
  far_none K C = record { size = refl; done = λ p h. absurd (omega arith); rest = λ i h. refl }

  -- one stretch more, from c to e
  module _ (K : ℕ → ℕ) (C c e : List ℕ) (q : ℕ) (F : Far K C c q) (fits : b (suc q) ≤ length C) (size : length e ≡ length c)
      (inside : slice (b q) (b (suc q)) e ≡ sorted K (slice (b q) (b (suc q)) c)) (low : (i : ℕ) → i < b q → get_or e i 0 ≡ get_or c i 0) (high : (i : ℕ) → b (suc q) ≤ i → get_or e i 0 ≡ get_or c i 0) where
    earlier : (p : ℕ) → p < q → slice (b p) (b (suc p)) e ≡ sorted K (slice (b p) (b (suc p)) C)
    earlier p l =
        let m = up-to (suc p) q l in
        slice-same (b p) (b (suc p)) e c (omega (arith, rises q, F.size)) (omega (arith, rises q, F.size)) (λ i x y. low i (omega arith)) ∙ F.done p l

    last : slice (b q) (b (suc q)) e ≡ sorted K (slice (b q) (b (suc q)) C)
    last = inside ∙ ap (sorted K) (slice-same (b q) (b (suc q)) c C (omega (arith, F.size)) fits (λ i x y. F.rest i x))

    pub far-more : Far K C e (suc q)
    far-more = record {
      size = size ∙ F.size;
      done = λ p h. let l : p ≤ q = omega arith in ⊎_elim (λ z. subst (λ (k : ℕ). slice (b k) (b (suc k)) e ≡ sorted K (slice (b k) (b (suc k)) C)) (sym z) last) (λ z. earlier p z) (eq-or-lt_of_le l);
      rest = λ i h. high i h ∙ F.rest i (omega (arith, rises q));
    }

  -- an empty one
  pub far-idle : (K : ℕ → ℕ) (C c : List ℕ) (q : ℕ) → Far K C c q → b (suc q) ≤ b q → Far K C c (suc q)
  unfolding sorted
  far-idle K C c q F h = record {
    size = F.size;
    done = λ p l. let k : p ≤ q = omega arith in ⊎_elim (λ z. subst (λ (k : ℕ). slice (b k) (b (suc k)) c ≡ sorted K (slice (b k) (b (suc k)) C)) (sym z) none) (λ z. F.done p z) (eq-or-lt_of_le k);
    rest = λ i l. F.rest i (omega (arith, rises q));
  }
    where
      same : b (suc q) ≡ b q
      same = omega (arith, rises q)

      none : slice (b q) (b (suc q)) c ≡ sorted K (slice (b q) (b (suc q)) C)
      none = ap (λ (k : ℕ). slice (b q) k c) same ∙ (slice_empty (b q) c ∙ sym (ap (sorted K) (ap (λ (k : ℕ). slice (b q) k C) same ∙ slice_empty (b q) C)))

-- The sorted stretches are the groups' corners in triangle order. Assumes nothing.
use Prim.Native.Nat.{ℕ, zero, suc, ◌+◌, ◌*◌, ◌/◌, ◌%◌, ◌-◌, ◌≤◌, ◌<◌, min}
use native.Mathlib.Omega.{arith}
use mathlib.Core.Path.{◌≡◌, refl, sym, ap, ◌∙◌, subst}
use mathlib.Core.Bool.{Bool, true, false, cond, not, true≢false}
use mathlib.Core.List.{List, [], ◌∷◌}
use lib.Dec.{eqb, ltb}
use lib.ListN.{length, get_or}
use lib.Seq.{slice, length-slice}
use borrow.Author.Tests.{eq-eqb, eqb-true, ne_eqb, leb-true, leb-false, le-leb, lt-leb, lt-ltb, le-ltb, ltb-true, ltb-false}
use Rattle.laws.proofs.Closed.{Between}
use Rattle.table.specs.Table.{cell, column}
use Rattle.lists.specs.Loops.{list_of}
use Rattle.table.specs.Columns.{columns, group_column, met_column, order_column, spare_column, begin_column}
use Rattle.table.proofs.Laws.{get_or-column, length-column}
use Rattle.definition.specs.declared.Triangle.{Triangle}
use Rattle.lists.specs.Lists.{keep}
use Rattle.definition.specs.Mesh.{Third, same_spot}
use Rattle.definition.specs.Step5Links.{Link}
use Rattle.definition.specs.Step6Groups.{Mark, grouped, marks}
use Rattle.definition.specs.Names.{Names}
use Rattle.laws.proofs.Enough.{spot-refl}
use Rattle.laws.proofs.Laws.{mark, Once, once-nil, once-cons, at_most_one}
use Rattle.sort.specs.Sort.{sorted, key, SortedPart}
use Rattle.sort.proofs.Keys.{key-kept}
use Rattle.sort.proofs.Rising.{sorted-kept}
use Rattle.view.specs.Frame.{outside, Only}
use Rattle.view.specs.Rows.{third, row, spot_at}
use Rattle.view.specs.Groups.{number_of, Grouping, begin_at}
use Rattle.view.proofs.Lists.{every-index}
use Rattle.view.proofs.Frame.{only_none, only-trans, cell-kept}
use Rattle.view.proofs.Rows.{row_is, tri-lt, row_lt, row-inj, at-inj, spot-row}
use Rattle.groups.proofs.Finished.{has-index}
use Rattle.members.specs.Members.{begin_of, Sorts, idle, sorts, Sorting, unsorted, next}
use Rattle.members.proofs.Stretches.{get_or-slice, part-sorted, part_low, part-high, Far, far_none, far-more, far-idle}

-- ---- what the sorting leaves

abbrev two : List ℕ
two = order_column ∷ spare_column ∷ []

sorts-only : (rows f t : ℕ) (u : List ℕ) {v : List ℕ} → Sorts rows f t u v → Only two rows u v
sorts-only rows f t u (idle h) = only_none two rows u
sorts-only rows f t u (sorts h S) = S.only

pub sorting-only : (rows groups count : ℕ) (w : List ℕ) {q : ℕ} {u : List ℕ} → Sorting rows groups count w q u → Only two rows w u
sorting-only rows groups count w unsorted = only_none two rows w
sorting-only rows groups count w (next {q} {u} {v} S T) = only-trans two rows w u v (sorting-only rows groups count w S) (sorts-only rows _ _ u T)

-- where groups begin stands
pub begin-kept : (ks : List ℕ) (rows groups count : ℕ) (w u : List ℕ) → outside ks begin_column ≡ true → groups ≤ rows → Only ks rows w u → (q : ℕ) → begin_of rows groups count u q ≡ begin_of rows groups count w q
unfolding begin_of
begin-kept ks rows groups count w u e few O q = step (ltb q groups) refl
  where
    step : (b : Bool) → ltb q groups ≡ b → cond b (min (cell rows begin_column q u) count) count ≡ cond b (min (cell rows begin_column q w) count) count
    step true h = ap (λ (x : ℕ). min x count) (cell-kept ks rows w u O begin_column q e (omega (arith, ltb-true q groups h)))
    step false h = refl

module _ (rows groups count : ℕ) (w : List ℕ) (few : groups ≤ rows) (small : count ≤ rows) (long : columns * rows ≤ length w) where
  abbrev b : ℕ → ℕ
  b q = begin_of rows groups count w q

  abbrev C : List ℕ
  C = column rows order_column w

  below : (q : ℕ) → b q ≤ count
  unfolding begin_of
  below q = step (ltb q groups)
    where
      step : (x : Bool) → cond x (min (cell rows begin_column q w) count) count ≤ count
      step true = omega arith
      step false = omega arith

  module _ (rises : (q : ℕ) → b q ≤ b (suc q)) where
    -- the sorted stretches
    pub sorting-far : {q : ℕ} {u : List ℕ} → Sorting rows groups count w q u → Far b rises (key rows w) C (column rows order_column u) q
    sorting-far unsorted = far_none b rises (key rows w) C
    sorting-far (next {q} {u} {v} S T) = by (sorting-far S) (sorting-only rows groups count w S) T
      where
        by : {v : List ℕ} → Far b rises (key rows w) C (column rows order_column u) q → Only two rows w u → Sorts rows (begin_of rows groups count u q) (begin_of rows groups count u (suc q)) u v → Far b rises (key rows w) C (column rows order_column v) (suc q)
        by F O (idle h) = far-idle b rises (key rows w) C (column rows order_column u) q F (omega (arith, h, begin-kept two rows groups count w u refl few O q, begin-kept two rows groups count w u refl few O (suc q)))
        by {v} F O (sorts h P) =
            let f = begin-kept two rows groups count w u refl few O q in
            let t = begin-kept two rows groups count w u refl few O (suc q) in
            let P' : SortedPart rows (b q) (b (suc q)) u v = subst (λ (x : ℕ). SortedPart rows (b q) x u v) t (subst (λ (x : ℕ). SortedPart rows x (begin_of rows groups count u (suc q)) u v) f P) in
            let lu : columns * rows ≤ length u = omega (arith, O.size) in
            let lv : columns * rows ≤ length v = omega (arith, O.size, P.only.size) in
            let fit : b (suc q) ≤ rows = omega (arith, below (suc q)) in
            far-more b rises (key rows w) C (column rows order_column u) (column rows order_column v) q F
            (omega (arith, fit, length-column rows w order_column (omega arith)))
            (length-column rows v order_column (omega arith) ∙ sym (length-column rows u order_column (omega arith)))
            (part-sorted rows (b q) (b (suc q)) u v (rises q) fit lu P' ∙ ap (λ (K : ℕ → ℕ). sorted K (slice (b q) (b (suc q)) (column rows order_column u))) (key-kept two rows w u refl refl O))
            (part_low rows (b q) (b (suc q)) u v (rises q) fit lu P')
            (part-high rows (b q) (b (suc q)) u v (rises q) fit lu P')

-- ---- marks by index

once-at : {ms : List Mark} → Once ms → (j k : ℕ) (e : Mark) → j < k → k < length ms → same_spot (get_or ms j e).spot (get_or ms k e).spot ≡ false
once-at once-nil j k e h l = absurd (omega arith)
once-at (once-cons a r) j zero e h l = absurd (omega arith)
once-at (once-cons a r) zero (suc k) e h l = every-index a k e (omega arith)
once-at (once-cons a r) (suc j) (suc k) e h l = once-at r j k e (omega arith) (omega arith)

not-not : (x : Bool) → not x ≡ false → x ≡ true
not-not true e = refl
not-not false e = absurd (true≢false e)

-- ---- the members of a group

module _ (rows : ℕ) (ss : List Triangle) (d : Triangle) (groups : ℕ) (w : List ℕ) (ls : List Link) (B : Between ss ls) (N : Names ss) (G : Grouping rows ss d (marks ss ls) groups w) where
  abbrev ms : List Mark
  ms = marks ss ls

  abbrev n : ℕ
  n = 3 * length ss

  abbrev some-mark : Mark
  some-mark = mark (spot_at ss d 0 Third.one) (spot_at ss d 0 Third.one)

  abbrev met : ℕ → ℕ
  met j = cell rows met_column j w

  met-lt : (j : ℕ) → j < length ms → met j < n
  met-lt j h = let M = G.member j some-mark h in subst (λ (x : ℕ). x < n) (sym M.member) (row_lt M.tri (length ss) M.at M.inside)

  -- no corner is a member twice
  met-apart : (j k : ℕ) → j < k → k < length ms → met j ≡ met k → ⊥
  met-apart j k h l e =
      let J = G.member j some-mark (omega arith) in
      let K = G.member k some-mark l in
      let r : row J.tri J.at ≡ row K.tri K.at = sym J.member ∙ (e ∙ K.member) in
      let same : spot_at ss d J.tri J.at ≡ spot_at ss d K.tri K.at = λ z. spot_at ss d (row-inj J.tri K.tri J.at K.at r z) (at-inj J.tri K.tri J.at K.at r z) in
      let spots : (get_or ms j some-mark).spot ≡ (get_or ms k some-mark).spot = J.is ∙ (same ∙ sym K.is) in
      true≢false (sym (spot-refl (get_or ms j some-mark).spot) ∙ (ap (same_spot (get_or ms j some-mark).spot) spots ∙ once-at (at_most_one ss ls B) j k some-mark h l))

  -- a corner in a group is a member
  pub member_of : (r : ℕ) → r < n → (cell rows group_column r w ≡ 0 → ⊥) → (j : ℕ) × (j < length ms) × (met j ≡ r)
  unfolding grouped
  member_of r h ne =
      let t = r / 3 in
      let i = third (r % 3) in
      let ht = tri-lt r (length ss) h in
      let g = not-not (grouped ms (spot_at ss d t i)) (sym (G.free t i ht) ∙ ne_eqb (cell rows group_column (row t i) w) 0 (λ z. ne (ap (λ (x : ℕ). cell rows group_column x w) (sym (row_is r)) ∙ z))) in
      let x = has-index (λ k. same_spot k.spot (spot_at ss d t i)) ms some-mark g in
      let J = G.member x.at some-mark x.inside in
      let q : same_spot (spot_at ss d J.tri J.at) (spot_at ss d t i) ≡ true = ap (λ s. same_spot s (spot_at ss d t i)) (sym J.is) ∙ x.passes in
      (x.at, x.inside, J.member ∙ (eqb-true (row J.tri J.at) (row t i) (sym (spot-row N d J.tri t J.at i J.inside ht) ∙ q) ∙ row_is r))

  module _ (q : ℕ) (hq : q < groups) where
    abbrev e : ℕ
    e = begin_at rows groups (length ms) w (q + 1)

    abbrev f : ℕ
    f = cell rows begin_column q w

    -- the members between are those of the group
    in_group : (j : ℕ) → f ≤ j → j < e → j < length ms → number_of rows w j ≡ q + 1
    in_group j lo hi h =
        let a = ltb-true q (number_of rows w j) (sym (G.begins.begin q j hq h) ∙ le-leb f j lo) in
        step (ltb (q + 1) groups) refl hi a
      where
        step : (x : Bool) → ltb (q + 1) groups ≡ x → j < cond x (cell rows begin_column (q + 1) w) (length ms) → q < number_of rows w j → number_of rows w j ≡ q + 1
        step true z l a = let c = ltb-false (q + 1) (number_of rows w j) (sym (G.begins.begin (q + 1) j (ltb-true (q + 1) groups z) h) ∙ lt-leb (cell rows begin_column (q + 1) w) j l) in omega arith
        step false z l a = let c = ltb-false (q + 1) groups z in let k = (G.member j some-mark h).known in omega arith

    -- and no others are
    group-in : (j : ℕ) → j < length ms → number_of rows w j ≡ q + 1 → (f ≤ j) × (j < e)
    group-in j h z = (leb-true f j (G.begins.begin q j hq h ∙ lt-ltb q (number_of rows w j) (omega arith)), step (ltb (q + 1) groups) refl)
      where
        step : (x : Bool) → ltb (q + 1) groups ≡ x → j < cond x (cell rows begin_column (q + 1) w) (length ms)
        step true y = leb-false (cell rows begin_column (q + 1) w) j (G.begins.begin (q + 1) j (ltb-true (q + 1) groups y) h ∙ le-ltb (q + 1) (number_of rows w j) (omega arith))
        step false y = h

    ends-in : e ≤ length ms
    ends-in = step (ltb (q + 1) groups) refl
      where
        step : (x : Bool) → ltb (q + 1) groups ≡ x → cond x (cell rows begin_column (q + 1) w) (length ms) ≤ length ms
        step true z = omega (arith, G.begins.begun (q + 1) (ltb-true (q + 1) groups z))
        step false z = omega arith

    -- those members, sorted by their rows, are the rows of the group in rising order
    pub stretch : (K : ℕ → ℕ) → 3 * length ss ≤ rows → columns * rows ≤ length w → ((r : ℕ) → r < n → K r ≡ r) → sorted K (slice f e (column rows met_column w)) ≡ keep (λ r. eqb (cell rows group_column r w) (q + 1)) (list_of n (λ k. k))
    stretch K fits long own =
        sorted-kept K (λ r. eqb (cell rows group_column r w) (q + 1)) n L own
        (λ j h. subst (λ (x : ℕ). x < n) (sym (at j h)) (met-lt (f + j) (inside j h)))
        (λ j h. ap (λ (x : ℕ). eqb (cell rows group_column x w) (q + 1)) (at j h) ∙ eq-eqb (number_of rows w (f + j)) (q + 1) (in_group (f + j) (omega arith) (omega (arith, h, size)) (inside j h)))
        (λ j k h l z. met-apart (f + j) (f + k) (omega arith) (inside k l) (sym (at j (omega arith)) ∙ (z ∙ at k l)))
        (λ r h p.
        let g = eqb-true (cell rows group_column r w) (q + 1) p in
        let m = member_of r h (λ z. omega arith) in
        let o = group-in m.0 m.1 (ap (λ (x : ℕ). cell rows group_column x w) m.2 ∙ g) in
        let k : f + (m.0 - f) ≡ m.0 = omega (arith, o.0) in
        let l : m.0 - f < length L = omega (arith, o.0, o.1, size) in
        (m.0 - f, l, at (m.0 - f) l ∙ (ap met k ∙ m.2)))
      where
        L : List ℕ
        L = slice f e (column rows met_column w)

        full : length (column rows met_column w) ≡ rows
        full = length-column rows w met_column (omega arith)

        size : length L ≡ e - f
        size = length-slice f e (column rows met_column w) (omega (arith, ends-in, full, G.few))

        inside : (j : ℕ) → j < length L → f + j < length ms
        inside j h = omega (arith, h, size, ends-in)

        at : (j : ℕ) → j < length L → get_or L j 0 ≡ met (f + j)
        at j h = get_or-slice f e j (column rows met_column w) (omega (arith, h, size)) ∙ get_or-column rows w met_column (f + j) (omega (arith, inside j h, G.few))

-- The laws of subgroups: the test of a pair, the marks of a subgroup, and that the sum of the marked is the sum of those that join. Assumes nothing.
use Prim.Native.Nat.{ℕ, suc, ◌+◌, ◌*◌, ◌/◌, ◌-◌, ◌≤◌, ◌<◌}
use native.Mathlib.Nat.{div-add-mod}
use native.Mathlib.Omega.{arith}
use mathlib.Core.Path.{◌≡◌, refl, sym, ap, ◌∙◌, subst}
use mathlib.Core.Bool.{Bool, true, false, cond, ◌&&◌, ◌||◌, true≢false, false≢true}
use mathlib.Core.List.{List, [], ◌∷◌, ◌++◌, append_assoc}
use lib.Dec.{eqb, ltb}
use borrow.Author.Tests.{ltb-true, ltb-false}
use lib.ListN.{length, get_or, take, drop, get_or-append}
use lib.Seq.{sets, sets-eq, length-take-le, get_or-append-add}
use lib.Ieee as Ieee
use lib.Ieee.{Float}
use Rattle.math.specs.Vector.{dot}
use Rattle.tangent.specs.Slot.{flag, vector_of}
use Rattle.bits.specs.Word.{number}
use Rattle.lists.specs.Loops.{list_of}
use Rattle.table.specs.Table.{cell, put}
use Rattle.table.specs.Columns.{columns, name_column, magnitude_column, any_column, met_column, order_column, opening_column, joined_column, sx_column, sy_column, sz_column, tx_column, ty_column, tz_column}
use Rattle.lists.proofs.Loops.{up_to-same, length-list_of, get_or-list_of}
use Rattle.table.proofs.Laws.{run_more}
use Rattle.definition.specs.declared.Sum.{Sum}
use Rattle.definition.specs.Step7Sums.{empty_sum, finish}
use Rattle.sums.specs.Sums.{weighed_by}
use Rattle.view.specs.Frame.{Only}
use Rattle.view.specs.Contributions.{s_at, t_at}
use Rattle.view.proofs.Records.{flag_one}
use Rattle.view.proofs.Frame.{only-run, cell-kept}
use Rattle.subgroups.specs.declared.Peer.{Peer}
use Rattle.subgroups.specs.Subgroups.{peer_at, joins_by, joins_at, mark_of, Ranged, Marked, space_at, add_row, add_marked, evaluated, add_joined, value_of}

-- ---- the test of a pair

first_holds : (a b c d e : Bool) → a ≡ true → true ≡ (a || b || c || d && e)
first_holds true b c d e q = refl
first_holds false b c d e q = absurd (false≢true q)

second_holds : (a b c d e : Bool) → b ≡ true → true ≡ (a || b || c || d && e)
second_holds true b c d e q = refl
second_holds false true c d e q = refl
second_holds false false c d e q = absurd (false≢true q)

third-holds : (a b c d e : Bool) → c ≡ true → true ≡ (a || b || c || d && e)
third-holds true b c d e q = refl
third-holds false true c d e q = refl
third-holds false false true d e q = refl
third-holds false false false d e q = absurd (false≢true q)

last-two : (a b c d e : Bool) → a ≡ false → b ≡ false → c ≡ false → (d && e) ≡ (a || b || c || d && e)
last-two true b c d e p q r = absurd (true≢false p)
last-two false true c d e p q r = absurd (true≢false q)
last-two false false true d e p q r = absurd (true≢false r)
last-two false false false d e p q r = refl

module _ (h : Float) (m p : Peer) where
  abbrev near-s : Bool
  near-s = Ieee.lt h (dot m.s p.s)

  abbrev near-t : Bool
  near-t = Ieee.lt h (dot m.t p.t)

  pub join-any : m.any ≡ true → true ≡ joins_by h m p
  unfolding joins_by
  join-any e = first_holds m.any p.any (eqb m.face p.face) near-s near-t e

  pub join-other : p.any ≡ true → true ≡ joins_by h m p
  unfolding joins_by
  join-other e = second_holds m.any p.any (eqb m.face p.face) near-s near-t e

  pub join-face : eqb m.face p.face ≡ true → true ≡ joins_by h m p
  unfolding joins_by
  join-face e = third-holds m.any p.any (eqb m.face p.face) near-s near-t e

  pub join-close : m.any ≡ false → p.any ≡ false → eqb m.face p.face ≡ false → near-s ≡ true → near-t ≡ joins_by h m p
  unfolding joins_by
  join-close a b c d = sym (ap (λ x. x && near-t) d) ∙ last-two m.any p.any (eqb m.face p.face) near-s near-t a b c

  pub join-far : m.any ≡ false → p.any ≡ false → eqb m.face p.face ≡ false → near-s ≡ false → false ≡ joins_by h m p
  unfolding joins_by
  join-far a b c d = sym (ap (λ x. x && near-t) d) ∙ last-two m.any p.any (eqb m.face p.face) near-s near-t a b c

-- ---- what the marks leave

row-floor : (r : ℕ) → 3 * (r / 3) ≤ r
row-floor r = let a = div-add-mod r 3 in omega arith

module _ (rows : ℕ) (w u : List ℕ) (O : Only (joined_column ∷ []) rows w u) where
  kept : (k r : ℕ) → r < rows → eqb joined_column k ≡ false → cell rows k r u ≡ cell rows k r w
  kept k r h e = cell-kept (joined_column ∷ []) rows w u O k r (ap (λ b. cond b false true) e) h

  s-kept : (r : ℕ) → r < rows → s_at rows r u ≡ s_at rows r w
  unfolding s_at
  s-kept r h = λ z. vector_of (kept sx_column r h refl z) (kept sy_column r h refl z) (kept sz_column r h refl z)

  t-kept : (r : ℕ) → r < rows → t_at rows r u ≡ t_at rows r w
  unfolding t_at
  t-kept r h = λ z. vector_of (kept tx_column r h refl z) (kept ty_column r h refl z) (kept tz_column r h refl z)

  floor : (r : ℕ) → r < rows → 3 * (r / 3) < rows
  floor r h = omega (arith, row-floor r)

  third : (r : ℕ) → r < rows → r / 3 < rows
  third r h = omega (arith, row-floor r)

  pub peer-kept : (r : ℕ) → r < rows → peer_at rows r u ≡ peer_at rows r w
  unfolding peer_at
  peer-kept r h = λ z. record { any = eqb (kept any_column (r / 3) (third r h) refl z) 1; face = kept name_column (3 * (r / 3)) (floor r h) refl z; s = s-kept r h z; t = t-kept r h z }

  pub order-kept : (p : ℕ) → p < rows → cell rows order_column p u ≡ cell rows order_column p w
  order-kept p h = kept order_column p h refl

  pub ranged-kept : (to : ℕ) → to ≤ rows → Ranged rows to w → Ranged rows to u
  ranged-kept to h R = record {
    met = λ p l. subst (λ x. x < rows) (sym (kept met_column p (omega arith) refl)) (R.met p l);
    order = λ p l. subst (λ x. x < rows) (sym (order-kept p (omega arith))) (R.order p l);
  }

  pub mark-kept : (h : Float) (m : Peer) (p : ℕ) → p < rows → cell rows order_column p w < rows → mark_of rows h m p u ≡ mark_of rows h m p w
  unfolding mark_of joins_at
  mark-kept h m p l k = ap (λ r. flag (joins_by h m (peer_at rows r u))) (order-kept p l) ∙ ap (λ x. flag (joins_by h m x)) (peer-kept (cell rows order_column p w) k)

-- ---- the marks of a subgroup

-- a word of a run
run_at : (vs l : List ℕ) (b k : ℕ) → k < length vs → b + length vs ≤ length l → get_or (sets l b vs) (b + k) 0 ≡ get_or vs k 0
run_at vs l b k h f =
    let e : length (take b l) ≡ b = length-take-le b l (omega arith) in
    ap (λ x. get_or x (b + k) 0) (sets-eq vs l b f ∙ append_assoc (take b l) vs (drop (b + length vs) l))
    ∙ (ap (λ n. get_or (take b l ++ (vs ++ drop (b + length vs) l)) (n + k) 0) (sym e)
    ∙ (get_or-append-add (take b l) (vs ++ drop (b + length vs) l) k 0 ∙ get_or-append vs (drop (b + length vs) l) 0 k h))

module _ (rows : ℕ) (h : Float) (m : Peer) (from : ℕ) (w : List ℕ) (room : columns * rows ≤ length w) where
  abbrev marks : ℕ → List ℕ
  marks n = list_of n (λ k. mark_of rows h m (from + k) w)

  pub marked-only : (n : ℕ) (u : List ℕ) → from + n ≤ rows → Marked rows h m from n w u → Only (joined_column ∷ []) rows w u
  marked-only n u f e = only-run (joined_column ∷ []) rows joined_column from w u (marks n) refl (omega arith) (omega (arith, length-list_of n (λ k. mark_of rows h m (from + k) w))) e

  pub none-marked : Marked rows h m from 0 w w
  unfolding list_of
  none-marked = refl

  pub marked-as : (n k : ℕ) (u : List ℕ) → n ≡ k → Marked rows h m from n w u → Marked rows h m from k w u
  marked-as n k u e M = subst (λ i. Marked rows h m from i w u) e M

  -- one more
  pub one-marked : (n p : ℕ) (u : List ℕ) → from + n ≡ p → p < rows → cell rows order_column p w < rows → Marked rows h m from n w u → Marked rows h m from (n + 1) w (put rows joined_column p (mark_of rows h m p u) u)
  unfolding list_of
  one-marked n p u q f g e =
      let O = marked-only n u (omega arith) e in
      let s : suc n ≡ n + 1 = omega arith in
      ap (λ v. put rows joined_column p v u) (mark-kept rows w u O h m p f g ∙ ap (λ (k : ℕ). mark_of rows h m k w) (sym q))
      ∙ (run_more rows joined_column from w u (marks n) p (mark_of rows h m (from + n) w) e (omega (arith, length-list_of n (λ k. mark_of rows h m (from + k) w), q)) ∙ ap (λ k. sets w (joined_column * rows + from) (marks k)) s)

  -- the mark of each
  mark-at : (n k : ℕ) (u : List ℕ) → from + n ≤ rows → k < n → Marked rows h m from n w u → cell rows joined_column (from + k) u ≡ mark_of rows h m (from + k) w
  mark-at n k u f l e =
      let c : joined_column * rows + (from + k) ≡ joined_column * rows + from + k = omega arith in
      ap (cell rows joined_column (from + k)) e
      ∙ (ap (λ i. get_or (sets w (joined_column * rows + from) (marks n)) i 0) c
      ∙ (run_at (marks n) w (joined_column * rows + from) k (omega (arith, length-list_of n (λ k. mark_of rows h m (from + k) w))) (omega (arith, length-list_of n (λ k. mark_of rows h m (from + k) w))) ∙ get_or-list_of n (λ k. mark_of rows h m (from + k) w) 0 k l))

-- ---- the sum

module _ (rows : ℕ) (w u : List ℕ) (O : Only (joined_column ∷ []) rows w u) where
  -- (row 3 * (r / 3) + 1 may be the first of the next column)
  long_kept : (r : ℕ) → r < rows → cell rows magnitude_column (3 * (r / 3) + 1) u ≡ cell rows magnitude_column (3 * (r / 3) + 1) w
  long_kept r h = go (ltb (3 * (r / 3) + 1) rows) refl
    where
      go : (b : Bool) → ltb (3 * (r / 3) + 1) rows ≡ b → cell rows magnitude_column (3 * (r / 3) + 1) u ≡ cell rows magnitude_column (3 * (r / 3) + 1) w
      go true e = kept rows w u O magnitude_column (3 * (r / 3) + 1) (ltb-true (3 * (r / 3) + 1) rows e) refl
      go false e =
          let f = ltb-false (3 * (r / 3) + 1) rows e in
          let a : magnitude_column * rows + (3 * (r / 3) + 1) ≡ suc magnitude_column * rows + 0 = omega (arith, row-floor r, f) in
          ap (λ q. get_or u q 0) a ∙ (kept rows w u O (suc magnitude_column) 0 (omega arith) refl ∙ ap (λ q. get_or w q 0) (sym a))

  space-kept : (r : ℕ) → r < rows → space_at rows u r ≡ space_at rows w r
  unfolding space_at
  space-kept r h = λ z. record { s = s-kept rows w u O r h z; t = t-kept rows w u O r h z; s_magnitude = number (kept rows w u O magnitude_column (3 * (r / 3)) (omega (arith, row-floor r)) refl z); t_magnitude = number (long_kept r h z) }

  row_kept : (r : ℕ) (y : Sum) → r < rows → add_row rows u r y ≡ add_row rows w r y
  unfolding add_row
  row_kept r y h = λ z. cond (eqb (kept rows w u O any_column (r / 3) (omega (arith, row-floor r)) refl z) 1) y (weighed_by y (number (kept rows w u O opening_column r h refl z)) (space-kept r h z))

  -- and so what a member brings
  pub value-kept : (h : Float) (r from n : ℕ) → r < rows → from + n ≤ rows → ((p : ℕ) → p < from + n → cell rows order_column p w < rows) → value_of rows h r from n u ≡ value_of rows h r from n w
  unfolding value_of add_joined joins_at
  value-kept h r from n l f R =
      let m = peer-kept rows w u O r l in
      ap finish
      (up_to-same n _ _ empty_sum
      (λ k y b.
      let g = R (from + k) (omega arith) in
      let o = order-kept rows w u O (from + k) (omega arith) in
      (λ z. cond (joins_by h (m z) (peer_at rows (o z) u)) (add_row rows u (o z) y) y)
      ∙ (λ z. cond (joins_by h (peer_at rows r w) (peer-kept rows w u O (cell rows order_column (from + k) w) g z)) (row_kept (cell rows order_column (from + k) w) y g z) y)))

-- the sum of the marked is the sum of those that join the member
pub value-marked : (rows : ℕ) (h : Float) (r from n : ℕ) (w u : List ℕ) → columns * rows ≤ length w → from + n ≤ rows → ((p : ℕ) → p < from + n → cell rows order_column p w < rows) → Marked rows h (peer_at rows r w) from n w u → evaluated rows from n u ≡ value_of rows h r from n w
unfolding evaluated value_of add_marked add_joined
value-marked rows h r from n w u room f R M =
    let O = marked-only rows h (peer_at rows r w) from w room n u f M in
    ap finish
    (up_to-same n _ _ empty_sum
    (λ k y l.
    let p : from + k < rows = omega arith in
    let g = R (from + k) (omega arith) in
    let o = order-kept rows w u O (from + k) p in
    let j : eqb (cell rows joined_column (from + k) u) 1 ≡ joins_at rows h (peer_at rows r w) (from + k) w = ap (λ x. eqb x 1) (mark-at rows h (peer_at rows r w) from w room n k u f l M) ∙ marked-is h (peer_at rows r w) (from + k) in
    (λ z. cond (j z) (add_row rows u (o z) y) y) ∙ ap (λ x. cond (joins_at rows h (peer_at rows r w) (from + k) w) x y) (row_kept rows w u O (cell rows order_column (from + k) w) y g)))
  where
    marked-is : (h : Float) (m : Peer) (p : ℕ) → eqb (mark_of rows h m p w) 1 ≡ joins_at rows h m p w
    marked-is h m p = unfold mark_of in flag_one (joins_at rows h m p w)

-- what stands when a member's subgroup is marked: m is the member as it was read
pub space-marked : (rows : ℕ) (h : Float) (r from to : ℕ) (m : Peer) (w u : List ℕ) → columns * rows ≤ length w → from ≤ to → to ≤ rows → Ranged rows to w → m ≡ peer_at rows r w → Marked rows h m from (to - from) w u → (evaluated rows from (to - from) u ≡ value_of rows h r from (to - from) w) × Only (joined_column ∷ []) rows w u
space-marked rows h r from to m w u room f g R e M =
    let N = subst (λ x. Marked rows h x from (to - from) w u) e M in
    (value-marked rows h r from (to - from) w u room (omega arith) (λ p l. R.order p (omega arith)) N, marked-only rows h m from w room (to - from) u (omega arith) M)

-- The members of a group in triangle order are the triangles that the definition keeps of all, in its order. Assumes nothing.
use Prim.Native.Nat.{ℕ, zero, suc, ◌+◌, ◌*◌, ◌/◌, ◌≤◌, ◌<◌}
use native.Mathlib.Nat.{le_refl}
use native.Mathlib.Omega.{arith}
use mathlib.Core.Path.{◌≡◌, refl, sym, ap, ◌∙◌}
use mathlib.Core.Bool.{Bool, true, false, cond, ◌||◌, true≢false}
use mathlib.Core.List.{List, [], ◌∷◌, ◌++◌, map, append-nil}
use lib.Dec.{eqb}
use lib.ListN.{length, get_or, take}
use lib.Seq.{slice, take-suc, take-length}
use borrow.Author.Tests.{eqb-true}
use Rattle.laws.proofs.Closed.{Between}
use Rattle.table.specs.Table.{cell, column}
use Rattle.lists.specs.Loops.{list_of}
use Rattle.table.specs.Columns.{group_column, order_column}
use Rattle.definition.specs.declared.Triangle.{Triangle}
use Rattle.lists.specs.Lists.{keep, has}
use Rattle.definition.specs.Mesh.{Third, one, two, three, after, corner_of, same_triangle}
use Rattle.definition.specs.Step4Order.{welded}
use Rattle.definition.specs.Step5Links.{Link}
use Rattle.definition.specs.Step6Groups.{Mark, marks, members}
use Rattle.definition.specs.Names.{Names}
use Rattle.laws.proofs.Weld.{welded-refl, welded-as}
use Rattle.view.specs.Rows.{num, row, spot_at}
use Rattle.view.specs.Weld.{Sharp}
use Rattle.view.specs.Groups.{number_of, Grouping, begin_at, InOrder}
use Rattle.view.proofs.Rows.{row-div, row_lt, row-inj, at-inj}
use Rattle.members.proofs.Ordering.{member_of}

-- ---- lists

pub keep_snoc : {A : Type 0} (p : A → Bool) (l : List A) (x : A) → keep p (l ++ (x ∷ [])) ≡ keep p l ++ cond (p x) (x ∷ []) []
unfolding keep
keep_snoc p [] x = refl
keep_snoc p (y ∷ l) x = step (p y) (keep_snoc p l x)
  where
    step : (b : Bool) → keep p (l ++ (x ∷ [])) ≡ keep p l ++ cond (p x) (x ∷ []) [] → cond b (y ∷ keep p (l ++ (x ∷ []))) (keep p (l ++ (x ∷ []))) ≡ cond b (y ∷ keep p l) (keep p l) ++ cond (p x) (x ∷ []) []
    step true e = ap (λ k. y ∷ k) e
    step false e = e

map_snoc : {A B : Type 0} (f : A → B) (l : List A) (b : Bool) (x : A) → map f (l ++ cond b (x ∷ []) []) ≡ map f l ++ cond b (f x ∷ []) []
map_snoc f [] true x = refl
map_snoc f [] false x = refl
map_snoc f (y ∷ l) b x = ap (λ k. f y ∷ k) (map_snoc f l b x)

-- of three tests of which at most one passes, one entry for whichever does
one_of : {A : Type 0} (l : List A) (x : A) (a b c : Bool) → (a ≡ true → b ≡ true → ⊥) → (b ≡ true → c ≡ true → ⊥) → (c ≡ true → a ≡ true → ⊥) → ((l ++ cond a (x ∷ []) []) ++ cond b (x ∷ []) []) ++ cond c (x ∷ []) [] ≡ l ++ cond (a || (b || c)) (x ∷ []) []
one_of l x true true c p q r = absurd (p refl refl)
one_of l x true false true p q r = absurd (r refl refl)
one_of l x true false false p q r = append-nil ((l ++ (x ∷ [])) ++ []) ∙ append-nil (l ++ (x ∷ []))
one_of l x false true true p q r = absurd (q refl refl)
one_of l x false true false p q r = append-nil ((l ++ []) ++ (x ∷ [])) ∙ ap (λ k. k ++ (x ∷ [])) (append-nil l)
one_of l x false false true p q r = ap (λ k. k ++ (x ∷ [])) (append-nil (l ++ []) ∙ append-nil l)
one_of l x false false false p q r = append-nil ((l ++ []) ++ []) ∙ append-nil (l ++ [])

-- ---- one corner of a triangle in a group

module _ (rows : ℕ) (ss : List Triangle) (d : Triangle) (groups : ℕ) (w : List ℕ) (ls : List Link) (B : Between ss ls) (N : Names ss) (S : Sharp ss d) (G : Grouping rows ss d (marks ss ls) groups w) (j : ℕ) (e : Mark) (h : j < length (marks ss ls)) where
  abbrev ms : List Mark
  ms = marks ss ls

  abbrev g : ℕ
  g = number_of rows w j

  abbrev Q : ℕ → Bool
  Q r = eqb (cell rows group_column r w) g

  -- a corner of the group is welded to the group's start
  pub joined : (t : ℕ) (i : Third) → t < length ss → Q (row t i) ≡ true → welded (corner_of (get_or ms j e).start) (corner_of (spot_at ss d t i)) ≡ true
  joined t i l q =
      let n = eqb-true (cell rows group_column (row t i) w) g q in
      let m = member_of rows ss d groups w ls B N G (row t i) (row_lt t (length ss) i l) (λ z. let a = (G.member j e h).some in omega arith) in
      let M = G.member m.0 e m.1 in
      let r : row M.tri M.at ≡ row t i = sym M.member ∙ m.2 in
      let here : (get_or ms m.0 e).spot ≡ spot_at ss d t i = M.is ∙ (λ z. spot_at ss d (row-inj M.tri t M.at i r z) (at-inj M.tri t M.at i r z)) in
      let same : (get_or ms j e).start ≡ (get_or ms m.0 e).start = G.one_start j m.0 e h m.1 (sym n ∙ ap (λ x. cell rows group_column x w) (sym m.2)) in
      ap (λ s. welded (corner_of s) (corner_of (spot_at ss d t i))) same
      ∙ (M.vertex (corner_of (spot_at ss d t i)) ∙ (ap (λ s. welded (corner_of s) (corner_of (spot_at ss d t i))) here ∙ welded-refl (corner_of (spot_at ss d t i))))

  -- so no two of a triangle are
  not-both : (t : ℕ) (i : Third) → t < length ss → Q (row t i) ≡ true → Q (row t (after i)) ≡ true → ⊥
  not-both t i l p q =
      true≢false (sym (sym (welded-as (corner_of (get_or ms j e).start) (corner_of (spot_at ss d t i)) (corner_of (spot_at ss d t (after i))) (joined t i l p)) ∙ joined t (after i) l q) ∙ S.apart t i l)

  -- ---- the triangles

  abbrev P : Triangle → Bool
  P t = has (λ k. same_triangle k.spot.tri t) (members ms (get_or ms j e))

  abbrev T : ℕ → Triangle
  T r = get_or ss (r / 3) d

  up-to : (m : ℕ) → m ≤ length ss → map T (keep Q (list_of (3 * m) (λ k. k))) ≡ keep P (take m ss)
  unfolding list_of keep after num
  up-to zero l = refl
  up-to (suc m) l =
      let rs : List ℕ = list_of (3 * m) (λ k. k) in
      let x : Triangle = get_or ss m d in
      let e3 : 3 * suc m ≡ suc (suc (suc (3 * m))) = omega arith in
      let r0 : 3 * m ≡ row m one = omega arith in
      let r1 : suc (3 * m) ≡ row m two = omega arith in
      let r2 : suc (suc (3 * m)) ≡ row m three = omega arith in
      let A : List ℕ = keep Q rs ++ cond (Q (row m one)) (row m one ∷ []) [] in
      let B : List ℕ = A ++ cond (Q (row m two)) (row m two ∷ []) [] in
      ap (λ k. map T (keep Q (list_of k (λ k. k)))) e3
      ∙ ((λ z. map T (keep Q (((rs ++ (r0 z ∷ [])) ++ (r1 z ∷ [])) ++ (r2 z ∷ []))))
      ∙ (ap (map T) (keep_snoc Q ((rs ++ (row m one ∷ [])) ++ (row m two ∷ [])) (row m three) ∙ ap (λ k. k ++ cond (Q (row m three)) (row m three ∷ []) []) (keep_snoc Q (rs ++ (row m one ∷ [])) (row m two) ∙ ap (λ k. k ++ cond (Q (row m two)) (row m two ∷ []) []) (keep_snoc Q rs (row m one))))
      ∙ (map_snoc T B (Q (row m three)) (row m three) ∙ (ap (λ k. k ++ cond (Q (row m three)) (T (row m three) ∷ []) []) (map_snoc T A (Q (row m two)) (row m two) ∙ ap (λ k. k ++ cond (Q (row m two)) (T (row m two) ∷ []) []) (map_snoc T (keep Q rs) (Q (row m one)) (row m one)))
      ∙ ((λ z. ((map T (keep Q rs) ++ cond (Q (row m one)) (get_or ss (row-div m one z) d ∷ []) []) ++ cond (Q (row m two)) (get_or ss (row-div m two z) d ∷ []) []) ++ cond (Q (row m three)) (get_or ss (row-div m three z) d ∷ []) [])
      ∙ (one_of (map T (keep Q rs)) x (Q (row m one)) (Q (row m two)) (Q (row m three)) (not-both m one (omega arith)) (not-both m two (omega arith)) (not-both m three (omega arith))
      ∙ ((λ z. up-to m (omega arith) z ++ cond (sym (G.among j e m h (omega arith)) z) (x ∷ []) []) ∙ sym (ap (keep P) (take-suc ss m d (omega arith)) ∙ keep_snoc P (take m ss) x))))))))

  -- the triangles of the group's stretch are those that have a corner in the group, in triangle order
  pub in-definition : (q count : ℕ) → g ≡ q + 1 → q < groups → InOrder rows ss groups count w → map T (slice (begin_at rows groups count w q) (begin_at rows groups count w (q + 1)) (column rows order_column w)) ≡ keep P ss
  in-definition q count z l O =
      ap (map T) (O q l ∙ ap (λ n. keep (λ r. eqb (cell rows group_column r w) n) (list_of (3 * length ss) (λ k. k))) (sym z))
      ∙ (up-to (length ss) (le_refl (length ss)) ∙ ap (keep P) (take-length ss))

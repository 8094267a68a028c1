-- What a member brings, by the words of the columns, is what the definition says. Assumes nothing.
use Prim.Native.Nat.{ℕ, zero, suc, ◌+◌, ◌-◌, ◌*◌, ◌/◌, ◌%◌, ◌≤◌, ◌<◌}
use native.Mathlib.Omega.{arith}
use mathlib.Core.Path.{◌≡◌, refl, sym, ap, ◌∙◌, subst}
use mathlib.Core.Bool.{Bool, true, false, cond, ◌&&◌, ◌||◌}
use mathlib.Core.List.{List, [], ◌∷◌, ◌++◌, map}
use mathlib.Core.Option.{some}
use lib.Dec.{eqb}
use lib.ListN.{length, get_or}
use lib.Seq.{slice, length-slice, ext_get_or}
use lib.Ieee as Ieee
use lib.Ieee.{Float}
use Rattle.laws.proofs.Closed.{Between}
use Rattle.bits.specs.Word.{number}
use Rattle.math.specs.Held.{HeldVec}
use Rattle.math.specs.Vector.{dot}
use Rattle.lists.specs.Loops.{up_to, list_of}
use Rattle.table.specs.Table.{cell, column}
use Rattle.table.specs.Columns.{columns, any_column, name_column, magnitude_column, group_column, met_column, order_column}
use Rattle.lists.proofs.Loops.{length-list_of, get_or-list_of}
use Rattle.table.proofs.Laws.{length-column, get_or-column}
use Rattle.definition.specs.declared.Corner.{Corner}
use Rattle.definition.specs.declared.Triangle.{Triangle}
use Rattle.definition.specs.declared.Sum.{Sum}
use Rattle.definition.specs.Handed.{Handed}
use Rattle.lists.specs.Lists.{keep, has, run}
use Rattle.definition.specs.Mesh.{Third, one, two, three, after, kept, corner_of, same_triangle}
use Rattle.definition.specs.Step4Order.{welded}
use Rattle.definition.specs.Step5Links.{Link}
use Rattle.definition.specs.Step6Groups.{Mark, marks, members, corner_in}
use Rattle.definition.specs.Step7Sums.{projected, close, joins, subgroup, empty_sum, weighed, add_spot, contribute, finish, evaluate}
use Rattle.lists.specs.Every.{Every, every_nil, every_cons}
use Rattle.laws.proofs.Part.{every_append, every-keep, every-pair, keep-passes}
use Rattle.definition.specs.Names.{Names}
use Rattle.laws.proofs.Weld.{welded-as, welded-normal, first-same}
use Rattle.laws.proofs.Sharp as one-triangle
use Rattle.sums.specs.Sums.{weighed_by}
use Rattle.view.specs.Rows.{third, row, spot_at}
use Rattle.view.specs.Records.{Tells}
use Rattle.view.specs.Weld.{Sharp}
use Rattle.view.specs.Groups.{number_of, Member, Grouping, begin_at, InOrder}
use Rattle.view.specs.Contributions.{Contributed}
use Rattle.view.proofs.Records.{flag_one}
use Rattle.view.proofs.Rows.{row_is, row-div, tri-lt}
use Rattle.members.proofs.Stretches.{get_or-slice}
use Rattle.members.proofs.Triangles.{joined, in-definition}
use Rattle.subgroups.specs.Subgroups.{peer_at, joins_by, joins_at, space_at, add_row, add_joined, value_of}

-- ---- lists

pub run-snoc : {A S : Type 0} (f : S → A → S) (z : S) (l : List A) (x : A) → run f z (l ++ (x ∷ [])) ≡ f (run f z l) x
unfolding run
run-snoc f z [] x = refl
run-snoc f z (y ∷ l) x = run-snoc f (f z y) l x

-- a loop over the values of a function is a run through their list
loop-run : {A S : Type 0} (n : ℕ) (g : ℕ → A) (f : S → A → S) (z : S) → up_to n (λ k y. f y (g k)) z ≡ run f z (list_of n g)
unfolding up_to list_of run
loop-run zero g f z = refl
loop-run (suc n) g f z = ap (λ y. f y (g n)) (loop-run n g f z) ∙ sym (run-snoc f z (list_of n g) (g n))

-- a run that passes over what a test does not let through, seen through a map
sifted : {A B S : Type 0} (P : A → Type 0) (j : A → Bool) (J : B → Bool) (T : A → B) (a : S → A → S) (k : S → B → S) → ((x : A) → P x → j x ≡ J (T x)) → ((y : S) (x : A) → P x → a y x ≡ k y (T x)) → (z : S) {l : List A} → Every P l → run (λ y x. cond (j x) (a y x) y) z l ≡ run k z (keep J (map T l))
unfolding run keep
sifted P j J T a k p q z every_nil = refl
sifted P j J T a k p q z (every_cons {x} {l} h r) =
    (λ i. run (λ y x. cond (j x) (a y x) y) (cond (p x h i) (q z x h i) z) l) ∙ step (J (T x)) (λ z. sifted P j J T a k p q z r)
  where
    step : (b : Bool) → ((z : _) → run (λ y x. cond (j x) (a y x) y) z l ≡ run k z (keep J (map T l))) → run (λ y x. cond (j x) (a y x) y) (cond b (k z (T x)) z) l ≡ run k z (cond b (T x ∷ keep J (map T l)) (keep J (map T l)))
    step true f = f (k z (T x))
    step false f = f z

-- two tests, one after the other
keep-both : {A : Type 0} (p q : A → Bool) (l : List A) → keep q (keep p l) ≡ keep (λ x. p x && q x) l
unfolding keep
keep-both p q [] = refl
keep-both p q (x ∷ l) = step (p x) (keep-both p q l)
  where
    step : (b : Bool) → keep q (keep p l) ≡ keep (λ x. p x && q x) l → keep q (cond b (x ∷ keep p l) (keep p l)) ≡ cond (b && q x) (x ∷ keep (λ x. p x && q x) l) (keep (λ x. p x && q x) l)
    step true e = ap (λ k. cond (q x) (x ∷ k) k) e
    step false e = e

pub all-below : (n m : ℕ) → m ≤ n → Every (λ k. k < n) (list_of m (λ k. k))
unfolding list_of
all-below n zero l = every_nil
all-below n (suc m) l = every_append (all-below n m (omega arith)) (every_cons l every_nil)

-- a stretch of a column, word by word
stretch-list : (rows k from to : ℕ) (w : List ℕ) → from ≤ to → to ≤ rows → k * rows + rows ≤ length w → slice from to (column rows k w) ≡ list_of (to - from) (λ i. cell rows k (from + i) w)
stretch-list rows k from to w f g h =
    let c = length-column rows w k h in
    let m = length-slice from to (column rows k w) (omega arith) in
    let n = length-list_of (to - from) (λ i. cell rows k (from + i) w) in
    ext_get_or 0 (slice from to (column rows k w)) (list_of (to - from) (λ i. cell rows k (from + i) w)) (m ∙ sym n)
    (λ i l. let b : from + i < to = omega arith in get_or-slice from to i (column rows k w) b ∙ (get_or-column rows w k (from + i) (omega arith) ∙ sym (get_or-list_of (to - from) (λ i. cell rows k (from + i) w) 0 i (omega arith))))

-- ---- a corner of the columns

module _ (rows : ℕ) (mesh : Handed) (ss : List Triangle) (d : Triangle) (w : List ℕ) (fit : (t : ℕ) (i : Third) → t < length ss → HeldVec (corner_of (spot_at ss d t i)).normal)
    (tells : Tells rows mesh ss d w) (brings : Contributed rows ss d w) where
  -- what the test of a pair asks of it
  peer-is : (t : ℕ) (i : Third) → t < length ss → peer_at rows (row t i) w ≡ record { any = (get_or ss t d).any; face = (get_or ss t d).face; s = projected (corner_of (spot_at ss d t i)).normal (get_or ss t d).tangent.s; t = projected (corner_of (spot_at ss d t i)).normal (get_or ss t d).tangent.t }
  unfolding peer_at
  peer-is t i l =
      let B = brings t i l in
      let x = tells t l in
      let any = ap (λ k. eqb (cell rows any_column k w) 1) (row-div t i) ∙ (ap (λ k. eqb k 1) x.loose ∙ flag_one (get_or ss t d).any) in
      let face = ap (λ k. cell rows name_column (3 * k) w) (row-div t i) ∙ x.face in
      λ z. record { any = any z; face = face z; s = B.along z; t = B.up z }

  -- two welded corners join as the definition says, with the normal of the first
  joins-is : (h : Float) (t u : ℕ) (i j : Third) → t < length ss → u < length ss → welded (corner_of (spot_at ss d t i)) (corner_of (spot_at ss d u j)) ≡ true → joins_by h (peer_at rows (row t i) w) (peer_at rows (row u j) w) ≡ joins h (corner_of (spot_at ss d t i)).normal (get_or ss t d) (get_or ss u d)
  unfolding joins_by joins close
  joins-is h t u i j l m e =
      let a = get_or ss t d in
      let b = get_or ss u d in
      let n = (corner_of (spot_at ss d t i)).normal in
      let o = welded-normal (corner_of (spot_at ss d t i)) (corner_of (spot_at ss d u j)) (fit t i l) (fit u j m) e in
      (λ z. joins_by h (peer-is t i l z) (peer-is u j m z))
      ∙ sym (λ z. a.any || b.any || eqb a.face b.face || Ieee.lt h (dot (projected n a.tangent.s) (projected (o z) b.tangent.s)) && Ieee.lt h (dot (projected n a.tangent.t) (projected (o z) b.tangent.t)))

  -- what it brings
  space-is : (t : ℕ) (i : Third) → t < length ss → space_at rows w (row t i) ≡ record { s = projected (corner_of (spot_at ss d t i)).normal (get_or ss t d).tangent.s; t = projected (corner_of (spot_at ss d t i)).normal (get_or ss t d).tangent.t; s_magnitude = (get_or ss t d).tangent.s_magnitude; t_magnitude = (get_or ss t d).tangent.t_magnitude }
  unfolding space_at
  space-is t i l =
      let B = brings t i l in
      let x = tells t l in
      let s_long = ap (λ k. number (cell rows magnitude_column (3 * k) w)) (row-div t i) ∙ x.s_long in
      let t_long = ap (λ k. number (cell rows magnitude_column (3 * k + 1) w)) (row-div t i) ∙ x.t_long in
      λ z. record { s = B.along z; t = B.up z; s_magnitude = s_long z; t_magnitude = t_long z }

  -- its contribution is its triangle's, at a corner c that it is welded to
  row-is-triangle : Sharp ss d → (c : Corner) (y : Sum) (t : ℕ) (i : Third) → t < length ss → welded c (corner_of (spot_at ss d t i)) ≡ true → add_row rows w (row t i) y ≡ contribute c y (get_or ss t d)
  unfolding add_row contribute add_spot weighed weighed_by
  row-is-triangle S c y t i l e =
      let x = get_or ss t d in
      let loose = ap (λ k. eqb (cell rows any_column k w) 1) (row-div t i) ∙ (ap (λ k. eqb k 1) (tells t l).loose ∙ flag_one x.any) in
      let own : corner_in c x ≡ some (spot_at ss d t i) = in_one c (corner_of (spot_at ss d t i)) x e ∙ one-triangle.sharp-own x (sharp-one S t l) i in
      (λ z. cond (loose z) y (weighed_by y ((brings t i l).angle z) (space-is t i l z))) ∙ sym (ap (λ o. cond x.any y (add_spot y o)) own)
    where
      in_one : (c e : Corner) (x : Triangle) → welded c e ≡ true → corner_in c x ≡ corner_in e x
      in_one c e x h = unfold corner_in in first-same _ _ (λ s. welded-as c e (corner_of s) h) _

      sharp-one : Sharp ss d → (t : ℕ) → t < length ss → one-triangle.Sharp (get_or ss t d)
      sharp-one S t l = unfold corner_of kept after in record { ab = S.apart t one l; bc = S.apart t two l; ca = S.apart t three l }

-- ---- a member of a group

module _ (rows : ℕ) (mesh : Handed) (ss : List Triangle) (d : Triangle) (groups count : ℕ) (w : List ℕ) (fit : (t : ℕ) (i : Third) → t < length ss → HeldVec (corner_of (spot_at ss d t i)).normal)
    (tells : Tells rows mesh ss d w) (brings : Contributed rows ss d w) (ls : List Link) (B : Between ss ls) (N : Names ss) (S : Sharp ss d) (G : Grouping rows ss d (marks ss ls) groups w) (I : InOrder rows ss groups count w)
    (h : Float) (q j : ℕ) (e : Mark) (l : j < length (marks ss ls)) (n : number_of rows w j ≡ q + 1) where
  abbrev ms : List Mark
  ms = marks ss ls

  abbrev m : Mark
  m = get_or ms j e

  abbrev r₀ : ℕ
  r₀ = cell rows met_column j w

  M : Member rows ss d groups w j m
  M = G.member j e l

  -- a row of a corner of the group
  abbrev Of : ℕ → Type 0
  Of r = (r < 3 * length ss) × (eqb (cell rows group_column r w) (q + 1) ≡ true)

  -- is welded to the corner at which the group started
  to_start : (t : ℕ) (i : Third) → t < length ss → eqb (cell rows group_column (row t i) w) (q + 1) ≡ true → welded (corner_of m.start) (corner_of (spot_at ss d t i)) ≡ true
  to_start t i b g = joined rows ss d groups w ls B N S G j e l t i b (ap (eqb (cell rows group_column (row t i) w)) n ∙ g)

  test-is : (t : ℕ) (i : Third) → t < length ss → eqb (cell rows group_column (row t i) w) (q + 1) ≡ true → joins_by h (peer_at rows r₀ w) (peer_at rows (row t i) w) ≡ joins h (corner_of m.spot).normal m.spot.tri (get_or ss t d)
  test-is t i b g =
      let s : welded (corner_of (spot_at ss d M.tri M.at)) (corner_of (spot_at ss d t i)) ≡ true = ap (λ x. welded (corner_of x) (corner_of (spot_at ss d t i))) (sym M.is) ∙ (sym (M.vertex (corner_of (spot_at ss d t i))) ∙ to_start t i b g) in
      ap (λ r. joins_by h (peer_at rows r w) (peer_at rows (row t i) w)) M.member
      ∙ (joins-is rows mesh ss d w fit tells brings h M.tri t M.at i M.inside b s ∙ ap (λ x. joins h (corner_of x).normal x.tri (get_or ss t d)) (sym M.is))

  -- by its number
  test_at : (r : ℕ) → Of r → joins_by h (peer_at rows r₀ w) (peer_at rows r w) ≡ joins h (corner_of m.spot).normal m.spot.tri (get_or ss (r / 3) d)
  test_at r (b, g) =
      let t = r / 3 in
      let i = third (r % 3) in
      ap (λ x. joins_by h (peer_at rows r₀ w) (peer_at rows x w)) (sym (row_is r)) ∙ test-is t i (tri-lt r (length ss) b) (ap (λ x. eqb (cell rows group_column x w) (q + 1)) (row_is r) ∙ g)

  add_at : (y : Sum) (r : ℕ) → Of r → add_row rows w r y ≡ contribute (corner_of m.start) y (get_or ss (r / 3) d)
  add_at y r (b, g) =
      let t = r / 3 in
      let i = third (r % 3) in
      let k = tri-lt r (length ss) b in
      ap (λ x. add_row rows w x y) (sym (row_is r)) ∙ row-is-triangle rows mesh ss d w fit tells brings S (corner_of m.start) y t i k (to_start t i k (ap (λ x. eqb (cell rows group_column x w) (q + 1)) (row_is r) ∙ g))

  -- what the member brings
  pub value-is : q < groups → (from to : ℕ) → begin_at rows groups count w q ≡ from → begin_at rows groups count w (q + 1) ≡ to → from ≤ to → to ≤ rows → columns * rows ≤ length w → value_of rows h r₀ from (to - from) w ≡ evaluate (corner_of m.start) (subgroup h ss ms m)
  unfolding value_of add_joined joins_at evaluate subgroup
  value-is few from to a b f g room =
      let L : List ℕ = slice from to (column rows order_column w) in
      let Q : ℕ → Bool = λ r. eqb (cell rows group_column r w) (q + 1) in
      let in_order : L ≡ keep Q (list_of (3 * length ss) (λ k. k)) = sym (λ z. slice (a z) (b z) (column rows order_column w)) ∙ I q few in
      let all : Every Of L = subst (Every Of) (sym in_order) (every-pair (every-keep Q (all-below (3 * length ss) (3 * length ss) (omega arith))) (keep-passes Q (list_of (3 * length ss) (λ k. k)))) in
      let them = sym (λ z. map (λ r. get_or ss (r / 3) d) (slice (a z) (b z) (column rows order_column w))) ∙ in-definition rows ss d groups w ls B N S G j e l q count n few I in
      ap finish
      (loop-run (to - from) (λ k. cell rows order_column (from + k) w) (λ y r. cond (joins_by h (peer_at rows r₀ w) (peer_at rows r w)) (add_row rows w r y) y) empty_sum
      ∙ (ap (run (λ y r. cond (joins_by h (peer_at rows r₀ w) (peer_at rows r w)) (add_row rows w r y) y) empty_sum) (sym (stretch-list rows order_column from to w f g (omega arith)))
      ∙ (sifted Of (λ r. joins_by h (peer_at rows r₀ w) (peer_at rows r w)) (joins h (corner_of m.spot).normal m.spot.tri) (λ r. get_or ss (r / 3) d) (λ y r. add_row rows w r y) (contribute (corner_of m.start)) test_at add_at empty_sum all
      ∙ ap (run (contribute (corner_of m.start)) empty_sum) (ap (keep (joins h (corner_of m.spot).normal m.spot.tri)) them ∙ keep-both (λ t. has (λ k. same_triangle k.spot.tri t) (members ms m)) (joins h (corner_of m.spot).normal m.spot.tri) ss))))

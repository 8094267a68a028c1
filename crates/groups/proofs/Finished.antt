-- Step 6 from the columns before it to what the later steps ask. Assumes nothing.
use Prim.Native.Nat.{ℕ, zero, suc, ◌+◌, ◌*◌, ◌≤◌, ◌<◌}
use native.Mathlib.Omega.{arith}
use mathlib.Core.Path.{◌≡◌, refl, sym, ◌∙◌, ap, subst}
use mathlib.Core.Bool.{Bool, true, false, cond, not, ◌&&◌, ◌||◌, true≢false, false≢true}
use mathlib.Core.List.{List, [], ◌∷◌}
use mathlib.Core.Option.{some}
use lib.Dec.{eqb}
use lib.ListN.{length, get_or}
use borrow.Author.Tests.{eq-eqb, ne_eqb, eqb-true}
use Rattle.laws.proofs.Closed.{Between}
use Rattle.tangent.specs.Slot.{flag}
use Rattle.table.specs.Table.{cell}
use Rattle.lists.specs.Loops.{up_to, list_of}
use Rattle.table.specs.Columns.{columns, vertex_column, link_column, orientation_column, any_column, group_column, met_column}
use Rattle.table.proofs.Laws.{get_or-column, filled-column}
use Rattle.lists.proofs.Loops.{length-list_of, get_or-list_of}
use Rattle.definition.specs.declared.Triangle.{Triangle}
use Rattle.lists.specs.Lists.{keep, first, has}
use Rattle.definition.specs.Mesh.{Third, one, two, three, Spot, after, kept as kept_at, corner_of, same_third, same_triangle, same_spot}
use Rattle.definition.specs.Step5Links.{Link, beyond}
use Rattle.definition.specs.Step6Groups.{Mark, grouped, way_of, touched, facing, corner_in, marks, members}
use Rattle.bits.proofs.Bools.{and_left, and_right}
use Rattle.definition.specs.Names.{Names}
use Rattle.laws.proofs.Weld.{welded-as}
use Rattle.laws.proofs.Laws.{one_corner, final-way}
use Rattle.laws.proofs.Sharp.{sharp-own}
use Rattle.view.specs.Frame.{outside, Only}
use Rattle.view.specs.Rows.{row, spot_at}
use Rattle.view.specs.Weld.{Sharp}
use Rattle.view.specs.Links.{LinkWord}
use Rattle.view.specs.Groups.{number_of, Member, Grouping}
use Rattle.view.proofs.Lists.{bool_iff, and_both, every-index}
use Rattle.view.proofs.Frame.{only-run, only-more, cell-kept}
use Rattle.view.proofs.Rows.{spot-row, row_fits}
use Rattle.groups.specs.Walk.{walk_columns, State, turn, cleared}
use Rattle.groups.specs.Marks.{Grouped, Asked, Walked}
use Rattle.groups.proofs.Laws.{ungrouped-le}
use Rattle.groups.proofs.Facing.{any-third, three-or}
use Rattle.groups.proofs.Turning.{all-turns}

-- ---- lists by index

pub has-at : {X : Type 0} (p : X → Bool) (l : List X) (i : ℕ) (d : X) → i < length l → p (get_or l i d) ≡ true → has p l ≡ true
unfolding has
has-at p [] i d h e = absurd (omega arith)
has-at p (x ∷ l) zero d h e = ap (λ b. b || has p l) e
has-at p (x ∷ l) (suc i) d h e = step (p x) (has-at p l i d (omega arith) e)
  where
    step : (b : Bool) → has p l ≡ true → (b || has p l) ≡ true
    step true q = refl
    step false q = q

pub record Index {X : Type 0} (p : X → Bool) (l : List X) (d : X) : Type 0 where
  pub at : ℕ
  pub inside : at < length l
  pub passes : p (get_or l at d) ≡ true

pub has-index : {X : Type 0} (p : X → Bool) (l : List X) (d : X) → has p l ≡ true → Index p l d
unfolding has
has-index p [] d e = absurd (false≢true e)
has-index p (x ∷ l) d e = step (p x) refl e (λ q. has-index p l d q)
  where
    step : (b : Bool) → p x ≡ b → (b || has p l) ≡ true → (has p l ≡ true → Index p l d) → Index p (x ∷ l) d
    step true q e f = record { at = 0; inside = omega arith; passes = q }
    step false q e f = let r = f e in record { at = suc r.at; inside = let h = r.inside in omega arith; passes = r.passes }

has-keep : {X : Type 0} (p q : X → Bool) (l : List X) → has p (keep q l) ≡ has (λ x. q x && p x) l
unfolding has keep
has-keep p q [] = refl
has-keep p q (x ∷ l) = step (q x) (has-keep p q l)
  where
    step : (b : Bool) → has p (keep q l) ≡ has (λ x. q x && p x) l → has p (cond b (x ∷ keep q l) (keep q l)) ≡ ((b && p x) || has (λ x. q x && p x) l)
    step true e = ap (λ r. p x || r) e
    step false e = e

has-three : {X : Type 0} (p a b c : X → Bool) → ((x : X) → p x ≡ (a x || (b x || c x))) → (l : List X) → has p l ≡ (has a l || (has b l || has c l))
unfolding has
has-three p a b c e [] = refl
has-three p a b c e (x ∷ l) = (λ k. e x k || has-three p a b c e l k) ∙ three-or (a x) (b x) (c x) (has a l) (has b l) (has c l)

and-three : (f b : Bool) (i : Third) → (f && b) ≡ ((f && (b && same_third i one)) || ((f && (b && same_third i two)) || (f && (b && same_third i three))))
and-three true b i = any-third b i
and-three false b i = refl

not-not : (b : Bool) → not b ≡ false → b ≡ true
not-not true e = refl
not-not false e = absurd (true≢false e)

-- ---- before

facing-first : (t : Triangle) → facing [] t t.orientation ≡ t.orientation
unfolding facing touched way_of first
facing-first t = step t.any
  where
    step : (b : Bool) → cond b t.orientation t.orientation ≡ t.orientation
    step true = refl
    step false = refl

module _ (rows : ℕ) (ss : List Triangle) (d : Triangle) (ls : List Link) (w : List ℕ) (fits : 3 * length ss ≤ rows) (long : columns * rows ≤ length w) (A : Asked rows ss d ls w) where
  abbrev u : List ℕ
  u = cleared rows w

  only-cleared : Only (group_column ∷ []) rows w u
  only-cleared = only-run (group_column ∷ []) rows group_column 0 w u (list_of rows (λ _. 0)) refl (omega arith) (omega (arith, length-list_of {S = ℕ} rows (λ _. 0))) refl

  kept : (k r : ℕ) → outside (group_column ∷ []) k ≡ true → r < rows → cell rows k r u ≡ cell rows k r w
  kept k r e h = cell-kept (group_column ∷ []) rows w u only-cleared k r e h

  empty : (r : ℕ) → r < rows → cell rows group_column r u ≡ 0
  empty r h =
      sym (get_or-column rows u group_column r h) ∙ (ap (λ (c : List ℕ). get_or c r 0) (filled-column rows group_column group_column (λ _. 0) w (omega arith)) ∙ get_or-list_of rows (λ _. 0) 0 r h)

  abbrev pub first-state : State
  first-state = record { work = u; groups = 0; members = 0 }

  full : columns * rows ≤ length u
  full = let a = only-cleared.size in omega arith

  pub none-grouped : Grouped rows ss d ls w [] [] first-state
  unfolding grouped has
  none-grouped = record {
    marked = record {
      fixed = record {
        vertex = λ t₁ t₂ i₁ i₂ h₁ h₂. (λ k. eqb (kept vertex_column (row t₁ i₁) refl (row_fits rows ss fits t₁ i₁ h₁) k) (kept vertex_column (row t₂ i₂) refl (row_fits rows ss fits t₂ i₂ h₂) k)) ∙ A.welds t₁ t₂ i₁ i₂ h₁ h₂;
        link = λ t i h. subst (LinkWord ss d (beyond ls (spot_at ss d t i))) (sym (kept link_column (row t i) refl (row_fits rows ss fits t i h))) (A.linked t i h);
        any = λ t h. ap (λ x. eqb x 0) (kept any_column t refl (omega arith)) ∙ A.any t h;
      };
      only = only-more (group_column ∷ []) walk_columns rows w u refl only-cleared;
      long = full;
      count = refl;
      room = let a = ungrouped-le rows u full in omega arith;
      group = λ t i h. ap (λ x. eqb x 0) (empty (row t i) (row_fits rows ss fits t i h));
      faces = λ t h. record { way = (get_or ss t d).orientation; word = kept orientation_column t refl (omega arith) ∙ A.way t h; is = facing-first (get_or ss t d); own = facing-first (get_or ss t d) };
      rest = λ t l r. kept orientation_column t refl r;
      stands = λ j e h. absurd (omega arith);
      order = λ j k l h. absurd (omega arith);
    };
    starts = record { place = λ q h. absurd (omega arith); in_group = λ q h. absurd (omega arith); apart = λ p q h k. absurd (omega arith) };
    groups = refl;
    begins = record { begin = λ q j l k. absurd (omega arith); begun = λ q l. absurd (omega arith); number = λ q l. absurd (omega arith); start = λ q e l. absurd (omega arith) };
    few = omega arith;
  }

-- ---- after

module _ (rows : ℕ) (ss : List Triangle) (d : Triangle) (ls : List Link) (B : Between ss ls) (N : Names ss) (w₀ : List ℕ) (gs : List Spot) (s : State) (R : Grouped rows ss d ls w₀ (marks ss ls) gs s) where
  abbrev ms : List Mark
  ms = marks ss ls

  abbrev w : List ℕ
  w = s.work

  number_is : (j : ℕ) (e : Mark) (h : j < length ms) → number_of rows w j ≡ (R.marked.stands j e h).group + 1
  number_is j e h = let S = R.marked.stands j e h in ap (λ r. cell rows group_column r w) S.member ∙ S.number

  member : (j : ℕ) (e : Mark) → j < length ms → Member rows ss d s.groups s.work j (get_or ms j e)
  member j e h =
      let S = R.marked.stands j e h in
      let F = R.marked.faces S.tri S.inside in
      let a = number_is j e h in
      let b = R.groups in
      let c = S.known in
      let same : (get_or ms j e).spot.tri ≡ get_or ss S.tri d = ap (λ x. x.tri) S.is in
      record {
        tri = S.tri;
        at = S.at;
        inside = S.inside;
        is = S.is;
        member = S.member;
        way = F.word ∙ ap flag (sym F.is ∙ (ap (λ t. facing ms t F.way) (sym same) ∙ every-index (final-way ss ls B) j e h F.way));
        some = omega arith;
        known = omega arith;
        vertex = λ x. welded-as (corner_of (get_or ms j e).start) (corner_of (get_or ms j e).spot) x (every-index (one_corner ss ls B) j e h);
      }

  same : (j k : ℕ) (e : Mark) → j < length ms → k < length ms → eqb (number_of rows w j) (number_of rows w k) ≡ same_spot (get_or ms j e).start (get_or ms k e).start
  same j k e h l =
      let S = R.marked.stands j e h in
      let T = R.marked.stands k e l in
      sym ((λ z. same_spot (S.start z) (T.start z)) ∙ (R.starts.apart S.group T.group S.known T.known
      ∙ bool_iff (eqb S.group T.group) (eqb (number_of rows w j) (number_of rows w k))
      (λ q. let a = eqb-true S.group T.group q in let b = number_is j e h in let c = number_is k e l in eq-eqb (number_of rows w j) (number_of rows w k) (omega arith))
      (λ q. let a = eqb-true (number_of rows w j) (number_of rows w k) q in let b = number_is j e h in let c = number_is k e l in eq-eqb S.group T.group (omega arith))))

  -- members of one number have one start
  one_start : (j k : ℕ) (e : Mark) → j < length ms → k < length ms → number_of rows w j ≡ number_of rows w k → (get_or ms j e).start ≡ (get_or ms k e).start
  one_start j k e h l z =
      let S = R.marked.stands j e h in
      let T = R.marked.stands k e l in
      let g : S.group ≡ T.group = let b = number_is j e h in let c = number_is k e l in omega arith in
      S.start ∙ (ap (λ q. get_or gs q (spot_at ss d 0 one)) g ∙ sym T.start)

  -- the row of a mark whose corner has a name
  row_of : (l : ℕ) (e : Mark) (t : ℕ) (i : Third) → l < length ms → t < length ss → same_spot (get_or ms l e).spot (spot_at ss d t i) ≡ true → cell rows met_column l w ≡ row t i
  row_of l e t i h k q =
      let S = R.marked.stands l e h in
      S.member ∙ eqb-true (row S.tri S.at) (row t i) (sym (spot-row N d S.tri t S.at i S.inside k) ∙ (ap (λ x. same_spot x (spot_at ss d t i)) (sym S.is) ∙ q))

  -- a corner of member j's group
  module _ (j : ℕ) (e : Mark) (t : ℕ) (h : j < length ms) (k : t < length ss) where
    abbrev ours : Third → Mark → Bool
    ours i x = same_spot x.start (get_or ms j e).start && same_spot x.spot (spot_at ss d t i)

    found : (i : Third) → has (ours i) ms ≡ true → eqb (cell rows group_column (row t i) w) (number_of rows w j) ≡ true
    found i q =
        let r = has-index (ours i) ms e q in
        let l = r.at in
        let a = row_of l e t i r.inside k (and_right (same_spot (get_or ms l e).start (get_or ms j e).start) (same_spot (get_or ms l e).spot (spot_at ss d t i)) r.passes) in
        let b = and_left (same_spot (get_or ms l e).start (get_or ms j e).start) (same_spot (get_or ms l e).spot (spot_at ss d t i)) r.passes in
        ap (λ x. eqb (cell rows group_column x w) (number_of rows w j)) (sym a) ∙ (same l j e r.inside h ∙ b)

    grouped-at : (i : Third) → eqb (cell rows group_column (row t i) w) (number_of rows w j) ≡ true → grouped ms (spot_at ss d t i) ≡ true
    grouped-at i q =
        let a = eqb-true (cell rows group_column (row t i) w) (number_of rows w j) q in
        let b = number_is j e h in
        not-not (grouped ms (spot_at ss d t i)) (sym (R.marked.group t i k) ∙ ne_eqb (cell rows group_column (row t i) w) 0 (λ z. omega arith))

    makes : (i : Third) → eqb (cell rows group_column (row t i) w) (number_of rows w j) ≡ true → has (ours i) ms ≡ true
    unfolding grouped
    makes i q =
        let r = has-index (λ x. same_spot x.spot (spot_at ss d t i)) ms e (grouped-at i q) in
        let l = r.at in
        let a = row_of l e t i r.inside k r.passes in
        let b : same_spot (get_or ms l e).start (get_or ms j e).start ≡ true = sym (same l j e r.inside h) ∙ (ap (λ x. eqb (cell rows group_column x w) (number_of rows w j)) a ∙ q) in
        has-at (ours i) ms l e r.inside (and_both (same_spot (get_or ms l e).start (get_or ms j e).start) (same_spot (get_or ms l e).spot (spot_at ss d t i)) b r.passes)

    ours-is : (i : Third) → has (ours i) ms ≡ eqb (cell rows group_column (row t i) w) (number_of rows w j)
    ours-is i = bool_iff (has (ours i) ms) (eqb (cell rows group_column (row t i) w) (number_of rows w j)) (found i) (makes i)

    among : has (λ x. same_triangle x.spot.tri (get_or ss t d)) (members ms (get_or ms j e)) ≡ (eqb (cell rows group_column (row t one) w) (number_of rows w j) || (eqb (cell rows group_column (row t two) w) (number_of rows w j) || eqb (cell rows group_column (row t three) w) (number_of rows w j)))
    unfolding members same_spot
    among =
        has-keep (λ x. same_triangle x.spot.tri (get_or ss t d)) (λ x. same_spot x.start (get_or ms j e).start) ms
        ∙ (has-three (λ x. same_spot x.start (get_or ms j e).start && same_triangle x.spot.tri (get_or ss t d)) (ours one) (ours two) (ours three)
        (λ x. and-three (same_spot x.start (get_or ms j e).start) (same_triangle x.spot.tri (get_or ss t d)) x.spot.at) ms
        ∙ (λ z. ours-is one z || (ours-is two z || ours-is three z)))

  pub grouping : Grouping rows ss d ms s.groups w
  grouping = record {
    few = let a = R.marked.count in let b = R.marked.room in omega arith;
    member = member;
    order = R.marked.order;
    same = same;
    one_start = one_start;
    begins = R.begins;
    free = R.marked.group;
    way = λ t h. let F = R.marked.faces t h in F.word ∙ ap flag (sym F.own);
    among = among;
  }

-- the corner of a sharp triangle that is welded to one of its corners is that corner
own-corner : (ss : List Triangle) (d : Triangle) → Sharp ss d → (t : ℕ) (i : Third) → t < length ss → corner_in (corner_of (spot_at ss d t i)) (get_or ss t d) ≡ some (spot_at ss d t i)
unfolding corner_of kept_at after
own-corner ss d S t i h = sharp-own (get_or ss t d) (record { ab = S.apart t one h; bc = S.apart t two h; ca = S.apart t three h }) i

-- step 6: what the loop over the columns leaves stands for the definition's marks
pub all-walked : (rows tris : ℕ) (ss : List Triangle) (d : Triangle) (ls : List Link) → Between ss ls → (w u : List ℕ) (groups count : ℕ) → length ss ≡ tris → 3 * tris ≤ rows → columns * rows ≤ length w → Names ss → Sharp ss d → Asked rows ss d ls w → record { work = u; groups = groups; members = count } ≡ up_to (3 * tris) (turn rows) (record { work = cleared rows w; groups = 0; members = 0 }) → Walked rows ss d ls w u groups count
all-walked rows tris ss d ls B w u groups count n fits long N S A e =
    let fit : 3 * length ss ≤ rows = omega arith in
    let r = all-turns rows ss d ls B N fit w (own-corner ss d S) (first-state rows ss d ls w fit long A) (none-grouped rows ss d ls w fit long A) refl in
    let same : up_to (3 * length ss) (turn rows) (first-state rows ss d ls w fit long A) ≡ record { work = u; groups = groups; members = count } = ap (λ (m : ℕ). up_to (3 * m) (turn rows) (first-state rows ss d ls w fit long A)) n ∙ sym e in
    let R = subst (Grouped rows ss d ls w (marks ss ls) r.0) same r.1 in
    record {
      count_is = R.marked.count;
      grouping = grouping rows ss d ls B N w r.0 _ R;
      rest = R.marked.rest;
    }

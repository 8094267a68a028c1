-- Stores in other columns leave the groups, and their members in triangle order. Assumes nothing.
use Prim.Native.Nat.{ℕ, ◌+◌, ◌*◌, ◌≤◌, ◌<◌}
use native.Mathlib.Omega.{arith}
use mathlib.Core.Path.{◌≡◌, refl, sym, ◌∙◌, ap, subst}
use mathlib.Core.Bool.{Bool, true, false, cond, ◌||◌}
use mathlib.Core.List.{List, [], ◌∷◌}
use lib.Dec.{eqb, leb, ltb}
use lib.ListN.{length, get_or}
use lib.Seq.{slice}
use borrow.Author.Tests.{ltb-true}
use Rattle.table.specs.Table.{cell}
use Rattle.table.specs.Columns.{orientation_column, group_column, met_column, order_column, begin_column}
use Rattle.lists.specs.Loops.{list_of}
use Rattle.lists.proofs.Loops.{length-list_of, get_or-list_of}
use Rattle.definition.specs.declared.Triangle.{Triangle}
use Rattle.definition.specs.Mesh.{Third, one, two, three}
use Rattle.definition.specs.Step6Groups.{Mark}
use Rattle.view.specs.Frame.{outside, disjoint, Only}
use Rattle.view.specs.Rows.{row}
use Rattle.view.specs.Groups.{number_of, Grouping, begin_at, InOrder}
use Rattle.view.proofs.Frame.{apart, cell-kept}
use Rattle.laws.proofs.Part.{keep_same}
use Rattle.view.proofs.Lists.{index-every}
use Rattle.view.proofs.Rows.{row_fits}

-- the columns of the groups
abbrev pub group_columns : List ℕ
group_columns = group_column ∷ met_column ∷ orientation_column ∷ begin_column ∷ []

module _ (rows : ℕ) (ss : List Triangle) (d : Triangle) (ms : List Mark) (groups : ℕ) (ks w u : List ℕ) (c : disjoint group_columns ks ≡ true) (fits : 3 * length ss ≤ rows) (room : groups ≤ rows) (O : Only ks rows w u) (G : Grouping rows ss d ms groups w) where
  kept : (k r : ℕ) → outside group_columns k ≡ false → r < rows → cell rows k r u ≡ cell rows k r w
  kept k r e h = cell-kept ks rows w u O k r (apart group_columns ks c k e) h

  -- the numbers of the members stand
  number-kept : (j : ℕ) (e : Mark) → j < length ms → number_of rows u j ≡ number_of rows w j
  number-kept j e h =
      let M = G.member j e h in
      ap (λ r. cell rows group_column r u) (kept met_column j refl (omega (arith, h, G.few)) ∙ M.member) ∙ (kept group_column (row M.tri M.at) refl (row_fits rows ss fits M.tri M.at M.inside) ∙ ap (λ r. cell rows group_column r w) (sym M.member))

  begin-kept : (q : ℕ) → q < groups → cell rows begin_column q u ≡ cell rows begin_column q w
  begin-kept q h = kept begin_column q refl (omega arith)

  group-kept : (t : ℕ) (i : Third) → t < length ss → cell rows group_column (row t i) u ≡ cell rows group_column (row t i) w
  group-kept t i h = kept group_column (row t i) refl (row_fits rows ss fits t i h)

  pub grouping-kept : Mark → Grouping rows ss d ms groups u
  grouping-kept m₀ = record {
    few = G.few;
    member = λ j e h.
        let M = G.member j e h in
        record {
          tri = M.tri;
          at = M.at;
          inside = M.inside;
          is = M.is;
          member = kept met_column j refl (omega (arith, h, G.few)) ∙ M.member;
          way = kept orientation_column M.tri refl (omega (arith, M.inside)) ∙ M.way;
          some = subst (λ x. 0 < x) (sym (number-kept j e h)) M.some;
          known = subst (λ x. x ≤ groups) (sym (number-kept j e h)) M.known;
          vertex = M.vertex;
        };
    order = λ j k l h. subst (λ x. x ≤ number_of rows u k) (sym (number-kept j m₀ (omega arith))) (subst (λ x. number_of rows w j ≤ x) (sym (number-kept k m₀ h)) (G.order j k l h));
    same = λ j k e h l. (λ z. eqb (number-kept j e h z) (number-kept k e l z)) ∙ G.same j k e h l;
    one_start = λ j k e h l z. G.one_start j k e h l (sym (number-kept j e h) ∙ (z ∙ number-kept k e l));
    begins =
        record {
          begin = λ q j h l. (λ z. leb (begin-kept q h z) j) ∙ (G.begins.begin q j h l ∙ ap (ltb q) (sym (number-kept j m₀ l)));
          begun = λ q h. subst (λ x. x < length ms) (sym (begin-kept q h)) (G.begins.begun q h);
          number = λ q h. ap (number_of rows u) (begin-kept q h) ∙ (number-kept (cell rows begin_column q w) m₀ (G.begins.begun q h) ∙ G.begins.number q h);
          start = λ q e h. subst (λ x. (get_or ms x e).spot ≡ (get_or ms x e).start) (sym (begin-kept q h)) (G.begins.start q e h);
        };
    free = λ t i h. ap (λ x. eqb x 0) (group-kept t i h) ∙ G.free t i h;
    way = λ t h. kept orientation_column t refl (omega arith) ∙ G.way t h;
    among = λ j e t h l. G.among j e t h l ∙ sym (λ z. eqb (group-kept t one l z) (number-kept j e h z) || (eqb (group-kept t two l z) (number-kept j e h z) || eqb (group-kept t three l z) (number-kept j e h z)));
  }

-- the columns of the members in triangle order
abbrev pub ordered_columns : List ℕ
ordered_columns = order_column ∷ group_column ∷ begin_column ∷ []

module _ (rows : ℕ) (ss : List Triangle) (groups count : ℕ) (ks w u : List ℕ) (c : disjoint ordered_columns ks ≡ true) (fits : 3 * length ss ≤ rows) (room : groups ≤ rows) (O : Only ks rows w u) where
  stays : (k r : ℕ) → outside ordered_columns k ≡ false → r < rows → cell rows k r u ≡ cell rows k r w
  stays k r e h = cell-kept ks rows w u O k r (apart ordered_columns ks c k e) h

  begin-stays : (q : ℕ) → begin_at rows groups count u q ≡ begin_at rows groups count w q
  begin-stays q = step (ltb q groups) refl
    where
      step : (b : Bool) → ltb q groups ≡ b → cond b (cell rows begin_column q u) count ≡ cond b (cell rows begin_column q w) count
      step true h = stays begin_column q refl (omega (arith, ltb-true q groups h))
      step false h = refl

  pub in-order-kept : InOrder rows ss groups count w → InOrder rows ss groups count u
  in-order-kept I q h =
      let n = length-list_of (3 * length ss) (λ k. k) in
      (λ z. slice (begin-stays q z) (begin-stays (q + 1) z) (O.others order_column (apart ordered_columns ks c order_column refl) z))
      ∙ (I q h
      ∙ keep_same (λ r. eqb (cell rows group_column r w) (q + 1)) (λ r. eqb (cell rows group_column r u) (q + 1))
      (index-every (λ r. eqb (cell rows group_column r w) (q + 1) ≡ eqb (cell rows group_column r u) (q + 1)) (list_of (3 * length ss) (λ k. k)) 0
      (λ k l.
      let b : k < 3 * length ss = omega arith in
      ap (λ x. eqb x (q + 1)) (sym (stays group_column (get_or (list_of (3 * length ss) (λ k. k)) k 0) refl (omega (arith, get_or-list_of (3 * length ss) (λ k. k) 0 k b)))))))

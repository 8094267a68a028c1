-- One corner is marked: in the columns, and in the definition's list. Assumes nothing.
use Prim.Native.Nat.{ℕ, suc, ◌+◌, ◌*◌, ◌≤◌, ◌<◌}
use native.Mathlib.Nat.{eq-or-lt_of_le, le_refl}
use native.Mathlib.Omega.{arith}
use mathlib.Core.Path.{◌≡◌, refl, sym, ◌∙◌, ap, subst}
use mathlib.Core.Bool.{Bool, true, false, not, ◌||◌, or-true}
use mathlib.Core.List.{List, [], ◌∷◌, ◌++◌}
use mathlib.Core.Logic.{⊎_elim}
use lib.Dec.{eqb}
use lib.ListN.{length, get_or, length-set, length-append, get_or-append}
use lib.Seq.{get_or-set_same, get_or-set_other, get_or_at}
use borrow.Author.Tests.{ne_eqb, eqb-true, eqb-false}
use Rattle.laws.proofs.Closed.{Between}
use Rattle.tangent.specs.Slot.{flag}
use Rattle.table.specs.Table.{cell, put, column}
use Rattle.table.specs.Columns.{vertex_column, link_column, orientation_column, any_column, group_column, met_column, begin_column}
use Rattle.table.proofs.Laws.{column-set}
use Rattle.definition.specs.declared.Triangle.{Triangle}
use Rattle.definition.specs.Mesh.{Third, one, two, three, Spot}
use Rattle.definition.specs.Step5Links.{Link, beyond}
use Rattle.definition.specs.Step6Groups.{Mark, grouped, stops}
use Rattle.definition.specs.Names.{Names}
use Rattle.laws.proofs.Bridge.{index_same}
use Rattle.laws.proofs.Laws.{mark, settled-new}
use Rattle.view.specs.Frame.{Only}
use Rattle.view.specs.Rows.{num, row, spot_at}
use Rattle.view.specs.Links.{LinkWord}
use Rattle.view.specs.Groups.{number_of}
use Rattle.view.proofs.Frame.{only-put}
use Rattle.view.proofs.Rows.{num-lt, spot-row, row_fits}
use Rattle.groups.specs.Walk.{walk_columns, untouched, adopted, ungrouped}
use Rattle.groups.specs.Marks.{Fixed, Stands, Faces, Marked}
use Rattle.groups.proofs.Laws.{cond-case, adopted-column, only-adopted, marked-grown}
use Rattle.groups.proofs.Facing.{grouped-snoc, facing-other}

or-false : (b : Bool) → (b || false) ≡ b
or-false true = refl
or-false false = refl

-- ---- words that a mark leaves as they are

module _ (rows t o : ℕ) (w : List ℕ) where
  pub adopted-kept : (p : ℕ) → (p ≡ orientation_column * rows + t → ⊥) → get_or (adopted rows t o w) p 0 ≡ get_or w p 0
  unfolding adopted
  adopted-kept p ne = cond-case (λ (u : List ℕ). get_or u p 0 ≡ get_or w p 0) (untouched rows t w) (put rows orientation_column t o w) w (λ _. get_or-set_other w (orientation_column * rows + t) p o 0 ne) (λ _. refl)

  pub adopted-length : length (adopted rows t o w) ≡ length w
  unfolding adopted
  adopted-length = cond-case (λ (u : List ℕ). length u ≡ length w) (untouched rows t w) (put rows orientation_column t o w) w (λ _. length-set w (orientation_column * rows + t) o) (λ _. refl)

pub num-not-three : (i : Third) → eqb (num i) 3 ≡ false
unfolding num
num-not-three one = refl
num-not-three two = refl
num-not-three three = refl

-- the work list after the mark
abbrev pub after : ℕ → ℕ → ℕ → ℕ → ℕ → Third → List ℕ → List ℕ
after rows t o n G i w = put rows group_column (row t i) G (put rows met_column n (row t i) (adopted rows t o w))

module _ (rows t o n G : ℕ) (i : Third) (w : List ℕ) where
  pub after_kept : (p : ℕ) → (p ≡ group_column * rows + row t i → ⊥) → (p ≡ met_column * rows + n → ⊥) → (p ≡ orientation_column * rows + t → ⊥) → get_or (after rows t o n G i w) p 0 ≡ get_or w p 0
  after_kept p a b c =
      get_or-set_other (put rows met_column n (row t i) (adopted rows t o w)) (group_column * rows + row t i) p G 0 a
      ∙ (get_or-set_other (adopted rows t o w) (met_column * rows + n) p (row t i) 0 b ∙ adopted-kept rows t o w p c)

  pub after-length : length (after rows t o n G i w) ≡ length w
  after-length =
      length-set (put rows met_column n (row t i) (adopted rows t o w)) (group_column * rows + row t i) G
      ∙ (length-set (adopted rows t o w) (met_column * rows + n) (row t i) ∙ adopted-length rows t o w)

module _ (rows : ℕ) (ss : List Triangle) (d : Triangle) (ls : List Link) (B : Between ss ls) (N : Names ss) (fits : 3 * length ss ≤ rows) where
  module _ (w₀ : List ℕ) (gs : List Spot) (g : Spot) (q G o : ℕ) (last : length gs ≡ q + 1) (Ge : G ≡ q + 1) (ge : g ≡ get_or gs q (spot_at ss d 0 one)) (oe : o ≡ flag g.tri.orientation) (ms : List Mark) (w : List ℕ) (n : ℕ) (R : Marked rows ss d ls w₀ ms gs w n)
      (t : ℕ) (i : Third) (h : t < length ss) (go_on : stops ms g.tri.orientation (spot_at ss d t i) ≡ false) (zero-at : cell rows group_column (row t i) w ≡ 0) (agrees : cell rows orientation_column t (adopted rows t o w) ≡ o) where
    abbrev u : List ℕ
    u = after rows t o n G i w

    abbrev m : Mark
    m = mark g (spot_at ss d t i)

    grown : suc (ungrouped rows u) ≡ ungrouped rows w
    grown = let a = num-lt i in (marked-grown rows t G 0 o n w (omega arith) R.long (omega arith) R.room (num i) a zero-at).1

    n-lt : n < rows
    n-lt = let a = grown in let b = R.room in omega arith

    kept : (p : ℕ) → (p ≡ group_column * rows + row t i → ⊥) → (p ≡ met_column * rows + n → ⊥) → (p ≡ orientation_column * rows + t → ⊥) → get_or u p 0 ≡ get_or w p 0
    kept = after_kept rows t o n G i w

    pub vertex-kept : (t' : ℕ) (i' : Third) → t' < length ss → cell rows vertex_column (row t' i') u ≡ cell rows vertex_column (row t' i') w
    vertex-kept t' i' h' =
        let a = row_fits rows ss fits t' i' h' in let b = row_fits rows ss fits t i h in let c = n-lt in
        kept (vertex_column * rows + row t' i') (λ e. omega arith) (λ e. omega arith) (λ e. omega arith)

    link-kept : (t' : ℕ) (i' : Third) → t' < length ss → cell rows link_column (row t' i') u ≡ cell rows link_column (row t' i') w
    link-kept t' i' h' =
        let a = row_fits rows ss fits t' i' h' in let b = row_fits rows ss fits t i h in let c = n-lt in
        kept (link_column * rows + row t' i') (λ e. omega arith) (λ e. omega arith) (λ e. omega arith)

    any-kept : (t' : ℕ) → t' < length ss → cell rows any_column t' u ≡ cell rows any_column t' w
    any-kept t' h' =
        let b = row_fits rows ss fits t i h in let c = n-lt in
        kept (any_column * rows + t') (λ e. omega arith) (λ e. omega arith) (λ e. omega arith)

    group-kept : (r : ℕ) → r < rows → (r ≡ row t i → ⊥) → cell rows group_column r u ≡ cell rows group_column r w
    group-kept r h' ne =
        let b = row_fits rows ss fits t i h in let c = n-lt in
        kept (group_column * rows + r) (λ e. ne (omega arith)) (λ e. omega arith) (λ e. omega arith)

    way-kept : (t' : ℕ) → t' < rows → (t' ≡ t → ⊥) → cell rows orientation_column t' u ≡ cell rows orientation_column t' w
    way-kept t' h' ne =
        let b = row_fits rows ss fits t i h in let c = n-lt in
        kept (orientation_column * rows + t') (λ e. omega arith) (λ e. omega arith) (λ e. ne (omega arith))

    met-kept : (j : ℕ) → j < n → cell rows met_column j u ≡ cell rows met_column j w
    met-kept j h' =
        let b = row_fits rows ss fits t i h in let c = n-lt in
        kept (met_column * rows + j) (λ e. omega arith) (λ e. omega arith) (λ e. omega arith)

    group_at : cell rows group_column (row t i) u ≡ G
    group_at =
        let b = row_fits rows ss fits t i h in let c = R.long in
        let l = length-set (adopted rows t o w) (met_column * rows + n) (row t i) ∙ adopted-length rows t o w in
        get_or-set_same (put rows met_column n (row t i) (adopted rows t o w)) (group_column * rows + row t i) G 0 (omega arith)

    met_at : cell rows met_column n u ≡ row t i
    met_at =
        let b = row_fits rows ss fits t i h in let c = n-lt in let k = R.long in let l = adopted-length rows t o w in
        get_or-set_other (put rows met_column n (row t i) (adopted rows t o w)) (group_column * rows + row t i) (met_column * rows + n) G 0 (λ e. omega arith)
        ∙ get_or-set_same (adopted rows t o w) (met_column * rows + n) (row t i) 0 (omega arith)

    way_at : cell rows orientation_column t u ≡ o
    way_at =
        let b = row_fits rows ss fits t i h in let c = n-lt in let l = num-lt i in
        get_or-set_other (put rows met_column n (row t i) (adopted rows t o w)) (group_column * rows + row t i) (orientation_column * rows + t) G 0 (λ e. omega arith)
        ∙ (get_or-set_other (adopted rows t o w) (met_column * rows + n) (orientation_column * rows + t) (row t i) 0 (λ e. omega arith) ∙ agrees)

    fixed : Fixed rows ss d ls u
    fixed = record {
      vertex = λ t₁ t₂ i₁ i₂ h₁ h₂. ap (λ x. eqb x (cell rows vertex_column (row t₂ i₂) u)) (vertex-kept t₁ i₁ h₁) ∙ (ap (λ x. eqb (cell rows vertex_column (row t₁ i₁) w) x) (vertex-kept t₂ i₂ h₂) ∙ R.fixed.vertex t₁ t₂ i₁ i₂ h₁ h₂);
      link = λ t₁ i₁ h₁. subst (λ x. LinkWord ss d (beyond ls (spot_at ss d t₁ i₁)) x) (sym (link-kept t₁ i₁ h₁)) (R.fixed.link t₁ i₁ h₁);
      any = λ t₁ h₁. ap (λ x. eqb x 0) (any-kept t₁ h₁) ∙ R.fixed.any t₁ h₁;
    }

    group : (t' : ℕ) (i' : Third) → t' < length ss → eqb (cell rows group_column (row t' i') u) 0 ≡ not (grouped (ms ++ (m ∷ [])) (spot_at ss d t' i'))
    group t' i' h' = step (eqb (row t i) (row t' i')) refl
      where
        said : grouped (ms ++ (m ∷ [])) (spot_at ss d t' i') ≡ (grouped ms (spot_at ss d t' i') || eqb (row t i) (row t' i'))
        said = grouped-snoc ms m (spot_at ss d t' i') ∙ ap (λ b. grouped ms (spot_at ss d t' i') || b) (spot-row N d t t' i i' h h')

        step : (b : Bool) → eqb (row t i) (row t' i') ≡ b → eqb (cell rows group_column (row t' i') u) 0 ≡ not (grouped (ms ++ (m ∷ [])) (spot_at ss d t' i'))
        step true e =
            let same = eqb-true (row t i) (row t' i') e in
            let is = ap (λ r. cell rows group_column r u) (sym same) ∙ group_at in
            ap (λ x. eqb x 0) is ∙ (ne_eqb G 0 (λ z. omega arith) ∙ sym (ap not (said ∙ (ap (λ b. grouped ms (spot_at ss d t' i') || b) e ∙ or-true (grouped ms (spot_at ss d t' i'))))))
        step false e =
            ap (λ x. eqb x 0) (group-kept (row t' i') (row_fits rows ss fits t' i' h') (λ z. eqb-false (row t i) (row t' i') e (sym z)))
            ∙ (R.group t' i' h' ∙ sym (ap not (said ∙ (ap (λ b. grouped ms (spot_at ss d t' i') || b) e ∙ or-false (grouped ms (spot_at ss d t' i'))))))

    faces : (t' : ℕ) → t' < length ss → Faces (ms ++ (m ∷ [])) (get_or ss t' d) (cell rows orientation_column t' u)
    faces t' h' = step (eqb t t') refl
      where
        step : (b : Bool) → eqb t t' ≡ b → Faces (ms ++ (m ∷ [])) (get_or ss t' d) (cell rows orientation_column t' u)
        step true e =
            let new : Faces (ms ++ (m ∷ [])) (get_or ss t d) (cell rows orientation_column t u) = record { way = g.tri.orientation; word = way_at ∙ oe; is = (settled-new ms g (spot_at ss d t i) go_on).way g.tri.orientation; own = (settled-new ms g (spot_at ss d t i) go_on).way (get_or ss t d).orientation } in
            subst (λ x. Faces (ms ++ (m ∷ [])) (get_or ss x d) (cell rows orientation_column x u)) (eqb-true t t' e) new
        step false e =
            let F = R.faces t' h' in
            record {
              way = F.way;
              word = way-kept t' (omega arith) (λ z. eqb-false t t' e (sym z)) ∙ F.word;
              is = facing-other ms m (get_or ss t' d) F.way (index_same N t t' d h h' ∙ e) ∙ F.is;
              own = facing-other ms m (get_or ss t' d) (get_or ss t' d).orientation (index_same N t t' d h h' ∙ e) ∙ F.own;
            }

    -- a member's corner is none that is in no group
    ungrouped-other : (j : ℕ) (e : Mark) (l : j < length ms) → row (R.stands j e l).tri (R.stands j e l).at ≡ row t i → ⊥
    ungrouped-other j e l z = let a = ap (λ r. cell rows group_column r w) z ∙ zero-at in let b = (R.stands j e l).number in omega arith

    stands : (j : ℕ) (e : Mark) → j < length (ms ++ (m ∷ [])) → Stands rows ss d gs u j (get_or (ms ++ (m ∷ [])) j e)
    stands j e h' = ⊎_elim new old (eq-or-lt_of_le le)
      where
        le : j ≤ length ms
        le = let a = length-append ms (m ∷ []) in omega arith

        new : j ≡ length ms → Stands rows ss d gs u j (get_or (ms ++ (m ∷ [])) j e)
        new p =
            let is : Stands rows ss d gs u j m = record {
              tri = t;
              at = i;
              inside = h;
              is = refl;
              member = ap (λ x. cell rows met_column x u) (p ∙ sym R.count) ∙ met_at;
              group = q;
              known = omega arith;
              number = group_at ∙ Ge;
              start = ge;
              way = refl;
            } in
            subst (Stands rows ss d gs u j) (sym (get_or_at ms m [] e j (sym p))) is

        old : j < length ms → Stands rows ss d gs u j (get_or (ms ++ (m ∷ [])) j e)
        old l =
            let S = R.stands j e l in
            let c = R.count in
            let is : Stands rows ss d gs u j (get_or ms j e) = record {
              tri = S.tri;
              at = S.at;
              inside = S.inside;
              is = S.is;
              member = met-kept j (omega arith) ∙ S.member;
              group = S.group;
              known = S.known;
              number = group-kept (row S.tri S.at) (row_fits rows ss fits S.tri S.at S.inside) (ungrouped-other j e l) ∙ S.number;
              start = S.start;
              way = S.way;
            } in
            subst (Stands rows ss d gs u j) (sym (get_or-append ms (m ∷ []) e j l)) is

    -- the numbers of the members
    pub number-kept : (j : ℕ) → j < length ms → number_of rows u j ≡ number_of rows w j
    number-kept j l =
        let S = R.stands j m l in
        let c = R.count in
        ap (λ r. cell rows group_column r u) (met-kept j (omega arith) ∙ S.member)
        ∙ (group-kept (row S.tri S.at) (row_fits rows ss fits S.tri S.at S.inside) (ungrouped-other j m l) ∙ ap (λ r. cell rows group_column r w) (sym S.member))

    pub number-new : number_of rows u (length ms) ≡ G
    number-new = ap (λ r. cell rows group_column r u) (ap (λ x. cell rows met_column x u) (sym R.count) ∙ met_at) ∙ group_at

    number-le : (j : ℕ) → j < length ms → number_of rows w j ≤ G
    number-le j l =
        let S = R.stands j m l in
        let a = ap (λ r. cell rows group_column r w) S.member ∙ S.number in
        let b = S.known in
        omega arith

    order : (j k : ℕ) → j ≤ k → k < length (ms ++ (m ∷ [])) → number_of rows u j ≤ number_of rows u k
    order j k le h' = ⊎_elim new old (eq-or-lt_of_le k-le)
      where
        k-le : k ≤ length ms
        k-le = let a = length-append ms (m ∷ []) in omega arith

        last_one : j ≡ length ms → k ≡ length ms → number_of rows u j ≤ number_of rows u k
        last_one p r = subst (λ x. number_of rows u j ≤ cell rows group_column (cell rows met_column x u) u) (p ∙ sym r) (le_refl (number_of rows u j))

        before_last : k ≡ length ms → j < length ms → number_of rows u j ≤ number_of rows u k
        before_last p l =
            let a = number-kept j l in
            let b = number-le j l in
            let c = ap (λ x. cell rows group_column (cell rows met_column x u) u) p ∙ number-new in
            omega arith

        new : k ≡ length ms → number_of rows u j ≤ number_of rows u k
        new p = ⊎_elim (λ r. last_one r p) (λ l. before_last p l) (eq-or-lt_of_le (subst (λ x. j ≤ x) p le))

        old : k < length ms → number_of rows u j ≤ number_of rows u k
        old l =
            let a = number-kept j (omega arith) in
            let b = number-kept k l in
            let c = R.order j k le l in
            omega arith

    only : Only walk_columns rows w₀ u
    only =
        let a = row_fits rows ss fits t i h in
        only-put walk_columns rows w₀ (put rows met_column n (row t i) (adopted rows t o w)) group_column (row t i) G refl (omega arith) a
        (only-put walk_columns rows w₀ (adopted rows t o w) met_column n (row t i) refl (omega arith) n-lt (only-adopted rows t o w₀ w (omega arith) R.only))

    -- a mark leaves the column of where groups begin
    pub begin-kept : column rows begin_column u ≡ column rows begin_column w
    begin-kept =
        let a = row_fits rows ss fits t i h in
        column-set rows begin_column group_column (row t i) G (put rows met_column n (row t i) (adopted rows t o w)) a
        ∙ (column-set rows begin_column met_column n (row t i) (adopted rows t o w) n-lt ∙ adopted-column rows t o w (omega arith) begin_column refl)

    pub mark-more : Marked rows ss d ls w₀ (ms ++ (m ∷ [])) gs u (n + 1)
    mark-more = record {
      fixed = fixed;
      only = only;
      long = let a = after-length rows t o n G i w in let b = R.long in omega arith;
      count = let a = length-append ms (m ∷ []) in let b = R.count in omega arith;
      room = let a = grown in let b = R.room in omega arith;
      group = group;
      faces = faces;
      rest = λ t' l r. way-kept t' r (λ z. omega arith) ∙ R.rest t' l r;
      stands = stands;
      order = order;
    }

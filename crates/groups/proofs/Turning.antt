-- The turns of all corners: the columns after step 6 stand for the definition's marks. Assumes nothing.
use Prim.Native.Nat.{ℕ, zero, suc, ◌+◌, ◌*◌, ◌/◌, ◌≤◌, ◌<◌}
use native.Mathlib.Nat.{eq-or-lt_of_le, le_refl}
use native.Mathlib.Omega.{arith}
use mathlib.Core.Path.{◌≡◌, refl, sym, ◌∙◌, ap, subst}
use mathlib.Core.Bool.{Bool, true, false, cond, not, ◌||◌, true≢false}
use mathlib.Core.List.{List, [], ◌∷◌, ◌++◌, append_assoc}
use mathlib.Core.Logic.{⊎_elim}
use mathlib.Core.Option.{some}
use lib.Dec.{eqb, leb, ltb}
use lib.ListN.{length, get_or, take, length-append, get_or-append}
use lib.Seq.{get_or_at, take-suc, take-length, get_or-set_same, get_or-set_other}
use borrow.Author.Tests.{eq-eqb, ne_eqb, eqb-true, le-leb, lt-leb, lt-ltb, le-ltb, ltb-true, ltb-false}
use Rattle.view.proofs.Weld.{spots-append}
use Rattle.laws.proofs.Closed.{Between}
use Rattle.tangent.specs.Slot.{flag}
use Rattle.table.specs.Table.{cell, column}
use Rattle.lists.specs.Loops.{up_to}
use Rattle.table.specs.Columns.{vertex_column, link_column, orientation_column, any_column, group_column, met_column, begin_column}
use Rattle.table.proofs.Laws.{get_or-column}
use Rattle.definition.specs.declared.Triangle.{Triangle}
use Rattle.lists.specs.Lists.{run}
use Rattle.definition.specs.Mesh.{Third, one, two, three, Spot, corner_of, same_spot}
use Rattle.definition.specs.Step4Order.{spots}
use Rattle.definition.specs.Step5Links.{Link, beyond}
use Rattle.definition.specs.Step6Groups.{Mark, grouped, way_of, touched, facing, corner_in, going, walk, fan, start_at, marks}
use Rattle.laws.proofs.Enough.{Grows, spot-refl}
use Rattle.laws.proofs.Weld.{welded-refl}
use Rattle.definition.specs.Names.{Names}
use Rattle.laws.proofs.Mutual.{spot-sym}
use Rattle.laws.proofs.Laws.{mark, start-marks, start_first, start-grows}
use Rattle.view.specs.Rows.{num, row, spot_at}
use Rattle.view.specs.Groups.{number_of, Begins}
use Rattle.view.specs.Frame.{outside, Only}
use Rattle.view.specs.Links.{LinkWord}
use Rattle.view.proofs.Frame.{only_none, only-trans, only-more, only-put, cell-kept}
use Rattle.view.proofs.Rows.{row_lt, row-div, row-inj, at-inj, spot-row, spot_in, row_fits}
use Rattle.lists.specs.Zeros.{zeros}
use Rattle.groups.specs.Walk.{walk_columns, walk as walk_of, corner, ungrouped, State, started, begun, turn}
use Rattle.groups.specs.Marks.{Place, Stands, Faces, Marked, Starts, Grouped}
use Rattle.groups.proofs.Entering.{Going}
use Rattle.groups.proofs.Walking.{in_step, fan-le, walk-fuel}

-- the orientation of a triangle that isn't `group_with_any` is its own
pub faces-own : (ms : List Mark) (t : Triangle) (x : ℕ) → Faces ms t x → t.any ≡ false → x ≡ flag t.orientation
unfolding facing
faces-own ms t x F f = F.word ∙ ap flag (sym F.is ∙ ap (λ b. cond b (way_of F.way (touched ms t)) t.orientation) f)

module _ (rows : ℕ) (ss : List Triangle) (d : Triangle) (ls : List Link) (B : Between ss ls) (N : Names ss) (fits : 3 * length ss ≤ rows) (w₀ : List ℕ) where
  abbrev s₀ : Spot
  s₀ = spot_at ss d 0 one

  -- ---- one start more

  more-stands : (gs : List Spot) (s : Spot) (w : List ℕ) (j : ℕ) (m : Mark) → Stands rows ss d gs w j m → Stands rows ss d (gs ++ (s ∷ [])) w j m
  more-stands gs s w j m S = record {
    tri = S.tri;
    at = S.at;
    inside = S.inside;
    is = S.is;
    member = S.member;
    group = S.group;
    known = let a = length-append gs (s ∷ []) in let b = S.known in omega arith;
    number = S.number;
    start = S.start ∙ sym (get_or-append gs (s ∷ []) s₀ S.group S.known);
    way = S.way;
  }

  more-marked : (ms : List Mark) (gs : List Spot) (s : Spot) (w : List ℕ) (n : ℕ) → Marked rows ss d ls w₀ ms gs w n → Marked rows ss d ls w₀ ms (gs ++ (s ∷ [])) w n
  more-marked ms gs s w n R = record {
    fixed = R.fixed;
    only = R.only;
    long = R.long;
    count = R.count;
    room = R.room;
    group = R.group;
    faces = R.faces;
    rest = R.rest;
    stands = λ j e h. more-stands gs s w j (get_or ms j e) (R.stands j e h);
    order = R.order;
  }

  -- a grouped corner is none that isn't
  unlike : (ms : List Mark) (s t : Spot) → Place ss d s → Place ss d t → grouped ms s ≡ true → grouped ms t ≡ false → same_spot s t ≡ false
  unlike ms s t P Q a b = step (same_spot s t) refl
    where
      rows_same : same_spot s t ≡ eqb (row P.tri P.at) (row Q.tri Q.at)
      rows_same = (λ k. same_spot (P.is k) (Q.is k)) ∙ spot-row N d P.tri Q.tri P.at Q.at P.inside Q.inside

      step : (x : Bool) → same_spot s t ≡ x → x ≡ false
      step true e =
          let r = eqb-true (row P.tri P.at) (row Q.tri Q.at) (sym rows_same ∙ e) in
          let same : s ≡ t = P.is ∙ ((λ k. spot_at ss d (row-inj P.tri Q.tri P.at Q.at r k) (at-inj P.tri Q.tri P.at Q.at r k)) ∙ sym Q.is) in
          absurd (true≢false (sym a ∙ (ap (grouped ms) same ∙ b)))
      step false e = refl

  module _ (ms ns : List Mark) (gs : List Spot) (s : Spot) (P : Place ss d s) (S : Starts ss d ms gs) (fresh : grouped ms s ≡ false) (grows : Grows ms ns) (put : grouped ns s ≡ true) where
    abbrev hs : List Spot
    hs = gs ++ (s ∷ [])

    -- a number below the new length is an old one, or the new one
    old-or-new : (C : ℕ → Type 0) → ((q : ℕ) → q < length gs → C q) → C (length gs) → (q : ℕ) → q < length hs → C q
    old-or-new C f g q h = ⊎_elim (λ e. subst C (sym e) g) (λ l. f q l) (eq-or-lt_of_le le)
      where
        le : q ≤ length gs
        le = let a = length-append gs (s ∷ []) in omega arith

    old-at : (q : ℕ) → q < length gs → get_or hs q s₀ ≡ get_or gs q s₀
    old-at q h = get_or-append gs (s ∷ []) s₀ q h

    new-at : get_or hs (length gs) s₀ ≡ s
    new-at = get_or_at gs s [] s₀ (length gs) refl

    old-new : (p : ℕ) → p < length gs → same_spot (get_or hs p s₀) (get_or hs (length gs) s₀) ≡ false
    old-new p h = (λ k. same_spot (old-at p h k) (new-at k)) ∙ unlike ms (get_or gs p s₀) s (S.place p h) P (S.in_group p h) fresh

    pub starts_more : Starts ss d ns hs
    starts_more = record {
      place = old-or-new (λ q. Place ss d (get_or hs q s₀)) (λ q h. subst (Place ss d) (sym (old-at q h)) (S.place q h)) (subst (Place ss d) (sym new-at) P);
      in_group = old-or-new (λ q. grouped ns (get_or hs q s₀) ≡ true) (λ q h. ap (grouped ns) (old-at q h) ∙ grows.stay (get_or gs q s₀) (S.in_group q h)) (ap (grouped ns) new-at ∙ put);
      apart = λ p q h k. old-or-new (λ p. same_spot (get_or hs p s₀) (get_or hs q s₀) ≡ eqb p q)
          (λ p h. old-or-new (λ q. same_spot (get_or hs p s₀) (get_or hs q s₀) ≡ eqb p q)
          (λ q k. (λ z. same_spot (old-at p h z) (old-at q k z)) ∙ S.apart p q h k)
          (old-new p h ∙ sym (ne_eqb p (length gs) (λ e. omega arith))) q k)
          (old-or-new (λ q. same_spot (get_or hs (length gs) s₀) (get_or hs q s₀) ≡ eqb (length gs) q)
          (λ q k. spot-sym (get_or hs (length gs) s₀) (get_or hs q s₀) ∙ (old-new q k ∙ sym (ne_eqb (length gs) q (λ e. omega arith))))
          (spot-refl (get_or hs (length gs) s₀) ∙ sym (eq-eqb (length gs) (length gs) refl)) q k) p h;
    }

  -- ---- a store where groups begin

  module _ (ms : List Mark) (gs : List Spot) (w u : List ℕ) (n : ℕ) (O : Only (begin_column ∷ []) rows w u) (R : Marked rows ss d ls w₀ ms gs w n) where
    cell-moved : (k r : ℕ) → outside (begin_column ∷ []) k ≡ true → r < rows → cell rows k r u ≡ cell rows k r w
    cell-moved k r e h = cell-kept (begin_column ∷ []) rows w u O k r e h

    member-lt : (j : ℕ) → j < length ms → j < rows
    member-lt j h = let a = R.count in let b = R.room in omega arith

    -- the numbers of the members stand
    pub number-moved : (j : ℕ) (e : Mark) → j < length ms → number_of rows u j ≡ number_of rows w j
    number-moved j e h =
        let S = R.stands j e h in
        let m = cell-moved met_column j refl (member-lt j h) in
        ap (λ r. cell rows group_column r u) (m ∙ S.member) ∙ (cell-moved group_column (row S.tri S.at) refl (row_fits rows ss fits S.tri S.at S.inside) ∙ ap (λ r. cell rows group_column r w) (sym S.member))

    stands-moved : (j : ℕ) (e : Mark) → j < length ms → Stands rows ss d gs u j (get_or ms j e)
    stands-moved j e h =
        let S = R.stands j e h in
        record {
          tri = S.tri;
          at = S.at;
          inside = S.inside;
          is = S.is;
          member = cell-moved met_column j refl (member-lt j h) ∙ S.member;
          group = S.group;
          known = S.known;
          number = cell-moved group_column (row S.tri S.at) refl (row_fits rows ss fits S.tri S.at S.inside) ∙ S.number;
          start = S.start;
          way = S.way;
        }

    pub marked-moved : Mark → Marked rows ss d ls w₀ ms gs u n
    unfolding ungrouped
    marked-moved m₀ = record {
      fixed = record {
        vertex = λ t₁ t₂ i₁ i₂ h₁ h₂. (λ k. eqb (cell-moved vertex_column (row t₁ i₁) refl (row_fits rows ss fits t₁ i₁ h₁) k) (cell-moved vertex_column (row t₂ i₂) refl (row_fits rows ss fits t₂ i₂ h₂) k)) ∙ R.fixed.vertex t₁ t₂ i₁ i₂ h₁ h₂;
        link = λ t i h. subst (LinkWord ss d (beyond ls (spot_at ss d t i))) (sym (cell-moved link_column (row t i) refl (row_fits rows ss fits t i h))) (R.fixed.link t i h);
        any = λ t h. ap (λ x. eqb x 0) (cell-moved any_column t refl (omega arith)) ∙ R.fixed.any t h;
      };
      only = only-trans walk_columns rows w₀ w u R.only (only-more (begin_column ∷ []) walk_columns rows w u refl O);
      long = let a = O.size in let b = R.long in omega arith;
      count = R.count;
      room = subst (λ l. n + zeros l ≤ rows) (sym (O.others group_column refl)) R.room;
      group = λ t i h. ap (λ x. eqb x 0) (cell-moved group_column (row t i) refl (row_fits rows ss fits t i h)) ∙ R.group t i h;
      faces = λ t h. subst (Faces ms (get_or ss t d)) (sym (cell-moved orientation_column t refl (omega arith))) (R.faces t h);
      rest = λ t l r. cell-moved orientation_column t refl r ∙ R.rest t l r;
      stands = stands-moved;
      order = λ j k l h. subst (λ x. x ≤ number_of rows u k) (sym (number-moved j m₀ (omega arith))) (subst (λ x. number_of rows w j ≤ x) (sym (number-moved k m₀ h)) (R.order j k l h));
    }

  -- ---- the turn of a corner

  module _ (sharp : (t : ℕ) (i : Third) → t < length ss → corner_in (corner_of (spot_at ss d t i)) (get_or ss t d) ≡ some (spot_at ss d t i)) where
    module _ (ms : List Mark) (gs : List Spot) (s : State) (R : Grouped rows ss d ls w₀ ms gs s) (t : ℕ) (i : Third) (h : t < length ss) (room : s.groups ≤ row t i) where
      abbrev p : Spot
      p = spot_at ss d t i

      abbrev w : List ℕ
      w = s.work

      -- the walk from the corner, in the columns
      abbrev new : State
      new = started (s.groups + 1) (corner rows (s.groups + 1) (cell rows vertex_column (row t i) w) (cell rows orientation_column t w) (rows + 1) (walk_of (begun rows s) s.members) t)

      -- and in the definition
      abbrev news : List Mark
      news = walk (fan ss (corner_of p)) ls p (get_or ss t d).orientation ms p

      turn_is : turn rows (row t i) s ≡ cond (not (get_or ss t d).any) (cond (not (grouped ms p)) new s) s
      unfolding turn
      turn_is =
          ap (λ x. cond (eqb (cell rows any_column x w) 0) (cond (eqb (cell rows group_column (row t i) w) 0) (started (s.groups + 1) (corner rows (s.groups + 1) (cell rows vertex_column (row t i) w) (cell rows orientation_column x w) (rows + 1) (walk_of (begun rows s) s.members) x)) s) s) (row-div t i)
          ∙ (λ k. cond (R.marked.fixed.any t h k) (cond (R.marked.group t i h k) new s) s)

      -- where the new group begins is stored
      at-begin : s.groups < rows
      at-begin = omega (arith, room, row_lt t (length ss) i h)

      only-begun : Only (begin_column ∷ []) rows w (begun rows s)
      only-begun = only-put (begin_column ∷ []) rows w w begin_column s.groups s.members refl (omega arith) at-begin (only_none (begin_column ∷ []) rows w)

      abbrev ends : List Spot
      ends = gs ++ (p ∷ [])

      abbrev G : ℕ
      G = s.groups + 1

      abbrev v : ℕ
      v = cell rows vertex_column (row t i) w

      last : length ends ≡ length gs + 1
      last = omega (arith, length-append gs (p ∷ []))

      Ge : G ≡ length gs + 1
      Ge = let b = R.groups in omega arith

      ge : p ≡ get_or ends (length gs) s₀
      ge = sym (get_or_at gs p [] s₀ (length gs) refl)

      -- the state of the walk from here, for the marks ns
      abbrev Now : List Mark → List ℕ → ℕ → Type 0
      Now ns u n = Going rows ss d ls B N fits w₀ ends t i h (length gs) G v last Ge ge (length ms) (number_of rows (begun rows s)) (column rows begin_column (begun rows s)) ns u n

      begin-now : Now ms (begun rows s) s.members
      begin-now = record {
        marked = more-marked ms gs p (begun rows s) s.members (marked-moved ms gs w (begun rows s) s.members only-begun R.marked (record { spot = p; start = p; orientation = true }));
        vertex = cell-kept (begin_column ∷ []) rows w (begun rows s) only-begun vertex_column (row t i) refl (omega (arith, row_lt t (length ss) i h));
        grown = omega arith;
        past = λ j l. refl;
        fresh = λ j l k. absurd (omega arith);
        begins = refl;
      }

      new-now : (get_or ss t d).any ≡ false → Now news new.work new.members
      unfolding going
      new-now f =
          let o : cell rows orientation_column t w ≡ flag (get_or ss t d).orientation = faces-own ms (get_or ss t d) (cell rows orientation_column t w) (R.marked.faces t h) f in
          let go : Now (going (λ ms' s'. walk (rows + 1) ls p (get_or ss t d).orientation ms' s') ms (corner_in (corner_of p) (get_or ss t d))) (corner rows G v (flag (get_or ss t d).orientation) (rows + 1) (walk_of (begun rows s) s.members) t).work (corner rows G v (flag (get_or ss t d).orientation) (rows + 1) (walk_of (begun rows s) s.members) t).count =
          in_step rows ss d ls B N fits w₀ ends t i h (length gs) G v last Ge ge (length ms) (number_of rows (begun rows s)) (column rows begin_column (begun rows s)) (rows + 1) ms (walk_of (begun rows s) s.members) t h begin-now in
          let fuel = walk-fuel ss ls B p (get_or ss t d).orientation ms p record { inside = spot_in ss d t i h; joined = welded-refl (corner_of p) } (rows + 1) (let c = fan-le ss (corner_of p) in omega arith) in
          let same : going (λ ms' s'. walk (rows + 1) ls p (get_or ss t d).orientation ms' s') ms (corner_in (corner_of p) (get_or ss t d)) ≡ news = ap (λ x. going (λ ms' s'. walk (rows + 1) ls p (get_or ss t d).orientation ms' s') ms x) (sharp t i h) ∙ sym fuel in
          subst (λ x. Now news (corner rows G v x (rows + 1) (walk_of (begun rows s) s.members) t).work (corner rows G v x (rows + 1) (walk_of (begun rows s) s.members) t).count) (sym o)
          (subst (λ x. Now x (corner rows G v (flag (get_or ss t d).orientation) (rows + 1) (walk_of (begun rows s) s.members) t).work (corner rows G v (flag (get_or ss t d).orientation) (rows + 1) (walk_of (begun rows s) s.members) t).count) same go)

      starts : (get_or ss t d).any ≡ false → grouped ms p ≡ false → start_at ss ls ms p ≡ news
      unfolding start_at
      starts f e = λ k. cond (f k || e k) ms news

      -- ---- where groups begin

      module _ (f : (get_or ss t d).any ≡ false) (e : grouped ms p ≡ false) where
        K : Now news new.work new.members
        K = new-now f

        -- the marks begin with those before, and the start
        grows : Grows (ms ++ (mark p p ∷ [])) news
        grows = subst (Grows (ms ++ (mark p p ∷ []))) (starts f e) (start_first ss ls ms p (spot_in ss d t i h) f e)

        longer : length ms < length news
        longer = omega (arith, ap length grows.is, length-append (ms ++ (mark p p ∷ [])) grows.added, length-append ms (mark p p ∷ []))

        news-are : news ≡ ms ++ (mark p p ∷ grows.added)
        news-are = grows.is ∙ append_assoc ms (mark p p ∷ []) grows.added

        -- an earlier group's begin, and the new one's
        old-begin : (q : ℕ) → q < s.groups → cell rows begin_column q new.work ≡ cell rows begin_column q w
        old-begin q l =
            sym (get_or-column rows new.work begin_column q (omega (arith, at-begin))) ∙ (ap (λ c. get_or c q 0) K.begins
            ∙ (get_or-column rows (begun rows s) begin_column q (omega (arith, at-begin)) ∙ get_or-set_other w (begin_column * rows + s.groups) (begin_column * rows + q) s.members 0 (λ z. omega arith)))

        new-begin : cell rows begin_column s.groups new.work ≡ length ms
        new-begin =
            sym (get_or-column rows new.work begin_column s.groups at-begin) ∙ (ap (λ c. get_or c s.groups 0) K.begins
            ∙ (get_or-column rows (begun rows s) begin_column s.groups at-begin ∙ (get_or-set_same w (begin_column * rows + s.groups) s.members 0 (omega (arith, at-begin, R.marked.long)) ∙ R.marked.count)))

        -- an earlier member's number, and a new one's
        old-number : (j : ℕ) → j < length ms → number_of rows new.work j ≡ number_of rows w j
        old-number j l = K.past j l ∙ number-moved ms gs w (begun rows s) s.members only-begun R.marked j (mark p p) l

        old-le : (j : ℕ) → j < length ms → number_of rows w j ≤ s.groups
        old-le j l =
            let S = R.marked.stands j (mark p p) l in
            let a = ap (λ r. cell rows group_column r w) S.member ∙ S.number in
            let b = S.known in
            let c = R.groups in
            omega arith

        -- what holds of the earlier groups and of the new one holds of all
        each : (P : ℕ → Type 0) → ((q : ℕ) → q < s.groups → P q) → P s.groups → (q : ℕ) → q < G → P q
        each P old now q l = let c : q ≤ s.groups = omega arith in ⊎_elim (λ z. subst P (sym z) now) (λ z. old q z) (eq-or-lt_of_le c)

        old-test : (q j : ℕ) → q < s.groups → j < length news → leb (cell rows begin_column q w) j ≡ ltb q (number_of rows new.work j)
        old-test q j l k = step (ltb j (length ms)) refl
          where
            step : (b : Bool) → ltb j (length ms) ≡ b → leb (cell rows begin_column q w) j ≡ ltb q (number_of rows new.work j)
            step true z = R.begins.begin q j l (ltb-true j (length ms) z) ∙ ap (ltb q) (sym (old-number j (ltb-true j (length ms) z)))
            step false z =
                le-leb (cell rows begin_column q w) j (omega (arith, R.begins.begun q l, ltb-false j (length ms) z))
                ∙ sym (lt-ltb q (number_of rows new.work j) (omega (arith, K.fresh j (ltb-false j (length ms) z) k, l)))

        new-test : (j : ℕ) → j < length news → leb (length ms) j ≡ ltb s.groups (number_of rows new.work j)
        new-test j k = step (ltb j (length ms)) refl
          where
            step : (b : Bool) → ltb j (length ms) ≡ b → leb (length ms) j ≡ ltb s.groups (number_of rows new.work j)
            step true z =
                lt-leb (length ms) j (ltb-true j (length ms) z)
                ∙ sym (le-ltb s.groups (number_of rows new.work j) (omega (arith, old-number j (ltb-true j (length ms) z), old-le j (ltb-true j (length ms) z))))
            step false z =
                le-leb (length ms) j (ltb-false j (length ms) z)
                ∙ sym (lt-ltb s.groups (number_of rows new.work j) (omega (arith, K.fresh j (ltb-false j (length ms) z) k)))

        old-mark : (j : ℕ) (x : Mark) → j < length ms → get_or news j x ≡ get_or ms j x
        old-mark j x l = ap (λ l. get_or l j x) news-are ∙ get_or-append ms (mark p p ∷ grows.added) x j l

        new-begins : Begins rows G news new.work
        new-begins = record {
          begin = λ q j l k. each (λ q. leb (cell rows begin_column q new.work) j ≡ ltb q (number_of rows new.work j))
              (λ q z. ap (λ b. leb b j) (old-begin q z) ∙ old-test q j z k) (ap (λ b. leb b j) new-begin ∙ new-test j k) q l;
          begun = each (λ q. cell rows begin_column q new.work < length news)
              (λ q z. omega (arith, old-begin q z, R.begins.begun q z, longer)) (omega (arith, new-begin, longer));
          number = each (λ q. number_of rows new.work (cell rows begin_column q new.work) ≡ q + 1)
              (λ q z. ap (number_of rows new.work) (old-begin q z) ∙ (old-number (cell rows begin_column q w) (R.begins.begun q z) ∙ R.begins.number q z))
              (ap (number_of rows new.work) new-begin ∙ K.fresh (length ms) (omega arith) longer);
          start = λ q x l. each (λ q. (get_or news (cell rows begin_column q new.work) x).spot ≡ (get_or news (cell rows begin_column q new.work) x).start)
              (λ q z. let e = ap (λ b. get_or news b x) (old-begin q z) ∙ old-mark (cell rows begin_column q w) x (R.begins.begun q z) in ap (λ m. m.spot) e ∙ (R.begins.start q x z ∙ sym (ap (λ m. m.start) e)))
              (let e = ap (λ b. get_or news b x) new-begin ∙ (ap (λ l. get_or l (length ms) x) news-are ∙ get_or_at ms (mark p p) grows.added x (length ms) refl) in ap (λ m. m.spot) e ∙ sym (ap (λ m. m.start) e)) q l;
        }

      new-grouped : (get_or ss t d).any ≡ false → grouped ms p ≡ false → Grouped rows ss d ls w₀ news (gs ++ (p ∷ [])) new
      new-grouped f e = record {
        marked = (new-now f).marked;
        starts = starts_more ms news gs p (record { tri = t; at = i; inside = h; is = refl }) R.starts e
            (subst (Grows ms) (starts f e) (start-grows ss ls ms p))
            (subst (λ x. grouped x p ≡ true) (starts f e) (start-marks ss ls ms p (spot_in ss d t i h) f));
        groups = let a = length-append gs (p ∷ []) in let b = R.groups in omega arith;
        begins = new-begins f e;
        few = let a = at-begin in omega arith;
      }

      by_tests : (f : Bool) → (get_or ss t d).any ≡ f → (e : Bool) → grouped ms p ≡ e → (ends : List Spot) × Grouped rows ss d ls w₀ (cond (f || e) ms news) ends (cond (not f) (cond (not e) new s) s)
      by_tests true a e b = (gs, R)
      by_tests false a true b = (gs, R)
      by_tests false a false b = (gs ++ (p ∷ []), new-grouped a b)

      pub turned : (ends : List Spot) × Grouped rows ss d ls w₀ (start_at ss ls ms p) ends (turn rows (row t i) s)
      unfolding start_at
      turned =
          let r = by_tests (get_or ss t d).any refl (grouped ms p) refl in
          (r.0, subst (Grouped rows ss d ls w₀ (start_at ss ls ms p) r.0) (sym turn_is) r.1)

    -- a turn adds at most one group
    turn-few : (k : ℕ) (s : State) → (turn rows k s).groups ≤ s.groups + 1
    unfolding turn
    turn-few k s = step (eqb (cell rows any_column (k / 3) s.work) 0) (eqb (cell rows group_column k s.work) 0)
      where
        step : (a b : Bool) → (cond a (cond b (started (s.groups + 1) (corner rows (s.groups + 1) (cell rows vertex_column k s.work) (cell rows orientation_column (k / 3) s.work) (rows + 1) (walk_of (begun rows s) s.members) (k / 3))) s) s).groups ≤ s.groups + 1
        step true true = omega arith
        step true false = omega arith
        step false b = omega arith

    -- ---- all turns

    run-append : {A B : Type 0} (f : B → A → B) (b : B) (l k : List A) → run f b (l ++ k) ≡ run f (run f b l) k
    unfolding run
    run-append f b [] k = refl
    run-append f b (x ∷ l) k = run-append f (f b x) l k

    abbrev marks_to : ℕ → List Mark
    marks_to n = run (start_at ss ls) [] (spots (take n ss))

    marks-more : (n : ℕ) → n < length ss → marks_to (suc n) ≡ start_at ss ls (start_at ss ls (start_at ss ls (marks_to n) (spot_at ss d n one)) (spot_at ss d n two)) (spot_at ss d n three)
    unfolding run spots
    marks-more n h =
        ap (λ x. run (start_at ss ls) [] (spots x)) (take-suc ss n d h)
        ∙ (ap (run (start_at ss ls) []) (spots-append (take n ss) (get_or ss n d ∷ []))
        ∙ run-append (start_at ss ls) [] (spots (take n ss)) (spots (get_or ss n d ∷ [])))

    module _ (s : State) (R : Grouped rows ss d ls w₀ [] [] s) where
      turns_more : (n : ℕ) → up_to (3 * suc n) (turn rows) s ≡ turn rows (row n three) (turn rows (row n two) (turn rows (row n one) (up_to (3 * n) (turn rows) s)))
      unfolding up_to num
      turns_more n =
          let e : 3 * suc n ≡ suc (suc (suc (3 * n))) = omega arith in
          let a : suc (suc (3 * n)) ≡ 3 * n + 2 = omega arith in
          let b : suc (3 * n) ≡ 3 * n + 1 = omega arith in
          let c : 3 * n ≡ 3 * n + 0 = omega arith in
          ap (λ x. up_to x (turn rows) s) e ∙ (λ k. turn rows (a k) (turn rows (b k) (turn rows (c k) (up_to (3 * n) (turn rows) s))))

      three-rows : (n : ℕ) → (row n one ≡ 3 * n) × (row n two ≡ 3 * n + 1) × (row n three ≡ 3 * n + 2)
      unfolding num
      three-rows n = (omega arith, refl, refl)

      up-to : s.groups ≡ 0 → (n : ℕ) → n ≤ length ss → (gs : List Spot) × Grouped rows ss d ls w₀ (marks_to n) gs (up_to (3 * n) (turn rows) s) × ((up_to (3 * n) (turn rows) s).groups ≤ 3 * n)
      unfolding up_to run spots
      up-to z zero h = ([], R, omega arith)
      up-to z (suc n) h =
          let r₀ = up-to z n (omega arith) in
          let u₀ = up_to (3 * n) (turn rows) s in
          let a = three-rows n in
          let r₁ = turned _ r₀.0 _ r₀.1 n one (omega arith) (omega (arith, r₀.2, a.0)) in
          let f₁ = turn-few (row n one) u₀ in
          let r₂ = turned _ r₁.0 _ r₁.1 n two (omega arith) (omega (arith, r₀.2, a.1, f₁)) in
          let f₂ = turn-few (row n two) (turn rows (row n one) u₀) in
          let r₃ = turned _ r₂.0 _ r₂.1 n three (omega arith) (omega (arith, r₀.2, a.2, f₁, f₂)) in
          let f₃ = turn-few (row n three) (turn rows (row n two) (turn rows (row n one) u₀)) in (
            r₃.0,
            subst (λ x. Grouped rows ss d ls w₀ (marks_to (suc n)) r₃.0 x) (sym (turns_more n))
                (subst (λ x. Grouped rows ss d ls w₀ x r₃.0 (turn rows (row n three) (turn rows (row n two) (turn rows (row n one) (up_to (3 * n) (turn rows) s))))) (sym (marks-more n (omega arith))) r₃.1),
            subst (λ x. x.groups ≤ 3 * suc n) (sym (turns_more n)) (omega (arith, r₀.2, f₁, f₂, f₃)),
          )

      -- after step 6 the columns stand for the definition's marks
      pub all-turns : s.groups ≡ 0 → (gs : List Spot) × Grouped rows ss d ls w₀ (marks ss ls) gs (up_to (3 * length ss) (turn rows) s)
      unfolding marks
      all-turns z =
          let r = up-to z (length ss) (le_refl (length ss)) in
          (r.0, subst (λ x. Grouped rows ss d ls w₀ (run (start_at ss ls) [] (spots x)) r.0 (up_to (3 * length ss) (turn rows) s)) (take-length ss) r.1)

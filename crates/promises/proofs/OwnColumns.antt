-- Request E11 of the columns: from what they stand for. Assumes nothing.
use Prim.Native.Nat.{ℕ, zero, suc, ◌*◌, ◌+◌, ◌-◌, ◌/◌, ◌%◌, ◌≤◌, ◌<◌}
use native.Mathlib.Omega.{arith}
use mathlib.Core.Path.{◌≡◌, refl, sym, ap, ◌∙◌, subst}
use mathlib.Core.Bool.{Bool, true, false, not, ◌&&◌, true≢false}
use mathlib.Core.List.{List, [], ◌++◌, ◌∷◌, Memᴰ}
use mathlib.Core.Option.{Option, none, some, some-injective, none-ne-some}
use lib.ListN.{length, get_or, take, drop, length-append, get_or-append}
use lib.Seq.{split_at}
use borrow.Author.Tests.{eq-eqb, eqb-true}
use Rattle.tangent.specs.Slot.{flag}
use Rattle.table.specs.Table.{cell}
use Rattle.table.specs.Columns.{rows_of, orientation_column, any_column, vertex_column, link_column, group_column, met_column, begin_column}
use Rattle.definition.specs.declared.Corner.{Corner}
use Rattle.definition.specs.declared.Triangle.{Triangle}
use Rattle.definition.specs.Handed.{Handed}
use Rattle.definition.specs.Frames.{triangles_of}
use Rattle.definition.specs.Mesh.{Third, one, two, three, kept, Spot, after, before, next, prior, corner_of, same_spot, same_triangle}
use Rattle.definition.specs.Step4Order.{sound, broken, spots, welded}
use Rattle.definition.specs.Step5Links.{end_of, opposite, links, beyond}
use Rattle.definition.specs.Step6Groups.{Mark, marks, corner_in, over_to, over}
use Rattle.laws.proofs.Closed.{links-sound, first_found, each_map}
use Rattle.laws.proofs.Laws as laws
use Rattle.laws.proofs.Laws.{mark, tri-refl}
use Rattle.laws.proofs.Reached.{facing-own}
use Rattle.laws.proofs.Mutual.{spot-sym}
use Rattle.lists.specs.Every.{Every, every_nil, every_cons}
use Rattle.laws.proofs.Sharp as one-triangle
use Rattle.laws.proofs.Bridge.{index_same}
use Rattle.laws.proofs.Weld.{welded-refl, found_at}
use Rattle.definition.specs.Names.{Names}
use Rattle.bits.proofs.Bools.{and_left, and_right}
use Rattle.laws.proofs.Enough.{spot-refl}
use Rattle.view.specs.Rows.{row, third, spot_at}
use Rattle.view.specs.Weld.{Welds, Sharp}
use Rattle.view.specs.Links.{LinkWord, nowhere, towards, Linked}
use Rattle.view.specs.Groups.{number_of, Grouping}
use Rattle.view.proofs.Records.{flag_same}
use Rattle.view.proofs.Frame.{cell-kept}
use Rattle.view.proofs.Weld.{welds, sound-welds, vertices-kept}
use Rattle.view.proofs.Lists.{every-index, index-every}
use Rattle.view.proofs.Rows.{row-inj, at-inj, row_is, tri-lt, row_lt, row-div, spot-row, spot_in}
use Rattle.grouped.specs.declared.MeshCounts.{MeshCounts}
use Rattle.grouped.specs.Grouped.{grouped_columns, Six}
use Rattle.members.proofs.Ordering.{member_of}
use Rattle.asked.specs.Meaning.{way_of}
use Rattle.promises.specs.OwnLinks as own
use Rattle.promises.specs.OwnLinks.{OfLinks, OfGroups, Joined, after as over-after, before as over-before}
use Rattle.promises.proofs.StepNine.{get_or-mem}
use Rattle.promises.proofs.OwnLinks.{of-links, of-groups}
use Rattle.promises.specs.OwnColumns.{Promised, Leads, LinkWords, Together, GroupWords, MetFrom, start, member, member_before, Besides, OwnWords}

-- ---- links

module _ (rows : ℕ) (ss : List Triangle) (d : Triangle) (w : List ℕ) (N : Names ss) (W : Welds rows ss d w) (K : Linked rows ss d (links ss) w) (L : OfLinks ss) where
  abbrev n : ℕ
  n = length ss

  abbrev at : ℕ → Third → Spot
  at t i = spot_at ss d t i

  -- a word that names a row is the link to its side
  word-leads : (o : Option Spot) (x : ℕ) → LinkWord ss d o x → (u : ℕ) (j : Third) → x ≡ suc (row u j) → o ≡ some (at u j)
  word-leads o x nowhere u j e = absurd (omega arith)
  word-leads o x (towards v k h) u j e = let r : row v k ≡ row u j = omega arith in λ z. some (at (row-inj v u k j r z) (at-inj v u k j r z))

  word_none : (o : Option Spot) (x : ℕ) → LinkWord ss d o x → x ≡ 0 → o ≡ none
  word_none o x nowhere e = refl
  word_none o x (towards v k h) e = absurd (omega arith)

  -- and the other way round
  leads-word : (o : Option Spot) (x : ℕ) → LinkWord ss d o x → (u : ℕ) (j : Third) → u < n → o ≡ some (at u j) → x ≡ suc (row u j)
  leads-word o x nowhere u j h e = absurd (none-ne-some (at u j) e)
  leads-word o x (towards v k g) u j h e =
      let q : at v k ≡ at u j = some-injective (at v k) (at u j) e in
      ap suc (eqb-true (row v k) (row u j) (sym (spot-row N d v u k j g h) ∙ (ap (λ s. same_spot s (at u j)) q ∙ spot-refl (at u j))))

  pub to-beyond : (t u : ℕ) (i j : Third) → t < n → Leads rows w (row t i) (row u j) → beyond (links ss) (at t i) ≡ some (at u j)
  to-beyond t u i j h e = word-leads _ _ (K t i h) u j e

  from-beyond : (t u : ℕ) (i j : Third) → t < n → u < n → beyond (links ss) (at t i) ≡ some (at u j) → Leads rows w (row t i) (row u j)
  from-beyond t u i j h k e = leads-word _ _ (K t i h) u j k e

  back : (t u : ℕ) (i j : Third) → t < n → u < n → Leads rows w (row t i) (row u j) → Leads rows w (row u j) (row t i)
  back t u i j h k e = from-beyond u t j i k h (L.back (at t i) (at u j) (spot_in ss d t i h) (to-beyond t u i j h e))

  vertex-same : (t u : ℕ) (i j : Third) → t < n → u < n → welded (corner_of (at t i)) (corner_of (at u j)) ≡ true → cell rows vertex_column (row t i) w ≡ cell rows vertex_column (row u j) w
  vertex-same t u i j h k e = eqb-true _ _ (W t u i j h k ∙ e)

  same-welded : (t u : ℕ) (i j : Third) → t < n → u < n → cell rows vertex_column (row t i) w ≡ cell rows vertex_column (row u j) w → welded (corner_of (at t i)) (corner_of (at u j)) ≡ true
  same-welded t u i j h k e = sym (W t u i j h k) ∙ eq-eqb _ _ e

  pub link-words : LinkWords rows n w
  unfolding opposite end_of next
  link-words =
      record {
        across = λ t u i j h k e.
            let o = L.across (at t i) (at u j) (spot_in ss d t i h) (to-beyond t u i j h e) in
            (vertex-same t u i (after j) h k (and_left _ _ o), vertex-same t u (after i) j h k (and_right (welded (corner_of (at t i)) (corner_of (at u (after j)))) _ o));
        back = back;
        once = λ t u v i j k h g l e f. let a = back t v i k h l e in let b = back u v j k g l f in omega arith;
        none_left = λ t u i j h k e f q.
            L.none_left (at t i) (at u j) (spot_in ss d t i h) (spot_in ss d u j k)
            (λ z. same-welded t u i (after j) h k q.0 z && same-welded t u (after i) j h k q.1 z)
            (word_none _ _ (K t i h) e) (word_none _ _ (K u j k) f);
      }

-- ---- groups

-- marks of one corner have one place
once-place : {l : List Mark} → laws.Once l → (j k : ℕ) (e : Mark) → j < length l → k < length l → same_spot (get_or l j e).spot (get_or l k e).spot ≡ true → j ≡ k
once-place laws.once-nil j k e h i q = absurd (omega arith)
once-place (laws.once-cons a r) zero zero e h i q = refl
once-place (laws.once-cons a r) zero (suc k) e h i q = absurd (true≢false (sym q ∙ every-index a k e (omega arith)))
once-place (laws.once-cons {m} {ms} a r) (suc j) zero e h i q = absurd (true≢false (sym q ∙ (spot-sym (get_or ms j e).spot m.spot ∙ every-index a j e (omega arith))))
once-place (laws.once-cons a r) (suc j) (suc k) e h i q = ap suc (once-place r j k e (omega arith) (omega arith) q)

-- one corner has one row
pub same_row : (ss : List Triangle) (d : Triangle) → Names ss → (t u : ℕ) (i j : Third) → t < length ss → u < length ss → spot_at ss d t i ≡ spot_at ss d u j → row t i ≡ row u j
same_row ss d N t u i j h k e = eqb-true (row t i) (row u j) (sym (spot-row N d t u i j h k) ∙ (ap (λ s. same_spot s (spot_at ss d u j)) e ∙ spot-refl (spot_at ss d u j)))

module _ (rows : ℕ) (ss : List Triangle) (d : Triangle) (groups : ℕ) (w : List ℕ) (N : Names ss) (S : Sharp ss d) (W : Welds rows ss d w) (K : Linked rows ss d (links ss) w) (L : OfLinks ss) (H : OfGroups ss)
    (G : Grouping rows ss d (marks ss (links ss)) groups w) (any : (t : ℕ) → t < length ss → cell rows any_column t w ≡ flag (get_or ss t d).any) where
  abbrev ms : List Mark
  ms = marks ss (links ss)

  e₀ : Mark
  e₀ = mark (spot_at ss d 0 one) (spot_at ss d 0 one)

  -- the mark of a corner that is in a group
  record Mine (t : ℕ) (i : Third) : Type 0 where
    place : ℕ
    inside : place < length ms
    spot : (get_or ms place e₀).spot ≡ spot_at ss d t i
    number : number_of rows w place ≡ cell rows group_column (row t i) w
    way : cell rows orientation_column t w ≡ flag (get_or ms place e₀).orientation

  mine : (t : ℕ) (i : Third) → t < length ss → (cell rows group_column (row t i) w ≡ 0 → ⊥) → Mine t i
  mine t i h ne =
      let m = member_of rows ss d groups w (links ss) (links-sound ss) N G (row t i) (row_lt t (length ss) i h) ne in
      let M = G.member m.0 e₀ m.1 in
      let r : row M.tri M.at ≡ row t i = sym M.member ∙ m.2 in
      record {
        place = m.0;
        inside = m.1;
        spot = M.is ∙ (λ z. spot_at ss d (row-inj M.tri t M.at i r z) (at-inj M.tri t M.at i r z));
        number = ap (λ x. cell rows group_column x w) m.2;
        way = ap (λ x. cell rows orientation_column x w) (sym (row-inj M.tri t M.at i r)) ∙ M.way;
      }

  -- corners in one group have one start
  one_start : (t u : ℕ) (i j : Third) (a : Mine t i) (b : Mine u j) → cell rows group_column (row t i) w ≡ cell rows group_column (row u j) w → (get_or ms a.place e₀).start ≡ (get_or ms b.place e₀).start
  one_start t u i j a b e = G.one_start a.place b.place e₀ a.inside b.inside (a.number ∙ (e ∙ sym b.number))

  -- and corners with one start are in one group
  one_number : (t u : ℕ) (i j : Third) (a : Mine t i) (b : Mine u j) → (get_or ms a.place e₀).start ≡ (get_or ms b.place e₀).start → cell rows group_column (row t i) w ≡ cell rows group_column (row u j) w
  one_number t u i j a b e =
      sym a.number
      ∙ (eqb-true _ _ (G.same a.place b.place e₀ a.inside b.inside ∙ (ap (λ s. same_spot s (get_or ms b.place e₀).start) e ∙ spot-refl (get_or ms b.place e₀).start)) ∙ b.number)

  not-any : (t : ℕ) → t < length ss → cell rows any_column t w ≡ 0 → (get_or ss t d).any ≡ false
  unfolding flag
  not-any t h e = flag_same (get_or ss t d).any false (sym (any t h) ∙ e)

  in_some : (t : ℕ) (i : Third) → t < length ss → cell rows any_column t w ≡ 0 → cell rows group_column (row t i) w ≡ 0 → ⊥
  in_some t i h e z =
      let g = H.at_least_one (spot_at ss d t i) (spot_in ss d t i h) (not-any t h e) in
      true≢false (sym (eq-eqb (cell rows group_column (row t i) w) 0 z) ∙ (G.free t i h ∙ ap not g))

  one_way : (t u : ℕ) (i j : Third) → t < length ss → u < length ss → Together rows w (row t i) (row u j) → cell rows orientation_column t w ≡ cell rows orientation_column u w
  one_way t u i j h k T =
      let a = mine t i h T.some in
      let b = mine u j k (λ z. T.some (T.same ∙ z)) in
      let o : (c : ℕ) → c < length ms → (get_or ms c e₀).orientation ≡ (get_or ms c e₀).start.tri.orientation = λ c l. (every-index (laws.one_way ss (links ss) (links-sound ss)) c e₀ l).0 in
      a.way ∙ (ap flag (o a.place a.inside ∙ (ap (λ s. s.tri.orientation) (one_start t u i j a b T.same) ∙ sym (o b.place b.inside))) ∙ sym b.way)

  one_vertex : (t u : ℕ) (i j : Third) → t < length ss → u < length ss → Together rows w (row t i) (row u j) → cell rows vertex_column (row t i) w ≡ cell rows vertex_column (row u j) w
  one_vertex t u i j h k T =
      let a = mine t i h T.some in
      let b = mine u j k (λ z. T.some (T.same ∙ z)) in
      let c = corner_of (spot_at ss d u j) in
      let A = (G.member a.place e₀ a.inside).vertex c in
      let B = (G.member b.place e₀ b.inside).vertex c in
      eqb-true _ _
      (W t u i j h k
      ∙ (ap (λ s. welded (corner_of s) c) (sym a.spot) ∙ (sym A ∙ (ap (λ s. welded (corner_of s) c) (one_start t u i j a b T.same) ∙ (B ∙ (ap (λ s. welded (corner_of s) c) b.spot ∙ welded-refl c))))))

  -- the final orientation of a triangle that isn't `group_with_any` is its own
  own_way : (t : ℕ) → t < length ss → (get_or ss t d).any ≡ false → cell rows orientation_column t w ≡ flag (get_or ss t d).orientation
  own_way t h e = G.way t h ∙ ap flag (facing-own ms (get_or ss t d) (get_or ss t d).orientation e)

  in-marks : (c : ℕ) → c < length ms → Memᴰ (get_or ms c e₀) ms
  in-marks c l = get_or-mem ms e₀ c l

  one_group : (t u : ℕ) (i j : Third) → t < length ss → u < length ss → Leads rows w (row t i) (row u j) → cell rows any_column t w ≡ 0 → cell rows any_column u w ≡ 0 → cell rows orientation_column t w ≡ cell rows orientation_column u w → Together rows w (row t i) (row u (after j))
  unfolding next
  one_group t u i j h k e p q o =
      let a = mine t i h (in_some t i h p) in
      let b = mine u (after j) k (in_some u (after j) k q) in
      let way : (get_or ss t d).orientation ≡ (get_or ss u d).orientation = flag_same _ _ (sym (own_way t h (not-any t h p)) ∙ (o ∙ own_way u k (not-any u k q))) in
      record {
        same = one_number t u i (after j) a b (H.one_group (spot_at ss d t i) (spot_at ss d u j) (spot_in ss d t i h) (to-beyond rows ss d w N W K L t u i j h e) (not-any t h p) (not-any u k q) way (get_or ms a.place e₀) (get_or ms b.place e₀) (in-marks a.place a.inside) (in-marks b.place b.inside) a.spot b.spot);
        some = in_some t i h p;
      }

  -- ---- every group is connected

  -- an element of the first j is one of them by its place
  early : (l : List Mark) (j : ℕ) (k : Mark) → j ≤ length l → Memᴰ k (take j l) → (p : ℕ) × (p < j) × (get_or l p e₀ ≡ k)
  early [] zero k h m = elim m [ ]
  early (x ∷ l) zero k h m = elim m [ ]
  early [] (suc j) k h m = absurd (omega arith)
  early (x ∷ l) (suc j) k h (Memᴰ.head e) = (0, omega arith, sym e)
  early (x ∷ l) (suc j) k h (Memᴰ.tail m) = let r = early l j k (omega arith) m in (suc r.0, omega (arith, r.1), r.2)

  -- the corner that is found in a triangle is one of that triangle
  in-tri : (c : Corner) (t : Triangle) (s : Spot) → corner_in c t ≡ some s → s.tri ≡ t
  unfolding corner_in spots
  in-tri c t s e = found_at (λ s. s.tri ≡ t) s (each_map (λ x f. f.known) (first_found (λ s. welded c (corner_of s)) (every_cons refl (every_cons refl (every_cons refl every_nil))))) e

  -- a corner beyond a side is in the triangle of the side beyond
  crossing : (c : Corner) (s y : Spot) → over (links ss) c s ≡ some y → (b : Spot) × (beyond (links ss) s ≡ some b) × (y.tri ≡ b.tri)
  unfolding over over_to
  crossing c s y e = go (beyond (links ss) s) refl e
    where
      go : (o : Option Spot) → beyond (links ss) s ≡ o → over_to c o ≡ some y → (b : Spot) × (beyond (links ss) s ≡ some b) × (y.tri ≡ b.tri)
      go none q e = absurd (none-ne-some y e)
      go (some b) q e = (b, q, in-tri c b.tri y e)

  -- the word of a link names a row of the triangle beyond
  record Named (b : Spot) (x : ℕ) : Type 0 where
    tri : ℕ
    at : Third
    below : tri < length ss
    is : spot_at ss d tri at ≡ b
    word : x ≡ suc (row tri at)

  named : (o : Option Spot) (x : ℕ) → LinkWord ss d o x → (b : Spot) → o ≡ some b → Named b x
  named o x nowhere b e = absurd (none-ne-some b e)
  named o x (towards v k g) b e = record { tri = v; at = k; below = g; is = some-injective (spot_at ss d v k) b e; word = refl }

  same_index : (t u : ℕ) → t < length ss → u < length ss → get_or ss t d ≡ get_or ss u d → t ≡ u
  same_index t u h k e = eqb-true t u (sym (index_same N t u d h k) ∙ (ap (λ x. same_triangle x (get_or ss u d)) e ∙ tri-refl (get_or ss u d)))

  at-begin : (j : ℕ) → j < length ms → (get_or ms j e₀).spot ≡ (get_or ms j e₀).start → MetFrom rows w j
  at-begin j h e =
      let M = G.member j e₀ h in
      let q : ℕ = number_of rows w j - 1 in
      let n : number_of rows w j ≡ q + 1 = omega (arith, M.some) in
      let l : q < groups = omega (arith, M.known, n) in
      let b : ℕ = cell rows begin_column q w in
      let B = G.member b e₀ (G.begins.begun q l) in
      let s : (get_or ms b e₀).spot ≡ (get_or ms j e₀).spot = G.begins.start q e₀ l ∙ (G.one_start b j e₀ (G.begins.begun q l) h (G.begins.number q l ∙ sym n) ∙ sym e) in
      start (B.member ∙ (same_row ss d N B.tri M.tri B.at M.at B.inside M.inside (sym B.is ∙ (s ∙ M.is)) ∙ sym M.member))

  -- a link of a side of the earlier member p, at row r, to a side of member j's triangle
  crossed : (j p t : ℕ) (i : Third) → (h : j < length ms) → t < length ss → (c : Corner) → over (links ss) c (spot_at ss d t i) ≡ some (get_or ms j e₀).spot → (q : ℕ) × Leads rows w (row t i) q × (q / 3 ≡ cell rows met_column j w / 3)
  crossed j p t i h k c e =
      let M = G.member j e₀ h in
      let x = crossing c (spot_at ss d t i) (get_or ms j e₀).spot e in
      let W = named _ _ (K t i k) x.0 x.1 in
      let u : W.tri ≡ M.tri = same_index W.tri M.tri W.below M.inside (ap (λ s. s.tri) W.is ∙ (sym x.2 ∙ ap (λ s. s.tri) M.is)) in
      (row W.tri W.at, W.word, row-div W.tri W.at ∙ (u ∙ sym (ap (λ r. r / 3) M.member ∙ row-div M.tri M.at)))

  from_row : (j p t : ℕ) (i : Third) (k : Mark) → (h : j < length ms) → p < j → number_of rows w p ≡ number_of rows w j → cell rows met_column p w ≡ row t i → t < length ss → k.spot ≡ spot_at ss d t i → Joined ss k (get_or ms j e₀).spot → MetFrom rows w j
  unfolding prior
  from_row j p t i k h l n r b q (over-after e) =
      let x = crossed j p t i h b (corner_of k.start) (ap (over (links ss) (corner_of k.start)) (sym q) ∙ e) in
      member p t i x.0 l n r x.1 x.2
  from_row j p t i k h l n r b q (over-before e) =
      let x = crossed j p t (before i) h b (corner_of k.start) (ap (λ s. over (links ss) (corner_of k.start) (prior s)) (sym q) ∙ e) in
      member_before p t i x.0 l n r x.1 x.2

  met-from : (j : ℕ) → (h : j < length ms) → own.MetFrom ss (take j ms) (get_or ms j e₀) → MetFrom rows w j
  met-from j h (own.start e) = at-begin j h e
  met-from j h (own.member k i s c) =
      let r = early ms j k (omega arith) i in
      let b : r.0 < length ms = omega (arith, r.1) in
      let P = G.member r.0 e₀ b in
      let n : number_of rows w r.0 ≡ number_of rows w j = eqb-true _ _ (G.same r.0 j e₀ b h ∙ (ap (λ x. same_spot x (get_or ms j e₀).start) (ap (λ m. m.start) r.2 ∙ s) ∙ spot-refl (get_or ms j e₀).start)) in
      from_row j r.0 P.tri P.at k h r.1 n P.member P.inside (sym (ap (λ m. m.spot) r.2) ∙ P.is) c

  pub group-words : GroupWords rows (length ss) (length ms) w
  group-words =
      record {
        one_vertex = one_vertex;
        one_way = one_way;
        some = in_some;
        one_group = one_group;
        connected = λ j h. met-from j h (H.connected (take j ms) (drop (suc j) ms) (get_or ms j e₀) (split_at ms j e₀ h));
      }

-- ---- what steps 1 to 6 leave

module _ (rows : ℕ) (mesh : Handed) (xs : List Triangle) (d : Triangle) (c : MeshCounts) (u : List ℕ) (six : Six rows mesh xs d c u) (room : 3 * length (sound xs ++ broken xs) ≤ rows) where
  abbrev ss : List Triangle
  ss = sound xs

  abbrev ys : List Triangle
  ys = ss ++ broken xs

  few : length ss ≤ length ys
  few = omega (arith, length-append ss (broken xs))

  pub welded-words : Welds rows ss d u
  welded-words = sound-welds rows ss (broken xs) d u (welds rows ys d u (vertices-kept grouped_columns rows ys d six.linked u refl (room) six.only six.five.vertices))

  pub linked-words : Linked rows ss d (links ss) u
  linked-words t i h = subst (LinkWord ss d (beyond (links ss) (spot_at ss d t i))) (sym (cell-kept grouped_columns rows six.linked u six.only link_column (row t i) refl (omega (arith, row_lt t (length ss) i h, room, few)))) (six.five.linked t i h)

  pub any-words : (t : ℕ) → t < length ss → cell rows any_column t u ≡ flag (get_or ss t d).any
  any-words t h =
      let k : t < length ys = omega (arith, few) in
      cell-kept grouped_columns rows six.linked u six.only any_column t refl (omega (arith, room)) ∙ ((six.five.held t k).loose ∙ ap (λ x. flag x.any) (get_or-append ss (broken xs) d t h))

  pub own-sharp : Every one-triangle.Sharp ss
  unfolding corner_of kept after
  own-sharp = index-every one-triangle.Sharp ss d (λ t h. record { ab = six.five.sharp.apart t one h; bc = six.five.sharp.apart t two h; ca = six.five.sharp.apart t three h })

  -- ---- besides

  -- links in range
  word-range : (o : Option Spot) (x : ℕ) → LinkWord ss d o x → x ≤ 3 * length ss
  word-range o x nowhere = omega arith
  word-range o x (towards v k h) = omega (arith, row_lt v (length ss) k h)

  range : (r : ℕ) → r < 3 * length ss → cell rows link_column r u ≤ 3 * length ss
  range r h = subst (λ x. cell rows link_column x u ≤ 3 * length ss) (row_is r) (word-range _ _ (linked-words (r / 3) (third (r % 3)) (tri-lt r (length ss) h)))

  -- three vertices
  apart : (t : ℕ) (i : Third) → t < length ss → cell rows vertex_column (row t i) u ≡ cell rows vertex_column (row t (after i)) u → ⊥
  apart t i h e = true≢false (sym (eq-eqb _ _ e) ∙ (welded-words t t i (after i) h h ∙ six.five.sharp.apart t i h))

  one-third : (t : ℕ) (i j : Third) → t < length ss → cell rows vertex_column (row t i) u ≡ cell rows vertex_column (row t j) u → i ≡ j
  unfolding after
  one-third t one one h e = refl
  one-third t one two h e = absurd (apart t one h e)
  one-third t one three h e = absurd (apart t three h (sym e))
  one-third t two one h e = absurd (apart t one h (sym e))
  one-third t two two h e = refl
  one-third t two three h e = absurd (apart t two h e)
  one-third t three one h e = absurd (apart t three h e)
  one-third t three two h e = absurd (apart t two h (sym e))
  one-third t three three h e = refl

  sharp-words : (r q : ℕ) → r < 3 * length ss → q < 3 * length ss → r / 3 ≡ q / 3 → cell rows vertex_column r u ≡ cell rows vertex_column q u → r ≡ q
  sharp-words r q h k e v =
      let s : row (r / 3) (third (q % 3)) ≡ q = ap (λ t. row t (third (q % 3))) e ∙ row_is q in
      let i = one-third (r / 3) (third (r % 3)) (third (q % 3)) (tri-lt r (length ss) h) (ap (λ x. cell rows vertex_column x u) (row_is r) ∙ (v ∙ ap (λ x. cell rows vertex_column x u) (sym s))) in
      sym (row_is r) ∙ (ap (row (r / 3)) i ∙ s)

  flag-le : (b : Bool) → flag b ≤ 1
  unfolding flag
  flag-le true = omega arith
  flag-le false = omega arith

  abbrev G : Grouping rows ss d (marks ss (links ss)) c.groups u
  G = six.grouping

  met_at : (j : ℕ) → j < c.members → j < length (marks ss (links ss))
  met_at j h = subst (λ m. j < m) six.members h

  e₁ : Mark
  e₁ = mark (spot_at ss d 0 one) (spot_at ss d 0 one)

  loose : (t : ℕ) → t < length ss → cell rows any_column t u ≡ 0 → (get_or ss t d).any ≡ false
  unfolding flag
  loose t h e = flag_same (get_or ss t d).any false (sym (any-words t h) ∙ e)

  once-met : (j k : ℕ) → j < length (marks ss (links ss)) → k < length (marks ss (links ss)) → cell rows met_column j u ≡ cell rows met_column k u → j ≡ k
  once-met j k h l e =
      let J = G.member j e₁ h in
      let K = G.member k e₁ l in
      let r : row J.tri J.at ≡ row K.tri K.at = sym J.member ∙ (e ∙ K.member) in
      once-place (laws.at_most_one ss (links ss) (links-sound ss)) j k e₁ h l
      ((λ z. same_spot (J.is z) (K.is z)) ∙ (spot-row six.five.names d J.tri K.tri J.at K.at J.inside K.inside ∙ eq-eqb (row J.tri J.at) (row K.tri K.at) r))

  besides : Besides rows (length ss) c.members (way_of ss d) u
  besides =
      record {
        range = range;
        sharp = sharp-words;
        flags = λ t h. subst (λ x. x ≤ 1) (sym (G.way t h)) (flag-le _);
        keeps = λ t h e. G.way t h ∙ ap flag (facing-own (marks ss (links ss)) (get_or ss t d) (get_or ss t d).orientation (loose t h e));
        below = λ j h. let M = G.member j e₁ (met_at j h) in subst (λ x. x < 3 * length ss) (sym M.member) (row_lt M.tri (length ss) M.at M.inside);
        some = λ j h z. let M = G.member j e₁ (met_at j h) in omega (arith, M.some, z);
        is_member = λ r h ne. let m = member_of rows ss d c.groups u (links ss) (links-sound ss) six.five.names G r h ne in (m.0, subst (λ k. m.0 < k) (sym six.members) m.1, m.2);
        once = λ j k h l e. once-met j k (met_at j h) (met_at k l) e;
        begins_in = λ j h.
            let M = G.member j e₁ (met_at j h) in
            G.begins.number (number_of rows u j - 1) (omega (arith, M.some, M.known)) ∙ omega (arith, M.some);
        begins = λ j h.
            let M = G.member j e₁ (met_at j h) in
            let b = G.begins.begun (number_of rows u j - 1) (omega (arith, M.some, M.known)) in
            subst (λ k. cell rows begin_column (number_of rows u j - 1) u < k) (sym six.members) b;
      }

  pub own-words : c.sound ≡ length ss → OwnWords rows c.sound c.members (way_of ss d) u
  own-words e =
      let N = six.five.names in
      let A = of-links ss N own-sharp in
      let B = of-groups ss N own-sharp in
      subst (λ n. OwnWords rows n c.members (way_of ss d) u) (sym e)
      (record {
        links = link-words rows ss d u N welded-words linked-words A;
        groups = subst (λ n. GroupWords rows (length ss) n u) (sym six.members) (group-words rows ss d c.groups u N six.five.sharp welded-words linked-words A B six.grouping any-words);
        besides = besides;
      })

pub own_columns : Promised
unfolding Promised
own_columns mesh c w u l good d = own-words (rows_of (length mesh.sizes)) mesh (triangles_of mesh) d c u (l.stands good d) l.fits l.sound_count

-- What the columns hold is as request E10 asks, so that our own lists are accepted. Assumes nothing.
use Prim.Native.Nat.{ℕ, zero, suc, ◌*◌, ◌-◌, ◌/◌, ◌%◌, ◌≤◌, ◌<◌}
use native.Mathlib.Omega.{arith}
use mathlib.Core.Path.{◌≡◌, sym, subst, ap, ◌∙◌}
use mathlib.Core.Bool.{true, false}
use mathlib.Core.List.{List}
use lib.ListN.{get_or}
use Rattle.table.specs.Table.{cell}
use Rattle.lists.specs.Loops.{list_of}
use Rattle.table.specs.Columns.{orientation_column, any_column, vertex_column, link_column, group_column, met_column, begin_column}
use Rattle.lists.proofs.Loops.{get_or-list_of}
use Rattle.definition.specs.Mesh.{Third, before as prior-third}
use Rattle.neighbors.specs.Sides.{end_row}
use Rattle.neighbors.proofs.Sided.{end_lt}
use Rattle.view.specs.Rows.{row, third}
use Rattle.view.specs.Groups.{number_of}
use Rattle.view.proofs.Rows.{row_is, tri-lt}
use Rattle.promises.specs.OwnColumns as own
use Rattle.promises.specs.OwnColumns.{LinkWords, GroupWords, Besides, OwnWords}
use Rattle.asked.specs.Links.{Equal, Leads, Opposed, LinksFit}
use Rattle.asked.specs.Groups.{Together, Way, after, before, Chain, here, on, GroupsFit}
use Rattle.asked.proofs.Ways.{end_below, together-back, chain-on, chain_back}
use Rattle.asked.proofs.Bridge.{prior-end, end-at, end-tri}

module _ (rows n count : ℕ) (way : ℕ → ℕ) (w : List ℕ) (own-w : OwnWords rows n count way w) where
  abbrev A : LinkWords rows n w
  A = own-w.links

  abbrev C : GroupWords rows n count w
  C = own-w.groups

  abbrev B : Besides rows n count way w
  B = own-w.besides

  abbrev L : List ℕ
  L = list_of (3 * n) (λ r. cell rows link_column r w)

  abbrev G : List ℕ
  G = list_of (3 * n) (λ r. cell rows group_column r w)

  abbrev O : List ℕ
  O = list_of n (λ t. cell rows orientation_column t w)

  abbrev vertex : ℕ → ℕ
  vertex x = cell rows vertex_column x w

  abbrev any : ℕ → ℕ
  any t = cell rows any_column t w

  abbrev tri : ℕ → ℕ
  tri r = r / 3

  abbrev at : ℕ → Third
  at r = third (r % 3)

  link-is : (r : ℕ) → r < 3 * n → get_or L r 0 ≡ cell rows link_column r w
  link-is r h = get_or-list_of (3 * n) (λ r. cell rows link_column r w) 0 r h

  group-is : (r : ℕ) → r < 3 * n → get_or G r 0 ≡ cell rows group_column r w
  group-is r h = get_or-list_of (3 * n) (λ r. cell rows group_column r w) 0 r h

  way-is : (t : ℕ) → t < n → get_or O t 0 ≡ cell rows orientation_column t w
  way-is t h = get_or-list_of n (λ t. cell rows orientation_column t w) 0 t h

  -- the rows by triangle and corner
  leads-at : (r q : ℕ) → r < 3 * n → Leads L r q → own.Leads rows w (row (tri r) (at r)) (row (tri q) (at q))
  leads-at r q h l = ap (λ x. cell rows link_column x w) (row_is r) ∙ (sym (link-is r h) ∙ (l ∙ ap suc (sym (row_is q))))

  inside : (r q : ℕ) → r < 3 * n → Leads L r q → q < 3 * n
  inside r q h l = let a = B.range r h in let b = link-is r h in omega arith

  back : (r q : ℕ) → r < 3 * n → Leads L r q → Leads L q r
  back r q h l =
      let k = inside r q h l in
      link-is q k ∙ (ap (λ x. cell rows link_column x w) (sym (row_is q)) ∙ (A.back (tri r) (tri q) (at r) (at q) (tri-lt r n h) (tri-lt q n k) (leads-at r q h l) ∙ ap suc (row_is r)))

  turned : (r q : ℕ) → own.Turned rows w (tri r) (at r) (tri q) (at q) → Opposed (Equal vertex) r q
  turned r q t = (ap vertex (sym (row_is r)) ∙ (t.0 ∙ ap vertex (end-at q)), ap vertex (sym (end-at r)) ∙ (t.1 ∙ ap vertex (row_is q)))

  pub own-links : LinksFit (3 * n) (Equal vertex) L
  own-links =
      record {
        inside = inside;
        mutually = back;
        across = λ r q h l. turned r q (A.across (tri r) (tri q) (at r) (at q) (tri-lt r n h) (tri-lt q n (inside r q h l)) (leads-at r q h l));
        once = λ r s q h k l m. let x = back r q h l in let y = back s q k m in omega arith;
        none_left = λ r q h k f g o.
            A.none_left (tri r) (tri q) (at r) (at q) (tri-lt r n h) (tri-lt q n k)
            (ap (λ x. cell rows link_column x w) (row_is r) ∙ (sym (link-is r h) ∙ f)) (ap (λ x. cell rows link_column x w) (row_is q) ∙ (sym (link-is q k) ∙ g))
            (ap vertex (row_is r) ∙ (o.0 ∙ ap vertex (sym (end-at q))), ap vertex (end-at r) ∙ (o.1 ∙ ap vertex (sym (row_is q))));
      }

  -- ---- groups

  cell_row : (k r : ℕ) → cell rows k (row (tri r) (at r)) w ≡ cell rows k r w
  cell_row k r = ap (λ x. cell rows k x w) (row_is r)

  to-own : (r q : ℕ) → r < 3 * n → q < 3 * n → Together G r q → own.Together rows w (row (tri r) (at r)) (row (tri q) (at q))
  to-own r q h k T =
      record {
        same = cell_row group_column r ∙ (sym (group-is r h) ∙ (T.same ∙ (group-is q k ∙ sym (cell_row group_column q))));
        some = λ z. T.some (group-is r h ∙ (sym (cell_row group_column r) ∙ z));
      }

  from-words : (r q : ℕ) → r < 3 * n → q < 3 * n → cell rows group_column r w ≡ cell rows group_column q w → (cell rows group_column r w ≡ 0 → ⊥) → Together G r q
  from-words r q h k e ne = record { same = group-is r h ∙ (e ∙ sym (group-is q k)); some = λ z. ne (sym (group-is r h) ∙ z) }

  one_corner : (r q : ℕ) → r < 3 * n → q < 3 * n → Together G r q → vertex r ≡ vertex q
  one_corner r q h k T = sym (cell_row vertex_column r) ∙ (C.one_vertex (tri r) (tri q) (at r) (at q) (tri-lt r n h) (tri-lt q n k) (to-own r q h k T) ∙ cell_row vertex_column q)

  one_end : (r q : ℕ) → r < 3 * n → Leads L r q → any (r / 3) ≡ 0 → any (q / 3) ≡ 0 → get_or O (r / 3) 0 ≡ get_or O (q / 3) 0 → Together G r (end_row q)
  one_end r q h l a b o =
      let k = inside r q h l in
      let i = tri-lt r n h in
      let j = tri-lt q n k in
      let T = C.one_group (tri r) (tri q) (at r) (at q) i j (leads-at r q h l) a b (sym (way-is (r / 3) i) ∙ (o ∙ way-is (q / 3) j)) in
      from-words r (end_row q) h (end_lt q n k) (sym (cell_row group_column r) ∙ (T.same ∙ ap (λ x. cell rows group_column x w) (end-at q))) (λ z. T.some (cell_row group_column r ∙ z))

  -- ---- every group is connected

  abbrev met : ℕ → ℕ
  met j = cell rows met_column j w

  -- where the group of member j begins
  abbrev first : ℕ → ℕ
  first j = met (cell rows begin_column (number_of rows w j - 1) w)

  first-same : (j k : ℕ) → number_of rows w j ≡ number_of rows w k → first j ≡ first k
  first-same j k e = ap (λ x. met (cell rows begin_column (x - 1) w)) e

  fellows : (j k : ℕ) → j < count → k < count → number_of rows w j ≡ number_of rows w k → Together G (met j) (met k)
  fellows j k h l e = from-words (met j) (met k) (B.below j h) (B.below k l) e (B.some j h)

  -- the corner in which a linked side ends is the member's own, where it is in its triangle
  same-corner : (r q m : ℕ) → r < 3 * n → q < 3 * n → m < 3 * n → q / 3 ≡ m / 3 → vertex r ≡ vertex q → Together G r m → q ≡ m
  same-corner r q m h k l e v T = B.sharp q m k l e (sym v ∙ one_corner r m h l T)

  leads-row : (r q : ℕ) → r < 3 * n → own.Leads rows w r q → Leads L r q
  leads-row r q h e = link-is r h ∙ e

  met_by : (m j : ℕ) → j < count → own.MetFrom rows w j → ((k : ℕ) → k < j → k < count → Chain n L G (first k) (met k)) → Chain n L G (first j) (met j)
  met_by m j h (own.start e) ih = subst (λ x. Chain n L G x (met j)) (sym e) here
  met_by m j h (own.member k t i q l e r d f) ih =
      let b : k < count = omega arith in
      let T = fellows k j b h e in
      let c = subst (λ x. Chain n L G x (met k)) (first-same k j e) (ih k l b) in
      let a = leads-row (met k) q (B.below k b) (ap (λ x. cell rows link_column x w) r ∙ d) in
      let u = inside (met k) q (B.below k b) a in
      let s = same-corner (met k) (end_row q) (met j) (B.below k b) (end_lt q n u) (B.below j h) (end-tri q ∙ f) (own-links.across (met k) q (B.below k b) a).0 T in
      on false (met k) (met j) c (B.below k b) (subst (Way L false (met k)) s (after (met k) q a)) T
  met_by m j h (own.member_before k t i q l e r d f) ih =
      let b : k < count = omega arith in
      let T = fellows k j b h e in
      let c = subst (λ x. Chain n L G x (met k)) (first-same k j e) (ih k l b) in
      let z : ℕ = row t (prior-third i) in
      let y : end_row z ≡ met k = prior-end t i ∙ sym r in
      let v : z < 3 * n = end_below z n (subst (λ x. x < 3 * n) (sym y) (B.below k b)) in
      let a = leads-row z q v d in
      let u = inside z q v a in
      let s = same-corner (met k) q (met j) (B.below k b) u (B.below j h) f (ap vertex (sym y) ∙ (own-links.across z q v a).1) T in
      on true (met k) (met j) c (B.below k b) (subst (λ x. Way L true x (met j)) y (subst (Way L true (end_row z)) s (before z q a))) T

  chained : (m j : ℕ) → j < m → j < count → Chain n L G (first j) (met j)
  chained zero j l h = absurd (omega arith)
  chained (suc m) j l h = met_by m j h (C.connected j h) (λ k i g. chained m k (omega arith) g)

  connected : (r q : ℕ) → r < 3 * n → q < 3 * n → Together G r q → Chain n L G r q
  connected r q h k T =
      let a = B.is_member r h (λ z. T.some (group-is r h ∙ z)) in
      let b = B.is_member q k (λ z. T.some (T.same ∙ (group-is q k ∙ z))) in
      let e : number_of rows w a.0 ≡ number_of rows w b.0 = ap (λ x. cell rows group_column x w) a.2 ∙ (sym (group-is r h) ∙ (T.same ∙ (group-is q k ∙ ap (λ x. cell rows group_column x w) (sym b.2)))) in
      let c = subst (Chain n L G (first a.0)) a.2 (chained (suc a.0) a.0 (omega arith) a.1) in
      let d = subst (λ x. Chain n L G x q) (sym (first-same a.0 b.0 e)) (subst (Chain n L G (first b.0)) b.2 (chained (suc b.0) b.0 (omega arith) b.1)) in
      chain-on n L G r (first a.0) q (chain_back n L G (Equal vertex) own-links (first a.0) r (B.below (cell rows begin_column (number_of rows w a.0 - 1) w) (B.begins a.0 a.1)) c) d

  pub own-groups : GroupsFit n (Equal vertex) any way L G O
  own-groups =
      record {
        flags = λ t h. subst (λ x. x ≤ 1) (sym (way-is t h)) (B.flags t h);
        one_corner = one_corner;
        one_way = λ r q h k T. way-is (r / 3) (tri-lt r n h) ∙ (C.one_way (tri r) (tri q) (at r) (at q) (tri-lt r n h) (tri-lt q n k) (to-own r q h k T) ∙ sym (way-is (q / 3) (tri-lt q n k)));
        some = λ r h a z. C.some (tri r) (at r) (tri-lt r n h) a (cell_row group_column r ∙ (sym (group-is r h) ∙ z));
        keeps = λ t h a. way-is t h ∙ B.keeps t h a;
        one_group = λ r q h l a b o. let k = inside r q h l in (one_end r q h l a b o, together-back G q (end_row r) (one_end q r k (back r q h l) b a (sym o)));
        connected = connected;
      }

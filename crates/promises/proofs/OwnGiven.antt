-- Our own lists are the definition's, and the call for them has one outcome. Assumes nothing.
use Prim.Native.Nat.{ℕ, zero, suc, ◌+◌, ◌*◌, ◌/◌, ◌%◌, ◌≤◌, ◌<◌}
use native.Mathlib.Omega.{arith}
use mathlib.Core.Path.{◌≡◌, refl, sym, subst, ap, ◌∙◌}
use mathlib.Core.Bool.{Bool, true, false, cond, not, true≢false}
use mathlib.Core.List.{List, ◌++◌}
use mathlib.Core.Option.{Option, none, some-injective, none-ne-some}
use lib.Dec.{eqb}
use lib.ListN.{length, get_or, take, drop}
use lib.Seq.{sets, sets-eq, drop-append_seam}
use borrow.Author.Tests.{eq-eqb, eqb-true, eqb-false}
use Rattle.definition.specs.Frames.{triangles_of}
use Rattle.table.specs.Table.{cell}
use Rattle.lists.specs.Loops.{list_of}
use Rattle.table.specs.Columns.{rows_of, orientation_column, link_column, group_column, begin_column}
use Rattle.lists.proofs.Loops.{length-list_of, get_or-list_of}
use Rattle.definition.specs.declared.Triangle.{Triangle}
use Rattle.definition.specs.Handed.{Handed, corner_at}
use Rattle.definition.specs.Desk.{not_finite}
use Rattle.definition.specs.Mesh.{Third, one, Spot, same_spot}
use Rattle.definition.specs.Step5Links.{links, beyond}
use Rattle.definition.specs.Step6Groups.{Mark, marks, grouped}
use Rattle.laws.proofs.Closed.{links-sound}
use Rattle.laws.proofs.Laws.{mark, some-triangle}
use Rattle.definition.specs.Names.{Names}
use Rattle.view.specs.Rows.{row, third, spot_at}
use Rattle.view.specs.Links.{LinkWord, nowhere, towards}
use Rattle.view.specs.Groups.{number_of, Grouping}
use Rattle.view.proofs.Lists.{list_of-same}
use Rattle.view.proofs.Rows.{row_is, tri-lt, row_lt, row-inj, at-inj}
use Rattle.members.proofs.Ordering.{member_of}
use Rattle.grouped.specs.Grouped.{Six}
use Rattle.asked.proofs.Fits.{ordered}
use Rattle.examine.specs.Contract.{refusal, sound_of, too_short, front, Withheld, HandedOut}
use Rattle.examine.proofs.Columns.{grouped-fit}
use Rattle.examine.proofs.Fronts.{front-take}
use Rattle.promises.specs.Examiner.{Asking, Fetched, sound_in, group_number, OwnGiven, OwnLists}
use Rattle.promises.proofs.OwnColumns.{same_row, linked-words}
use Rattle.promises.proofs.Examiner.{either, given_out, good-mesh, long-lists, place_is}

-- ---- the numbers of groups

module _ (rows : ℕ) (ss : List Triangle) (d : Triangle) (groups : ℕ) (w : List ℕ) (e : Mark) (G : Grouping rows ss d (marks ss (links ss)) groups w) where
  abbrev ms : List Mark
  ms = marks ss (links ss)

  -- no number is left out: the next is the same or one more
  next_le : (j : ℕ) → suc j < length ms → number_of rows w (suc j) ≤ number_of rows w j + 1
  next_le j h =
      ordered (number_of rows w j + 1) (number_of rows w (suc j))
      (λ l. absurd (between l))
      (λ q. omega arith)
      (λ l. omega arith)
    where
      between : number_of rows w j + 1 < number_of rows w (suc j) → ⊥
      between l =
          let a = number_of rows w j in
          let k = (G.member (suc j) e h).known in
          let q : a < groups = omega arith in
          let b = cell rows begin_column a w in
          let n = G.begins.number a q in
          let i = G.begins.begun a q in
          ordered b (suc j)
          (λ m. let o = G.order b j (omega arith) (omega arith) in omega arith)
          (λ m. let o = ap (number_of rows w) m in omega arith)
          (λ m. let o = G.order (suc j) b (omega arith) i in omega arith)

  pub number_is : (j : ℕ) → j < length ms → number_of rows w j ≡ group_number ms e j
  unfolding group_number
  number_is zero h =
      let M = G.member 0 e h in
      let s = M.some in
      let k = M.known in
      let q : 0 < groups = omega arith in
      let n = G.begins.number 0 q in
      let o = G.order 0 (cell rows begin_column 0 w) (omega arith) (G.begins.begun 0 q) in
      omega arith
  number_is (suc j) h = go (same_spot (get_or ms j e).start (get_or ms (suc j) e).start) (G.same j (suc j) e (omega arith) h) (number_is j (omega arith))
    where
      go : (b : Bool) → eqb (number_of rows w j) (number_of rows w (suc j)) ≡ b → number_of rows w j ≡ group_number ms e j → number_of rows w (suc j) ≡ group_number ms e j + cond b 0 1
      go true q i = let f = eqb-true (number_of rows w j) (number_of rows w (suc j)) q in omega arith
      go false q i =
          let f = eqb-false (number_of rows w j) (number_of rows w (suc j)) q in
          let o = G.order j (suc j) (omega arith) h in
          let n = next_le j h in
          omega arith

  module _ (N : Names ss) where
    pub group-is : (j t : ℕ) (i : Third) → j < length ms → t < length ss → (get_or ms j e).spot ≡ spot_at ss d t i → cell rows group_column (row t i) w ≡ group_number ms e j
    group-is j t i h k s =
        let M = G.member j e h in
        let r = same_row ss d N M.tri t M.at i M.inside k (sym M.is ∙ s) in
        ap (λ (x : ℕ). cell rows group_column x w) (sym (M.member ∙ r)) ∙ number_is j h

    pub free-is : (t : ℕ) (i : Third) → t < length ss → grouped ms (spot_at ss d t i) ≡ false → cell rows group_column (row t i) w ≡ 0
    free-is t i h f = eqb-true (cell rows group_column (row t i) w) 0 (G.free t i h ∙ ap not f)

-- two columns of groups of one mesh
pub one_group : (rows : ℕ) (ss : List Triangle) (d : Triangle) (g g' : ℕ) (w w' : List ℕ) (e : Mark) → Names ss → Grouping rows ss d (marks ss (links ss)) g w → Grouping rows ss d (marks ss (links ss)) g' w' → (t : ℕ) (i : Third) → t < length ss → cell rows group_column (row t i) w ≡ cell rows group_column (row t i) w'
one_group rows ss d g g' w w' e N G G' t i h = go (grouped (marks ss (links ss)) (spot_at ss d t i)) refl
  where
    go : (b : Bool) → grouped (marks ss (links ss)) (spot_at ss d t i) ≡ b → cell rows group_column (row t i) w ≡ cell rows group_column (row t i) w'
    go false f = free-is rows ss d g w e G N t i h f ∙ sym (free-is rows ss d g' w' e G' N t i h f)
    go true f =
        let ne : cell rows group_column (row t i) w ≡ 0 → ⊥ = λ z. true≢false (sym (eq-eqb (cell rows group_column (row t i) w) 0 z) ∙ (G.free t i h ∙ ap not f)) in
        let m = member_of rows ss d g w (links ss) (links-sound ss) N G (row t i) (row_lt t (length ss) i h) ne in
        let M = G.member m.0 e m.1 in
        let r : row M.tri M.at ≡ row t i = sym M.member ∙ m.2 in
        let s : (get_or (marks ss (links ss)) m.0 e).spot ≡ spot_at ss d t i = M.is ∙ (λ z. spot_at ss d (row-inj M.tri t M.at i r z) (at-inj M.tri t M.at i r z)) in
        group-is rows ss d g w e G N m.0 t i m.1 h s ∙ sym (group-is rows ss d g' w' e G' N m.0 t i m.1 h s)

-- two words of one link
pub one_link : (ss : List Triangle) (d : Triangle) → Names ss → (o o' : Option Spot) (x y : ℕ) → LinkWord ss d o x → LinkWord ss d o' y → o ≡ o' → x ≡ y
one_link ss d N o o' x y nowhere nowhere e = refl
one_link ss d N o o' x y nowhere (towards v k g) e = absurd (none-ne-some (spot_at ss d v k) e)
one_link ss d N o o' x y (towards u j h) nowhere e = absurd (none-ne-some (spot_at ss d u j) (sym e))
one_link ss d N o o' x y (towards u j h) (towards v k g) e = ap suc (same_row ss d N u v j k h g (some-injective (spot_at ss d u j) (spot_at ss d v k) e))

-- ---- the lists at the fronts

-- the rest of a list whose front is filled
past : (h : ℕ → ℕ) (w : List ℕ) (n : ℕ) → n ≤ length w → drop n (sets w 0 (list_of n h)) ≡ drop n w
past h w n l =
    ap (drop n) (sets-eq (list_of n h) w 0 (omega (arith, length-list_of n h)))
    ∙ (ap (λ (m : ℕ). drop m (list_of n h ++ drop (0 + length (list_of n h)) w)) (sym (length-list_of n h))
    ∙ (drop-append_seam (list_of n h) (drop (0 + length (list_of n h)) w) ∙ ap (λ (m : ℕ). drop m w) (let z : 0 + length (list_of n h) ≡ n = omega (arith, length-list_of n h) in z)))

-- by rows
by_rows : (n : ℕ) (f g : ℕ → ℕ) → ((t : ℕ) (i : Third) → t < n → f (row t i) ≡ g (row t i)) → list_of (3 * n) f ≡ list_of (3 * n) g
by_rows n f g e = list_of-same (3 * n) f g (λ r h. ap f (sym (row_is r)) ∙ (e (r / 3) (third (r % 3)) (tri-lt r n h) ∙ ap g (row_is r)))

module _ (x : Asking) (f : Fetched x) (z : f.returned.number ≡ 0) (d : Triangle) (e : Mark) where
  abbrev m : Handed
  m = x.mesh

  abbrev ss : List Triangle
  ss = sound_in m

  abbrev rows : ℕ
  rows = rows_of (length m.sizes)

  abbrev D : HandedOut m x.links x.groups x.ways x.work f.returned.sound f.links f.groups f.ways f.work
  D = given_out x f z

  abbrev n : ℕ
  n = D.counts.sound

  abbrev six : Six rows m (triangles_of m) d D.counts D.v
  six = D.left.stands (good-mesh x f z) d

  fits : 3 * n ≤ rows
  fits = grouped-fit m D.counts x.work D.v D.left

  room : (6 * length m.sizes ≤ length x.links) × (6 * length m.sizes ≤ length x.groups) × (2 * length m.sizes ≤ length x.ways)
  room = long-lists x f z

  front-links : take (3 * f.returned.sound) f.links ≡ list_of (3 * n) (λ r. cell rows link_column r D.v)
  front-links = (λ i. take (3 * D.sound i) (D.links i)) ∙ front-take _ x.links (3 * n) (omega (arith, fits, room.0))

  front-groups : take (3 * f.returned.sound) f.groups ≡ list_of (3 * n) (λ r. cell rows group_column r D.v)
  front-groups = (λ i. take (3 * D.sound i) (D.groups i)) ∙ front-take _ x.groups (3 * n) (omega (arith, fits, room.1))

  front-ways : take f.returned.sound f.ways ≡ list_of n (λ t. cell rows orientation_column t D.v)
  front-ways = (λ i. take (D.sound i) (D.ways i)) ∙ front-take _ x.ways n (omega (arith, fits, room.2))

  count : n ≡ length ss
  count = D.left.sound_count

  below : (t : ℕ) (i : Third) → t < length ss → row t i < 3 * n
  below t i h = subst (λ (k : ℕ). row t i < 3 * k) (sym count) (row_lt t (length ss) i h)

  link_at : (t : ℕ) (i : Third) → t < length ss → get_or (take (3 * f.returned.sound) f.links) (row t i) 0 ≡ cell rows link_column (row t i) D.v
  link_at t i h = ap (λ (l : List ℕ). get_or l (row t i) 0) front-links ∙ get_or-list_of (3 * n) (λ r. cell rows link_column r D.v) 0 (row t i) (below t i h)

  group_at : (t : ℕ) (i : Third) → t < length ss → get_or (take (3 * f.returned.sound) f.groups) (row t i) 0 ≡ cell rows group_column (row t i) D.v
  group_at t i h = ap (λ (l : List ℕ). get_or l (row t i) 0) front-groups ∙ get_or-list_of (3 * n) (λ r. cell rows group_column r D.v) 0 (row t i) (below t i h)

  pub given-own : OwnGiven x f d e
  given-own =
      record {
        place_0 = place_is x f z;
        sound = D.sound ∙ count;
        own = record {
          long_links = ap length front-links ∙ (length-list_of (3 * n) (λ r. cell rows link_column r D.v) ∙ ap (λ (k : ℕ). 3 * k) count);
          long_groups = ap length front-groups ∙ (length-list_of (3 * n) (λ r. cell rows group_column r D.v) ∙ ap (λ (k : ℕ). 3 * k) count);
          long_ways = ap length front-ways ∙ (length-list_of n (λ t. cell rows orientation_column t D.v) ∙ count);
          link = λ t i h. subst (LinkWord ss d (beyond (links ss) (spot_at ss d t i))) (sym (link_at t i h)) (linked-words rows m _ d D.counts D.v six D.left.fits t i h);
          group = λ j t i h k s. group_at t i k ∙ group-is rows ss d D.counts.groups D.v e six.grouping six.five.names j t i h k s;
          free = λ t i h g. group_at t i h ∙ free-is rows ss d D.counts.groups D.v e six.grouping six.five.names t i h g;
          way = λ t h. ap (λ (l : List ℕ). get_or l t 0) front-ways ∙ (get_or-list_of n (λ t. cell rows orientation_column t D.v) 0 t (subst (λ (k : ℕ). t < k) (sym count) h) ∙ six.grouping.way t h);
        };
        links_past = (λ i. drop (3 * D.sound i) (D.links i)) ∙ (past _ x.links (3 * n) (omega (arith, fits, room.0)) ∙ (λ i. drop (3 * sym D.sound i) x.links));
        groups_past = (λ i. drop (3 * D.sound i) (D.groups i)) ∙ (past _ x.groups (3 * n) (omega (arith, fits, room.1)) ∙ (λ i. drop (3 * sym D.sound i) x.groups));
        ways_past = (λ i. drop (D.sound i) (D.ways i)) ∙ (past _ x.ways n (omega (arith, fits, room.2)) ∙ (λ i. drop (sym D.sound i) x.ways));
        work = D.work;
      }

-- two outcomes of one call
module _ (mesh : Handed) (L G O w : List ℕ) (good : not_finite mesh ≡ none) (p q : ℕ) (L₁ G₁ O₁ u₁ L₂ G₂ O₂ u₂ : List ℕ) (A : HandedOut mesh L G O w p L₁ G₁ O₁ u₁) (B : HandedOut mesh L G O w q L₂ G₂ O₂ u₂) where
  abbrev os : List Triangle
  os = sound_of mesh

  abbrev rs : ℕ
  rs = rows_of (length mesh.sizes)

  dᵒ : Triangle
  dᵒ = some-triangle (corner_at mesh.positions mesh.normals mesh.texture 0)

  eᵒ : Mark
  eᵒ = mark (spot_at os dᵒ 0 one) (spot_at os dᵒ 0 one)

  abbrev six-a : Six rs mesh (triangles_of mesh) dᵒ A.counts A.v
  six-a = A.left.stands good dᵒ

  abbrev six-b : Six rs mesh (triangles_of mesh) dᵒ B.counts B.v
  six-b = B.left.stands good dᵒ

  rows_same : (j : ℕ) (X : List ℕ) → ((t : ℕ) (i : Third) → t < length os → cell rs j (row t i) A.v ≡ cell rs j (row t i) B.v) → front rs j (3 * A.counts.sound) A.v X ≡ front rs j (3 * B.counts.sound) B.v X
  rows_same j X h =
      ap (λ (k : ℕ). front rs j (3 * k) A.v X) A.left.sound_count
      ∙ (ap (sets X 0) (by_rows (length os) (λ r. cell rs j r A.v) (λ r. cell rs j r B.v) h) ∙ ap (λ (k : ℕ). front rs j (3 * k) B.v X) (sym B.left.sound_count))

  pub one-sound : p ≡ q
  one-sound = A.sound ∙ (A.left.sound_count ∙ (sym B.left.sound_count ∙ sym B.sound))

  pub one-links : L₁ ≡ L₂
  one-links =
      A.links
      ∙ (rows_same link_column L
      (λ t i h. one_link os dᵒ six-a.five.names _ _ _ _ (linked-words rs mesh _ dᵒ A.counts A.v six-a A.left.fits t i h) (linked-words rs mesh _ dᵒ B.counts B.v six-b B.left.fits t i h) refl)
      ∙ sym B.links)

  pub one-groups : G₁ ≡ G₂
  one-groups = A.groups ∙ (rows_same group_column G (one_group rs os dᵒ A.counts.groups B.counts.groups A.v B.v eᵒ six-a.five.names six-a.grouping six-b.grouping) ∙ sym B.groups)

  pub one-ways : O₁ ≡ O₂
  one-ways =
      A.ways
      ∙ (ap (λ (k : ℕ). front rs orientation_column k A.v O) A.left.sound_count
      ∙ (ap (sets O 0) (list_of-same (length os) (λ t. cell rs orientation_column t A.v) (λ t. cell rs orientation_column t B.v) (λ t h. six-a.grouping.way t h ∙ sym (six-b.grouping.way t h)))
      ∙ (ap (λ (k : ℕ). front rs orientation_column k B.v O) (sym B.left.sound_count) ∙ sym B.ways)))

pub one-outcome : (x : Asking) (f g : Fetched x) → (f.returned ≡ g.returned) × (f.links ≡ g.links) × (f.groups ≡ g.groups) × (f.ways ≡ g.ways) × (f.work ≡ g.work)
one-outcome x f g =
    let m = x.mesh in
    either m (length x.work)
    (λ r s. same-withheld r.number r.place (f.meets.refused r s) (g.meets.refused r s))
    (λ n. go n (too_short (length m.sizes) (length x.links) (length x.groups) (length x.ways)) refl)
  where
    same-withheld : (a b : ℕ) → Withheld a b x.links x.groups x.ways x.work f.returned f.links f.groups f.ways f.work → Withheld a b x.links x.groups x.ways x.work g.returned g.links g.groups g.ways g.work → (f.returned ≡ g.returned) × (f.links ≡ g.links) × (f.groups ≡ g.groups) × (f.ways ≡ g.ways) × (f.work ≡ g.work)
    same-withheld a b A B = (A.is ∙ sym B.is, A.links ∙ sym B.links, A.groups ∙ sym B.groups, A.ways ∙ sym B.ways, A.work ∙ sym B.work)

    go : refusal x.mesh (length x.work) ≡ none → (b : Bool) → too_short (length x.mesh.sizes) (length x.links) (length x.groups) (length x.ways) ≡ b → (f.returned ≡ g.returned) × (f.links ≡ g.links) × (f.groups ≡ g.groups) × (f.ways ≡ g.ways) × (f.work ≡ g.work)
    go n true e = same-withheld 9 0 (f.meets.short n e) (g.meets.short n e)
    go n false e =
        let m = x.mesh in
        let A = f.meets.given n e in
        let B = g.meets.given n e in
        let good = good-mesh x f A.number in
        let p = A.number ∙ sym B.number in
        let q = A.place ∙ sym B.place in
        let s = one-sound m x.links x.groups x.ways x.work good _ _ _ _ _ _ _ _ _ _ A.handed B.handed in (
          (λ i. record { number = p i; place = q i; sound = s i }),
          one-links m x.links x.groups x.ways x.work good _ _ _ _ _ _ _ _ _ _ A.handed B.handed,
          one-groups m x.links x.groups x.ways x.work good _ _ _ _ _ _ _ _ _ _ A.handed B.handed,
          one-ways m x.links x.groups x.ways x.work good _ _ _ _ _ _ _ _ _ _ A.handed B.handed,
          A.handed.work ∙ sym B.handed.work,
        )

pub own_lists : OwnLists
own_lists = record { given = given-own; determined = one-outcome }

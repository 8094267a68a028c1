-- Request E10: the promises of the examiner, and that our own lists are accepted. Assumes nothing.
use Prim.Native.Nat.{ℕ, ◌*◌, ◌≤◌}
use native.Mathlib.Omega.{arith}
use mathlib.Core.Path.{◌≡◌, refl, sym, subst, ap, ◌∙◌}
use mathlib.Core.Bool.{Bool, true, false, cond, not, ◌||◌, true≢false}
use mathlib.Core.List.{List, [], ◌∷◌}
use mathlib.Core.Option.{Option, none, some, some-injective, none-ne-some}
use lib.Dec.{eqb, ltb}
use lib.ListN.{length, take}
use lib.Ieee.{of_bits}
use borrow.Author.Tests.{ltb-true, lt-ltb, eqb-true}
use Rattle.apart.proofs.Putting.{slots-few}
use Rattle.definition.specs.Frames.{triangles_of}
use Rattle.bits.specs.Word.{is_finite}
use Rattle.bits.specs.Single.{zeroᶠ}
use Rattle.tangent.specs.Slot.{slot_words}
use Rattle.table.specs.Table.{cell}
use Rattle.lists.specs.Loops.{list_of}
use Rattle.lists.proofs.Loops.{length-list_of}
use Rattle.table.specs.Columns.{rows_of, orientation_column, any_column, vertex_column, link_column, group_column}
use Rattle.definition.specs.declared.Triangle.{Triangle}
use Rattle.definition.specs.Limits.{face_limit, work_words}
use Rattle.lists.specs.Lists.{first}
use Rattle.definition.specs.Mesh.{corner_of}
use Rattle.definition.specs.Handed.{Handed, corner_at, used, slots_of, slot_count}
use Rattle.definition.specs.Desk.{not_finite, no_normal, Row, is_there, or_zero, too_many, misfit, table, verdict, shown}
use Rattle.laws.proofs.Laws.{some-triangle}
use Rattle.laws.proofs.Weld.{welded-refl, welded-as, found_at}
use Rattle.laws.proofs.Verdict.{verdict-numbered, fine, Numbered}
use Rattle.view.specs.Rows.{spot_row}
use Rattle.view.specs.Weld.{Welds}
use Rattle.grouped.specs.declared.MeshCounts.{MeshCounts}
use Rattle.grouped.specs.Grouped.{LeftBySix}
use Rattle.asked.specs.Lowest.{accepted}
use Rattle.asked.specs.Links.{Equal, LinksFit}
use Rattle.asked.specs.Groups.{GroupsFit}
use Rattle.asked.specs.Meaning.{LinksAccepted, GroupsAccepted, Same, any_of, way_of}
use Rattle.asked.specs.Objections.{Applies}
use Rattle.asked.proofs.Stages.{verdict-one, verdict-clear}
use Rattle.asked.proofs.Fits.{clear-links, clear-groups, clear-long, all-clear}
use Rattle.asked.proofs.Likes.{links-like, groups-like}
use Rattle.asked.proofs.Bridge.{fit-accepted, accepted-fit, groups-accepted, accepted-groups}
use Rattle.examine.specs.declared.Owned as outcome
use Rattle.mikktspace.specs.Alone.{longest_answer as longest}
use Rattle.examine.specs.Contract.{refusal, sound_of, too_short, Decided, HandedOut}
use Rattle.examine.proofs.Columns.{to_same, from-same, grouped-fit}
use Rattle.examine.proofs.Fronts.{front-take}
use Rattle.examine.proofs.Results.{long-enough}
use Rattle.promises.specs.OwnColumns.{Promised}
use Rattle.promises.specs.Examiner.{Asking, Asked, Fetched, sound_in, Sound, Objects, Refused, Examiner, AboutOwn, OwnAccepted}
use Rattle.promises.proofs.OwnColumns.{own_columns, welded-words, any-words}
use Rattle.promises.proofs.ListsOwned.{own-links, own-groups}

-- ---- the desk

-- at most four slots a face
slots-of : (n : ℕ) → slots_of n ≤ 4
unfolding slots_of used
slots-of n = go (eqb n 3) (eqb n 4) refl refl
  where
    go : (a b : Bool) → eqb n 3 ≡ a → eqb n 4 ≡ b → cond (a || b) n 0 ≤ 4
    go true b e f = let x = eqb-true n 3 e in omega arith
    go false true e f = let x = eqb-true n 4 f in omega arith
    go false false e f = omega arith

abbrev row_of : ℕ → Bool → ℕ → Row
row_of k b i = record { number = k; applies = b; place = i }

-- what the number of the row that is given is not
given : (k : ℕ) (r x : Row) → some r ≡ some x → r.number ≡ k → (k ≡ 3 → ⊥) → (k ≡ 5 → ⊥) → (x.number ≡ 3 → ⊥) × (x.number ≡ 5 → ⊥)
given k r x s e a b =
    let f : r.number ≡ x.number = ap (λ (y : Row). y.number) (some-injective r x s) in
    ((λ z. a (sym e ∙ (f ∙ z))), (λ z. b (sym e ∙ (f ∙ z))))

-- of the seven rows of which the third does not apply, nor row 5 where the first does not, neither is given
never : (a b c d e f g : Bool) (i j : ℕ) (x : Row) → c ≡ false → (f ≡ true → a ≡ true) → first (λ r. r.applies) (row_of 1 a 0 ∷ row_of 2 b 0 ∷ row_of 3 c 0 ∷ row_of 4 d i ∷ row_of 7 e j ∷ row_of 5 f 0 ∷ row_of 6 g 0 ∷ []) ≡ some x → (x.number ≡ 3 → ⊥) × (x.number ≡ 5 → ⊥)
unfolding first
never true b c d e f g i j x p q s = given 1 (row_of 1 true 0) x s refl (λ z. omega arith) (λ z. omega arith)
never false true c d e f g i j x p q s = given 2 (row_of 2 true 0) x s refl (λ z. omega arith) (λ z. omega arith)
never false false true d e f g i j x p q s = absurd (true≢false p)
never false false false true e f g i j x p q s = given 4 (row_of 4 true i) x s refl (λ z. omega arith) (λ z. omega arith)
never false false false false true f g i j x p q s = given 7 (row_of 7 true j) x s refl (λ z. omega arith) (λ z. omega arith)
never false false false false false true g i j x p q s = absurd (true≢false (sym (q refl)))
never false false false false false false true i j x p q s = given 6 (row_of 6 true 0) x s refl (λ z. omega arith) (λ z. omega arith)
never false false false false false false false i j x p q s = absurd (none-ne-some x s)

finite-zero : not (is_finite zeroᶠ) ≡ false
unfolding is_finite of_bits
finite-zero = refl

module _ (mesh : Handed) (work : ℕ) where
  abbrev desk : Option Row
  desk = refusal mesh work

  -- neither 3 nor 5 is ever given
  pub never-3-5 : (x : Row) → desk ≡ some x → (x.number ≡ 3 → ⊥) × (x.number ≡ 5 → ⊥)
  unfolding verdict table too_many
  never-3-5 x s =
      let bad = not_finite mesh in
      let bare = no_normal mesh in
      never (ltb face_limit (length mesh.sizes)) (misfit mesh) (not (is_finite zeroᶠ)) (is_there bad) (is_there bare) (ltb longest (slot_words * slot_count mesh.sizes)) (ltb work (work_words * length mesh.sizes)) (or_zero bad) (or_zero bare) x finite-zero
      (λ e. lt-ltb face_limit (length mesh.sizes) (omega (arith, ltb-true longest (slot_words * slot_count mesh.sizes) e, slots-few mesh.sizes))) s

  numbered : (x : Row) → desk ≡ some x → Numbered x
  numbered x s = (found_at _ x (verdict-numbered (shown mesh zeroᶠ longest work)) s).known

  -- there is a refusal or there is none
  pub either : {P : Type 0} → ((x : Row) → desk ≡ some x → P) → (desk ≡ none → P) → P
  either {P} f g = go desk refl
    where
      go : (o : Option Row) → desk ≡ o → P
      go none e = g e
      go (some x) e = f x e

-- ---- welded corners

stable : (b : Bool) → ((b ≡ true → ⊥) → ⊥) → b ≡ true
stable true h = refl
stable false h = absurd (h (λ e. true≢false (sym e)))

module _ (ss : List Triangle) (d : Triangle) where
  turns : (r q : ℕ) → Same ss d r q → Same ss d q r
  turns r q s = let c = corner_of (spot_row ss d r) in let e = corner_of (spot_row ss d q) in sym (welded-as c e c s) ∙ welded-refl c

  itself : (r : ℕ) → Same ss d r r
  itself r = welded-refl (corner_of (spot_row ss d r))

-- ---- the examiner

module _ (x : Asking) (a : Asked x) where
  abbrev m : Handed
  m = x.mesh

  abbrev ss : List Triangle
  ss = sound_in m

  not-refused : a.returned.refusal ≡ 0 → refusal m (length x.work) ≡ none
  not-refused z =
      either m (length x.work)
      (λ r s. absurd (let n = (numbered m (length x.work) r s).0 in let e = (a.meets.refused r s).number in omega arith))
      (λ n. n)

  decision : a.returned.refusal ≡ 0 → Decided m x.links x.groups x.ways x.work a.returned a.work
  decision z = a.meets.decided (not-refused z)

  refused-with : (a.returned.refusal ≡ 0 → ⊥) → Refused x a.returned a.work
  refused-with ne =
      either m (length x.work)
      (λ r s.
      let R = a.meets.refused r s in
      let n = numbered m (length x.work) r s in
      let o = never-3-5 m (length x.work) r s in
      record {
        low = let e = R.number in let l = n.0 in omega arith;
        high = let e = R.number in let l = n.1 in omega arith;
        not_3 = λ z. o.0 (sym R.number ∙ z);
        not_5 = λ z. o.1 (sym R.number ∙ z);
        objection_0 = R.none;
        same_work = R.work;
      })
      (λ n. absurd (ne (a.meets.decided n).number))

  module _ (d : Triangle) (z : a.returned.refusal ≡ 0) where
    abbrev T : ℕ → ℕ → Type 0
    T = Applies (length ss) (Same ss d) (any_of ss d) (way_of ss d) x.links x.groups x.ways

    told : Objects x d a.returned.objection a.returned.place
    told = (decision z).decides.verdict d

    one-verdict : (k p : ℕ) → Objects x d k p → (a.returned.objection ≡ k) × (a.returned.place ≡ p)
    one-verdict k p o = verdict-one T 13 a.returned.objection a.returned.place k p (λ r e. e) told o

    pub takes : Sound x d → (a.returned.objection ≡ 0) × (a.returned.place ≡ 0)
    takes S =
        let F = accepted-fit ss d x.links S.links in
        let K = accepted-groups ss d x.links x.groups x.ways F S.groups in
        one-verdict 0 0 (accepted (all-clear (length ss) (Same ss d) (any_of ss d) (way_of ss d) x.links x.groups x.ways (record { links = S.links.long; groups = S.groups.long.0; ways = S.groups.long.1 }) F K))

    taken : a.returned.objection ≡ 0 → Sound x d
    taken e =
        let c = verdict-clear T 13 a.returned.objection a.returned.place (λ r e. e) told e in
        let l = clear-long (length ss) (Same ss d) (any_of ss d) (way_of ss d) x.links x.groups x.ways 13 (omega arith) c in
        let F = clear-links (length ss) (Same ss d) (any_of ss d) (way_of ss d) x.links x.groups x.ways (λ r q. stable _) 13 (omega arith) c in
        let K = clear-groups (length ss) (Same ss d) (any_of ss d) (way_of ss d) x.links x.groups x.ways (λ r q. stable _) (turns ss d) (itself ss d) c ((decision z).decides.connected e) in
        record { links = fit-accepted ss d x.links l.links F; groups = groups-accepted ss d x.links x.groups x.ways l.groups l.ways F K }

determined : (x : Asking) (a b : Asked x) → (a.returned ≡ b.returned) × (a.work ≡ b.work)
determined x a b =
    let m = x.mesh in
    either m (length x.work)
    (λ r s.
    let A = a.meets.refused r s in
    let B = b.meets.refused r s in
    let p = A.number ∙ sym B.number in
    let q = A.none ∙ sym B.none in
    let o = A.place ∙ sym B.place in
    ((λ i. record { refusal = p i; objection = q i; place = o i }), A.work ∙ sym B.work))
    (λ n.
    let A = a.meets.decided n in
    let B = b.meets.decided n in
    let p = A.number ∙ sym B.number in
    let d = some-triangle (corner_at m.positions m.normals m.texture 0) in
    let v = one-verdict x a d A.number b.returned.objection b.returned.place (B.decides.verdict d) in
    ((λ i. record { refusal = p i; objection = v.0 i; place = v.1 i }), A.work ∙ sym B.work))

pub examiner : Examiner
examiner =
    record {
      refused = refused-with;
      clears = λ x a z. (decision x a z).work;
      accepts = λ x a d z S. takes x a d z S;
      accepted = λ x a d z e. taken x a d z e;
      given = λ x a d z. told x a d z;
      no_other = λ x a d z k p o. one-verdict x a d z k p o;
      determined = determined;
    }

-- ---- our own lists

-- what steps 1 to 6 leave fits, in the words of the triangles
module _ (mesh : Handed) (c : MeshCounts) (w v : List ℕ) (K : LeftBySix mesh c w v) (good : not_finite mesh ≡ none) (d : Triangle) where
  abbrev rows : ℕ
  rows = rows_of (length mesh.sizes)

  abbrev os : List Triangle
  os = sound_of mesh

  abbrev L : List ℕ
  L = list_of (3 * c.sound) (λ r. cell rows link_column r v)

  abbrev G : List ℕ
  G = list_of (3 * c.sound) (λ r. cell rows group_column r v)

  abbrev O : List ℕ
  O = list_of c.sound (λ t. cell rows orientation_column t v)

  -- by the number of sound triangles as it is counted, and as it is
  columns-fit : LinksFit (3 * length os) (Equal (λ x. cell rows vertex_column x v)) L × GroupsFit (length os) (Equal (λ x. cell rows vertex_column x v)) (λ t. cell rows any_column t v) (way_of os d) L G O
  unfolding Promised
  columns-fit =
      let W = own_columns mesh c w v K good d in
      subst (λ (n : ℕ). LinksFit (3 * n) (Equal (λ x. cell rows vertex_column x v)) L × GroupsFit n (Equal (λ x. cell rows vertex_column x v)) (λ t. cell rows any_column t v) (way_of os d) L G O) K.sound_count
      (own-links rows c.sound c.members (way_of os d) v W, own-groups rows c.sound c.members (way_of os d) v W)

  welds-own : Welds rows os d v
  welds-own = welded-words rows mesh (triangles_of mesh) d c v (K.stands good d) K.fits

  links-fit : LinksFit (3 * length os) (Same os d) L
  links-fit = links-like (length os) (Equal (λ x. cell rows vertex_column x v)) (Same os d) L (to_same rows os d v welds-own) (from-same rows os d v welds-own) columns-fit.0

  groups-fit : GroupsFit (length os) (Same os d) (any_of os d) (way_of os d) L G O
  groups-fit =
      groups-like (length os) (Equal (λ x. cell rows vertex_column x v)) (Same os d) L (to_same rows os d v welds-own) (from-same rows os d v welds-own) (λ t. cell rows any_column t v) (any_of os d) (way_of os d) (way_of os d) G O
      (any-words rows mesh (triangles_of mesh) d c v (K.stands good d) K.fits) (λ t h. refl) columns-fit.0 columns-fit.1

  long_links : length L ≡ 3 * length os
  long_links = length-list_of (3 * c.sound) (λ r. cell rows link_column r v) ∙ ap (λ (n : ℕ). 3 * n) K.sound_count

  long_groups : length G ≡ 3 * length os
  long_groups = length-list_of (3 * c.sound) (λ r. cell rows group_column r v) ∙ ap (λ (n : ℕ). 3 * n) K.sound_count

  long_ways : length O ≡ length os
  long_ways = length-list_of c.sound (λ t. cell rows orientation_column t v) ∙ K.sound_count

  pub own-links-accepted : LinksAccepted os d L
  own-links-accepted = fit-accepted os d L long_links links-fit

  pub own-groups-accepted : GroupsAccepted os d L G O
  own-groups-accepted = groups-accepted os d L G O long_groups long_ways links-fit groups-fit

-- a call for our own lists that said 0 was given them
module _ (x : Asking) (f : Fetched x) (z : f.returned.number ≡ 0) where
  abbrev h : Handed
  h = x.mesh

  no-desk : refusal h (length x.work) ≡ none
  no-desk =
      either h (length x.work)
      (λ r s. absurd (let n = (numbered h (length x.work) r s).0 in let e = ap (λ (y : outcome.Owned). y.number) (f.meets.refused r s).is in omega arith))
      (λ n. n)

  long : too_short (length h.sizes) (length x.links) (length x.groups) (length x.ways) ≡ false
  long = go (too_short (length h.sizes) (length x.links) (length x.groups) (length x.ways)) refl
    where
      go : (b : Bool) → too_short (length h.sizes) (length x.links) (length x.groups) (length x.ways) ≡ b → too_short (length h.sizes) (length x.links) (length x.groups) (length x.ways) ≡ false
      go true e = absurd (let n = ap (λ (y : outcome.Owned). y.number) (f.meets.short no-desk e).is in omega arith)
      go false e = e

  pub given_out : HandedOut h x.links x.groups x.ways x.work f.returned.sound f.links f.groups f.ways f.work
  given_out = (f.meets.given no-desk long).handed

  pub place_is : f.returned.place ≡ 0
  place_is = (f.meets.given no-desk long).place

  pub long-lists : (6 * length h.sizes ≤ length x.links) × (6 * length h.sizes ≤ length x.groups) × (2 * length h.sizes ≤ length x.ways)
  long-lists = long-enough (length h.sizes) (length x.links) (length x.groups) (length x.ways) long

  pub good-mesh : not_finite h ≡ none
  good-mesh = (fine (shown h zeroᶠ longest (length x.work)) no-desk).good

  module _ (y : Asking) (q : AboutOwn x f y) (d : Triangle) where
    abbrev D : HandedOut h x.links x.groups x.ways x.work f.returned.sound f.links f.groups f.ways f.work
    D = given_out

    fits : 3 * D.counts.sound ≤ rows_of (length h.sizes)
    fits = grouped-fit h D.counts x.work D.v D.left

    same-links : y.links ≡ L h D.counts x.work D.v D.left good-mesh d
    same-links = q.links ∙ ((λ i. take (3 * D.sound i) (D.links i)) ∙ front-take _ x.links (3 * D.counts.sound) (omega (arith, fits, long-lists.0)))

    same-groups : y.groups ≡ G h D.counts x.work D.v D.left good-mesh d
    same-groups = q.groups ∙ ((λ i. take (3 * D.sound i) (D.groups i)) ∙ front-take _ x.groups (3 * D.counts.sound) (omega (arith, fits, long-lists.1)))

    same-ways : y.ways ≡ O h D.counts x.work D.v D.left good-mesh d
    same-ways = q.ways ∙ ((λ i. take (D.sound i) (D.ways i)) ∙ front-take _ x.ways D.counts.sound (omega (arith, fits, long-lists.2)))

    pub own-sound : Sound y d
    own-sound =
        record {
          links = subst (λ (k : Handed). LinksAccepted (sound_in k) d y.links) (sym q.mesh) (subst (LinksAccepted (sound_in h) d) (sym same-links) (own-links-accepted h D.counts x.work D.v D.left good-mesh d));
          groups = subst (λ (k : Handed). GroupsAccepted (sound_in k) d y.links y.groups y.ways) (sym q.mesh)
              (subst (λ (l : List ℕ). GroupsAccepted (sound_in h) d l y.groups y.ways) (sym same-links)
              (subst (λ (l : List ℕ). GroupsAccepted (sound_in h) d (L h D.counts x.work D.v D.left good-mesh d) l y.ways) (sym same-groups)
              (subst (GroupsAccepted (sound_in h) d _ _) (sym same-ways) (own-groups-accepted h D.counts x.work D.v D.left good-mesh d))));
        }

    not-refused-own : (a : Asked y) → length y.work ≡ length x.work → a.returned.refusal ≡ 0
    not-refused-own a e = (a.meets.decided ((λ i. refusal (q.mesh i) (e i)) ∙ no-desk)).number

pub own_accepted : OwnAccepted
unfolding OwnAccepted
own_accepted x f z y q a =
    let m = x.mesh in
    let d = some-triangle (corner_at m.positions m.normals m.texture 0) in
    ((λ e. takes y a d e (own-sound x f z y q d)), not-refused-own x f z y q d a)

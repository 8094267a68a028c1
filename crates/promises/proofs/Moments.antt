-- Request E11 of every moment of step 6, on every work list that it may be called with. Assumes nothing.
use Prim.Native.Nat.{ℕ, zero, suc, ◌+◌, ◌*◌, ◌/◌, ◌%◌, ◌≤◌, ◌<◌}
use native.Mathlib.Nat.{eq-or-lt_of_le}
use native.Mathlib.Omega.{arith}
use mathlib.Core.Path.{◌≡◌, refl, sym, ap, ◌∙◌, subst}
use mathlib.Core.Bool.{Bool, true, false, cond, not, ◌&&◌, false≢true}
use mathlib.Core.Logic.{⊎_elim}
use mathlib.Core.List.{List, [], ◌∷◌, ◌++◌, append-nil, append_assoc}
use lib.Arith.{lt_of_le-ne}
use lib.Dec.{eqb}
use lib.ListN.{length, get_or, take, drop, length-set, take-append-drop}
use lib.Seq.{take-suc, get_or-set_same, get_or-set_other}
use borrow.Author.Tests.{eqb-true, eqb-false, eq-eqb}
use Rattle.bits.proofs.Bools.{and_left, and_right}
use Rattle.tangent.specs.Slot.{flag}
use Rattle.lists.specs.Lists.{run}
use Rattle.lists.specs.Loops.{up_to}
use Rattle.lists.specs.Every.{Every}
use Rattle.table.specs.Table.{cell, put}
use Rattle.table.specs.Columns.{rows_of, orientation_column, any_column, vertex_column, link_column, group_column, met_column, begin_column}
use Rattle.definition.specs.declared.Triangle.{Triangle}
use Rattle.definition.specs.Frames.{triangles_of}
use Rattle.definition.specs.Names.{Names}
use Rattle.definition.specs.Mesh.{Third, one, two, three, Spot, kept, corner_of as corner_of', after as third-after}
use Rattle.definition.specs.Step4Order.{sound, spots}
use Rattle.definition.specs.Step5Links.{Link as Link', links, beyond}
use Rattle.definition.specs.Step6Groups.{Mark, start_at, marks}
use Rattle.laws.proofs.Closed.{links-sound}
use Rattle.laws.proofs.Laws.{start-grows}
use Rattle.laws.proofs.Sharp as one-triangle
use Rattle.laws.proofs.Sharp.{sharp-own}
use Rattle.std.specs.Prelude.{Option, Some, None}
use Rattle.neighbors.specs.Links.{link_of}
use Rattle.view.specs.Frame.{outside, Only}
use Rattle.view.specs.Rows.{num, third, row, spot_at}
use Rattle.view.specs.Weld.{Sharp}
use Rattle.view.specs.Links.{LinkWord}
use Rattle.view.proofs.Frame.{only_none, only-put, cell-kept}
use Rattle.view.proofs.Lists.{every-index, index-every}
use Rattle.view.proofs.Rows.{row_lt, row_is, tri-lt, row_fits, spots-length, spots-at}
use Rattle.groups.specs.Walk.{corner_of, untouched, adopted, Entered, stopped, marked, enter, Walk, walk, side, follow, go_on, corner, ungrouped, State, started, begun as stored, turn, Ready, cleared}
use Rattle.groups.proofs.Laws.{cond-case, corner_of-le, marked-grown}
use Rattle.groups.proofs.Marking.{adopted-kept, adopted-length}
use Rattle.groups.proofs.Steps.{ready-steps, ready-next, ready-begun, ready-cleared, corner-ready, corner-below, corner-falls}
use Rattle.flat.proofs.Fuel.{enter-only, to-triangle, side-enough, enough}
use Rattle.groups.specs.Marks.{Asked, Grouped}
use Rattle.groups.proofs.Turning.{turned}
use Rattle.groups.proofs.Finished.{none-grouped}
use Rattle.flat.specs.Places.{places_column}
use Rattle.grouped.proofs.Grouped.{asked}
use Rattle.promises.specs.OwnColumns.{StandsFast, GroupedThere, Walkable, Later, now, entered, begun, moment_of, marks_by, Says, AtEveryMoment}
use Rattle.promises.proofs.StepNine.{get_or-mem}
use Rattle.promises.proofs.OwnLinks.{of-groups}

module _ (rows n : ℕ) where
  fast-same : (w : List ℕ) → StandsFast rows n w w
  fast-same w = record { group = λ t i h ne. refl; settled = λ t i h ne. refl; own = λ t h z. refl; any = λ t h. refl }

  -- moments follow each other
  fast-then : (w u v : List ℕ) → StandsFast rows n w u → StandsFast rows n u v → StandsFast rows n w v
  fast-then w u v A B =
      record {
        group = λ t i h ne. B.group t i h (still t i h ne) ∙ A.group t i h ne;
        settled = λ t i h ne. B.settled t i h (still t i h ne) ∙ A.settled t i h ne;
        own = λ t h z. B.own t h (A.any t h ∙ z) ∙ A.own t h z;
        any = λ t h. B.any t h ∙ A.any t h;
      }
    where
      still : (t : ℕ) (i : Third) → t < n → (cell rows group_column (row t i) w ≡ 0 → ⊥) → cell rows group_column (row t i) u ≡ 0 → ⊥
      still t i h ne z = ne (sym (A.group t i h ne) ∙ z)

  module _ (fits : 3 * n ≤ rows) where
    -- a row of a corner, and of a triangle
    in_rows : (t : ℕ) (i : Third) → t < n → row t i < rows
    in_rows t i h = omega (arith, row_lt t n i h)

    -- ---- one store

    -- in a column that is none of the three
    fast-other : (ks w u : List ℕ) → outside ks group_column ≡ true → outside ks orientation_column ≡ true → outside ks any_column ≡ true → Only ks rows w u → StandsFast rows n w u
    fast-other ks w u a b c O =
        record {
          group = λ t i h ne. cell-kept ks rows w u O group_column (row t i) a (in_rows t i h);
          settled = λ t i h ne. cell-kept ks rows w u O orientation_column t b (omega arith);
          own = λ t h z. cell-kept ks rows w u O orientation_column t b (omega arith);
          any = λ t h. cell-kept ks rows w u O any_column t c (omega arith);
        }

    -- of a group's number, where there was none
    fast-marked : (r g : ℕ) (w : List ℕ) → r < 3 * n → cell rows group_column r w ≡ 0 → StandsFast rows n w (put rows group_column r g w)
    fast-marked r g w h z =
        let O = only-put (group_column ∷ []) rows w w group_column r g refl (omega arith) (omega arith) (only_none (group_column ∷ []) rows w) in
        let u = put rows group_column r g w in
        record {
          group = λ t i l ne. get_or-set_other w (group_column * rows + r) (group_column * rows + row t i) g 0 (λ q. ne (ap (λ (x : ℕ). cell rows group_column x w) (same (row t i) q) ∙ z));
          settled = λ t i l ne. cell-kept (group_column ∷ []) rows w u O orientation_column t refl (omega arith);
          own = λ t l e. cell-kept (group_column ∷ []) rows w u O orientation_column t refl (omega arith);
          any = λ t l. cell-kept (group_column ∷ []) rows w u O any_column t refl (omega arith);
        }
      where
        same : (x : ℕ) → group_column * rows + x ≡ group_column * rows + r → x ≡ r
        same x q = omega arith

    -- of an orientation, by a triangle that goes with any group and of which no corner is in one
    module _ (t o : ℕ) (w : List ℕ) (h : t < n) (e : untouched rows t w ≡ true) where
      loose : not (eqb (cell rows any_column t w) 0) ≡ true
      unfolding untouched
      loose = and_left (not (eqb (cell rows any_column t w) 0)) (eqb (cell rows group_column (3 * t) w) 0 && (eqb (cell rows group_column (3 * t + 1) w) 0 && eqb (cell rows group_column (3 * t + 2) w) 0)) e

      free : (i : Third) → cell rows group_column (row t i) w ≡ 0
      unfolding untouched num
      free i =
          let a = eqb (cell rows group_column (3 * t) w) 0 in
          let b = eqb (cell rows group_column (3 * t + 1) w) 0 in
          let c = eqb (cell rows group_column (3 * t + 2) w) 0 in
          let all = and_right (not (eqb (cell rows any_column t w) 0)) (a && (b && c)) e in
          let rest = and_right a (b && c) all in
          let first : row t one ≡ 3 * t = omega arith in
          elim i as (λ i. cell rows group_column (row t i) w ≡ 0) [
            | one ↦ ap (λ (x : ℕ). cell rows group_column x w) first ∙ eqb-true (cell rows group_column (3 * t) w) 0 (and_left a (b && c) all)
            | two ↦ eqb-true (cell rows group_column (3 * t + 1) w) 0 (and_left b c rest)
            | three ↦ eqb-true (cell rows group_column (3 * t + 2) w) 0 (and_right b c rest)
          ]

      fast-turned : StandsFast rows n w (put rows orientation_column t o w)
      fast-turned =
          let O = only-put (orientation_column ∷ []) rows w w orientation_column t o refl (omega arith) (omega arith) (only_none (orientation_column ∷ []) rows w) in
          let u = put rows orientation_column t o w in
          record {
            group = λ s i l ne. cell-kept (orientation_column ∷ []) rows w u O group_column (row s i) refl (in_rows s i l);
            settled = λ s i l ne. get_or-set_other w (orientation_column * rows + t) (orientation_column * rows + s) o 0 (λ q. ne (ap (λ (x : ℕ). cell rows group_column (row x i) w) (same s q) ∙ free i));
            own = λ s l z. get_or-set_other w (orientation_column * rows + t) (orientation_column * rows + s) o 0 (λ q. false≢true (sym (ap not (eq-eqb (cell rows any_column t w) 0 (ap (λ (x : ℕ). cell rows any_column x w) (sym (same s q)) ∙ z))) ∙ loose));
            any = λ s l. cell-kept (orientation_column ∷ []) rows w u O any_column s refl (omega arith);
          }
        where
          same : (s : ℕ) → orientation_column * rows + s ≡ orientation_column * rows + t → s ≡ t
          same s q = omega arith

    fast-adopted : (t o : ℕ) (w : List ℕ) → t < n → StandsFast rows n w (adopted rows t o w)
    unfolding adopted
    fast-adopted t o w h = cond-case (StandsFast rows n w) (untouched rows t w) (put rows orientation_column t o w) w (λ e. fast-turned t o w h e) (λ _. fast-same w)

  -- ---- one entry of a triangle

  module _ (t g v o c : ℕ) (w : List ℕ) (h : t < n) (R : Ready rows n g c w) where
    abbrev u : List ℕ
    u = adopted rows t o w

    abbrev i : ℕ
    i = corner_of rows t v w

    -- the list with the new member
    abbrev met : List ℕ
    met = put rows met_column c (3 * t + i) u

    -- a corner that is in no group
    module _ (l : i < 3) (z : cell rows group_column (3 * t + i) w ≡ 0) where
      room : c < rows
      room = let G = marked-grown rows t g v o c w (omega (arith, R.fits)) R.long R.some R.room i l z in omega (arith, R.room, G.1)

      free-yet : cell rows group_column (3 * t + i) met ≡ 0
      free-yet =
          get_or-set_other u (met_column * rows + c) (group_column * rows + (3 * t + i)) (3 * t + i) 0 (λ q. apart q)
          ∙ (adopted-kept rows t o w (group_column * rows + (3 * t + i)) (λ q. far q) ∙ z)
        where
          apart : group_column * rows + (3 * t + i) ≡ met_column * rows + c → ⊥
          apart q = omega (arith, R.fits, room)

          far : group_column * rows + (3 * t + i) ≡ orientation_column * rows + t → ⊥
          far q = omega (arith, R.fits)

      entered-fast : StandsFast rows n w (put rows group_column (3 * t + i) g met)
      entered-fast =
          fast-then w u (put rows group_column (3 * t + i) g met) (fast-adopted R.fits t o w h)
          (fast-then u met (put rows group_column (3 * t + i) g met)
          (fast-other R.fits (met_column ∷ []) u met refl refl refl (only-put (met_column ∷ []) rows u u met_column c (3 * t + i) refl (omega arith) room (only_none (met_column ∷ []) rows u)))
          (fast-marked R.fits (3 * t + i) g met (omega arith) free-yet))

      -- it is in the group now, and its triangle has the group's orientation
      grouped-there : cell rows orientation_column t u ≡ o → GroupedThere rows t g o (marked rows t g c i u)
      grouped-there a j e =
          let k : i ≡ j = cc in (
            subst (λ (x : ℕ). cell rows group_column (3 * t + x) (put rows group_column (3 * t + i) g met) ≡ g) k (get_or-set_same met (group_column * rows + (3 * t + i)) g 0 inside),
            get_or-set_other met (group_column * rows + (3 * t + i)) (orientation_column * rows + t) g 0 (λ q. far q) ∙ (get_or-set_other u (met_column * rows + c) (orientation_column * rows + t) (3 * t + i) 0 (λ q. apart q) ∙ a),
          )
        where
          inside : group_column * rows + (3 * t + i) < length met
          inside = omega (arith, length-set u (met_column * rows + c) (3 * t + i), adopted-length rows t o w, R.long, R.fits)

          far : orientation_column * rows + t ≡ group_column * rows + (3 * t + i) → ⊥
          far q = omega (arith, R.fits)

          apart : orientation_column * rows + t ≡ met_column * rows + c → ⊥
          apart q = omega (arith, R.fits)

    never-there : (x : List ℕ) → GroupedThere rows t g o (stopped x)
    never-there x j e = absurd (let q : ◌≡◌ {A = ℕ} 0 1 = cc in omega arith)

    -- what holds of each of the three ways holds of the entry
    by_way : (P : Entered → Type 0) → P (stopped w) → P (stopped u) → (i < 3 → cell rows group_column (3 * t + i) w ≡ 0 → cell rows orientation_column t u ≡ o → P (marked rows t g c i u)) → P (enter rows t g v o c w)
    unfolding enter
    by_way P p q r =
        let agrees = eqb (cell rows orientation_column t u) o in
        let free = eqb (cell rows group_column (3 * t + i) w) 0 in
        cond-case P (eqb i 3) (stopped w) (cond free (cond agrees (marked rows t g c i u) (stopped u)) (stopped w)) (λ _. p)
        (λ ne. cond-case P free (cond agrees (marked rows t g c i u) (stopped u)) (stopped w)
        (λ z. cond-case P agrees (marked rows t g c i u) (stopped u)
        (λ a. r (lt_of_le-ne (corner_of-le rows t v w) (eqb-false i 3 ne)) (eqb-true (cell rows group_column (3 * t + i) w) 0 z) (eqb-true (cell rows orientation_column t u) o a))
        (λ _. q))
        (λ _. p))

    enter-fast : StandsFast rows n w (enter rows t g v o c w).work
    enter-fast = by_way (λ x. StandsFast rows n w x.work) (fast-same w) (fast-adopted R.fits t o w h) (λ l z a. entered-fast l z)

    enters : GroupedThere rows t g o (enter rows t g v o c w)
    enters = by_way (GroupedThere rows t g o) (never-there w) (never-there u) (λ l z a. grouped-there l z a)

  -- ---- single steps

  later-then : (w u v : List ℕ) → Later rows n w u → Later rows n u v → Later rows n w v
  later-then w u v A now = A
  later-then w u v A (entered x t g y o c h R B) = entered x t g y o c h R (later-then w u x A B)
  later-then w u v A (begun x q c h B) = begun x q c h (later-then w u x A B)

  fast : (w u : List ℕ) → 3 * n ≤ rows → Later rows n w u → StandsFast rows n w u
  fast w u f now = fast-same w
  fast w u f (entered x t g v o c h R B) = fast-then w x (enter rows t g v o c x).work (fast w x f B) (enter-fast t g v o c x h R)
  fast w u f (begun x q c h B) =
      fast-then w x (put rows begin_column q c x) (fast w x f B)
      (fast-other f (begin_column ∷ []) x (put rows begin_column q c x) refl refl refl (only-put (begin_column ∷ []) rows x x begin_column q c refl (omega arith) h (only_none (begin_column ∷ []) rows x)))

  -- ---- a walk

  module _ (g v o : ℕ) where
    abbrev C : ℕ → Walk → ℕ → Walk
    C m = corner rows g v o m

    abbrev Goes : ℕ → Type 0
    Goes m = (w : List ℕ) (c t : ℕ) → t < n → Ready rows n g c w → ungrouped rows w < m → Later rows n w (C m (walk w c) t).work

    side-goes : (m : ℕ) → Goes m → (w : List ℕ) (c k : ℕ) → k < 3 * n → Ready rows n g c w → ungrouped rows w < m → Later rows n w (side rows (C m) (walk w c) k).work
    unfolding side
    side-goes m I w c k h R l = go (link_of (cell rows link_column k w)) refl
      where
        go : (x : Option ℕ) → x ≡ link_of (cell rows link_column k w) → Later rows n w (follow (C m) (walk w c) x).work
        go None e = now
        go (Some x) e = I w c (x / 3) (to-triangle rows n g v o (cell rows link_column k w) x (R.links k h) e) R l

    corner-goes : (m : ℕ) → Goes m
    unfolding corner
    corner-goes zero w c t h R l = absurd (omega arith)
    corner-goes (suc m) w c t h R l = go (corner-goes m) (enter rows t g v o c w).entry refl
      where
        u : List ℕ
        u = (enter rows t g v o c w).work

        go : Goes m → (x : Option ℕ) → x ≡ (enter rows t g v o c w).entry → Later rows n w (go_on rows (C m) t c x u).work
        go I None e = entered w t g v o c h R now
        go I (Some i) e =
            let first = 3 * t + (i + 2) % 3 in
            let below = corner-below rows n t g v o c w h R (Some i) u e refl i refl in
            let less = corner-falls rows n t g v o c w h R (Some i) u e refl i refl in
            let Q = corner-ready rows n t g v o c w h R (Some i) u e refl i refl (enter-only rows n g v o w c t h R).size in
            let x = side rows (C m) (walk u (c + 1)) first in
            let S = side-enough rows n g v o m (enough rows n g v o m) u (c + 1) first (omega arith) Q (omega arith) in
            let Q' = ready-steps rows n g (c + 1) x.count u x.work (λ j. side rows (C j) (walk u (c + 1)) first) Q S S.only.size in
            let y = side rows (C m) x (3 * t + i) in
            later-then w u y.work (entered w t g v o c h R now)
            (later-then u x.work y.work (side-goes m I u (c + 1) first (omega arith) Q (omega arith)) (side-goes m I x.work x.count (3 * t + i) (omega arith) Q' (omega (arith, S.fewer))))

  -- ---- a turn

  -- what is known after the turns of k corners
  record After (k : ℕ) (s : State) : Type 0 where
    few : s.groups ≤ k
    ready : Ready rows n (s.groups + 1) s.members s.work

  module _ (k : ℕ) (s : State) (h : k < 3 * n) (A : After k s) where
    abbrev after : Walk
    after = corner rows (s.groups + 1) (cell rows vertex_column k s.work) (cell rows orientation_column (k / 3) s.work) (rows + 1) (walk (stored rows s) s.members) (k / 3)

    begin-room : s.groups < rows
    begin-room = omega (arith, A.few, A.ready.fits)

    ready-there : Ready rows n (s.groups + 1) s.members (stored rows s)
    ready-there = ready-begun rows n (s.groups + 1) s.members s.members s.groups s.work begin-room A.ready

    started-goes : Later rows n s.work after.work
    started-goes =
        later-then s.work (stored rows s) after.work (begun s.work s.groups s.members begin-room now)
        (corner-goes (s.groups + 1) (cell rows vertex_column k s.work) (cell rows orientation_column (k / 3) s.work) (rows + 1) (stored rows s) s.members (k / 3) (omega arith) ready-there (omega (arith, ready-there.room)))

    started-after : After (suc k) (started (s.groups + 1) after)
    started-after =
        let S = enough rows n (s.groups + 1) (cell rows vertex_column k s.work) (cell rows orientation_column (k / 3) s.work) (rows + 1) (stored rows s) s.members (k / 3) (omega arith) ready-there (omega (arith, ready-there.room)) in
        record { few = omega (arith, A.few); ready = ready-next rows n (s.groups + 1) after.count after.work (ready-steps rows n (s.groups + 1) s.members after.count (stored rows s) after.work _ ready-there S S.only.size) }

    turn_by : Later rows n s.work (turn rows k s).work × After (suc k) (turn rows k s)
    unfolding turn
    turn_by = go (eqb (cell rows any_column (k / 3) s.work) 0) (eqb (cell rows group_column k s.work) 0)
      where
        go : (a b : Bool) → Later rows n s.work (cond a (cond b (started (s.groups + 1) after) s) s).work × After (suc k) (cond a (cond b (started (s.groups + 1) after) s) s)
        go true true = (started-goes, started-after)
        go true false = (now, record { few = omega (arith, A.few); ready = A.ready })
        go false b = (now, record { few = omega (arith, A.few); ready = A.ready })

  -- ---- all turns

  module _ (w : List ℕ) (W : Walkable rows n w) where
    abbrev at : ℕ → State
    at k = up_to k (turn rows) (record { work = cleared rows w; groups = 0; members = 0 })

    after-turns : (k : ℕ) → k ≤ 3 * n → After k (at k)
    unfolding up_to
    after-turns zero h = record { few = omega arith; ready = ready-cleared rows n w W.fits W.long W.few W.links }
    after-turns (suc k) h = (turn_by k (at k) (omega arith) (after-turns k (omega arith))).1

    next-turn : (k : ℕ) → k < 3 * n → Later rows n (at k).work (at (suc k)).work
    unfolding up_to
    next-turn k h = (turn_by k (at k) h (after-turns k (omega arith))).0

    turns : (k j : ℕ) → k ≤ j → j ≤ 3 * n → Later rows n (at k).work (at j).work
    turns k zero l h = let e : k ≡ 0 = omega arith in subst (λ (x : ℕ). Later rows n (at k).work (at x).work) e now
    turns k (suc j) l h =
        ⊎_elim
        (λ e. subst (λ (x : ℕ). Later rows n (at k).work (at x).work) e now)
        (λ m. later-then (at k).work (at j).work (at (suc j)).work (turns k j (omega arith) (omega arith)) (next-turn j (omega arith)))
        (eq-or-lt_of_le l)

-- ---- the definition's marks so far

run-append : {X Y : Type 0} (f : Y → X → Y) (y : Y) (l k : List X) → run f y (l ++ k) ≡ run f (run f y l) k
unfolding run
run-append f y [] k = refl
run-append f y (x ∷ l) k = run-append f (f y x) l k

grows-on : (ss : List Triangle) (ls : List Link') (xs : List Spot) (ms : List Mark) → (later : List Mark) × (run (start_at ss ls) ms xs ≡ ms ++ later)
unfolding run
grows-on ss ls [] ms = ([], sym (append-nil ms))
grows-on ss ls (x ∷ xs) ms =
    let G = start-grows ss ls ms x in
    let r = grows-on ss ls xs (start_at ss ls ms x) in
    (G.added ++ r.0, r.1 ∙ (ap (λ (l : List Mark). l ++ r.0) G.is ∙ append_assoc ms G.added r.0))

module _ (rows : ℕ) (ss : List Triangle) (d : Triangle) (N : Names ss) (S : Sharp ss d) (x : List ℕ) (A : Asked rows ss d (links ss) x) (W : Walkable rows (length ss) x) where
  abbrev by : ℕ → List Mark
  by k = marks_by ss k

  own-sharp : Every one-triangle.Sharp ss
  unfolding corner_of' kept third-after
  own-sharp = index-every one-triangle.Sharp ss d (λ t h. record { ab = S.apart t one h; bc = S.apart t two h; ca = S.apart t three h })

  one_more : (k : ℕ) → k < 3 * length ss → by (suc k) ≡ start_at ss (links ss) (by k) (spot_at ss d (k / 3) (third (k % 3)))
  unfolding run
  one_more k h =
      let l = spots ss in
      let e = spot_at ss d 0 one in
      ap (run (start_at ss (links ss)) []) (take-suc l k e (omega (arith, spots-length ss)))
      ∙ (run-append (start_at ss (links ss)) [] (take k l) (get_or l k e ∷ []) ∙ ap (start_at ss (links ss) (by k)) (spots-at ss d e k h))

  -- the columns stand for the marks so far
  stands : (k : ℕ) → k ≤ 3 * length ss → (gs : List Spot) × Grouped rows ss d (links ss) x (by k) gs (at rows (length ss) x W k)
  unfolding up_to run
  stands zero h = ([], none-grouped rows ss d (links ss) x W.fits W.long A)
  stands (suc k) h =
      let r = stands k (omega arith) in
      let s = at rows (length ss) x W k in
      let t = k / 3 in
      let i = third (k % 3) in
      let z = turned rows ss d (links ss) (links-sound ss) N W.fits x (λ t i h. sharp-own (get_or ss t d) (every-index own-sharp t d h) i) (by k) r.0 s r.1 t i (tri-lt k (length ss) (omega arith)) (omega (arith, row_is k, (after-turns rows (length ss) x W k (omega arith)).few)) in
      (z.0, subst (λ (y : ℕ). Grouped rows ss d (links ss) x (by (suc k)) z.0 (turn rows y s)) (row_is k) (subst (λ (ms : List Mark). Grouped rows ss d (links ss) x ms z.0 (turn rows (row t i) s)) (sym (one_more k (omega arith))) z.1))

  says_there : (k : ℕ) → k ≤ 3 * length ss → Says rows ss d (by k) (moment_of rows x k)
  unfolding marks
  says_there k h =
      let r = stands k h in
      let rest = grows-on ss (links ss) (drop k (spots ss)) (by k) in
      let e : marks ss (links ss) ≡ by k ++ rest.0 = ap (run (start_at ss (links ss)) []) (sym (take-append-drop k (spots ss))) ∙ (run-append (start_at ss (links ss)) [] (take k (spots ss)) (drop k (spots ss)) ∙ rest.1) in
      record {
        moment = (rest.0, e);
        group = r.1.marked.group;
        way = λ t l. let F = r.1.marked.faces t l in F.word ∙ ap flag (sym F.own ∙ sym ((of-groups ss N own-sharp).way_now (by k) rest.0 e (get_or ss t d) (get_or-mem ss d t l)));
      }

-- of a list with other words in the column of places
module _ (rows : ℕ) (l x : List ℕ) (O : Only (places_column ∷ []) rows l x) where
  there : (k r : ℕ) → outside (places_column ∷ []) k ≡ true → r < rows → cell rows k r x ≡ cell rows k r l
  there k r e h = cell-kept (places_column ∷ []) rows l x O k r e h

  pub walkable-there : (n : ℕ) → Walkable rows n l → Walkable rows n x
  walkable-there n W = record { fits = W.fits; long = omega (arith, W.long, O.size); few = W.few; links = λ k h. subst (λ (y : ℕ). y ≤ 3 * n) (sym (there link_column k refl (omega (arith, W.fits)))) (W.links k h) }

  asked-there : (ss : List Triangle) (d : Triangle) → 3 * length ss ≤ rows → Asked rows ss d (links ss) l → Asked rows ss d (links ss) x
  asked-there ss d f A =
      record {
        welds = λ t u i j h k. (λ z. eqb (there vertex_column (row t i) refl (row_fits rows ss f t i h) z) (there vertex_column (row u j) refl (row_fits rows ss f u j k) z)) ∙ A.welds t u i j h k;
        linked = λ t i h. subst (LinkWord ss d (beyond (links ss) (spot_at ss d t i))) (sym (there link_column (row t i) refl (row_fits rows ss f t i h))) (A.linked t i h);
        any = λ t h. ap (λ y. eqb y 0) (there any_column t refl (omega arith)) ∙ A.any t h;
        way = λ t h. there orientation_column t refl (omega arith) ∙ A.way t h;
      }

pub at-every-moment : AtEveryMoment
at-every-moment =
    record {
      one_turn = λ rows n k s u h f R T. subst (λ (x : State). Later rows n s.work x.work) (sym T.is) (turn_by rows n k s h (record { few = f; ready = R })).0;
      turns = turns;
      fast = fast;
      enters = λ rows n t g v o c w h R. enters rows n t g v o c w h R;
      says = λ mesh n m w l x L ok W O d k h.
          let rows = rows_of (length mesh.sizes) in
          let ss = sound (triangles_of mesh) in
          let F = L.stands ok d in
          let U = walkable-there rows l x O (length ss) (subst (λ (y : ℕ). Walkable rows y l) L.sound_count W) in
          says_there rows ss d F.names F.sharp x (asked-there rows l x O ss d U.fits (asked rows mesh (triangles_of mesh) d l F)) U k (omega (arith, h, L.sound_count));
    }

-- How the steps of the walk go together: what the proofs of the code cite, with no word of the code. Assumes nothing.
use mathlib.Core.Path.{◌≡◌, refl, sym, ap, subst, ◌∙◌}
use mathlib.Core.Bool.{Bool, false, cond}
use mathlib.Core.List.{List, [], ◌∷◌}
use Prim.Native.Nat.{ℕ, zero, suc, ◌+◌, ◌*◌, ◌/◌, ◌%◌, ◌≤◌, ◌<◌}
use native.Mathlib.Nat.{le_refl}
use native.Mathlib.Omega.{arith}
use lib.Dec.{eqb}
use borrow.Author.Tests.{eq-eqb, ne_eqb}
use lib.ListN.{length, get_or, set, length-set}
use Rattle.table.specs.Table.{cell, put, column}
use Rattle.table.specs.Columns.{columns, link_column, any_column, group_column, begin_column}
use Rattle.lists.specs.Loops.{list_of}
use Rattle.lists.proofs.Loops.{length-list_of}
use Rattle.table.proofs.Laws.{get_or-column, column-set, filled-column, length-fill}
use Rattle.std.specs.Prelude.{Option, Some, None}
use Rattle.neighbors.specs.Links.{link_of}
use Rattle.view.specs.Frame.{Only}
use Rattle.view.proofs.Frame.{only_none, only-trans, only-more, only-run, only-put}
use Rattle.lists.specs.Zeros.{zeros}
use Rattle.groups.specs.Walk.{walk_columns, enter, Walk, walk, side, follow, corner, ungrouped, cleared, Ready, Steps, state, started, turn, Turned, Shut, of_any, in_group, Opened}
use Rattle.groups.specs.declared.GroupCounts.{GroupCounts}
use Rattle.groups.specs.declared.Group.{Group}
use Rattle.groups.proofs.Laws.{Grown, enter-grown, ungrouped-le}

-- where the column of links stands, its words are in range as they were
pub links-stand : (rows tris : ℕ) (w u : List ℕ) → 3 * tris ≤ rows → column rows link_column u ≡ column rows link_column w → ((k : ℕ) → k < 3 * tris → cell rows link_column k w ≤ 3 * tris) → (k : ℕ) → k < 3 * tris → cell rows link_column k u ≤ 3 * tris
links-stand rows tris w u fits e L k h =
    let same : cell rows link_column k u ≡ cell rows link_column k w = sym (get_or-column rows u link_column k (omega arith)) ∙ ap (λ (l : List ℕ). get_or l k 0) e ∙ get_or-column rows w link_column k (omega arith) in
    omega (arith, same, L k h)

-- another list is ready where it has as much room, and its links stand
pub ready-moves : (rows tris g n m : ℕ) (w u : List ℕ) → Ready rows tris g n w → length u ≡ length w → m + ungrouped rows u ≤ rows → column rows link_column u ≡ column rows link_column w → Ready rows tris g m u
ready-moves rows tris g n m w u R e room links = record {
  long = omega (arith, R.long);
  few = R.few;
  fits = R.fits;
  some = R.some;
  room = room;
  links = links-stand rows tris w u R.fits links R.links;
}

-- the state after a step is ready for the next
pub ready-steps : (rows tris g n m : ℕ) (w u : List ℕ) (said : ℕ → Walk) → Ready rows tris g n w → Steps rows (walk w n) (walk u m) said → length u ≡ length w → Ready rows tris g m u
ready-steps rows tris g n m w u said R S e = ready-moves rows tris g n m w u R e (omega (arith, R.room, S.same)) (S.only.others link_column refl)

-- ---- a corner step

module _ (rows tris t g v o n : ℕ) (w : List ℕ) (tri : t < tris) (R : Ready rows tris g n w) (r : Option ℕ) (u : List ℕ) (re : r ≡ (enter rows t g v o n w).entry) (ue : u ≡ (enter rows t g v o n w).work) where
  -- what entering the triangle does
  grown : Grown rows w r u
  grown = rw (re, ue) (enter-grown rows t g v o n w (omega (arith, R.fits)) R.long R.some R.room)

  -- the walk stops at the triangle
  pub corner-stops : r ≡ None → Steps rows (walk w n) (walk u n) (λ m. corner rows g v o m (walk w n) t)
  unfolding corner
  corner-stops e =
      let G : Grown rows w None u = rw e at grown in
      record {
        is = λ m. elim m as (λ m. ungrouped rows w < m → walk u n ≡ corner rows g v o m (walk w n) t) [
          | zero ↦ λ h. absurd (omega arith)
          | suc m ↦ λ h. rw (← re, ← ue, e)
        ];
        fewer = omega arith;
        same = omega arith;
        only = G.1;
      }

  module _ (i : ℕ) (e : r ≡ Some i) where
    -- what entering it at corner i does
    G : Grown rows w (Some i) u
    G = rw e at grown

    -- the corner is one of three
    pub corner-below : i < 3
    corner-below = G.0

    -- one ungrouped corner less
    pub corner-falls : suc (ungrouped rows u) ≡ ungrouped rows w
    corner-falls = G.1

    -- ready for the side steps
    pub corner-ready : length u ≡ length w → Ready rows tris g (n + 1) u
    corner-ready k = ready-moves rows tris g n (n + 1) w u R k (omega (arith, R.room, G.1)) (G.2.others link_column refl)

    -- the walk goes on over the two sides
    pub corner-goes : (s₁ s₂ : Walk)
        → Steps rows (walk u (n + 1)) s₁ (λ m. side rows (corner rows g v o m) (walk u (n + 1)) (3 * t + (i + 2) % 3))
        → Steps rows s₁ s₂ (λ m. side rows (corner rows g v o m) s₁ (3 * t + i))
        → Steps rows (walk w n) s₂ (λ m. corner rows g v o m (walk w n) t)
    unfolding corner
    corner-goes s₁ s₂ S₁ S₂ = record {
      is = λ m. elim m as (λ m. ungrouped rows w < m → s₂ ≡ corner rows g v o m (walk w n) t) [
        | zero ↦ λ h. absurd (omega arith)
        | suc m ↦ λ h. S₂.is m (omega (arith, G.1, S₁.fewer)) ∙ ap (λ (s : Walk). side rows (corner rows g v o m) s (3 * t + i)) (S₁.is m (omega (arith, G.1))) ∙ rw (← re, ← ue, e)
      ];
      fewer = omega (arith, G.1, S₁.fewer, S₂.fewer);
      same = omega (arith, G.1, S₁.same, S₂.same);
      only = only-trans walk_columns rows w u s₂.work G.2 (only-trans walk_columns rows u s₁.work s₂.work S₁.only S₂.only);
    }

-- ---- a side step

-- a side that leads nowhere
pub side-stops : (rows g v o n k : ℕ) (w : List ℕ) → None ≡ link_of (cell rows link_column k w) → Steps rows (walk w n) (walk w n) (λ m. side rows (corner rows g v o m) (walk w n) k)
unfolding side
side-stops rows g v o n k w e = record {
  is = λ m h. ap (follow (corner rows g v o m) (walk w n)) e;
  fewer = le_refl (ungrouped rows w);
  same = refl;
  only = only_none walk_columns rows w;
}

-- a side beyond which is the side of row u
pub side-goes : (rows g v o n k u : ℕ) (w : List ℕ) (s : Walk) → Some u ≡ link_of (cell rows link_column k w) → Steps rows (walk w n) s (λ m. corner rows g v o m (walk w n) (u / 3)) → Steps rows (walk w n) s (λ m. side rows (corner rows g v o m) (walk w n) k)
unfolding side
side-goes rows g v o n k u w s e S = record {
  is = λ m h. S.is m h ∙ ap (follow (corner rows g v o m) (walk w n)) e;
  fewer = S.fewer;
  same = S.same;
  only = S.only;
}

-- ---- the groups

-- the next group's number
pub ready-next : (rows tris g n : ℕ) (w : List ℕ) → Ready rows tris g n w → Ready rows tris (g + 1) n w
ready-next rows tris g n w R = record { long = R.long; few = R.few; fits = R.fits; some = omega arith; room = R.room; links = R.links }

-- where a group begins is stored in a column that the walk does not read
pub begun-column : (rows c b : ℕ) (w : List ℕ) → b < rows → (k : ℕ) → eqb begin_column k ≡ false → column rows k (put rows begin_column b c w) ≡ column rows k w
begun-column rows c b w h k ne = column-set rows k begin_column b c w h ∙ ap (λ (q : Bool). cond q (set (column rows k w) b c) (column rows k w)) ne

-- which is one of the walk's
pub only-begun : (rows c b : ℕ) (w : List ℕ) → b < rows → Only walk_columns rows w (put rows begin_column b c w)
only-begun rows c b w h = only-put walk_columns rows w w begin_column b c refl (omega arith) h (only_none walk_columns rows w)

-- it leaves the ungrouped corners
pub begun-ungrouped : (rows c b : ℕ) (w : List ℕ) → b < rows → ungrouped rows (put rows begin_column b c w) ≡ ungrouped rows w
unfolding ungrouped
begun-ungrouped rows c b w h = ap zeros (begun-column rows c b w h group_column refl)

-- and the list is as ready as before
pub ready-begun : (rows tris g n c b : ℕ) (w : List ℕ) → b < rows → Ready rows tris g n w → Ready rows tris g n (put rows begin_column b c w)
ready-begun rows tris g n c b w h R =
    ready-moves rows tris g n n w (put rows begin_column b c w) R (length-set w (begin_column * rows + b) c) (omega (arith, R.room, begun-ungrouped rows c b w h)) (begun-column rows c b w h link_column refl)

-- ---- the turn of a corner

-- no group starts there
pub turn-shut : (rows tris k : ℕ) (w u : List ℕ) (s : GroupCounts) → s.groups ≤ k → Ready rows tris (s.groups + 1) s.members w → Shut rows k w u → Turned rows tris k (state w s) (state u s)
unfolding turn
turn-shut rows tris k w u s le R (of_any ne) = record { is = simp (ne_eqb (cell rows any_column (k / 3) w) 0 ne); few = omega arith; ready = R; only = only_none _ _ _ }
turn-shut rows tris k w u s le R (in_group z ne) = record { is = simp (eq-eqb (cell rows any_column (k / 3) w) 0 z, ne_eqb (cell rows group_column k w) 0 ne); few = omega arith; ready = R; only = only_none _ _ _ }

-- the list is ready for the walk of one that does
pub ready-opened : (rows tris k : ℕ) (w u : List ℕ) (s : GroupCounts) (g : Group) → k < 3 * tris → s.groups ≤ k → Ready rows tris (s.groups + 1) s.members w → Opened rows k s g w u → Ready rows tris g.number s.members u
ready-opened rows tris k w u s g h le R O =
    subst (λ (x : List ℕ). Ready rows tris g.number s.members x) (sym O.begun)
    (subst (λ (j : Group). Ready rows tris j.number s.members (put rows begin_column s.groups s.members w)) (sym O.group) (ready-begun _ _ _ _ _ _ _ (omega (arith, R.fits)) R))

-- the turn is that walk
pub turn-opened : (rows tris k n : ℕ) (w u v : List ℕ) (s : GroupCounts) (g : Group) → k < 3 * tris → s.groups ≤ k → Ready rows tris (s.groups + 1) s.members w → Opened rows k s g w u → length v ≡ length u
    → Steps rows (walk u s.members) (walk v n) (λ m. corner rows g.number g.vertex g.orientation m (walk u s.members) (k / 3)) → Turned rows tris k (state w s) (state v (record { groups = g.number; members = n }))
unfolding turn
turn-opened rows tris k n w u v s g h le R O = subst (P g) (sym O.begun) (subst (λ (j : Group). P j b) (sym O.group) λ e S.
    record {
      is = simp (eq-eqb (cell rows any_column (k / 3) w) 0 O.any, eq-eqb (cell rows group_column k w) 0 O.free) (ap (started (s.groups + 1)) (S.is (rows + 1) (omega (arith, R.room, begun-ungrouped rows s.members s.groups w (omega (arith, R.fits))))));
      few = omega arith;
      ready = ready-next _ _ _ _ _ (ready-steps _ _ _ _ _ _ _ _ (ready-begun _ _ _ _ _ _ _ (omega (arith, R.fits)) R) S e);
      only = only-trans _ _ _ _ _ (only-begun rows s.members s.groups w (omega (arith, R.fits))) S.only;
    })
  where
    b : List ℕ
    b = put rows begin_column s.groups s.members w

    P : Group → List ℕ → Type 0
    P j x = length v ≡ length x → Steps rows (walk x s.members) (walk v n) (λ m. corner rows j.number j.vertex j.orientation m (walk x s.members) (k / 3)) → Turned rows tris k (state w s) (state v (record { groups = j.number; members = n }))

-- with no corner in a group the list is ready for the first one
pub ready-cleared : (rows tris : ℕ) (w : List ℕ) → 3 * tris ≤ rows → columns * rows ≤ length w → rows < 4294967295 → ((k : ℕ) → k < 3 * tris → cell rows link_column k w ≤ 3 * tris) → Ready rows tris 1 0 (cleared rows w)
ready-cleared rows tris w fits long few L =
    let same : length (cleared rows w) ≡ length w = length-fill rows group_column (λ _. 0) w (cleared rows w) rows refl in
    let long' : columns * rows ≤ length (cleared rows w) = omega arith in
    record {
      long = long';
      few = few;
      fits = fits;
      some = omega arith;
      room = omega (arith, ungrouped-le rows (cleared rows w) long');
      links = links-stand rows tris w (cleared rows w) fits (filled-column rows group_column link_column (λ _. 0) w (omega arith)) L;
    }

-- nothing but the walk's columns is stored after that
pub only-after : (rows : ℕ) (w u v : List ℕ) → u ≡ cleared rows w → Only walk_columns rows u v → Only walk_columns rows w v
only-after rows w u v e O =
    only-trans walk_columns rows w u v (only-more (group_column ∷ []) walk_columns rows w u refl (only-run (group_column ∷ []) rows group_column 0 w u (list_of rows (λ _. 0)) refl (omega arith) (omega (arith, length-list_of {S = ℕ} rows (λ _. 0))) e)) O

-- The flat walks and those of `groups` leave the same: on every mesh the same members in the same order, and on every list whatever the same words but for the places. Assumes nothing.
use Prim.Native.Nat.{ℕ, zero, suc, ◌+◌, ◌*◌, ◌/◌, ◌%◌, ◌≤◌, ◌<◌}
use native.Mathlib.Omega.{arith}
use mathlib.Core.Path.{◌≡◌, refl, sym, ap, ◌∙◌}
use mathlib.Core.Bool.{Bool, true, false, cond}
use mathlib.Core.List.{List}
use lib.Dec.{eqb}
use lib.ListN.{length}
use borrow.Author.Tests.{eqb-true}
use Rattle.table.specs.Table.{cell}
use Rattle.table.specs.Columns.{columns, link_column, vertex_column, orientation_column, any_column, group_column, met_column, begin_column}
use Rattle.lists.specs.Loops.{up_to}
use Rattle.definition.specs.declared.Triangle.{Triangle}
use Rattle.definition.specs.Mesh.{one, same_spot}
use Rattle.definition.specs.Step5Links as step5
use Rattle.definition.specs.Step6Groups.{Mark, marks}
use Rattle.laws.proofs.Laws.{mark}
use Rattle.laws.proofs.Enough.{spot-refl}
use Rattle.definition.specs.Names.{Names}
use Rattle.std.specs.Prelude.{Option, Some, None}
use Rattle.neighbors.specs.Links.{link_of}
use Rattle.view.specs.Rows.{row, spot_at}
use Rattle.view.proofs.Rows.{spot-row}
use Rattle.groups.specs.Marks.{Walked}
use Rattle.groups.specs.Walk.{Entered, enter, Walk, walk, side, follow, go_on, corner, ungrouped, State, started, begun, turn, Ready, Steps, cleared}
use Rattle.groups.proofs.Steps.{ready-steps, ready-next, ready-begun, ready-cleared, corner-ready, corner-below, corner-falls}
use Rattle.flat.specs.Places.{blank}
use Rattle.flat.proofs.Blank.{blank-put, blank-cell, enter-blank}
use Rattle.flat.proofs.Fuel.{to-triangle, side-enough, enough, enter-only}

-- ---- on every mesh

-- what two walks of step 6 leave: as many members, and the same ones in the same order
pub same_members : (rows : ℕ) (ss : List Triangle) (d : Triangle) (ls : List step5.Link) (w u₁ u₂ : List ℕ) (g₁ g₂ n₁ n₂ : ℕ) → Names ss → Walked rows ss d ls w u₁ g₁ n₁ → Walked rows ss d ls w u₂ g₂ n₂ → (n₁ ≡ n₂) × ((j : ℕ) → j < n₁ → cell rows met_column j u₁ ≡ cell rows met_column j u₂)
same_members rows ss d ls w u₁ u₂ g₁ g₂ n₁ n₂ N A B = (A.count_is ∙ sym B.count_is, same)
  where
    ms : List Mark
    ms = marks ss ls

    e : Mark
    e = mark (spot_at ss d 0 one) (spot_at ss d 0 one)

    same : (j : ℕ) → j < n₁ → cell rows met_column j u₁ ≡ cell rows met_column j u₂
    same j h =
        let l : j < length (marks ss ls) = omega (arith, A.count_is) in
        let M = A.grouping.member j e l in
        let K = B.grouping.member j e l in
        let one_spot : same_spot (spot_at ss d M.tri M.at) (spot_at ss d K.tri K.at) ≡ true = ap (λ x. same_spot x (spot_at ss d K.tri K.at)) (sym M.is ∙ K.is) ∙ spot-refl (spot_at ss d K.tri K.at) in
        M.member ∙ (eqb-true (row M.tri M.at) (row K.tri K.at) (sym (spot-row N d M.tri K.tri M.at K.at M.inside K.inside) ∙ one_spot) ∙ sym K.member)

-- ---- on every list

module _ (rows tris : ℕ) where
  -- a walk's state with no places
  abbrev blank_w : Walk → Walk
  blank_w s = walk (blank rows s.work) s.count

  -- the whole step's
  abbrev pub blank_s : State → State
  blank_s s = record { work = blank rows s.work; groups = s.groups; members = s.members }

  module _ (g v o : ℕ) where
    abbrev C : ℕ → Walk → ℕ → Walk
    C m = corner rows g v o m

    abbrev Alike : ℕ → Type 0
    Alike m = (w : List ℕ) (n t : ℕ) → t < tris → Ready rows tris g n w → ungrouped rows w < m → C m (walk (blank rows w) n) t ≡ blank_w (C m (walk w n) t)

    side-alike : (m : ℕ) → Alike m → (w : List ℕ) (n k : ℕ) → k < 3 * tris → Ready rows tris g n w → ungrouped rows w < m → side rows (C m) (walk (blank rows w) n) k ≡ blank_w (side rows (C m) (walk w n) k)
    unfolding side
    side-alike m I w n k h R l =
        ap (λ (x : ℕ). follow (C m) (walk (blank rows w) n) (link_of x)) (blank-cell rows link_column k w refl (omega (arith, R.fits)))
        ∙ go (link_of (cell rows link_column k w)) refl
      where
        go : (x : Option ℕ) → x ≡ link_of (cell rows link_column k w) → follow (C m) (walk (blank rows w) n) x ≡ blank_w (follow (C m) (walk w n) x)
        go None e = refl
        go (Some u) e = I w n (u / 3) (to-triangle rows tris g v o (cell rows link_column k w) u (R.links k h) e) R l

    corner-alike : (m : ℕ) → Alike m
    unfolding corner
    corner-alike zero w n t h R l = absurd (omega arith)
    corner-alike (suc m) w n t h R l =
        ap (λ (e : Entered). go_on rows (C m) t n e.entry e.work) (enter-blank rows t g v o n w (omega (arith, R.fits)) R.long R.some R.room)
        ∙ go (corner-alike m) (enter rows t g v o n w).entry refl
      where
        u : List ℕ
        u = (enter rows t g v o n w).work

        go : Alike m → (x : Option ℕ) → x ≡ (enter rows t g v o n w).entry → go_on rows (C m) t n x (blank rows u) ≡ blank_w (go_on rows (C m) t n x u)
        go I None e = refl
        go I (Some i) e =
            let b = corner-below rows tris t g v o n w h R (Some i) u e refl i refl in
            let falls = corner-falls rows tris t g v o n w h R (Some i) u e refl i refl in
            let R₁ = corner-ready rows tris t g v o n w h R (Some i) u e refl i refl (enter-only rows tris g v o w n t h R).size in
            let s₁ = side rows (C m) (walk u (n + 1)) (3 * t + (i + 2) % 3) in
            let S₁ = side-enough rows tris g v o m (enough rows tris g v o m) u (n + 1) (3 * t + (i + 2) % 3) (omega arith) R₁ (omega arith) in
            let R₂ = ready-steps rows tris g (n + 1) s₁.count u s₁.work (λ j. side rows (C j) (walk u (n + 1)) (3 * t + (i + 2) % 3)) R₁ S₁ S₁.only.size in
            ap (λ (s : Walk). side rows (C m) s (3 * t + i)) (side-alike m I u (n + 1) (3 * t + (i + 2) % 3) (omega arith) R₁ (omega arith))
            ∙ side-alike m I s₁.work s₁.count (3 * t + i) (omega arith) R₂ (omega (arith, S₁.fewer))

  -- ---- a turn

  module _ (k : ℕ) (s : State) (h : k < 3 * tris) (few : s.groups ≤ k) (R : Ready rows tris (s.groups + 1) s.members s.work) where
    abbrev w : List ℕ
    w = s.work

    abbrev G : ℕ
    G = s.groups + 1

    abbrev vertex : ℕ
    vertex = cell rows vertex_column k w

    abbrev way : ℕ
    way = cell rows orientation_column (k / 3) w

    -- the walk that may start there
    abbrev after : Walk
    after = corner rows G vertex way (rows + 1) (walk (begun rows s) s.members) (k / 3)

    begun-ready : Ready rows tris G s.members (begun rows s)
    begun-ready = ready-begun rows tris G s.members s.members s.groups w (omega (arith, R.fits)) R

    few-left : ungrouped rows (begun rows s) < rows + 1
    few-left = omega (arith, begun-ready.room)

    after_is : corner rows G (cell rows vertex_column k (blank rows w)) (cell rows orientation_column (k / 3) (blank rows w)) (rows + 1) (walk (begun rows (blank_s s)) s.members) (k / 3) ≡ blank_w after
    after_is =
        (λ q. corner rows G (blank-cell rows vertex_column k w refl (omega (arith, R.fits)) q) (blank-cell rows orientation_column (k / 3) w refl (omega (arith, R.fits)) q) (rows + 1) (walk (blank-put rows begin_column s.groups s.members w refl (omega (arith, R.fits)) q) s.members) (k / 3))
        ∙ corner-alike G vertex way (rows + 1) (begun rows s) s.members (k / 3) (omega arith) begun-ready few-left

    turn-alike : turn rows k (blank_s s) ≡ blank_s (turn rows k s)
    unfolding turn
    turn-alike =
        (λ q. cond (eqb (blank-cell rows any_column (k / 3) w refl (omega (arith, R.fits)) q) 0) (cond (eqb (blank-cell rows group_column k w refl (omega (arith, R.fits)) q) 0) (started G (after_is q)) (blank_s s)) (blank_s s))
        ∙ go (eqb (cell rows any_column (k / 3) w) 0) (eqb (cell rows group_column k w) 0)
      where
        go : (a b : Bool) → cond a (cond b (started G (blank_w after)) (blank_s s)) (blank_s s) ≡ blank_s (cond a (cond b (started G after) s) s)
        go true true = refl
        go true false = refl
        go false b = refl

    -- what is known of the state after it
    abbrev Then : State → Type 0
    Then u = (u.groups ≤ suc k) × Ready rows tris (u.groups + 1) u.members u.work

    turn-then : Then (turn rows k s)
    unfolding turn
    turn-then = go (eqb (cell rows any_column (k / 3) w) 0) (eqb (cell rows group_column k w) 0)
      where
        S : Steps rows (walk (begun rows s) s.members) after (λ m. corner rows G vertex way m (walk (begun rows s) s.members) (k / 3))
        S = enough rows tris G vertex way (rows + 1) (begun rows s) s.members (k / 3) (omega arith) begun-ready few-left

        go : (a b : Bool) → Then (cond a (cond b (started G after) s) s)
        go true true = (omega arith, ready-next rows tris G after.count after.work (ready-steps rows tris G s.members after.count (begun rows s) after.work (λ m. corner rows G vertex way m (walk (begun rows s) s.members) (k / 3)) begun-ready S S.only.size))
        go true false = (omega arith, R)
        go false b = (omega arith, R)

  -- ---- all turns

  module _ (s₀ : State) (none : s₀.groups ≤ 0) (R₀ : Ready rows tris (s₀.groups + 1) s₀.members s₀.work) where
    turns-alike : (n : ℕ) → n ≤ 3 * tris → ((up_to n (turn rows) s₀).groups ≤ n) × Ready rows tris ((up_to n (turn rows) s₀).groups + 1) (up_to n (turn rows) s₀).members (up_to n (turn rows) s₀).work × (up_to n (turn rows) (blank_s s₀) ≡ blank_s (up_to n (turn rows) s₀))
    unfolding up_to
    turns-alike zero h = (none, R₀, refl)
    turns-alike (suc n) h =
        let I = turns-alike n (omega arith) in
        let T = turn-then n (up_to n (turn rows) s₀) h I.0 I.1 in
        (T.0, T.1, ap (turn rows n) I.2 ∙ turn-alike n (up_to n (turn rows) s₀) h I.0 I.1)

-- what the loop of `groups` leaves of the list w, and what the flat one leaves, is the same but for the places
pub same-words : (rows tris : ℕ) (w : List ℕ) (s r : State) → 3 * tris ≤ rows → columns * rows ≤ length w → rows < 4294967295 → ((k : ℕ) → k < 3 * tris → cell rows link_column k w ≤ 3 * tris)
    → s ≡ up_to (3 * tris) (turn rows) (record { work = cleared rows w; groups = 0; members = 0 })
    → r ≡ up_to (3 * tris) (turn rows) (record { work = blank rows (cleared rows w); groups = 0; members = 0 })
    → r ≡ blank_s rows tris s
same-words rows tris w s r fits long few L a b =
    let z : State = record { work = cleared rows w; groups = 0; members = 0 } in
    b ∙ ((turns-alike rows tris z (omega arith) (ready-cleared rows tris w fits long few L) (3 * tris) (omega arith)).2 ∙ ap (blank_s rows tris) (sym a))

-- The turns of all corners by flat walks: the columns after them stand for the definition's marks. Assumes nothing.
use Prim.Native.Nat.{ℕ, suc, ◌+◌, ◌*◌, ◌/◌, ◌≤◌, ◌<◌}
use native.Mathlib.Omega.{arith}
use mathlib.Core.Path.{◌≡◌, refl, sym, ap, ◌∙◌, subst}
use mathlib.Core.Bool.{Bool, true, cond}
use mathlib.Core.List.{List, [], ◌∷◌}
use mathlib.Core.Logic.{◌⊎◌, inl, inr, ⊎_elim}
use lib.Dec.{eqb}
use lib.ListN.{length, set}
use lib.Seq.{sets}
use borrow.Author.Tests.{eq-eqb, ne_eqb}
use Rattle.table.specs.Table.{cell, put}
use Rattle.table.specs.Columns.{columns, vertex_column, link_column, orientation_column, any_column, group_column, begin_column}
use Rattle.lists.specs.Loops.{up_to, list_of}
use Rattle.lists.proofs.Loops.{length-list_of}
use Rattle.definition.specs.declared.Triangle.{Triangle}
use Rattle.definition.specs.Mesh.{one}
use Rattle.definition.specs.Step5Links.{Link, beyond}
use Rattle.definition.specs.Step6Groups.{marks}
use Rattle.laws.proofs.Closed.{Between}
use Rattle.laws.proofs.Laws.{mark}
use Rattle.definition.specs.Names.{Names}
use Rattle.view.specs.Rows.{row, spot_at}
use Rattle.view.specs.Frame.{Only}
use Rattle.view.specs.Weld.{Sharp}
use Rattle.view.specs.Links.{LinkWord}
use Rattle.view.proofs.Frame.{only_none, only-trans, only-more, only-run, only-put}
use Rattle.view.proofs.Rows.{row_fits}
use Rattle.view.proofs.Groups.{grouping-kept}
use Rattle.groups.specs.declared.GroupCounts.{GroupCounts}
use Rattle.groups.specs.Marks.{Asked, Walked}
use Rattle.groups.specs.Walk.{walk_columns, walk, corner, State, state, started, begun, turn, Turned, Ready, Steps, cleared, Shut, of_any, in_group, Opened}
use Rattle.groups.specs.declared.Group.{Group}
use Rattle.groups.proofs.Steps.{ready-steps, ready-next, ready-begun, only-begun}
use Rattle.groups.proofs.Finished.{all-walked}
use Rattle.flat.specs.Places.{places_column, flat_columns, blank}
use Rattle.flat.proofs.Blank.{set-sets, blank-put, only-blank, only-unblank, blank-cell, blank-ungrouped, blank-ready}

-- ---- the turn of a corner

module _ (rows tris k : ℕ) (w : List ℕ) (s : GroupCounts) (h : k < 3 * tris) (few : s.groups ≤ k) (R : Ready rows tris (s.groups + 1) s.members w) where
  abbrev w₀ : List ℕ
  w₀ = blank rows w

  abbrev now : State
  now = state w₀ s

  -- the walk that may start there
  abbrev new : State
  new = started (s.groups + 1) (corner rows (s.groups + 1) (cell rows vertex_column k w₀) (cell rows orientation_column (k / 3) w₀) (rows + 1) (walk (begun rows now) s.members) (k / 3))

  any-is : cell rows any_column (k / 3) w₀ ≡ cell rows any_column (k / 3) w
  any-is = blank-cell rows any_column (k / 3) w refl (omega (arith, R.fits))

  group-is : cell rows group_column k w₀ ≡ cell rows group_column k w
  group-is = blank-cell rows group_column k w refl (omega (arith, R.fits))

  stays : now ≡ turn rows k now → Turned rows tris k now now
  stays e = record { is = e; few = omega arith; ready = blank-ready rows tris (s.groups + 1) s.members w R; only = only_none walk_columns rows w₀ }

  -- its triangle is `group_with_any`
  pub turned-any : (cell rows any_column (k / 3) w ≡ 0 → ⊥) → Turned rows tris k now now
  unfolding turn
  turned-any ne = stays (sym (ap (λ (b : Bool). cond b (cond (eqb (cell rows group_column k w₀) 0) new now) now) (ap (λ (x : ℕ). eqb x 0) any-is ∙ ne_eqb (cell rows any_column (k / 3) w) 0 ne)))

  module _ (z : cell rows any_column (k / 3) w ≡ 0) where
    free : eqb (cell rows any_column (k / 3) w₀) 0 ≡ true
    free = ap (λ (x : ℕ). eqb x 0) any-is ∙ eq-eqb (cell rows any_column (k / 3) w) 0 z

    -- the corner is in a group
    pub turned-grouped : (cell rows group_column k w ≡ 0 → ⊥) → Turned rows tris k now now
    unfolding turn
    turned-grouped ne = stays (sym (ap (λ (b : Bool). cond b (cond (eqb (cell rows group_column k w₀) 0) new now) now) free ∙ ap (λ (b : Bool). cond b new now) (ap (λ (x : ℕ). eqb x 0) group-is ∙ ne_eqb (cell rows group_column k w) 0 ne)))

    module _ (y : cell rows group_column k w ≡ 0) where
      abbrev b : List ℕ
      b = put rows begin_column s.groups s.members w

      begun-is : begun rows now ≡ blank rows b
      begun-is = blank-put rows begin_column s.groups s.members w refl (omega (arith, R.fits))

      turn_is : turn rows k now ≡ started (s.groups + 1) (corner rows (s.groups + 1) (cell rows vertex_column k w) (cell rows orientation_column (k / 3) w) (rows + 1) (walk (blank rows b) s.members) (k / 3))
      unfolding turn
      turn_is =
          ap (λ (b : Bool). cond b (cond (eqb (cell rows group_column k w₀) 0) new now) now) free
          ∙ ap (λ (b : Bool). cond b new now) (ap (λ (x : ℕ). eqb x 0) group-is ∙ eq-eqb (cell rows group_column k w) 0 y)
          ∙ (λ q. started (s.groups + 1) (corner rows (s.groups + 1) (blank-cell rows vertex_column k w refl (omega (arith, R.fits)) q) (blank-cell rows orientation_column (k / 3) w refl (omega (arith, R.fits)) q) (rows + 1) (walk (begun-is q) s.members) (k / 3)))

      begun-ready : Ready rows tris (s.groups + 1) s.members b
      begun-ready = ready-begun rows tris (s.groups + 1) s.members s.members s.groups w (omega (arith, R.fits)) R

      -- a group starts there
      pub turned-new : (u : List ℕ) (n : ℕ) → Steps rows (walk (blank rows b) s.members) (walk (blank rows u) n) (λ m. corner rows (s.groups + 1) (cell rows vertex_column k w) (cell rows orientation_column (k / 3) w) m (walk (blank rows b) s.members) (k / 3)) → Turned rows tris k now (state (blank rows u) (record { groups = s.groups + 1; members = n }))
      turned-new u n S = record {
        is = ap (started (s.groups + 1)) (S.is (rows + 1) (omega (arith, begun-ready.room, blank-ungrouped rows b))) ∙ sym turn_is;
        few = omega arith;
        ready = ready-next rows tris (s.groups + 1) n (blank rows u) (ready-steps rows tris (s.groups + 1) s.members n (blank rows b) (blank rows u) (λ m. corner rows (s.groups + 1) (cell rows vertex_column k w) (cell rows orientation_column (k / 3) w) m (walk (blank rows b) s.members) (k / 3)) (blank-ready rows tris (s.groups + 1) s.members b begun-ready) S S.only.size);
        only = only-trans walk_columns rows w₀ (blank rows b) (blank rows u) (subst (Only walk_columns rows w₀) begun-is (only-begun rows s.members s.groups w₀ (omega (arith, R.fits)))) S.only;
      }

-- no group starts at the corner
pub turn-shut : (rows tris k : ℕ) (w u : List ℕ) (s : GroupCounts) → k < 3 * tris → s.groups ≤ k → Ready rows tris (s.groups + 1) s.members w → Shut rows k w u → Turned rows tris k (state (blank rows w) s) (state (blank rows u) s)
turn-shut rows tris k w u s h le R (of_any ne) = turned-any rows tris k w s h le R ne
turn-shut rows tris k w u s h le R (in_group z ne) = turned-grouped rows tris k w s h le R z ne

-- one starts there: the turn is its walk
pub turn-opened : (rows tris k n : ℕ) (w u v : List ℕ) (s : GroupCounts) (g : Group) → k < 3 * tris → s.groups ≤ k → Ready rows tris (s.groups + 1) s.members w → Opened rows k s g w u
    → Steps rows (walk (blank rows u) s.members) (walk (blank rows v) n) (λ m. corner rows g.number g.vertex g.orientation m (walk (blank rows u) s.members) (k / 3)) → Turned rows tris k (state (blank rows w) s) (state (blank rows v) (record { groups = g.number; members = n }))
turn-opened rows tris k n w u v s g h le R O = subst (P g) (sym O.begun) (subst (λ (j : Group). P j (put rows begin_column s.groups s.members w)) (sym O.group) (turned-new rows tris k w s h le R O.any O.free v n))
  where
    P : Group → List ℕ → Type 0
    P j x = Steps rows (walk (blank rows x) s.members) (walk (blank rows v) n) (λ m. corner rows j.number j.vertex j.orientation m (walk (blank rows x) s.members) (k / 3)) → Turned rows tris k (state (blank rows w) s) (state (blank rows v) (record { groups = j.number; members = n }))

-- only the flat walk's columns are stored
pub only-shut : (rows k : ℕ) (w u : List ℕ) → Shut rows k w u → Only flat_columns rows w u
only-shut rows k w u (of_any ne) = only_none flat_columns rows w
only-shut rows k w u (in_group z ne) = only_none flat_columns rows w

pub only-opened : (rows k : ℕ) (w u : List ℕ) (s : GroupCounts) (g : Group) → s.groups < rows → Opened rows k s g w u → Only flat_columns rows w u
only-opened rows k w u s g h O = subst (Only flat_columns rows w) (sym O.begun) (only-put flat_columns rows w w begin_column s.groups s.members refl (omega arith) h (only_none flat_columns rows w))

-- ---- all turns

-- two runs of stores in different places may be made in either order
sets-sets : (us vs w : List ℕ) (p q : ℕ) → (p + length vs ≤ q) ⊎ (q + length us ≤ p) → sets (sets w q us) p vs ≡ sets (sets w p vs) q us
sets-sets us [] w p q h = refl
sets-sets us (a ∷ vs) w p q h =
    ap (λ (l : List ℕ). sets l (suc p) vs) (set-sets us w q p a (⊎_elim (λ l. inl (omega arith)) (λ l. inr (omega arith)) h))
    ∙ sets-sets us vs (set w p a) (suc p) q (⊎_elim (λ l. inl (omega arith)) (λ l. inr (omega arith)) h)

-- no corner is in a group, with places or without
pub blank-cleared : (rows : ℕ) (w : List ℕ) → blank rows (cleared rows w) ≡ cleared rows (blank rows w)
unfolding blank
blank-cleared rows w = let n = length-list_of {S = ℕ} rows (λ _. 0) in sets-sets (list_of rows (λ _. 0)) (list_of rows (λ _. 0)) w (places_column * rows + 0) (group_column * rows + 0) (inr (omega arith))

-- nothing but the flat walk's columns is stored after that
pub only-after : (rows : ℕ) (w u v : List ℕ) → u ≡ cleared rows w → Only flat_columns rows u v → Only flat_columns rows w v
only-after rows w u v e O =
    only-trans flat_columns rows w u v (only-more (group_column ∷ []) flat_columns rows w u refl (only-run (group_column ∷ []) rows group_column 0 w u (list_of rows (λ _. 0)) refl (omega arith) (omega (arith, length-list_of {S = ℕ} rows (λ _. 0))) e)) O

-- what step 6 asks holds of the list with no places
asked-blank : (rows : ℕ) (ss : List Triangle) (d : Triangle) (ls : List Link) (w : List ℕ) → 3 * length ss ≤ rows → Asked rows ss d ls w → Asked rows ss d ls (blank rows w)
asked-blank rows ss d ls w fits A = record {
  welds = λ t₁ t₂ i₁ i₂ h₁ h₂. (λ k. eqb (blank-cell rows vertex_column (row t₁ i₁) w refl (row_fits rows ss fits t₁ i₁ h₁) k) (blank-cell rows vertex_column (row t₂ i₂) w refl (row_fits rows ss fits t₂ i₂ h₂) k)) ∙ A.welds t₁ t₂ i₁ i₂ h₁ h₂;
  linked = λ t i h. subst (LinkWord ss d (beyond ls (spot_at ss d t i))) (sym (blank-cell rows link_column (row t i) w refl (row_fits rows ss fits t i h))) (A.linked t i h);
  any = λ t h. ap (λ x. eqb x 0) (blank-cell rows any_column t w refl (omega arith)) ∙ A.any t h;
  way = λ t h. blank-cell rows orientation_column t w refl (omega arith) ∙ A.way t h;
}

-- step 6 by flat walks: what the loop leaves stands for the definition's marks
pub flat-walked : (rows tris : ℕ) (ss : List Triangle) (d : Triangle) (ls : List Link) → Between ss ls → (w u : List ℕ) (c : GroupCounts) → length ss ≡ tris → 3 * tris ≤ rows → columns * rows ≤ length w → c.groups ≤ 3 * tris → Names ss → Sharp ss d → Asked rows ss d ls w → state (blank rows u) c ≡ up_to (3 * tris) (turn rows) (state (blank rows (cleared rows w)) (record { groups = 0; members = 0 })) → Walked rows ss d ls w u c.groups c.members
flat-walked rows tris ss d ls B w u c n fits long few N S A e =
    let fit : 3 * length ss ≤ rows = omega arith in
    let W = all-walked rows tris ss d ls B (blank rows w) (blank rows u) c.groups c.members n fits (omega (arith, (only-blank rows w).size)) N S (asked-blank rows ss d ls w fit A)
    (e ∙ ap (λ (l : List ℕ). up_to (3 * tris) (turn rows) (record { work = l; groups = 0; members = 0 })) (blank-cleared rows w)) in
    record {
      count_is = W.count_is;
      grouping = grouping-kept rows ss d (marks ss ls) c.groups (places_column ∷ []) (blank rows u) u refl fit (omega arith) (only-unblank rows u) W.grouping (mark (spot_at ss d 0 one) (spot_at ss d 0 one));
      rest = λ t l r. sym (blank-cell rows orientation_column t u refl r) ∙ (W.rest t l r ∙ blank-cell rows orientation_column t w refl r);
    }

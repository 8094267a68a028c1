-- Request E11 over four functions: from the columns and from the moments of step 6. Assumes nothing.
use Prim.Native.Nat.{ℕ, suc, ◌*◌, ◌/◌, ◌%◌, ◌≤◌, ◌<◌}
use native.Mathlib.Nat.{le_antisymm}
use native.Mathlib.Omega.{arith}
use mathlib.Core.Path.{◌≡◌, refl, sym, ap, ◌∙◌, subst}
use mathlib.Core.Bool.{Bool, true, false, cond}
use mathlib.Core.List.{List, [], ◌∷◌, append-nil}
use lib.Dec.{eqb, ltb}
use lib.ListN.{length, get_or, length-append}
use lib.Seq.{take_all}
use borrow.Author.Tests.{lt-ltb, le-ltb, ltb-true, ltb-false}
use Rattle.tangent.specs.Slot.{flag}
use Rattle.lists.specs.Lists.{run}
use Rattle.table.specs.Table.{cell}
use Rattle.table.specs.Columns.{rows_of, orientation_column, vertex_column, link_column, group_column}
use Rattle.definition.specs.declared.Triangle.{Triangle}
use Rattle.definition.specs.Handed.{Call, corner_at}
use Rattle.definition.specs.Desk.{at_desk}
use Rattle.definition.specs.Frames.{triangles_of}
use Rattle.definition.specs.Mesh.{Third, one, two, three, after}
use Rattle.definition.specs.Step4Order.{sound, broken, spots}
use Rattle.definition.specs.Step5Links.{links}
use Rattle.definition.specs.Step6Groups.{Mark, start_at, marks}
use Rattle.laws.proofs.Laws.{some-triangle}
use Rattle.laws.proofs.Verdict.{Fine, fine}
use Rattle.view.specs.Frame.{Only}
use Rattle.view.specs.Rows.{num, third, row}
use Rattle.view.proofs.Rows.{row_is, tri-lt, spots-length}
use Rattle.flat.specs.Places.{places_column}
use Rattle.grouped.specs.declared.MeshCounts.{MeshCounts}
use Rattle.grouped.specs.Links.{LeftByFive}
use Rattle.grouped.specs.Grouped.{Six, LeftBySix}
use Rattle.asked.specs.Meaning.{way_of}
use Rattle.promises.specs.Calls.{Accepted}
use Rattle.promises.specs.OwnLinks.{marks_of, way_after, sound_of}
use Rattle.promises.specs.OwnColumns.{Together, OwnWords, Walkable, StandsFast, moment_of, marks_by}
use Rattle.promises.specs.FourFunctions.{next, list_at, OfColumns, StandFor, Promised}
use Rattle.promises.proofs.Acceptance.{no_row}
use Rattle.promises.proofs.StepNine.{get_or-mem}
use Rattle.promises.proofs.OwnLinks.{of-groups}
use Rattle.promises.proofs.OwnColumns.{own-sharp, welded-words, any-words, own-words}
use Rattle.promises.proofs.Moments.{at-every-moment, walkable-there}

-- the next corner, by its row
next_row : (t : ℕ) (i : Third) → next (row t i) ≡ row t (after i)
unfolding num after
next_row t one = omega arith
next_row t two = omega arith
next_row t three = omega arith

-- what holds of two rows, by their triangles and thirds
abbrev own : ℕ → ℕ
own r = row (r / 3) (third (r % 3))

to-rows : (P : ℕ → ℕ → Type 0) (r q : ℕ) → P (own r) (own q) → P r q
to-rows P r q h = subst (λ (y : ℕ). P r y) (row_is q) (subst (λ (y : ℕ). P y (own q)) (row_is r) h)

of-rows : (P : ℕ → ℕ → Type 0) (r q : ℕ) → P r q → P (own r) (own q)
of-rows P r q h = subst (λ (y : ℕ). P (own r) y) (sym (row_is q)) (subst (λ (y : ℕ). P y q) (sym (row_is r)) h)

-- the list at a moment before the last, and at the last
list-before : (rows n k : ℕ) (s u : List ℕ) → k < 3 * n → list_at rows n s u k ≡ moment_of rows s k
unfolding list_at
list-before rows n k s u h = ap (λ (b : Bool). cond b (moment_of rows s k) u) (lt-ltb k (3 * n) h)

list-last : (rows n k : ℕ) (s u : List ℕ) → 3 * n ≤ k → list_at rows n s u k ≡ u
unfolding list_at
list-last rows n k s u h = ap (λ (b : Bool). cond b (moment_of rows s k) u) (le-ltb k (3 * n) h)

module _ (x : Call) (ok : Accepted x) (c : MeshCounts) (l s u : List ℕ) (F : LeftByFive x.mesh c.sound c.all x.work l) (O : Only (places_column ∷ []) (rows_of (length x.mesh.sizes)) l s) (L : LeftBySix x.mesh c x.work u) where
  abbrev rows : ℕ
  rows = rows_of (length x.mesh.sizes)

  abbrev n : ℕ
  n = c.sound

  abbrev ss : List Triangle
  ss = sound (triangles_of x.mesh)

  known : Fine (at_desk x)
  known = fine (at_desk x) (no_row x ok)

  six : (d : Triangle) → Six rows x.mesh (triangles_of x.mesh) d c u
  six d = L.stands known.good d

  -- any triangle
  d : Triangle
  d = some-triangle (corner_at x.mesh.positions x.mesh.normals x.mesh.texture 0)

  words : OwnWords rows n c.members (way_of ss d) u
  words = own-words rows x.mesh (triangles_of x.mesh) d c u (six d) L.fits L.sound_count

  stand-for : (d : Triangle) → StandFor rows ss d u
  stand-for d =
      record {
        vertex = λ r q h g. (λ z. eqb (cell rows vertex_column (sym (row_is r) z) u) (cell rows vertex_column (sym (row_is q) z) u)) ∙ welded-words rows x.mesh (triangles_of x.mesh) d c u (six d) L.fits (r / 3) (q / 3) (third (r % 3)) (third (q % 3)) (tri-lt r (length ss) h) (tri-lt q (length ss) g);
        any = any-words rows x.mesh (triangles_of x.mesh) d c u (six d) L.fits;
      }

  -- ---- the moments

  before-walk : Walkable rows n l
  before-walk =
      record {
        fits = omega (arith, F.fits, F.sound_count, length-append ss (broken (triangles_of x.mesh)));
        long = omega (arith, known.work-fits, F.only.size);
        few = omega (arith, known.few);
        links = F.range;
      }

  walkable : Walkable rows n s
  walkable = walkable-there rows l s O n before-walk

  abbrev at : ℕ → List ℕ
  at k = moment_of rows s k

  -- from a moment to a later one
  fast : (k j : ℕ) → k ≤ j → j ≤ 3 * n → StandsFast rows n (at k) (at j)
  fast k j h g = at-every-moment.fast rows n (at k) (at j) walkable.fits (at-every-moment.turns rows n s walkable k j h g)

  all_made : marks_by ss (3 * n) ≡ marks_of ss
  unfolding marks
  all_made = ap (run (start_at ss (links ss)) []) (take_all (3 * n) (spots ss) (omega (arith, spots-length ss, L.sound_count)))

  -- after all turns the orientations are those that the steps leave
  last-way : (t : ℕ) → t < n → cell rows orientation_column t u ≡ cell rows orientation_column t (at (3 * n))
  last-way t h =
      let b : t < length ss = omega (arith, L.sound_count) in
      let S = at-every-moment.says x.mesh n c.all x.work l s F known.good before-walk O d (3 * n) (omega arith) in
      let W = (of-groups ss (six d).five.names (own-sharp rows x.mesh (triangles_of x.mesh) d c u (six d) L.fits)).way_now (marks_of ss) [] (sym (append-nil (marks_of ss))) (get_or ss t d) (get_or-mem ss d t b) in
      (six d).grouping.way t b ∙ (ap flag (sym W) ∙ (ap (λ (ms : List Mark). flag (way_after ms (get_or ss t d))) (sym all_made) ∙ sym (S.way t b)))

  abbrev f : ℕ → List ℕ
  f k = list_at rows n s u k

  way_at : (j t : ℕ) → j ≤ 3 * n → t < n → cell rows orientation_column t (f j) ≡ cell rows orientation_column t (at j)
  way_at j t h g = go (ltb j (3 * n)) refl
    where
      go : (b : Bool) → ltb j (3 * n) ≡ b → cell rows orientation_column t (f j) ≡ cell rows orientation_column t (at j)
      go true e = ap (cell rows orientation_column t) (list-before rows n j s u (ltb-true j (3 * n) e))
      go false e = let i = ltb-false j (3 * n) e in ap (cell rows orientation_column t) (list-last rows n j s u i) ∙ (last-way t g ∙ ap (λ (k : ℕ). cell rows orientation_column t (at k)) (le_antisymm i h))

  never_changes : (k j r : ℕ) → k ≤ j → j ≤ 3 * n → r < 3 * n → (cell rows group_column r (f k) ≡ 0 → ⊥) → cell rows orientation_column (r / 3) (f j) ≡ cell rows orientation_column (r / 3) (f k)
  never_changes k j r h g b ne = go (ltb k (3 * n)) refl
    where
      go : (y : Bool) → ltb k (3 * n) ≡ y → cell rows orientation_column (r / 3) (f j) ≡ cell rows orientation_column (r / 3) (f k)
      go true e =
          let t = tri-lt r n b in
          let there = (fast k j h g).settled (r / 3) (third (r % 3)) t (λ z. ne ((λ i. cell rows group_column (sym (row_is r) i) (list-before rows n k s u (ltb-true k (3 * n) e) i)) ∙ z)) in
          way_at j (r / 3) g t ∙ (there ∙ sym (way_at k (r / 3) (omega arith) t))
      go false e = ap (λ (i : ℕ). cell rows orientation_column (r / 3) (f i)) (sym (le_antisymm h (omega (arith, ltb-false k (3 * n) e))))

  -- ---- the last moment

  abbrev end : f (3 * n) ≡ u
  end = list-last rows n (3 * n) s u (omega arith)

  together : (r q : ℕ) → (cell rows group_column r (f (3 * n)) ≡ 0 → ⊥) → cell rows group_column r (f (3 * n)) ≡ cell rows group_column q (f (3 * n)) → Together rows u (own r) (own q)
  together r q ne e =
      of-rows (Together rows u) r q
      (record { same = ap (cell rows group_column r) (sym end) ∙ (e ∙ ap (cell rows group_column q) end); some = λ z. ne (ap (cell rows group_column r) end ∙ z) })

  of-columns : OfColumns rows n u f
  of-columns =
      record {
        names = words.besides.range;
        back = λ r q h g e. to-rows (λ a b. cell rows link_column b u ≡ suc a) r q (words.links.back (r / 3) (q / 3) (third (r % 3)) (third (q % 3)) (tri-lt r n h) (tri-lt q n g) (of-rows (λ a b. cell rows link_column a u ≡ suc b) r q e));
        opposite = λ r q h g e.
            let T = words.links.across (r / 3) (q / 3) (third (r % 3)) (third (q % 3)) (tri-lt r n h) (tri-lt q n g) (of-rows (λ a b. cell rows link_column a u ≡ suc b) r q e) in
            to-rows (λ a b. (cell rows vertex_column a u ≡ cell rows vertex_column (next b) u) × (cell rows vertex_column (next a) u ≡ cell rows vertex_column b u)) r q
            (T.0 ∙ ap (λ (y : ℕ). cell rows vertex_column y u) (sym (next_row (q / 3) (third (q % 3)))), ap (λ (y : ℕ). cell rows vertex_column y u) (next_row (r / 3) (third (r % 3))) ∙ T.1);
        one_corner = λ r q h g ne e. to-rows (λ a b. cell rows vertex_column a u ≡ cell rows vertex_column b u) r q (words.groups.one_vertex (r / 3) (q / 3) (third (r % 3)) (third (q % 3)) (tri-lt r n h) (tri-lt q n g) (together r q ne e));
        one_way = λ r q h g ne e.
            ap (cell rows orientation_column (r / 3)) end
            ∙ (words.groups.one_way (r / 3) (q / 3) (third (r % 3)) (third (q % 3)) (tri-lt r n h) (tri-lt q n g) (together r q ne e) ∙ ap (cell rows orientation_column (q / 3)) (sym end));
        exactly-one = λ r h a z. words.groups.some (r / 3) (third (r % 3)) (tri-lt r n h) a ((λ i. cell rows group_column (row_is r i) (sym end i)) ∙ z);
        never_changes = never_changes;
      }

pub four_functions : Promised
unfolding Promised sound_of
four_functions x ok c l s u F O L = (stand-for x ok c l s u F O L, of-columns x ok c l s u F O L)

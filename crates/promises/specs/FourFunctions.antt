-- Request E11 in its own words and order, over four functions of numbers; then of the columns that steps 1 to 6 leave. Corners 3t, 3t + 1 and 3t + 2 are those of triangle t, and the side of a number runs from the corner of that number to the next of its triangle. Definitions only.
use Rattle.std.specs.Prelude.{ℕ, suc, ◌+◌, ◌*◌, ◌/◌, ◌%◌, ◌≤◌, ◌<◌, ◌≡◌, cond, List, [], ◌∷◌, eqb, ltb, length, get_or}
use Rattle.tangent.specs.Slot.{flag}
use Rattle.table.specs.Table.{cell}
use Rattle.table.specs.Columns.{rows_of, orientation_column, any_column, vertex_column, link_column, group_column}
use Rattle.definition.specs.declared.Triangle.{Triangle}
use Rattle.definition.specs.Handed.{Call}
use Rattle.definition.specs.Mesh.{corner_of}
use Rattle.definition.specs.Step4Order.{welded}
use Rattle.view.specs.Frame.{Only}
use Rattle.view.specs.Rows.{spot_row}
use Rattle.flat.specs.Places.{places_column}
use Rattle.grouped.specs.declared.MeshCounts.{MeshCounts}
use Rattle.grouped.specs.Links.{LeftByFive}
use Rattle.grouped.specs.Grouped.{LeftBySix}
use Rattle.promises.specs.Calls.{Accepted}
use Rattle.promises.specs.OwnLinks.{sound_of}
use Rattle.promises.specs.OwnColumns.{moment_of}

-- the next corner of the same triangle
abbrev pub next : ℕ → ℕ
next r = 3 * (r / 3) + (r % 3 + 1) % 3

-- Of n triangles. vertex: one number for corners that are welded. link: 0, or one more than the number of the side that a side is linked with. group: at each moment, 0, or the number of the group that a corner is in then. orientation: of each triangle at each moment. The moments are 0 to `last`; any: 0 of a triangle that isn't `group_with_any`.
pub record E11 (n last : ℕ) (any vertex link : ℕ → ℕ) (group orientation : ℕ → ℕ → ℕ) : Type 0 where
  -- 'mutual opposite links', each with a side of these triangles
  pub names : (r : ℕ) → r < 3 * n → link r ≤ 3 * n
  pub back : (r q : ℕ) → r < 3 * n → q < 3 * n → link r ≡ suc q → link q ≡ suc r
  pub opposite : (r q : ℕ) → r < 3 * n → q < 3 * n → link r ≡ suc q → (vertex r ≡ vertex (next q)) × (vertex (next r) ≡ vertex q)
  -- 'one welded corner and one final orientation per group'
  pub one_corner : (r q : ℕ) → r < 3 * n → q < 3 * n → (group last r ≡ 0 → ⊥) → group last r ≡ group last q → vertex r ≡ vertex q
  pub one_way : (r q : ℕ) → r < 3 * n → q < 3 * n → (group last r ≡ 0 → ⊥) → group last r ≡ group last q → orientation last (r / 3) ≡ orientation last (q / 3)
  -- 'every corner in at most one group', since `group` is a function, 'exactly one where the triangle isn't `group_with_any`'
  pub exactly-one : (r : ℕ) → r < 3 * n → any (r / 3) ≡ 0 → group last r ≡ 0 → ⊥
  -- 'a triangle's orientation never changes after its first corner is grouped'
  pub never_changes : (k j r : ℕ) → k ≤ j → j ≤ last → r < 3 * n → (group k r ≡ 0 → ⊥) → orientation j (r / 3) ≡ orientation k (r / 3)

-- ---- of the columns

-- the work list at each moment of step 6: after the turns of the first k corners from the list s on, and after all of them the list u
unfoldable pub list_at : ℕ → ℕ → List ℕ → List ℕ → ℕ → List ℕ
list_at rows n s u k = cond (ltb k (3 * n)) (moment_of rows s k) u

-- E11 of the columns of n sound triangles, the moments' lists being f
abbrev pub OfColumns : ℕ → ℕ → List ℕ → (ℕ → List ℕ) → Type 0
OfColumns rows n u f = E11 n (3 * n) (λ t. cell rows any_column t u) (λ r. cell rows vertex_column r u) (λ r. cell rows link_column r u) (λ k r. cell rows group_column r (f k)) (λ k t. cell rows orientation_column t (f k))

-- what two of the functions stand for, of the triangles ss; d is any triangle, for numbers past the last
pub record StandFor (rows : ℕ) (ss : List Triangle) (d : Triangle) (u : List ℕ) : Type 0 where
  pub vertex : (r q : ℕ) → r < 3 * length ss → q < 3 * length ss → eqb (cell rows vertex_column r u) (cell rows vertex_column q u) ≡ welded (corner_of (spot_row ss d r)) (corner_of (spot_row ss d q))
  pub any : (t : ℕ) → t < length ss → cell rows any_column t u ≡ flag (get_or ss t d).any

-- the promise: of every accepted call x, where steps 1 to 5 leave the list l and steps 1 to 6 the list u (the contracts of `grouped`); s: l, or l with other words in the column where the flat walk keeps its places
unfoldable pub Promised : Type 0
Promised = (x : Call) → Accepted x → (c : MeshCounts) (l s u : List ℕ) → LeftByFive x.mesh c.sound c.all x.work l → Only (places_column ∷ []) (rows_of (length x.mesh.sizes)) l s → LeftBySix x.mesh c x.work u
    → ((d : Triangle) → StandFor (rows_of (length x.mesh.sizes)) (sound_of x) d u) × OfColumns (rows_of (length x.mesh.sizes)) c.sound u (list_at (rows_of (length x.mesh.sizes)) c.sound s u)

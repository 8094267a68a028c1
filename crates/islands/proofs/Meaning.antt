-- The rows, welded, and faces united by them: the numbers are the lowest of the islands. Assumes nothing.
use Prim.Native.Nat.{ℕ, ◌*◌, ◌/◌, ◌≤◌, ◌<◌}
use native.Mathlib.Omega.{arith}
use mathlib.Core.Path.{◌≡◌, refl, sym, ◌∙◌, ap, subst}
use mathlib.Core.Bool.{true, cond}
use mathlib.Core.List.{List, Memᴰ}
use lib.ListN.{length, get_or}
use Rattle.definition.proofs.Lengths.{mesh-length}
use Rattle.definition.specs.declared.Corner.{Corner}
use Rattle.definition.specs.Handed.{mesh_of, Handed, corner_at, used}
use Rattle.definition.specs.Triangles.{usable}
use Rattle.definition.specs.Step4Order.{welded}
use Rattle.laws.proofs.Weld.{welded-refl, welded-as}
use Rattle.view.specs.Weld.{First}
use Rattle.view.proofs.Weld.{first_one, first-low}
use Rattle.islands.specs.Islands.{face_at, touch, touches, Chain, Lowest, counted, no_island, Given, lowest, other, lowest_of, island_of}
use Rattle.islands.specs.Rows.{FacesListed}
use Rattle.islands.proofs.Chains.{touch-shared, shared-touch, touches-counted, touches-sym, counted-below}
use Rattle.islands.proofs.Agree.{level, lowest-low, lowest-chain}
use Rattle.islands.proofs.Sizes.{named, number_of, counted_is}

module _ (mesh : Handed) (k : ℕ) (C N vs : ℕ → ℕ) (l : FacesListed mesh.sizes (length mesh.sizes) k C N) (v : (r : ℕ) → r < 4 * k → First (λ j. welded (corner_at mesh.positions mesh.normals mesh.texture (C r)) (corner_at mesh.positions mesh.normals mesh.texture (C j))) (vs r)) where
  abbrev faces : List (List Corner)
  faces = mesh_of mesh

  -- the corner of a row
  abbrev at : ℕ → Corner
  at r = corner_at mesh.positions mesh.normals mesh.texture (C r)

  pub vertex-low : (r : ℕ) → r < 4 * k → vs r ≤ r
  vertex-low r h = first-low (λ j. welded (at r) (at j)) (vs r) r (v r h) (welded-refl (at r))

  -- the face of a row, and that of its vertex
  pub near : (r : ℕ) → r < 4 * k → N (r / 4) < length mesh.sizes
  near r h = (l.among r h).below

  touch-row : (r : ℕ) → r < 4 * k → touches faces (N (r / 4)) (N (vs r / 4)) ≡ true
  unfolding touches
  touch-row r h =
      let i : vs r < 4 * k = omega (arith, vertex-low r h) in
      shared-touch (face_at faces (N (r / 4))) (face_at faces (N (vs r / 4))) (at r) (at (vs r))
      (record { near = named mesh.positions mesh.normals mesh.texture mesh.sizes (N (r / 4)) (C r) (l.among r h); far = named mesh.positions mesh.normals mesh.texture mesh.sizes (N (vs r / 4)) (C (vs r)) (l.among (vs r) i); same = (v r h).passes })

  -- the definition's numbers are level on the rows
  pub rows-level : (r : ℕ) → r < 4 * k → lowest_of faces (N (r / 4)) ≡ lowest_of faces (N (vs r / 4))
  rows-level r h = level faces (N (r / 4)) (N (vs r / 4)) (touch-row r h)

  same-vertex : (r q : ℕ) → r < 4 * k → q < 4 * k → welded (at r) (at q) ≡ true → vs r ≡ vs q
  same-vertex r q h i e = first_one (λ j. welded (at r) (at j)) (λ j. welded (at q) (at j)) (λ j. welded-as (at r) (at q) (at j) e) (vs r) (vs q) (v r h) (v q i)

  -- a row for each corner of a face of 3 or 4
  record Row (f : ℕ) (c : Corner) (r : ℕ) : Type 0 where
    row : r < 4 * k
    face : N (r / 4) ≡ f
    corner : at r ≡ c

  row_of : (f : ℕ) (c : Corner) → counted faces f ≡ true → Memᴰ c (usable (face_at faces f)) → (r : ℕ) × Row f c r
  row_of f c u m =
      let h : f < length mesh.sizes = subst (λ n. f < n) (mesh-length mesh.positions mesh.normals mesh.texture 0 mesh.sizes) (counted-below faces f u) in
      let n = number_of mesh.positions mesh.normals mesh.texture mesh.sizes f c u h m in
      let r = l.all f n.0 h n.1.names in
      (r.0, record { row = r.1.row; face = r.1.face; corner = ap (corner_at mesh.positions mesh.normals mesh.texture) r.1.corner ∙ n.1.is })

  -- numbers that are level on the rows, not above their faces, and of the same island
  module _ (s : ℕ → ℕ) (even : (r : ℕ) → r < 4 * k → s (N (r / 4)) ≡ s (N (vs r / 4))) (low : (x : ℕ) → x < length mesh.sizes → s x ≤ x) (keeps : (x : ℕ) → x < length mesh.sizes → lowest_of faces (s x) ≡ lowest_of faces x) where
    s-rows : (f g : ℕ) (c d : Corner) (r q : ℕ) → Row f c r → Row g d q → welded c d ≡ true → s f ≡ s g
    s-rows f g c d r q a b e =
        let w : welded (at r) (at q) ≡ true = (λ i. welded (a.corner i) (b.corner i)) ∙ e in
        let x : N (vs r / 4) ≡ N (vs q / 4) = ap (λ j. N (j / 4)) (same-vertex r q a.row b.row w) in
        ap s (sym a.face) ∙ even r a.row ∙ ap s x ∙ sym (even q b.row) ∙ ap s b.face

    s-level : (f g : ℕ) → touches faces f g ≡ true → s f ≡ s g
    unfolding touches
    s-level f g t =
        let h = touch-shared (face_at faces f) (face_at faces g) t in
        let a = row_of f h.0 (touches-counted faces f g t) h.2.near in
        let b = row_of g h.1 (touches-counted faces g f (touches-sym faces f g t)) h.2.far in
        s-rows f g h.0 h.1 a.0 b.0 a.1 b.1 h.2.same

    s-chain : {f g : ℕ} → Chain faces f g → s f ≡ s g
    s-chain (Rattle.islands.specs.Islands.alone f) = refl
    s-chain (Rattle.islands.specs.Islands.onward f g h t a) = s-level f g t ∙ s-chain a

    pub lowest-is : (f : ℕ) → f < length mesh.sizes → s f ≡ lowest_of faces f
    lowest-is f h =
        let n = lowest_of faces f in
        let a : n ≤ f = lowest-low faces f in
        let b : s f ≡ s n = s-chain (lowest-chain faces f) in
        let c : s n ≤ n = low n (omega arith) in
        let d : lowest_of faces (s f) ≤ s f = lowest-low faces (s f) in
        let e : lowest_of faces (s f) ≡ n = keeps f h in
        omega (arith, a, b, c, d, e)

    pub given_is : (f : ℕ) → f < length mesh.sizes → cond (used (get_or mesh.sizes f 0)) (s f) no_island ≡ island_of faces f
    unfolding island_of
    given_is f h = ap (λ b. cond b (s f) no_island) (sym (counted_is mesh.positions mesh.normals mesh.texture mesh.sizes f h)) ∙ ap (λ n. cond (counted faces f) n no_island) (lowest-is f h)

-- All of `label`, one step after the other. Assumes nothing.
use Prim.Native.Nat.{ℕ, ◌*◌, ◌/◌, ◌≤◌, ◌<◌}
use native.Mathlib.Omega.{arith}
use mathlib.Core.Path.{◌≡◌, refl, sym, ◌∙◌, subst}
use mathlib.Core.List.{List}
use lib.ListN.{length, get_or, drop, get_or-append}
use Rattle.definition.specs.Handed.{mesh_of, Handed}
use Rattle.lists.specs.Loops.{list_of}
use Rattle.lists.proofs.Loops.{length-list_of, get_or-list_of}
use Rattle.view.proofs.Frame.{cell-kept}
use Rattle.weld.specs.Welding.{weld_columns, Welded}
use Rattle.unions.specs.Unions.{Level, Alone, Settled}
use Rattle.unions.proofs.Stores.{beyond-trans, alone-level}
use Rattle.islands.specs.Islands.{lowest_of, island_of}
use Rattle.islands.specs.Rows.{NamesCorner, FacesListed, corner_row, face_row, vertex_row, Woven, Readable, Struck, labelled}
use Rattle.islands.proofs.Meaning.{vertex-low, near, rows-level, given_is}
use Rattle.islands.proofs.Weaving.{labelled-is}

-- the same rows, with the faces' numbers read elsewhere
listed-names : (sizes : List ℕ) (f k : ℕ) (C N M : ℕ → ℕ) → ((j : ℕ) → j < k → M j ≡ N j) → FacesListed sizes f k C N → FacesListed sizes f k C M
listed-names sizes f k C N M e l = record {
  few = l.few;
  among = λ r h. subst (λ g. NamesCorner sizes g (C r)) (sym (e (r / 4) (omega arith))) (l.among r h);
  all = λ g n h a. let r = l.all g n h a in (r.0, record { row = r.1.row; face = e (r.0 / 4) (omega (arith, r.1.row)) ∙ r.1.face; corner = r.1.corner });
}

module _ (mesh : Handed) (k : ℕ) (w u : List ℕ) (l : FacesListed mesh.sizes (length mesh.sizes) k (corner_row (6 * length mesh.sizes) w) (face_row (6 * length mesh.sizes) w)) (weld : Welded (6 * length mesh.sizes) (4 * k) mesh.positions mesh.normals mesh.texture w u) where
  abbrev rows : ℕ
  rows = 6 * length mesh.sizes

  moved : FacesListed mesh.sizes (length mesh.sizes) k (corner_row rows w) (face_row rows u)
  moved = listed-names mesh.sizes (length mesh.sizes) k (corner_row rows w) (face_row rows w) (face_row rows u) (λ j h. cell-kept weld_columns rows w u weld.only 4 j refl (omega (arith, l.few))) l

  pub readable : (x : ℕ) → x ≡ 4 * k → Readable (length mesh.sizes) rows x (face_row rows u) (vertex_row rows u)
  readable x e = record {
    near = λ r h. near mesh k (corner_row rows w) (face_row rows u) (vertex_row rows u) moved weld.first r (omega arith);
    low = λ r h. vertex-low mesh k (corner_row rows w) (face_row rows u) (vertex_row rows u) moved weld.first r (omega arith);
  }

  pub labels-are : (labels a b d e : List ℕ) (x : ℕ) → length mesh.sizes ≤ length labels → Alone (length mesh.sizes) labels a → Woven (length mesh.sizes) (face_row rows u) (vertex_row rows u) a b x → Settled (length mesh.sizes) b d → Struck mesh.sizes d e → x ≡ 4 * k → e ≡ labelled mesh labels
  labels-are labels a b d e x long alone woven' settled struck same =
      let woven = subst (λ y. Woven (length mesh.sizes) (face_row rows u) (vertex_row rows u) a b y) same woven' in
      let n = length mesh.sizes in
      let faces = mesh_of mesh in
      let all = beyond-trans n labels a e alone.beyond (beyond-trans n a b e woven.beyond (beyond-trans n b d e settled.beyond struck.beyond)) in
      let known : Level n b (lowest_of faces) = woven.onto (lowest_of faces) (alone-level n labels a alone (lowest_of faces)) (rows-level mesh k (corner_row rows w) (face_row rows u) (vertex_row rows u) moved weld.first) in
      labelled-is mesh labels e long all.size
      (λ f h.
      struck.each f h
      ∙ given_is mesh k (corner_row rows w) (face_row rows u) (vertex_row rows u) moved weld.first (λ x. get_or d x 0) (woven.joined (λ x. get_or d x 0) settled.level) settled.low (settled.joined (lowest_of faces) known) f h)
      all.rest

-- the number of each face stands at its place
pub label-at : (mesh : Handed) (labels : List ℕ) (f : ℕ) → f < length mesh.sizes → get_or (labelled mesh labels) f 0 ≡ island_of (mesh_of mesh) f
unfolding labelled
label-at mesh labels f h =
    let n = length mesh.sizes in
    let g = island_of (mesh_of mesh) in
    get_or-append (list_of n g) (drop n labels) 0 f (omega (arith, h, length-list_of n g)) ∙ get_or-list_of n g 0 f h

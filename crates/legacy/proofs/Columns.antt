-- What the columns stand for once the triangles are listed, their rows merged and named. Assumes nothing.
use Prim.Native.Nat.{ℕ, ◌+◌, ◌*◌, ◌/◌, ◌%◌, ◌≤◌, ◌<◌}
use native.Mathlib.Omega.{arith}
use mathlib.Core.Path.{◌≡◌, refl, sym, ap, ◌∙◌, subst}
use mathlib.Core.Bool.{Bool, true, false, cond}
use mathlib.Core.List.{List, [], ◌∷◌, ◌++◌}
use mathlib.Core.Option.{none}
use lib.Dec.{T, eqb}
use lib.ListN.{length, get_or, take, length-append}
use lib.Seq.{get_or-take}
use lib.Ieee.{nan, binary32, fits}
use Rattle.tangent.specs.declared.RawTangentSpace.{RawTangentSpace}
use Rattle.tangent.specs.Slot.{flag}
use Rattle.table.specs.Table.{cell, column}
use Rattle.table.specs.Columns.{columns, rows_of, tag_column, into_column, corner_column, name_column, orientation_column, next_column, vertex_column}
use Rattle.table.proofs.Laws.{get_or-column}
use Rattle.definition.specs.declared.Corner.{Corner}
use Rattle.definition.specs.declared.Triangle.{Triangle}
use Rattle.definition.specs.Mesh.{Third, one, corner_of}
use Rattle.definition.specs.Handed.{Handed, mesh_of, corner_at, corner_count, slot_count}
use Rattle.definition.specs.Desk.{not_finite}
use Rattle.definition.specs.Names.{Names}
use Rattle.definition.specs.Frames.{triangles_of}
use Rattle.definition.specs.Step4Order.{is_sound, sound, broken, welded}
use Rattle.definition.specs.Step4Old.{tag_of, tagged}
use Rattle.laws.proofs.Numbers.{names-keep, triangles-names}
use Rattle.laws.proofs.Bridge.{every-get_or}
use Rattle.view.specs.Frame.{Only, disjoint, outside}
use Rattle.view.specs.Rows.{row, third, spot_at, spot_row}
use Rattle.view.specs.Records.{told_columns, Held, Told, Tells, Reads, From}
use Rattle.view.specs.Weld.{Vertices, Welds}
use Rattle.view.proofs.Frame.{only-trans, only-more, apart}
use Rattle.view.proofs.Rows.{row_is, row_lt, tri-lt, spot_is}
use Rattle.view.proofs.Records.{told-stored, cornered-stored, told-kept, cornered-kept, reads_kept, held_kept, corner-is}
use Rattle.view.proofs.Weld.{welds, sound-welds, vertices-kept}
use Rattle.view.proofs.Answer.{mesh-slotted, slotted-sound-broken}
use Rattle.listing.specs.Listing.{Listed}
use Rattle.edges.specs.Tags.{Tagged}
use Rattle.merge.specs.Rows.{merge_columns, Merged}
use Rattle.merge.specs.Names.{name_columns, tag_in, tag_at, corner_into, Named}
use Rattle.merge.proofs.Tags.{all-follow, tag-means, tag_fits}
use Rattle.merge.proofs.Recornered.{marked, tags-weld, one_corner}
use Rattle.merge.proofs.Old as old
use Rattle.legacy.specs.Merged.{Like}
use Rattle.legacy.specs.Four.{sound_left, broken_left, Four}
use Rattle.legacy.specs.Links.{four_columns}
use Rattle.legacy.proofs.Merged.{ys, into, xs, us, vs, rows, into-below, like, long, whole, sound-long, us-at, names-left, corner-left}
use Rattle.legacy.proofs.Apart.{sharp-left}
use Rattle.legacy.proofs.Seen.{left-seen}

-- ---- what is told of a triangle is told of one that is it but for its corners

told-like : (rows : ℕ) (mesh : Handed) (w : List ℕ) (t : ℕ) (x y : Triangle) → Like x y → Told rows mesh w t y → Told rows mesh w t x
told-like rows mesh w t x y L S = record {
  number = λ i. S.number i ∙ (λ z. corner_count (take (sym L.face z) mesh.sizes) + sym (L.which i) z);
  slot = λ i. S.slot i ∙ (λ z. slot_count (take (sym L.face z) mesh.sizes) + sym (L.which i) z);
  face = S.face ∙ sym L.face;
  missing = S.missing ∙ sym L.missing;
  along = S.along ∙ sym (ap (λ (g : RawTangentSpace). g.s) L.tangent);
  up = S.up ∙ sym (ap (λ (g : RawTangentSpace). g.t) L.tangent);
  s_long = S.s_long ∙ sym (ap (λ (g : RawTangentSpace). g.s_magnitude) L.tangent);
  t_long = S.t_long ∙ sym (ap (λ (g : RawTangentSpace). g.t_magnitude) L.tangent);
  marked = S.marked ∙ sym (ap flag L.marked);
  loose = S.loose ∙ sym (ap flag L.any);
}

-- ---- after the rows are merged

module _ (mesh : Handed) (n m : ℕ) (w u v : List ℕ) (L : Listed mesh n m w u) (room : columns * rows_of (length mesh.sizes) ≤ length u) (M : Merged (rows_of (length mesh.sizes)) (3 * m) mesh.positions mesh.normals mesh.texture u v) where
  abbrev height : ℕ
  height = rows_of (length mesh.sizes)

  abbrev ts : List Triangle
  ts = triangles_of mesh

  all-rows : 3 * length (ys ts) ≡ 3 * m
  all-rows = let z = L.count in omega (arith, z)

  fit : 3 * m ≤ height
  fit = let z = L.count in omega (arith, z, L.fits)

  held-merged : (d : Triangle) → Held height mesh (ys ts) d v
  held-merged d = held_kept height mesh (ys ts) d u (L.held d) L.fits merge_columns v refl M.only

  tells-merged : (d : Triangle) → Tells height mesh (ys ts) d v
  tells-merged d t h = told-stored height mesh v t (get_or (ys ts) t d) (let z = L.fits in omega (arith, z, h)) (held-merged d t h)

  -- a row of the column is the definition's
  row-merged : (d : Triangle) (r : ℕ) → r < 3 * m → get_or (column height into_column v) r 0 ≡ into ts r
  row-merged d r h = sym (get_or-take (3 * m) (column height into_column v) r 0 h) ∙ ap (λ (l : List ℕ). get_or l r 0) (old.rows_are height (3 * m) mesh.positions mesh.normals mesh.texture mesh.sizes ts d u v room fit all-rows (L.held d) (all-follow _) M)

  -- each tag is one of the rows
  pub tags-fit : (d : Triangle) (r : ℕ) → r < 3 * m → tag_at height v r < height
  unfolding tag_at
  tags-fit d r h =
      subst (λ (q : ℕ). tag_in (column height name_column v) q < height) (sym (row-merged d r h))
      (tag_fits height (length mesh.sizes) mesh (ys ts) d v L.fits (tells-merged d)
      (λ t g. ((slotted-sound-broken (mesh-slotted mesh.positions mesh.normals mesh.texture mesh.sizes) t d g).has one).face)
      (omega (arith, h, fit)) (into ts r) (into-below ts r (omega (arith, h, all-rows))))

  -- ---- and named

  pub only-four : (z : List ℕ) → Named height (3 * m) v z → Only four_columns height u z
  only-four z N = only-trans four_columns height u v z (only-more merge_columns four_columns height u v refl M.only) (only-more name_columns four_columns height v z refl N.only)

  module _ (z : List ℕ) (N : Named height (3 * m) v z) (d : Triangle) where
    few : (t : ℕ) → t < length (us ts) → t < length (ys ts)
    few t h = omega (arith, h, sound-long ts d, length-append (sound ts) (broken ts))

    pub held-named : Held height mesh (ys ts) d z
    held-named = held_kept height mesh (ys ts) d v (held-merged d) L.fits name_columns z refl N.only

    from : (t : ℕ) → t < length (ys ts) → From mesh.positions mesh.normals mesh.texture (corner_count (take (get_or (ys ts) t d).face mesh.sizes)) (get_or (ys ts) t d)
    from t h = (L.held d t h).from

    -- the corner of a sound triangle that is left, by the row that its row is merged with
    corner-of : (t : ℕ) (i : Third) → t < length (us ts) → corner_of (spot_at (us ts) d t i) ≡ marked (spot_row (ys ts) d (into ts (row t i)))
    corner-of t i h = ap (λ (x : Triangle). corner_of (record { tri = x; at = i })) (us-at ts d t h) ∙ ap corner_of (sym (spot_is (xs ts) d t i)) ∙ corner-left ts d d (row t i) (row_lt t (length (ys ts)) i (few t h))

    row_below : (t : ℕ) (i : Third) → t < length (us ts) → row t i < 3 * length (ys ts)
    row_below t i h = row_lt t (length (ys ts)) i (few t h)

    own-names : Names (sound ts)
    own-names = unfold sound in names-keep is_sound (triangles-names 0 (mesh_of mesh))

    -- the tag of a row
    tag-at : (r : ℕ) → r < 3 * m → cell height tag_column r z ≡ tag_of (spot_row (ys ts) d (into ts r))
    unfolding tag_at
    tag-at r h =
        N.tag r h ∙ ap (tag_in (column height name_column v)) (row-merged d r h)
        ∙ tag-means height mesh (ys ts) d v L.fits (tells-merged d) (λ t g. every-get_or (old.follows height (3 * m) mesh.positions mesh.normals mesh.texture mesh.sizes ts d u v room fit all-rows (L.held d) (all-follow _) M) t d g) (into ts r) (into-below ts r (omega (arith, h, all-rows)))

    pub tagged-left : Tagged height (us ts) d z
    unfolding tagged
    tagged-left = record {
      tags = λ t i h. tag-at (row t i) (let y = row_below t i h in omega (arith, y, all-rows)) ∙ sym (ap (λ (c : Corner). c.tag) (corner-of t i h));
      alone = λ t s i j h k.
          (λ y. eqb (corner-of t i h y).tag (corner-of s j k y).tag)
          ∙ sym (tags-weld _ _ _ _ (one_corner mesh.positions mesh.normals mesh.texture mesh.sizes (ys ts) d from (into ts (row t i)) (into ts (row s j)) (into-below ts (row t i) (row_below t i h)) (into-below ts (row s j) (row_below s j k))))
          ∙ sym (λ y. welded (corner-of t i h y) (corner-of s j k y));
    }

    vertices-left : Vertices height (us ts ++ vs ts) d z
    vertices-left = subst (λ (l : List Triangle). Vertices height l d z) (sym (whole ts d)) (old.old-vertices height (3 * m) mesh.positions mesh.normals mesh.texture mesh.sizes ts d u v room fit all-rows (L.held d) (all-follow _) M z N d)

    pub welds-left : Welds height (us ts) d z
    welds-left = sound-welds height (us ts) (vs ts) d z (welds height (us ts ++ vs ts) d z vertices-left)

    tells-named : Tells height mesh (ys ts) d z
    tells-named t h = told-stored height mesh z t (get_or (ys ts) t d) (let y = L.fits in omega (arith, y, h)) (held-named t h)

    told-left : Tells height mesh (us ts) d z
    told-left t h = subst (Told height mesh z t) (sym (us-at ts d t h)) (told-like height mesh z t (get_or (xs ts) t d) (get_or (ys ts) t d) (like ts d t) (tells-named t (few t h)))

    -- the corner of a row, by the number in NEXT
    next-corner : (r : ℕ) → r < 3 * m → corner_of (spot_row (ys ts) d (into ts r)) ≡ corner_at mesh.positions mesh.normals mesh.texture (cell height next_column r z)
    unfolding corner_into
    next-corner r h =
        let q = into ts r in
        let b = into-below ts r (omega (arith, h, all-rows)) in
        sym (corner-is height mesh (ys ts) d v (held-merged d) L.fits (q / 3) (third (q % 3)) (tri-lt q (length (ys ts)) b))
        ∙ ap (λ (k : ℕ). corner_at mesh.positions mesh.normals mesh.texture (cell height corner_column k v)) (row_is q)
        ∙ ap (corner_at mesh.positions mesh.normals mesh.texture) (sym (N.corner r h ∙ ap (λ (k : ℕ). get_or (column height corner_column v) k 0) (row-merged d r h) ∙ get_or-column height v corner_column q (let y = fit in omega (arith, b, all-rows, y))))

    reads-left : (t : ℕ) → t < length (us ts) → Reads height next_column mesh.positions mesh.normals z t (get_or (us ts) t d)
    unfolding corner_at corner_of tagged
    reads-left t h = record {
      place = λ i. ap (λ (c : Corner). c.place) (corner-of t i h ∙ ap (tagged _) (next-corner (row t i) (let y = row_below t i h in omega (arith, y, all-rows))));
      normal = λ i. ap (λ (c : Corner). c.normal) (corner-of t i h ∙ ap (tagged _) (next-corner (row t i) (let y = row_below t i h in omega (arith, y, all-rows))));
      along = (told-left t h).along;
      up = (told-left t h).up;
    }

    pub way-left : (t : ℕ) → t < length (us ts) → cell height orientation_column t z ≡ flag (get_or (us ts) t d).orientation
    way-left t h = (held-named t (few t h)).way ∙ ap flag (sym (ap (λ (x : Triangle). x.orientation) (us-at ts d t h) ∙ (like ts d t).orientation))

    pub four-left : ((i : ℕ) → T (fits binary32 (get_or mesh.positions i nan))) → not_finite mesh ≡ none → Four height mesh d z
    four-left held good = record {
      tells = tells-named;
      corners = λ t h. cornered-stored height mesh z t (get_or (ys ts) t d) (let y = L.fits in omega (arith, y, h)) (held-named t h);
      vertices = vertices-left;
      names = names-left ts d own-names;
      sharp = sharp-left mesh d held good from;
      told = told-left;
      reads = reads-left;
      left = left-seen mesh d from;
    }

-- ---- stores in other columns leave it

pub four-kept : (rows : ℕ) (mesh : Handed) (d : Triangle) (ks w u : List ℕ) → disjoint told_columns ks ≡ true → outside ks vertex_column ≡ true → outside ks next_column ≡ true → 3 * length (sound (triangles_of mesh) ++ broken (triangles_of mesh)) ≤ rows → Only ks rows w u → Four rows mesh d w → Four rows mesh d u
four-kept rows mesh d ks w u c e f fit O F = record {
  tells = λ t h. told-kept rows mesh ks w u t _ (omega (arith, fit, h)) c O (F.tells t h);
  corners = λ t h. cornered-kept rows mesh ks w u t _ (omega (arith, fit, h)) (apart-one (apart told_columns ks c corner_column refl)) O (F.corners t h);
  vertices = vertices-kept ks rows (sound_left mesh ++ broken_left mesh) d w u e (omega (arith, fit, all)) O F.vertices;
  names = F.names;
  sharp = F.sharp;
  told = λ t h. told-kept rows mesh ks w u t _ (omega (arith, fit, h, less)) c O (F.told t h);
  reads = λ t h. reads_kept rows next_column mesh.positions mesh.normals ks w u t _ (omega (arith, fit, h, less)) f c O (F.reads t h);
  left = F.left;
}
  where
    all : length (sound_left mesh ++ broken_left mesh) ≡ length (sound (triangles_of mesh) ++ broken (triangles_of mesh))
    all = ap length (whole (triangles_of mesh) d) ∙ long (triangles_of mesh) d

    less : length (sound_left mesh) ≤ length (sound (triangles_of mesh) ++ broken (triangles_of mesh))
    less = omega (arith, all, length-append (sound_left mesh) (broken_left mesh))

    apart-one : outside ks corner_column ≡ true → disjoint (corner_column ∷ []) ks ≡ true
    apart-one h = ap (λ (b : Bool). cond b true false) h

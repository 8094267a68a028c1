-- What steps 1 to 5 of the old edition leave, one after the other. Assumes nothing.
use Prim.Native.Nat.{ℕ, ◌*◌, ◌≤◌, ◌<◌}
use native.Mathlib.Omega.{arith}
use mathlib.Core.Path.{◌≡◌, refl, sym, ◌∙◌, subst}
use mathlib.Core.List.{List}
use mathlib.Core.Option.{none}
use lib.Dec.{T}
use lib.ListN.{length, get_or, length-append}
use lib.Ieee.{nan, binary32, fits}
use Rattle.table.specs.Table.{cell}
use Rattle.table.specs.Columns.{columns, rows_of, link_column, orientation_column}
use Rattle.definition.specs.declared.Triangle.{Triangle}
use Rattle.definition.specs.Handed.{Handed}
use Rattle.definition.specs.Desk.{not_finite}
use Rattle.definition.specs.Frames.{triangles_of}
use Rattle.definition.specs.Names.{Names}
use Rattle.definition.specs.Step4Order.{sound, broken}
use Rattle.definition.specs.Step5Old.{old_links}
use Rattle.view.specs.Frame.{Only}
use Rattle.view.specs.Records.{record_columns}
use Rattle.view.specs.Weld.{Welds, Sharp}
use Rattle.view.specs.Links.{Linked}
use Rattle.view.proofs.Frame.{only-trans, only-more, cell-kept}
use Rattle.listing.specs.Listing.{Listed}
use Rattle.edges.specs.Tags.{Tagged}
use Rattle.merge.specs.Rows.{Merged}
use Rattle.merge.specs.Names.{tag_at, Named}
use Rattle.neighbors.specs.Sides.{step_columns}
use Rattle.legacy.specs.Four.{sound_left}
use Rattle.legacy.specs.Links.{four_columns, old_linked_columns, OldFive, LeftByOldFive}
use Rattle.legacy.proofs.Merged.{sound-long}
use Rattle.legacy.proofs.Columns.{tags-fit, only-four, four-left, four-kept, way-left, welds-left, tagged-left}

-- the tags of k rows that are merged are few
pub tags-few : (mesh : Handed) (n m : ℕ) (w u v : List ℕ) (k : ℕ) → k ≡ 3 * m → columns * rows_of (length mesh.sizes) ≤ length u → Listed mesh n m w u → Merged (rows_of (length mesh.sizes)) k mesh.positions mesh.normals mesh.texture u v → Triangle → (r : ℕ) → r < k → tag_at (rows_of (length mesh.sizes)) v r < rows_of (length mesh.sizes)
tags-few mesh n m w u v k e room L M d r h = tags-fit mesh n m w u v L room (subst (λ (j : ℕ). Merged (rows_of (length mesh.sizes)) j mesh.positions mesh.normals mesh.texture u v) e M) d r (omega (arith, h, e))

module _ (mesh : Handed) (n m : ℕ) (w u v z y : List ℕ) (room : columns * rows_of (length mesh.sizes) ≤ length u) where
  abbrev rows : ℕ
  rows = rows_of (length mesh.sizes)

  left-all : (L : Listed mesh n m w u) → Merged rows (3 * m) mesh.positions mesh.normals mesh.texture u v → Named rows (3 * m) v z
      → ((ss : List Triangle) (d : Triangle) → length ss ≡ n → Names ss → Sharp ss d → Welds rows ss d z → Tagged rows ss d z → Linked rows ss d (old_links ss) y)
      → ((r : ℕ) → r < 3 * n → cell rows link_column r y ≤ 3 * n) → Only step_columns rows z y
      → ((i : ℕ) → T (fits binary32 (get_or mesh.positions i nan)))
      → LeftByOldFive mesh n m w y
  left-all L M N linked range only held = record {
    sound_count = L.sound_count;
    count = L.count;
    fits = L.fits;
    only = only-trans old_linked_columns rows w u y (only-more record_columns old_linked_columns rows w u refl L.only) (only-trans old_linked_columns rows u z y (only-more four_columns old_linked_columns rows u z refl (only-four mesh n m w u v L room M z N)) (only-more step_columns old_linked_columns rows z y refl only));
    range = range;
    stands = five;
  }
    where
      five : not_finite mesh ≡ none → (d : Triangle) → OldFive rows mesh d y
      five e d =
          let F = four-left mesh n m w u v L room M z N d held e in
          let k = sound-long (triangles_of mesh) d in
          let h = length-append (sound (triangles_of mesh)) (broken (triangles_of mesh)) in
          record {
            four = four-kept rows mesh d step_columns z y refl refl refl L.fits only F;
            way = λ t l. cell-kept step_columns rows z y only orientation_column t refl (omega (arith, l, k, h, L.fits)) ∙ way-left mesh n m w u v L room M z N d t l;
            linked = linked (sound_left mesh) d (k ∙ sym L.sound_count) F.names F.sharp (welds-left mesh n m w u v L room M z N d) (tagged-left mesh n m w u v L room M z N d);
          }

  -- the same of k rows
  pub left-old : (k : ℕ) → k ≡ 3 * m → (L : Listed mesh n m w u) → Merged rows k mesh.positions mesh.normals mesh.texture u v → Named rows k v z
      → ((ss : List Triangle) (d : Triangle) → length ss ≡ n → Names ss → Sharp ss d → Welds rows ss d z → Tagged rows ss d z → Linked rows ss d (old_links ss) y)
      → ((r : ℕ) → r < 3 * n → cell rows link_column r y ≤ 3 * n) → Only step_columns rows z y
      → ((i : ℕ) → T (fits binary32 (get_or mesh.positions i nan)))
      → LeftByOldFive mesh n m w y
  left-old k e L M N = left-all L (subst (λ (j : ℕ). Merged rows j mesh.positions mesh.normals mesh.texture u v) e M) (subst (λ (j : ℕ). Named rows j v z) e N)

-- What the steps leave one after the other. Assumes nothing.
use Prim.Native.Nat.{ℕ, ◌*◌, ◌≤◌, ◌<◌}
use native.Mathlib.Omega.{arith}
use mathlib.Core.Path.{◌≡◌, refl, sym, ap}
use mathlib.Core.List.{List, ◌++◌}
use mathlib.Core.Option.{none}
use lib.Dec.{T}
use lib.ListN.{length, get_or, length-append}
use lib.Ieee.{nan, binary32, fits}
use Rattle.table.specs.Table.{cell}
use Rattle.table.specs.Columns.{rows_of, link_column}
use Rattle.definition.specs.declared.Triangle.{Triangle}
use Rattle.definition.specs.Handed.{handed, mesh_of, Handed}
use Rattle.definition.specs.Desk.{not_finite}
use Rattle.definition.specs.Step4Order.{is_sound, sound, broken}
use Rattle.definition.specs.Step5Links.{links}
use Rattle.definition.specs.Frames.{triangles_of}
use Rattle.definition.specs.Names.{Names}
use Rattle.laws.proofs.Numbers.{names-keep, triangles-names}
use Rattle.view.specs.Frame.{Only}
use Rattle.view.specs.Records.{Held, record_columns}
use Rattle.view.specs.Weld.{Vertices, Welds, Sharp}
use Rattle.view.specs.Links.{Linked, Five}
use Rattle.view.proofs.Frame.{only-trans, only-more}
use Rattle.view.proofs.Records.{held_kept}
use Rattle.view.proofs.Weld.{welds, sound-welds, mesh-sharp, vertices-kept}
use Rattle.listing.specs.Listing.{Listed}
use Rattle.weld.specs.Welding.{weld_columns}
use Rattle.neighbors.specs.Sides.{step_columns}
use Rattle.grouped.specs.Links.{linked_columns, LeftByFive}

-- there is room for the sound triangles' sides
pub sound-room : (mesh : Handed) (n m : ℕ) (w u : List ℕ) → Listed mesh n m w u → 3 * n ≤ rows_of (length mesh.sizes)
sound-room mesh n m w u L = omega (arith, L.sound_count, L.fits, length-append (sound (triangles_of mesh)) (broken (triangles_of mesh)))

module _ (mesh : Handed) (n m : ℕ) (w u v z : List ℕ) where
  abbrev xs : List Triangle
  xs = triangles_of mesh

  abbrev rows : ℕ
  rows = rows_of (length mesh.sizes)

  module _ (L : Listed mesh n m w u) (welded : Only weld_columns rows u v)
      (weld-is : (sizes : List ℕ) (ys : List Triangle) (d : Triangle) → 3 * length ys ≡ 3 * m → Held rows (handed sizes mesh.positions mesh.normals mesh.texture) ys d u → Vertices rows ys d v)
      (link-is : (ss : List Triangle) (d : Triangle) → length ss ≡ n → Names ss → Sharp ss d → Welds rows ss d v → Linked rows ss d (links ss) z)
      (range : (r : ℕ) → r < 3 * n → cell rows link_column r z ≤ 3 * n) (only : Only step_columns rows v z)
      (held : (i : ℕ) → T (fits binary32 (get_or mesh.positions i nan))) where
    vertices : (d : Triangle) → Vertices rows (sound xs ++ broken xs) d v
    vertices d = weld-is mesh.sizes (sound xs ++ broken xs) d (ap (λ (k : ℕ). 3 * k) (sym L.count)) (L.held d)

    own-names : Names (sound xs)
    own-names = unfold sound in names-keep is_sound (triangles-names 0 (mesh_of mesh))

    five : not_finite mesh ≡ none → (d : Triangle) → Five rows mesh xs d z
    five e d =
        let sharp = mesh-sharp mesh.positions mesh.normals mesh.texture mesh.sizes d held e in
        record {
          held = held_kept rows mesh (sound xs ++ broken xs) d v (held_kept rows mesh (sound xs ++ broken xs) d u (L.held d) L.fits weld_columns v refl welded) L.fits step_columns z refl only;
          vertices = vertices-kept step_columns rows (sound xs ++ broken xs) d v z refl L.fits only (vertices d);
          names = own-names;
          sharp = sharp;
          linked = link-is (sound xs) d (sym L.sound_count) own-names sharp (sound-welds rows (sound xs) (broken xs) d v (welds rows (sound xs ++ broken xs) d v (vertices d)));
        }

    pub left : LeftByFive mesh n m w z
    left = record {
      sound_count = L.sound_count;
      count = L.count;
      fits = L.fits;
      only = only-trans linked_columns rows w u z (only-more record_columns linked_columns rows w u refl L.only) (only-trans linked_columns rows u v z (only-more weld_columns linked_columns rows u v refl welded) (only-more step_columns linked_columns rows v z refl only));
      range = range;
      stands = five;
    }

-- there is room for the triangles in their columns
pub left-room : (mesh : Handed) (n m : ℕ) (w u : List ℕ) → LeftByFive mesh n m w u → (3 * n ≤ rows_of (length mesh.sizes)) × (3 * m ≤ rows_of (length mesh.sizes))
left-room mesh n m w u L = (omega (arith, L.sound_count, L.fits, length-append (sound (triangles_of mesh)) (broken (triangles_of mesh))), omega (arith, L.count, L.fits))

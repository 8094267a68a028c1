-- What step 6 leaves after steps 1 to 5 of the old edition. Assumes nothing.
use Prim.Native.Nat.{ℕ, ◌*◌, ◌≤◌}
use native.Mathlib.Omega.{arith}
use mathlib.Core.Path.{refl, sym, ◌∙◌, ap}
use mathlib.Core.List.{List, ◌++◌}
use lib.Dec.{eqb}
use lib.ListN.{length, length-append}
use Rattle.table.specs.Columns.{rows_of}
use Rattle.definition.specs.declared.Triangle.{Triangle}
use Rattle.definition.specs.Handed.{Handed}
use Rattle.definition.specs.Frames.{triangles_of}
use Rattle.definition.specs.Step4Order.{sound, broken}
use Rattle.definition.specs.Step5Old.{old_links}
use Rattle.laws.proofs.Old.{old-between}
use Rattle.view.proofs.Frame.{only-trans, only-more}
use Rattle.view.proofs.Records.{flag-zero}
use Rattle.view.proofs.Weld.{welds, sound-welds}
use Rattle.groups.specs.Marks.{Asked}
use Rattle.grouped.specs.Grouped.{grouped_columns, SidesGrouped}
use Rattle.grouped.specs.declared.MeshCounts.{MeshCounts}
use Rattle.legacy.specs.Four.{sound_left, broken_left}
use Rattle.legacy.specs.Links.{old_linked_columns, OldFive, LeftByOldFive}
use Rattle.legacy.specs.Grouped.{old_columns, OldSix, LeftByOldSix}
use Rattle.legacy.proofs.Merged.{sound-long}
use Rattle.legacy.proofs.Columns.{four-kept}

-- what step 6 asks is what steps 1 to 5 leave
asked-old : (rows : ℕ) (mesh : Handed) (d : Triangle) (w : List ℕ) → OldFive rows mesh d w → Asked rows (sound_left mesh) d (old_links (sound_left mesh)) w
asked-old rows mesh d w F = record {
  welds = sound-welds rows (sound_left mesh) (broken_left mesh) d w (welds rows (sound_left mesh ++ broken_left mesh) d w F.four.vertices);
  linked = F.linked;
  any = λ t h. ap (λ (k : ℕ). eqb k 0) (F.four.told t h).loose ∙ flag-zero _;
  way = F.way;
}

-- the groups, after steps 1 to 5
pub grouped-old : (mesh : Handed) (n m : ℕ) (c : MeshCounts) (w u z : List ℕ) → LeftByOldFive mesh n m w u → SidesGrouped (rows_of (length mesh.sizes)) n m c u z → LeftByOldSix mesh c w z
grouped-old mesh n m c w u z L G = record {
  sound_count = G.sound_is ∙ L.sound_count;
  count = G.all_is ∙ L.count;
  fits = L.fits;
  few = G.few;
  small = G.small;
  only = only-trans old_columns height w u z (only-more old_linked_columns old_columns height w u refl L.only) (only-more grouped_columns old_columns height u z refl G.only);
  stands = λ e d. six d (L.stands e d);
}
  where
    height : ℕ
    height = rows_of (length mesh.sizes)

    six : (d : Triangle) → OldFive height mesh d u → OldSix height mesh d c z
    six d F =
        let ss = sound_left mesh in
        let S = G.groups ss d (old_links ss) (old-between ss) (sound-long (triangles_of mesh) d ∙ sym L.sound_count) F.four.names F.four.sharp (asked-old height mesh d u F) in
        record { four = four-kept height mesh d grouped_columns u z refl refl refl L.fits G.only F.four; members = S.members; grouping = S.grouping; in_order = S.in_order }

-- there is room for the sound triangles in their columns
pub old-room : (mesh : Handed) (n m : ℕ) (w u : List ℕ) → LeftByOldFive mesh n m w u → 3 * n ≤ rows_of (length mesh.sizes)
old-room mesh n m w u L = omega (arith, L.sound_count, L.fits, length-append (sound (triangles_of mesh)) (broken (triangles_of mesh)))

-- What step 6 leaves after steps 1 to 5. Assumes nothing.
use Prim.Native.Nat.{ℕ, ◌*◌, ◌≤◌}
use native.Mathlib.Omega.{arith}
use mathlib.Core.Path.{◌≡◌, refl, sym, ◌∙◌, ap}
use mathlib.Core.Bool.{not}
use mathlib.Core.List.{List, ◌++◌}
use lib.ListN.{length, length-append, get_or-append}
use Rattle.tangent.specs.Slot.{flag}
use Rattle.table.specs.Columns.{rows_of, orientation_column}
use Rattle.definition.specs.declared.Triangle.{Triangle}
use Rattle.definition.specs.Mesh.{one}
use Rattle.definition.specs.Handed.{Handed}
use Rattle.definition.specs.Step4Order.{sound, broken}
use Rattle.definition.specs.Step5Links.{Link, links}
use Rattle.definition.specs.Step6Groups.{marks}
use Rattle.definition.specs.Frames.{triangles_of}
use Rattle.definition.specs.Names.{Names}
use Rattle.laws.proofs.Closed.{Between, links-sound}
use Rattle.laws.proofs.Laws.{mark}
use Rattle.view.specs.Frame.{Only}
use Rattle.view.specs.Weld.{Sharp}
use Rattle.view.specs.Links.{Five}
use Rattle.view.specs.Groups.{Grouping, InOrder}
use Rattle.view.specs.Rows.{spot_at}
use Rattle.view.proofs.Frame.{only-trans, only-more, cell-kept}
use Rattle.view.proofs.Groups.{grouping-kept}
use Rattle.view.proofs.Records.{any-is}
use Rattle.view.proofs.Weld.{welds, sound-welds}
use Rattle.grouped.specs.Links.{linked_columns, LeftByFive}
use Rattle.flat.specs.Places.{flat_columns}
use Rattle.groups.specs.Marks.{Asked, Walked}
use Rattle.members.specs.Members.{order_columns}
use Rattle.grouped.specs.Grouped.{grouped_columns, six_columns, SidesGrouped, LeftBySix}
use Rattle.grouped.specs.declared.MeshCounts.{MeshCounts}

-- what step 6 asks is what steps 1 to 5 leave
pub asked : (rows : ℕ) (mesh : Handed) (xs : List Triangle) (d : Triangle) (w : List ℕ) → Five rows mesh xs d w → Asked rows (sound xs) d (links (sound xs)) w
asked rows mesh xs d w F = record {
  welds = sound-welds rows (sound xs) (broken xs) d w (welds rows (sound xs ++ broken xs) d w F.vertices);
  linked = F.linked;
  any = λ t h. any-is rows mesh (sound xs ++ broken xs) d w F.held t (omega (arith, h, length-append (sound xs) (broken xs))) ∙ ap (λ x. not x.any) (get_or-append (sound xs) (broken xs) d t h);
  way = λ t h. (F.held t (omega (arith, h, length-append (sound xs) (broken xs)))).way ∙ ap (λ x. flag x.orientation) (get_or-append (sound xs) (broken xs) d t h);
}

-- the walk, then the order
module _ (rows n m groups count : ℕ) (w u v : List ℕ) where
  pub sides-grouped : 3 * n ≤ rows
      → ((ss : List Triangle) (d : Triangle) (ls : List Link) → Between ss ls → length ss ≡ n → Names ss → Sharp ss d → Asked rows ss d ls w → Walked rows ss d ls w u groups count)
      → ((ss : List Triangle) (d : Triangle) (ls : List Link) → Between ss ls → 3 * length ss ≤ rows → Names ss → count ≡ length (marks ss ls) → Grouping rows ss d (marks ss ls) groups u → InOrder rows ss groups count v)
      → Only flat_columns rows w u
      → Only order_columns rows u v
      → groups ≤ rows
      → count ≤ rows
      → SidesGrouped rows n m (record { sound = n; all = m; groups = groups; members = count }) w v
  sides-grouped room walked ordered first O few small = record {
    sound_is = refl;
    all_is = refl;
    few = few;
    small = small;
    only = only-trans grouped_columns rows w u v (only-more flat_columns grouped_columns rows w u refl first) (only-more order_columns grouped_columns rows u v refl O);
    groups = λ ss d ls B e N S A.
        let W = walked ss d ls B e N S A in
        let fit : 3 * length ss ≤ rows = omega (arith, room, e) in
        record {
          members = W.count_is;
          grouping = grouping-kept rows ss d (marks ss ls) groups order_columns u v refl fit few O W.grouping (mark (spot_at ss d 0 one) (spot_at ss d 0 one));
          rest = λ t l r. cell-kept order_columns rows u v O orientation_column t refl r ∙ W.rest t l r;
          in_order = ordered ss d ls B fit N W.count_is W.grouping;
        };
  }

-- after steps 1 to 5
pub joined : (mesh : Handed) (n m : ℕ) (c : MeshCounts) (w u z : List ℕ) → LeftByFive mesh n m w u → SidesGrouped (rows_of (length mesh.sizes)) n m c u z → LeftBySix mesh c w z
joined mesh n m c w u z L G = record {
  sound_count = G.sound_is ∙ L.sound_count;
  count = G.all_is ∙ L.count;
  fits = L.fits;
  few = G.few;
  small = G.small;
  only = only-trans six_columns rows w u z (only-more linked_columns six_columns rows w u refl L.only) (only-more grouped_columns six_columns rows u z refl G.only);
  stands = λ e d.
      let F = L.stands e d in
      let S = G.groups (sound xs) d (links (sound xs)) (links-sound (sound xs)) (sym L.sound_count) F.names F.sharp (asked rows mesh xs d u F) in
      record { linked = u; five = F; only = G.only; members = S.members; grouping = S.grouping; rest = S.rest; in_order = S.in_order };
}
  where
    xs : List Triangle
    xs = triangles_of mesh

    rows : ℕ
    rows = rows_of (length mesh.sizes)

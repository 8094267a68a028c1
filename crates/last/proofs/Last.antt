-- Steps 7 to 9, from what each of them leaves to the final readings. Assumes nothing.
use Prim.Native.Nat.{ℕ, ◌+◌, ◌*◌, ◌≤◌, ◌<◌}
use native.Mathlib.Omega.{arith}
use mathlib.Core.Path.{◌≡◌, refl, sym, ◌∙◌, subst}
use mathlib.Core.List.{List, [], ◌∷◌, ◌++◌}
use lib.Dec.{T}
use lib.ListN.{length, get_or, length-append}
use lib.Ieee.{Float, nan, binary32, fits}
use Rattle.math.specs.Held.{HeldVec}
use Rattle.tangent.specs.declared.Reading.TheVariants.{Absent}
use Rattle.table.specs.Columns.{columns, met_column, order_column, joined_column}
use Rattle.definition.specs.declared.Kept.{Kept}
use Rattle.definition.specs.declared.Triangle.{Triangle}
use Rattle.definition.specs.Handed.{handed, mesh_of, vector_at}
use Rattle.definition.specs.Mesh.{Third, one, corner_of}
use Rattle.definition.specs.Frames.{triangles_of}
use Rattle.definition.specs.Step4Order.{sound, broken}
use Rattle.definition.specs.Step5Links.{Link}
use Rattle.definition.specs.Step6Groups.{Mark, marks}
use Rattle.definition.specs.Step7Sums.{Brought, brought_all}
use Rattle.definition.specs.Step8Slots.{reading}
use Rattle.laws.proofs.Held.{readings-held}
use Rattle.laws.proofs.Laws.{mark}
use Rattle.view.specs.Frame.{Only}
use Rattle.view.specs.Rows.{spot_at}
use Rattle.view.specs.Records.{Tells, Corners, Reads}
use Rattle.view.specs.Weld.{Vertices}
use Rattle.view.specs.Groups.{Grouping, InOrder}
use Rattle.view.specs.Contributions.{Contributed, contribution_columns}
use Rattle.view.specs.Answer.{Shows, final_seen}
use Rattle.view.proofs.Frame.{only-more, only-trans, cell-kept}
use Rattle.view.proofs.Weld.{vertices-kept}
use Rattle.view.proofs.Records.{told-kept, cornered-kept}
use Rattle.view.proofs.Groups.{grouping-kept, in-order-kept}
use Rattle.grouped.specs.declared.MeshCounts.{MeshCounts}
use Rattle.subgroups.specs.Subgroups.{Ranged}
use Rattle.spaces.specs.Spaces.{reach_all}
use Rattle.spaces.proofs.Shown.{all-reached}
use Rattle.copies.specs.Copies.{Copied}
use Rattle.last.specs.Last.{Ready, last_columns, Finished}

-- the members' rows stand through step 7's first part
pub ranged-kept : (rows to : ℕ) (w v : List ℕ) → to ≤ rows → Only contribution_columns rows w v → Ranged rows to w → Ranged rows to v
ranged-kept rows to w v l O R = record {
  met = λ p h. subst (λ x. x < rows) (sym (cell-kept contribution_columns rows w v O met_column p refl (omega (arith, h, l)))) (R.met p h);
  order = λ p h. subst (λ x. x < rows) (sym (cell-kept contribution_columns rows w v O order_column p refl (omega (arith, h, l)))) (R.order p h);
}

module _ (rows k : ℕ) (c : MeshCounts) (ps ns : List Float) (h : Float) (w v z a a₂ u : List ℕ) (less : c.sound ≤ c.all) (fits_in : 3 * c.all ≤ rows) (few : c.groups ≤ rows) (small : c.members ≤ rows) (room : columns * rows ≤ length w)
    (fit : (i : ℕ) → T (fits binary32 (get_or ns i nan))) (contributed : (ss : List Triangle) (d : Triangle) → length ss ≡ c.sound → ((t : ℕ) → t < length ss → Reads rows k ps ns w t (get_or ss t d)) → Contributed rows ss d v) (O : Only contribution_columns rows w v)
    (e₂ : a₂ ≡ reach_all rows h c.groups c.members v a) (J : Only (joined_column ∷ []) rows v z) (C : Copied rows c.sound c.all ps z a₂ u) where
  module _ (sizes : List ℕ) (ts : List Float) (us vs : List Triangle) (see : ℕ → Kept → Kept) (ls : List Link) (d : Triangle) (a₀ : List ℕ) (R : Ready rows k (handed sizes ps ns ts) c us vs see ls d w) where
    abbrev ys : List Triangle
    ys = sound (triangles_of (handed sizes ps ns ts)) ++ broken (triangles_of (handed sizes ps ns ts))

    abbrev ms : List Mark
    ms = marks us ls

    abbrev bs : List Brought
    bs = brought_all h us ms

    -- any mark, for numbers past the last
    e : Mark
    e = mark (spot_at us d 0 one) (spot_at us d 0 one)

    -- the rows of all triangles, of the sound ones and of those that step 4 left
    own-fits : (t : ℕ) → t < length ys → 3 * t + 3 ≤ rows
    own-fits t l = omega (arith, R.count, fits_in, l)

    us-count : length us ≡ c.sound
    us-count = R.left.sound_count ∙ R.sound_count

    us-fits : 3 * length us ≤ rows
    us-fits = omega (arith, us-count, less, fits_in)

    all_fit : 3 * length (us ++ vs) ≤ rows
    all_fit = omega (arith, length-append us vs, R.left.sound_count, R.left.broken_count, R.count, fits_in, length-append (sound (triangles_of (handed sizes ps ns ts))) (broken (triangles_of (handed sizes ps ns ts))))

    -- the normals are held
    normals-held : (t : ℕ) (i : Third) → t < length us → HeldVec (corner_of (spot_at us d t i)).normal
    unfolding corner_of vector_at
    normals-held t i l = subst HeldVec (sym ((R.reads t l).normal i)) (record { x_held = fit _; y_held = fit _; z_held = fit _ })

    tells : Tells rows (handed sizes ps ns ts) us d v
    tells t l = told-kept rows (handed sizes ps ns ts) contribution_columns w v t (get_or us t d) (omega (arith, us-fits, l)) refl O (R.tells t l)

    grouping : Grouping rows us d ms c.groups v
    grouping = grouping-kept rows us d ms c.groups contribution_columns w v refl us-fits few O R.grouping e

    in_order : InOrder rows us c.groups c.members v
    in_order = in-order-kept rows us c.groups c.members contribution_columns w v refl us-fits few O R.in_order

    reached : Shows sizes (λ f i. Absent) a₀ a → Shows sizes (reading bs) a₀ a₂
    reached S =
        subst (Shows sizes (reading bs) a₀) (sym e₂)
        (all-reached rows (handed sizes ps ns ts) us d c.groups c.members v normals-held tells (contributed us d us-count R.reads) ls R.between R.names R.sharp grouping in_order R.slotted R.members small (omega (arith, room, O.size)) h e a₀ a S)

    own-end : Tells rows (handed sizes ps ns ts) ys d z
    own-end t l =
        told-kept rows (handed sizes ps ns ts) (joined_column ∷ []) v z t (get_or ys t d) (own-fits t l) refl J (told-kept rows (handed sizes ps ns ts) contribution_columns w v t (get_or ys t d) (own-fits t l) refl O (R.own t l))

    corners-end : Corners rows (handed sizes ps ns ts) ys d z
    corners-end t l =
        cornered-kept rows (handed sizes ps ns ts) (joined_column ∷ []) v z t (get_or ys t d) (own-fits t l) refl J (cornered-kept rows (handed sizes ps ns ts) contribution_columns w v t (get_or ys t d) (own-fits t l) refl O (R.corners t l))

    vertices-end : Vertices rows (us ++ vs) d z
    vertices-end = vertices-kept (joined_column ∷ []) rows (us ++ vs) d v z refl all_fit J (vertices-kept contribution_columns rows (us ++ vs) d w v refl all_fit O R.vertices)

    final-is : Shows sizes (λ f i. Absent) a₀ a → Shows sizes (final_seen see bs us (mesh_of (handed sizes ps ns ts))) a₀ u
    final-is S = C.final sizes ns ts bs d a₀ us vs see R.sound_count R.count own-end corners-end R.left vertices-end (readings-held h us ms) (reached S)

  pub finished : Finished rows k c ps ns h w z a u
  finished = record { final = final-is; only = only-trans last_columns rows w v z (only-more contribution_columns last_columns rows w v refl O) (only-more (joined_column ∷ []) last_columns rows v z refl J) }

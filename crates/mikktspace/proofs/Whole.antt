-- Steps 1 to 9, one after the other: from what each of them leaves to the definition's answer. Assumes nothing.
use Prim.Native.Nat.{ℕ, ◌+◌, ◌*◌, ◌≤◌, ◌<◌}
use native.Mathlib.Omega.{arith}
use mathlib.Core.Path.{◌≡◌, refl, sym, ◌∙◌, subst}
use mathlib.Core.List.{List, ◌++◌}
use mathlib.Core.Option.{none}
use lib.ListN.{length, get_or, drop, replicate, length-append, get_or-append}
use lib.Ieee.{Float}
use Rattle.tangent.specs.Slot.{slot_words}
use Rattle.table.specs.Columns.{columns, rows_of, corner_column}
use Rattle.definition.specs.declared.Triangle.{Triangle}
use Rattle.definition.specs.Limits.{work_words}
use Rattle.definition.specs.Handed.{mesh_of, Handed, corner_at, slot_count}
use Rattle.definition.specs.Desk.{not_finite}
use Rattle.definition.specs.Mesh.{one}
use Rattle.definition.specs.Step4Order.{sound, broken}
use Rattle.definition.specs.Step5Links.{links}
use Rattle.definition.specs.Step6Groups.{Mark, marks}
use Rattle.definition.specs.Step7Sums.{brought_all}
use Rattle.definition.specs.Step9Copies.{face_readings}
use Rattle.definition.specs.Frames.{triangles_of, frames_of, frames}
use Rattle.definition.specs.Outcome.{answer_words}
use Rattle.laws.proofs.Closed.{links-sound}
use Rattle.laws.proofs.Laws.{mark, some-triangle}
use Rattle.view.specs.Rows.{spot_at}
use Rattle.view.specs.Records.{Told, Tells, Cornered, Corners}
use Rattle.view.specs.Answer.{Slotted, final_at, final_seen}
use Rattle.view.proofs.Weld.{vertices-kept}
use Rattle.view.proofs.Records.{told-stored, told-kept, cornered-stored, cornered-kept, told-reads}
use Rattle.view.proofs.Answer.{absent-shown, frames-shown, mesh-slotted, slotted-sound-broken}
use Rattle.grouped.specs.declared.MeshCounts.{MeshCounts}
use Rattle.grouped.specs.Grouped.{grouped_columns, LeftBySix, Six}
use Rattle.subgroups.specs.Subgroups.{Ranged}
use Rattle.spaces.proofs.Ranged.{ranged}
use Rattle.copies.proofs.Turns.{left_alone}
use Rattle.last.specs.Last.{Ready, Finished}
use Rattle.mikktspace.proofs.Verdicts.{cleared-past}

module _ (mesh : Handed) (c : MeshCounts) (w u : List ℕ) where
  abbrev rows : ℕ
  rows = rows_of (length mesh.sizes)

  abbrev xs : List Triangle
  xs = triangles_of mesh

  abbrev ss : List Triangle
  ss = sound xs

  abbrev ys : List Triangle
  ys = ss ++ broken xs

  pub counts-fit : LeftBySix mesh c w u → (c.sound ≤ c.all) × (3 * c.all ≤ rows)
  counts-fit L = (omega (arith, L.sound_count, L.count, length-append ss (broken xs)), omega (arith, L.count, L.fits))

  -- any triangle and any mark, for numbers past the last
  d : Triangle
  d = some-triangle (corner_at mesh.positions mesh.normals mesh.texture 0)

  e : Mark
  e = mark (spot_at ss d 0 one) (spot_at ss d 0 one)

  module _ (L : LeftBySix mesh c w u) (good : not_finite mesh ≡ none) where
    six : Six rows mesh xs d c u
    six = L.stands good d

    sound-fits : 3 * length ss ≤ rows
    sound-fits = omega (arith, L.fits, length-append ss (broken xs))

    inside : (t : ℕ) → t < length ys → 3 * t + 3 ≤ rows
    inside t h = omega (arith, L.fits, h)

    -- what the columns tell of all triangles
    tells : Tells rows mesh ys d u
    tells t h = told-kept rows mesh grouped_columns six.linked u t (get_or ys t d) (inside t h) refl six.only (told-stored rows mesh six.linked t (get_or ys t d) (inside t h) (six.five.held t h))

    corners : Corners rows mesh ys d u
    corners t h = cornered-kept rows mesh grouped_columns six.linked u t (get_or ys t d) (inside t h) refl six.only (cornered-stored rows mesh six.linked t (get_or ys t d) (inside t h) (six.five.held t h))

    -- of the sound ones alone
    tells-sound : Tells rows mesh ss d u
    tells-sound t h = subst (λ y. Told rows mesh u t y) (get_or-append ss (broken xs) d t h) (tells t (omega (arith, length-append ss (broken xs))))

    corners-sound : Corners rows mesh ss d u
    corners-sound t h = subst (λ y. Cornered rows mesh u t y) (get_or-append ss (broken xs) d t h) (corners t (omega (arith, length-append ss (broken xs))))

    slotted : (t : ℕ) → t < length ss → Slotted mesh.sizes (get_or ss t d)
    slotted t l = subst (Slotted mesh.sizes) (get_or-append ss (broken xs) d t l) (slotted-sound-broken (mesh-slotted mesh.positions mesh.normals mesh.texture mesh.sizes) t d (omega (arith, length-append ss (broken xs))))

    -- so steps 7 to 9 have what they ask
    ready : Ready rows corner_column mesh c ss (broken xs) (λ f k. k) (links ss) d u
    ready = record {
      sound_count = sym L.sound_count;
      count = sym L.count;
      own = tells;
      corners = corners;
      left = left_alone mesh d;
      vertices = vertices-kept grouped_columns rows ys d six.linked u refl L.fits six.only six.five.vertices;
      tells = tells-sound;
      reads = λ t l. told-reads rows mesh u t (get_or ss t d) (tells-sound t l) (corners-sound t l);
      slotted = slotted;
      between = links-sound ss;
      names = six.five.names;
      sharp = six.five.sharp;
      members = six.members;
      grouping = six.grouping;
      in_order = six.in_order;
    }

    pub all-ranged : columns * rows ≤ length w → Ranged rows c.members u
    all-ranged room = ranged rows ss d (marks ss (links ss)) c.groups c.members u six.members six.grouping six.in_order sound-fits L.small (omega (arith, room, L.only.size)) e

    -- to the end: the work list becomes z, the answer list a is cleared, and then u
    module _ (h : Float) (a a₁ a₃ z : List ℕ) (e₁ : a₁ ≡ replicate (slot_words * slot_count mesh.sizes) 0 ++ drop (slot_words * slot_count mesh.sizes) a) (F : Finished rows corner_column c mesh.positions mesh.normals h u z a₁ a₃) where
      pub answered : a₃ ≡ answer_words (frames h (mesh_of mesh)) ++ drop (slot_words * slot_count mesh.sizes) a
      unfolding frames frames_of final_at final_seen face_readings
      answered =
          frames-shown mesh.positions mesh.normals mesh.texture ss (brought_all h ss (marks ss (links ss))) mesh.sizes a a₃
          (F.final mesh.sizes mesh.texture ss (broken xs) (λ f k. k) (links ss) d a ready (e₁ ∙ absent-shown mesh.sizes a))

      -- the work list is as it was past what is cleared
      pub cleared : (y : List ℕ) → y ≡ replicate (work_words * length mesh.sizes) 0 ++ drop (work_words * length mesh.sizes) z → y ≡ replicate (work_words * length mesh.sizes) 0 ++ drop (work_words * length mesh.sizes) w
      cleared y q = cleared-past (length mesh.sizes) w z y (F.only.rest ∙ L.only.rest) q

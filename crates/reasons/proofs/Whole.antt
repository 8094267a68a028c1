-- The trial, from what its steps leave to the definition's readings. Assumes nothing.
use Prim.Native.Nat.{ℕ, ◌*◌, ◌≤◌}
use native.Mathlib.Omega.{arith}
use mathlib.Core.Path.{◌≡◌, sym, ◌∙◌}
use mathlib.Core.List.{List, ◌++◌}
use mathlib.Core.Option.{none}
use lib.ListN.{length, get_or, drop, length-append}
use Rattle.lists.specs.Parts.{joined}
use Rattle.tangent.specs.Slot.{slot_words}
use Rattle.table.specs.Columns.{rows_of}
use Rattle.definition.proofs.Lengths.{mesh-length}
use Rattle.definition.specs.declared.Triangle.{Triangle}
use Rattle.definition.specs.Handed.{mesh_of, Handed, corner_at, slot_count}
use Rattle.definition.specs.Desk.{not_finite}
use Rattle.definition.specs.Outcome.{answer_words}
use Rattle.definition.specs.Frames.{numbered, triangles_of}
use Rattle.definition.specs.Step4Order.{sound, broken}
use Rattle.definition.specs.Step7Sums.{Brought}
use Rattle.definition.specs.Step8Slots.{reading}
use Rattle.definition.specs.Step9Copies.{face_readings}
use Rattle.laws.proofs.Laws.{some-triangle}
use Rattle.view.specs.Answer.{Shows, final_at, final_seen}
use Rattle.view.specs.Records.{Tells, Corners}
use Rattle.view.specs.Links.{Five}
use Rattle.view.proofs.Answer.{one-shown, slots_same, frames-shown}
use Rattle.view.proofs.Records.{told-stored, cornered-stored}
use Rattle.grouped.specs.Links.{LeftByFive}
use Rattle.copies.specs.Copies.{Copied}
use Rattle.copies.proofs.Places.{slot-below}
use Rattle.copies.proofs.Turns.{left_alone}
use Rattle.reasons.specs.Trial.{tried_reading, tried_words, tried, trial}
use Rattle.reasons.proofs.Trial.{tried-reading, tried-held}

module _ (mesh : Handed) (n m : ℕ) (w u : List ℕ) (L : LeftByFive mesh n m w u) where
  abbrev rows : ℕ
  rows = rows_of (length mesh.sizes)

  abbrev ss : List Triangle
  ss = sound (triangles_of mesh)

  abbrev ys : List Triangle
  ys = ss ++ broken (triangles_of mesh)

  pub counts-fit : (n ≤ m) × (3 * m ≤ rows)
  counts-fit = (omega (arith, L.sound_count, L.count, length-append ss (broken (triangles_of mesh))), omega (arith, L.count, L.fits))

  -- any triangle, for numbers past the last
  d : Triangle
  d = some-triangle (corner_at mesh.positions mesh.normals mesh.texture 0)

  -- what is brought
  abbrev bs : List Brought
  bs = tried (numbered 0 (mesh_of mesh))

  module _ (good : not_finite mesh ≡ none) (a b c : List ℕ) (F : b ≡ joined (slot_count mesh.sizes) (λ s. tried_words) ++ drop (slot_words * slot_count mesh.sizes) a) (C : Copied rows n m mesh.positions u b c) where
    five : Five rows mesh (triangles_of mesh) d u
    five = L.stands good d

    tells : Tells rows mesh ys d u
    tells t h = told-stored rows mesh u t (get_or ys t d) (omega (arith, L.fits)) (five.held t h)

    corners : Corners rows mesh ys d u
    corners t h = cornered-stored rows mesh u t (get_or ys t d) (omega (arith, L.fits)) (five.held t h)

    filled : Shows mesh.sizes (reading bs) a b
    filled =
        slots_same mesh.sizes a (λ f i. tried_reading) (reading bs) b
        (λ f i h. sym (tried-reading f i (mesh_of mesh) (omega (arith, h.face, mesh-length mesh.positions mesh.normals mesh.texture 0 mesh.sizes)) (slot-below mesh.positions mesh.normals mesh.texture mesh.sizes f i h)))
        (F ∙ one-shown mesh.sizes a tried_reading)

    pub tried-out : c ≡ answer_words (trial (mesh_of mesh)) ++ drop (slot_words * slot_count mesh.sizes) a
    unfolding trial final_at final_seen face_readings
    tried-out =
        frames-shown mesh.positions mesh.normals mesh.texture ss bs mesh.sizes a c
        (C.final mesh.sizes mesh.normals mesh.texture bs d a ss (broken (triangles_of mesh)) (λ f k. k) (sym L.sound_count) (sym L.count) tells corners (left_alone mesh d) five.vertices (tried-held (numbered 0 (mesh_of mesh))) filled)

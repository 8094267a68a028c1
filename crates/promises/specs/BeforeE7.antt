-- Request E7 alters no word of the ten: the answer as it was before, ten words a slot, with no count and no origin anywhere. Steps 1 to 6, subgroups, the angle at a corner, the projection and how two spaces are combined are the definition's own, whose text E7 did not touch; all that it touched is written anew here, as it was. Definitions only.
use Rattle.std.specs.Prelude.{ℕ, ◌≡◌, Bool, cond, ◌&&◌, List, [], ◌∷◌, map, eqb, get_or, replicate, take, Float}
use Rattle.std.proofs.Math.Option.{Option, none, some}
use Rattle.std.specs.Float.Ieee as Ieee
use Rattle.bits.specs.Single.{◌+ᶠ◌, ◌*ᶠ◌, ◌/ᶠ◌, zeroᶠ}
use Rattle.bits.specs.Word.{word}
use Rattle.math.specs.declared.Vec3.{Vec3}
use Rattle.math.specs.Vector.{added, scaled_by, unit_of, equals}
use Rattle.tangent.specs.declared.RawTangentSpace.{RawTangentSpace}
use Rattle.tangent.specs.declared.Evaluated.{Evaluated}
use Rattle.tangent.specs.declared.Reading.{Reading}
use Rattle.tangent.specs.declared.Reading.TheVariants.{Absent, Single, Combined, Copied, Filled}
use Rattle.tangent.specs.Space.{zero_tangent, combine}
use Rattle.tangent.specs.Slot.{flag, words}
use Rattle.lists.specs.Lists.{keep, first, run}
use Rattle.definition.specs.declared.Corner.{Corner}
use Rattle.definition.specs.declared.Kept.{Kept}
use Rattle.definition.specs.declared.Triangle.{Triangle}
use Rattle.definition.specs.Mesh.{Face, Spot, corner_of, slot_of}
use Rattle.definition.specs.Triangles.{pieces, usable, triangles}
use Rattle.definition.specs.Step4Order.{is_sound, sound, spots, welded}
use Rattle.definition.specs.Step5Links.{links}
use Rattle.definition.specs.Step6Groups.{Mark, marks, corner_in}
use Rattle.definition.specs.Step7Sums.{projected, opening, subgroup}
use Rattle.definition.specs.Step9Copies.{nooks}
use Rattle.definition.specs.Frames.{numbered, frames}
use Rattle.definition.specs.Handed.{Call, mesh_of}
use Rattle.definition.specs.Outcome.{Result}
use Rattle.view.specs.Answer.{HasSlot}
use Rattle.promises.specs.Calls.{Answers}
use Rattle.promises.specs.Directions.{slot_in}

-- what a slot had: a tangent space and an orientation
pub record Ten : Type 0 where
  pub space : RawTangentSpace
  pub orientation : Bool

-- what is left of a space and its count, with an orientation
abbrev pub ten_from : Evaluated → Bool → Ten
ten_from e o = record { space = e.space; orientation = o }

-- what is left of a reading of now, where it came from and how many stood behind it forgotten
unfoldable pub ten_of : Reading → Option Ten
ten_of Absent = none
ten_of (Single e o) = some (ten_from e o)
ten_of (Combined e o) = some (ten_from e o)
ten_of (Copied e o) = some (ten_from e o)
ten_of (Filled e o) = some (ten_from e o)

-- 'Each slot is ten words'
abbrev pub slot_words_before : ℕ
slot_words_before = 10

-- those of what a slot had; 'An absent slot is ten zero words'
unfoldable pub words_before : Option Ten → List ℕ
words_before none = replicate slot_words_before 0
words_before (some r) =
    let u = r.space in
    1 ∷ word u.s.x ∷ word u.s.y ∷ word u.s.z ∷ word u.t.x ∷ word u.t.y ∷ word u.t.z ∷ word u.s_magnitude ∷ word u.t_magnitude ∷ flag r.orientation ∷ []

-- step 7: a sum of contributions: of the angles, and of the tangents weighted by them
pub record SumBefore : Type 0 where
  pub angles : Float
  pub weighted : RawTangentSpace

-- one contribution more, weighted by the angle w, with directions projected by the normal n
unfoldable pub weighed_before : SumBefore → Float → Vec3 → RawTangentSpace → SumBefore
weighed_before z w n t =
    let u = z.weighted in
    let both : (Vec3 → Vec3 → Vec3) = λ a b. added a (scaled_by (projected n b) w) in
    let more : (Float → Float → Float) = λ a b. a +ᶠ w *ᶠ b in
    record {
      angles = z.angles +ᶠ w;
      weighted = record { s = both u.s t.s; t = both u.t t.t; s_magnitude = more u.s_magnitude t.s_magnitude; t_magnitude = more u.t_magnitude t.t_magnitude };
    }

-- the contribution of the corner that was found
unfoldable pub add_before : SumBefore → Option Spot → SumBefore
add_before z none = z
add_before z (some s) = weighed_before z (opening s) (corner_of s).normal s.tri.tangent

-- a triangle's contribution, at its corner welded to c; none of a `group_with_any` one
unfoldable pub contribute_before : Corner → SumBefore → Triangle → SumBefore
contribute_before c z t = cond t.any z (add_before z (corner_in c t))

-- the sum made a tangent space: directions to unit length, magnitudes over the sum of the angles where that is above zero
unfoldable pub finish_before : SumBefore → RawTangentSpace
finish_before z =
    let u = z.weighted in
    let over : (Float → Float) = λ a. cond (Ieee.lt zeroᶠ z.angles) (a /ᶠ z.angles) a in
    record { s = unit_of u.s; t = unit_of u.t; s_magnitude = over u.s_magnitude; t_magnitude = over u.t_magnitude }

-- what a subgroup gave: its contributions in triangle order, from nothing
unfoldable pub space_before : Corner → List Triangle → RawTangentSpace
space_before c ts = finish_before (run (contribute_before c) (record { angles = zeroᶠ; weighted = zero_tangent }) ts)

-- what a member brought to its slot
pub record BroughtBefore : Type 0 where
  pub face : ℕ
  pub slot : ℕ
  pub ten : Ten

-- what one member brought
unfoldable pub bring_before : Float → List Triangle → List Mark → Mark → BroughtBefore
bring_before h ss ms m =
    record { face = m.spot.tri.face; slot = slot_of m.spot; ten = record { space = space_before (corner_of m.start) (subgroup h ss ms m); orientation = m.orientation } }

-- step 8: 'A slot reached twice is combined .. The orientation is the later group's'
unfoldable pub put_before : Option Ten → BroughtBefore → Option Ten
put_before none b = some b.ten
put_before (some r) b = some (record { space = combine r.space b.ten.space; orientation = b.ten.orientation })

-- what was brought to slot i of face f, before step 9
unfoldable pub reading_before : List BroughtBefore → ℕ → ℕ → Option Ten
reading_before bs f i = run put_before none (keep (λ b. eqb b.face f && eqb b.slot i) bs)

-- step 9: a copy was the same reading
unfoldable pub copied_before : List BroughtBefore → Option Spot → Option Ten
copied_before bs none = none
copied_before bs (some s) = reading_before bs s.tri.face (slot_of s)

-- in a marked quad whose sound triangle was found
unfoldable pub marked_before : List BroughtBefore → Option Triangle → Kept → Option Ten
marked_before bs none k = none
marked_before bs (some t) k =
    cond (eqb k.which t.missing) (copied_before bs (first (λ s. equals (corner_of s).place k.corner.place) (spots (t ∷ [])))) (reading_before bs t.face k.which)

-- the final reading of a slot of face f, whose triangles are the list
unfoldable pub final_before : List BroughtBefore → List Triangle → ℕ → List Triangle → Kept → Option Ten
final_before bs ss f [] k = none
final_before bs ss f (t ∷ ts) k =
    cond t.marked (marked_before bs (first is_sound (t ∷ ts)) k)
    (cond t.degenerate (copied_before bs (first (λ s. welded k.corner (corner_of s)) (spots ss))) (reading_before bs f k.which))

-- of all slots of a face
unfoldable pub face_before : List BroughtBefore → List Triangle → Face → List (Option Ten)
face_before bs ss f = map (final_before bs ss f.number (pieces f.number f.corners)) (nooks 0 (usable f.corners))

-- steps 1 to 9 at the threshold h
unfoldable pub frames_before : Float → List (List Corner) → List (List (Option Ten))
frames_before h m =
    let ss = sound (triangles (numbered 0 m)) in
    let ms = marks ss (links ss) in
    map (face_before (map (bring_before h ss ms) ms) ss) (numbered 0 m)

-- what slot i of face f of a call had, and `none` where there is no such slot
unfoldable pub ten_before_at : Call → ℕ → ℕ → Option Ten
ten_before_at x f i = get_or (get_or (frames_before x.threshold (mesh_of x.mesh)) f []) i none

pub record Promised : Type 0 where
  -- of every mesh at every threshold: what is left of the readings of now is what the slots had
  pub same_tens : (h : Float) (m : List (List Corner)) → map (map ten_of) (frames h m) ≡ frames_before h m
  -- the first ten words of a reading are the words of what is left of it
  pub ten-words : (r : Reading) → take slot_words_before (words r) ≡ words_before (ten_of r)
  -- of every accepted call: the first ten words of each slot, present or absent, are those of before
  pub same_slots : (x : Call) (z : Result) → Answers x z → z.number ≡ 0 → (f i : ℕ) → HasSlot x.mesh.sizes f i → take slot_words_before (slot_in x.mesh.sizes f i z.answer) ≡ words_before (ten_before_at x f i)

-- Step 9: corners of degenerate triangles copy. Definitions only.
use Rattle.std.specs.Prelude.{ℕ, suc, Bool, true, false, cond, List, [], ◌∷◌, map, eqb}
use Rattle.std.proofs.Math.Option.{Option, none, some}
use Rattle.math.specs.Vector.{equals}
use Rattle.tangent.specs.declared.Reading.{Reading}
use Rattle.tangent.specs.declared.Reading.TheVariants.{Absent}
use Rattle.tangent.specs.Space.{copy_of}
use Rattle.definition.specs.declared.Corner.{Corner}
use Rattle.definition.specs.declared.Kept.{Kept}
use Rattle.definition.specs.declared.Triangle.{Triangle}
use Rattle.lists.specs.Lists.{first}
use Rattle.definition.specs.Mesh.{Face, Spot, corner_of, slot_of}
use Rattle.definition.specs.Triangles.{nook, usable, pieces}
use Rattle.definition.specs.Step4Order.{is_sound, spots, welded}
use Rattle.definition.specs.Step7Sums.{Brought}
use Rattle.definition.specs.Step8Slots.{reading}

-- a copy of the reading of a corner's slot, within a quad or not; 'where there is none it stays absent'
unfoldable pub copied : Bool → List Brought → Option Spot → Reading
copied quad bs none = Absent
copied quad bs (some s) = copy_of quad (reading bs s.tri.face (slot_of s))

-- 'Each corner of a degenerate triangle whose face isn't a marked quad copies the first sound corner welded to it, absent or not'
unfoldable pub from_sound : List Brought → List Triangle → Corner → Reading
from_sound bs ss c = copied false bs (first (λ s. welded c (corner_of s)) (spots ss))

-- 'Then in each marked quad the missing corner copies the first kept corner of equal position': slot number i of a marked quad whose sound triangle is t
unfoldable pub from_kept : List Brought → Triangle → ℕ → Corner → Reading
from_kept bs t i c =
    let r = copied true bs (first (λ s. equals (corner_of s).place c.place) (spots (t ∷ []))) in
    cond (eqb i t.missing) r (reading bs t.face i)

-- the same, where the sound triangle of the quad was found
unfoldable pub from_marked : List Brought → Option Triangle → ℕ → Corner → Reading
from_marked bs none i c = Absent
from_marked bs (some t) i c = from_kept bs t i c

-- the final reading of a slot of face f, whose triangles are the list: of a marked quad; of a degenerate face; of any other
unfoldable pub final_of : List Brought → List Triangle → ℕ → List Triangle → Kept → Reading
final_of bs ss f [] k = Absent
final_of bs ss f (t ∷ ts) k =
    let m = from_marked bs (first is_sound (t ∷ ts)) k.which k.corner in
    let d = from_sound bs ss k.corner in
    let r = reading bs f k.which in
    cond t.marked m (cond t.degenerate d r)

-- the corners of a face with their numbers, from i on
unfoldable pub nooks : ℕ → List Corner → List Kept
nooks i [] = []
nooks i (c ∷ l) = nook i c ∷ nooks (suc i) l

-- the final readings of a face's slots: 'Slots run by face, then by corner'
unfoldable pub face_readings : List Brought → List Triangle → Face → List Reading
face_readings bs ss f =
    let ts = pieces f.number f.corners in
    map (final_of bs ss f.number ts) (nooks 0 (usable f.corners))

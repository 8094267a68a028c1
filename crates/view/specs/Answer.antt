-- The answer list: what its slots stand for. Definitions only.
use Rattle.std.specs.Prelude.{ℕ, suc, ◌+◌, ◌*◌, ◌<◌, ◌≡◌, cond, ◌&&◌, eqb, length, get_or, take, drop}
use mathlib.Core.List.{List, [], ◌∷◌, ◌++◌, map, flat_map}
use Rattle.tangent.specs.declared.Reading.{Reading}
use Rattle.tangent.specs.declared.Reading.TheVariants.{Absent}
use Rattle.tangent.specs.Slot.{slot_words, words}
use Rattle.lists.specs.Loops.{list_of}
use Rattle.definition.specs.declared.Corner.{Corner}
use Rattle.definition.specs.declared.Kept.{Kept}
use Rattle.definition.specs.declared.Triangle.{Triangle}
use Rattle.definition.specs.Mesh.{Third, kept}
use Rattle.definition.specs.Handed.{slots_of, slot_count}
use Rattle.definition.specs.Step7Sums.{Brought}
use Rattle.definition.specs.Triangles.{usable, pieces}
use Rattle.definition.specs.Step9Copies.{final_of, nooks, face_readings}

-- the number of slot i of face f: 'Slots run by face, then by corner'
abbrev pub slot_number : List ℕ → ℕ → ℕ → ℕ
slot_number sizes f i = slot_count (take f sizes) + i

-- face f is there and has a slot i
pub record HasSlot (sizes : List ℕ) (f i : ℕ) : Type 0 where
  pub face : f < length sizes
  pub slot : i < slots_of (get_or sizes f 0)

-- the readings R f i of all slots, from face number f on
unfoldable pub slots_from : ℕ → List ℕ → (ℕ → ℕ → Reading) → List Reading
slots_from f [] R = []
slots_from f (n ∷ sizes) R = list_of (slots_of n) (R f) ++ slots_from (suc f) sizes R

-- the list a, which was a₀, shows the readings R and is as it was past them
abbrev pub Shows : List ℕ → (ℕ → ℕ → Reading) → List ℕ → List ℕ → Type 0
Shows sizes R a₀ a = a ≡ flat_map words (slots_from 0 sizes R) ++ drop (slot_words * slot_count sizes) a₀

-- the reading of slot i of face f, where each face has its readings; `Absent` where there is no such slot
abbrev pub at_slot : List (List Reading) → ℕ → ℕ → Reading
at_slot rs f i = get_or (get_or rs f []) i Absent

-- the readings R but for slot i of face f, whose reading is r
unfoldable pub changed : (ℕ → ℕ → Reading) → ℕ → ℕ → Reading → ℕ → ℕ → Reading
changed R f i r g j = cond (eqb g f && eqb j i) r (R g j)

-- every corner that a triangle keeps has a slot
pub record Slotted (sizes : List ℕ) (x : Triangle) : Type 0 where
  pub has : (i : Third) → HasSlot sizes x.face (kept x i).which

-- the final reading of slot i of face f of the mesh m: document 01's step 9
unfoldable pub final_at : List Brought → List Triangle → List (List Corner) → ℕ → ℕ → Reading
final_at bs ss m f i = get_or (face_readings bs ss (record { number = f; corners = get_or m f [] })) i Absent

-- the same, where each corner of a face is seen as step 4 left it
unfoldable pub final_seen : (ℕ → Kept → Kept) → List Brought → List Triangle → List (List Corner) → ℕ → ℕ → Reading
final_seen see bs ss m f i = let cs = get_or m f [] in get_or (map (λ k. final_of bs ss f (pieces f cs) (see f k)) (nooks 0 (usable cs))) i Absent

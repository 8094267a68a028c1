-- More meshes, computed from the definitions. Written by tools/samples.py. Assumes nothing.
use Prim.Native.Nat.{ℕ}
use mathlib.Core.Path.{◌≡◌, refl}
use mathlib.Core.Bool.{xor}
use mathlib.Core.List.{List, [], ◌∷◌, map, flat_map}
use lib.ListN.{take, drop, replicate}
use lib.Ieee.{Float, is_nan, add, sub, mul, div, neg, lt, le, eq, to_bits, of_bits, round, to_unsigned, to_signed, of_int, size, units}
use Rattle.bits.specs.Word.{word, number}
use Rattle.math.specs.Vector.{vec}
use Rattle.definition.specs.Handed.{handed, call}
use Rattle.definition.specs.Desk.{shown}
use Rattle.root.specs.Root as Root'
use Rattle.angle.specs.Table as Table'
use Rattle.angle.specs.Angle as Angle'
use Rattle.math.specs.Vector as Vector'
use Rattle.tangent.specs.Space as Space'
use Rattle.tangent.specs.Slot as Slot'
use Rattle.bits.specs.Word as Word'
use Rattle.lists.specs.Lists as Lists'
use Rattle.definition.specs.Mesh as Mesh'
use Rattle.definition.specs.Handed as Handed'
use Rattle.definition.specs.Step1Cut as Step1Cut'
use Rattle.definition.specs.Step2Degenerate as Step2Degenerate'
use Rattle.definition.specs.Step3Tangents as Step3Tangents'
use Rattle.definition.specs.Triangles as Triangles'
use Rattle.definition.specs.Step4Order as Step4Order'
use Rattle.definition.specs.Step5Links as Step5Links'
use Rattle.definition.specs.Step6Groups as Step6Groups'
use Rattle.definition.specs.Step7Sums as Step7Sums'
use Rattle.definition.specs.Step8Slots as Step8Slots'
use Rattle.definition.specs.Step9Copies as Step9Copies'
use Rattle.definition.specs.Frames as Frames'
use Rattle.definition.specs.Desk as Desk'
use Rattle.definition.specs.Outcome as Outcome'
use Rattle.definition.specs.Shuffle as Shuffle'

-- numbers, by their bits
abbrev numbers : List ℕ → List Float
numbers l = map number l

-- request E4: sample 1 without a normal at one corner: refusal 7 alters nothing
pub no-normal : Outcome'.outcome (call (handed (3 ∷ []) (numbers (0 ∷ 0 ∷ 0 ∷ 0x3f80_0000 ∷ 0 ∷ 0 ∷ 0 ∷ 0x3f80_0000 ∷ 0 ∷ [])) (numbers (0 ∷ 0 ∷ 0x3f80_0000 ∷ 0 ∷ 0 ∷ 0 ∷ 0 ∷ 0 ∷ 0x3f80_0000 ∷ [])) (numbers (0 ∷ 0 ∷ 0x3f80_0000 ∷ 0 ∷ 0 ∷ 0x3f80_0000 ∷ []))) (number 0xbf80_0000) (replicate 36 7) (replicate 128 9)) ≡ record { number = 7; place = 1; slots = 0; answer = replicate 36 7; work = replicate 128 9 }
unfolding Root'.root Root'.rooted Root'.sqrt Table'.cosines Table'.c Angle'.greatest Angle'.way_at Angle'.angle Vector'.added Vector'.subtracted Vector'.scaled_by Vector'.negated Vector'.dot Vector'.length_of Vector'.equals Vector'.abs Vector'.counts Vector'.spans Vector'.points Vector'.direction Vector'.or_zero Vector'.unit_of Space'.equals Space'.mean Space'.combine Space'.united Space'.reached Space'.copied Space'.copy_of Slot'.flag Slot'.ten_words Slot'.present Slot'.words Slot'.vector_of Slot'.space_of Slot'.of_origin Slot'.reading_of Word'.is_finite Lists'.keep Lists'.first Lists'.has Lists'.run Mesh'.after Mesh'.before Mesh'.next Mesh'.prior Mesh'.kept Mesh'.corner_of Mesh'.slot_of Mesh'.same_third Mesh'.same_triangle Mesh'.same_spot Handed'.vector_at Handed'.corner_at Handed'.corners_from Handed'.mesh_from Handed'.used Handed'.slots_of Handed'.corner_count Handed'.slot_count Step1Cut'.across² Step1Cut'.apart² Step1Cut'.cut02 Step2Degenerate'.flat Step2Degenerate'.exactly_one Step3Tangents'.turn Step3Tangents'.raw_s Step3Tangents'.raw_t Step3Tangents'.sign_of Step3Tangents'.tangent_at Step3Tangents'.first_order Step3Tangents'.unsure Step3Tangents'.area Step3Tangents'.quad_way Triangles'.make Triangles'.settled Triangles'.agree Triangles'.pair Triangles'.quad Triangles'.usable Triangles'.pieces Triangles'.triangles Step4Order'.is_sound Step4Order'.sound Step4Order'.broken Step4Order'.spots Step4Order'.ordered Step4Order'.same_bits Step4Order'.same_vector Step4Order'.same_numbers Step4Order'.welded Step4Order'.welded_to Step5Links'.end_of Step5Links'.opposite Step5Links'.linked Step5Links'.add_link Step5Links'.link_one Step5Links'.link_all Step5Links'.links Step5Links'.beyond Step6Groups'.grouped Step6Groups'.touched Step6Groups'.way_of Step6Groups'.facing Step6Groups'.stops Step6Groups'.corner_in Step6Groups'.over_to Step6Groups'.over Step6Groups'.going Step6Groups'.walk Step6Groups'.fan Step6Groups'.start_at Step6Groups'.marks Step6Groups'.members Step7Sums'.projected Step7Sums'.close Step7Sums'.joins Step7Sums'.subgroup Step7Sums'.opening Step7Sums'.weighed Step7Sums'.add_spot Step7Sums'.contribute Step7Sums'.finish Step7Sums'.evaluate Step7Sums'.bring Step7Sums'.brought_all Step8Slots'.put Step8Slots'.reading Step9Copies'.copied Step9Copies'.from_sound Step9Copies'.from_kept Step9Copies'.from_marked Step9Copies'.final_of Step9Copies'.nooks Step9Copies'.face_readings Frames'.numbered Frames'.frames_from Frames'.frames_of Frames'.frames Desk'.finite_vector Desk'.finite_corner Desk'.bad_in Desk'.or_else Desk'.bad_corner Desk'.has_normal Desk'.is_there Desk'.or_zero Desk'.too_many Desk'.unfit Desk'.misfit Desk'.table Desk'.verdict Desk'.row_of Outcome'.answer_words Outcome'.accepted Outcome'.answered Outcome'.outcome Shuffle'.corners_of Shuffle'.shares is_nan add sub mul div neg lt le eq to_bits of_bits round to_unsigned to_signed of_int size units xor flat_map
no-normal = refl

-- two quads that share a side: equal numbers, but a corner in both triangles of its quad is combined
pub two-quads : Outcome'.outcome (call (handed (4 ∷ 4 ∷ []) (numbers (0 ∷ 0 ∷ 0 ∷ 0x3f80_0000 ∷ 0 ∷ 0 ∷ 0x3f80_0000 ∷ 0x3f80_0000 ∷ 0 ∷ 0 ∷ 0x3f80_0000 ∷ 0 ∷ 0x3f80_0000 ∷ 0 ∷ 0 ∷ 0x4000_0000 ∷ 0 ∷ 0 ∷ 0x4000_0000 ∷ 0x3f80_0000 ∷ 0 ∷ 0x3f80_0000 ∷ 0x3f80_0000 ∷ 0 ∷ [])) (numbers (0 ∷ 0 ∷ 0x3f80_0000 ∷ 0 ∷ 0 ∷ 0x3f80_0000 ∷ 0 ∷ 0 ∷ 0x3f80_0000 ∷ 0 ∷ 0 ∷ 0x3f80_0000 ∷ 0 ∷ 0 ∷ 0x3f80_0000 ∷ 0 ∷ 0 ∷ 0x3f80_0000 ∷ 0 ∷ 0 ∷ 0x3f80_0000 ∷ 0 ∷ 0 ∷ 0x3f80_0000 ∷ [])) (numbers (0 ∷ 0 ∷ 0x3f00_0000 ∷ 0 ∷ 0x3f00_0000 ∷ 0x3f80_0000 ∷ 0 ∷ 0x3f80_0000 ∷ 0x3f00_0000 ∷ 0 ∷ 0x3f80_0000 ∷ 0 ∷ 0x3f80_0000 ∷ 0x3f80_0000 ∷ 0x3f00_0000 ∷ 0x3f80_0000 ∷ []))) (number 0xbf80_0000) (replicate 96 7) (replicate 256 9)) ≡ record { number = 0; place = 0; slots = 8; answer = (1 ∷ 0x3f80_0000 ∷ 0 ∷ 0 ∷ 0 ∷ 0x3f80_0000 ∷ 0 ∷ 0x4000_0000 ∷ 0x3f80_0000 ∷ 1 ∷ 2 ∷ 4 ∷ 1 ∷ 0x3f80_0000 ∷ 0 ∷ 0 ∷ 0 ∷ 0x3f80_0000 ∷ 0 ∷ 0x4000_0000 ∷ 0x3f80_0000 ∷ 1 ∷ 1 ∷ 3 ∷ 1 ∷ 0x3f80_0000 ∷ 0 ∷ 0 ∷ 0 ∷ 0x3f80_0000 ∷ 0 ∷ 0x4000_0000 ∷ 0x3f80_0000 ∷ 1 ∷ 2 ∷ 6 ∷ 1 ∷ 0x3f80_0000 ∷ 0 ∷ 0 ∷ 0 ∷ 0x3f80_0000 ∷ 0 ∷ 0x4000_0000 ∷ 0x3f80_0000 ∷ 1 ∷ 1 ∷ 1 ∷ 1 ∷ 0x3f80_0000 ∷ 0 ∷ 0 ∷ 0 ∷ 0x3f80_0000 ∷ 0 ∷ 0x4000_0000 ∷ 0x3f80_0000 ∷ 1 ∷ 2 ∷ 6 ∷ 1 ∷ 0x3f80_0000 ∷ 0 ∷ 0 ∷ 0 ∷ 0x3f80_0000 ∷ 0 ∷ 0x4000_0000 ∷ 0x3f80_0000 ∷ 1 ∷ 1 ∷ 1 ∷ 1 ∷ 0x3f80_0000 ∷ 0 ∷ 0 ∷ 0 ∷ 0x3f80_0000 ∷ 0 ∷ 0x4000_0000 ∷ 0x3f80_0000 ∷ 1 ∷ 2 ∷ 4 ∷ 1 ∷ 0x3f80_0000 ∷ 0 ∷ 0 ∷ 0 ∷ 0x3f80_0000 ∷ 0 ∷ 0x4000_0000 ∷ 0x3f80_0000 ∷ 1 ∷ 1 ∷ 3 ∷ []); work = replicate 256 0 }
unfolding Root'.root Root'.rooted Root'.sqrt Table'.cosines Table'.c Angle'.greatest Angle'.way_at Angle'.angle Vector'.added Vector'.subtracted Vector'.scaled_by Vector'.negated Vector'.dot Vector'.length_of Vector'.equals Vector'.abs Vector'.counts Vector'.spans Vector'.points Vector'.direction Vector'.or_zero Vector'.unit_of Space'.equals Space'.mean Space'.combine Space'.united Space'.reached Space'.copied Space'.copy_of Slot'.flag Slot'.ten_words Slot'.present Slot'.words Slot'.vector_of Slot'.space_of Slot'.of_origin Slot'.reading_of Word'.is_finite Lists'.keep Lists'.first Lists'.has Lists'.run Mesh'.after Mesh'.before Mesh'.next Mesh'.prior Mesh'.kept Mesh'.corner_of Mesh'.slot_of Mesh'.same_third Mesh'.same_triangle Mesh'.same_spot Handed'.vector_at Handed'.corner_at Handed'.corners_from Handed'.mesh_from Handed'.used Handed'.slots_of Handed'.corner_count Handed'.slot_count Step1Cut'.across² Step1Cut'.apart² Step1Cut'.cut02 Step2Degenerate'.flat Step2Degenerate'.exactly_one Step3Tangents'.turn Step3Tangents'.raw_s Step3Tangents'.raw_t Step3Tangents'.sign_of Step3Tangents'.tangent_at Step3Tangents'.first_order Step3Tangents'.unsure Step3Tangents'.area Step3Tangents'.quad_way Triangles'.make Triangles'.settled Triangles'.agree Triangles'.pair Triangles'.quad Triangles'.usable Triangles'.pieces Triangles'.triangles Step4Order'.is_sound Step4Order'.sound Step4Order'.broken Step4Order'.spots Step4Order'.ordered Step4Order'.same_bits Step4Order'.same_vector Step4Order'.same_numbers Step4Order'.welded Step4Order'.welded_to Step5Links'.end_of Step5Links'.opposite Step5Links'.linked Step5Links'.add_link Step5Links'.link_one Step5Links'.link_all Step5Links'.links Step5Links'.beyond Step6Groups'.grouped Step6Groups'.touched Step6Groups'.way_of Step6Groups'.facing Step6Groups'.stops Step6Groups'.corner_in Step6Groups'.over_to Step6Groups'.over Step6Groups'.going Step6Groups'.walk Step6Groups'.fan Step6Groups'.start_at Step6Groups'.marks Step6Groups'.members Step7Sums'.projected Step7Sums'.close Step7Sums'.joins Step7Sums'.subgroup Step7Sums'.opening Step7Sums'.weighed Step7Sums'.add_spot Step7Sums'.contribute Step7Sums'.finish Step7Sums'.evaluate Step7Sums'.bring Step7Sums'.brought_all Step8Slots'.put Step8Slots'.reading Step9Copies'.copied Step9Copies'.from_sound Step9Copies'.from_kept Step9Copies'.from_marked Step9Copies'.final_of Step9Copies'.nooks Step9Copies'.face_readings Frames'.numbered Frames'.frames_from Frames'.frames_of Frames'.frames Desk'.finite_vector Desk'.finite_corner Desk'.bad_in Desk'.or_else Desk'.bad_corner Desk'.has_normal Desk'.is_there Desk'.or_zero Desk'.too_many Desk'.unfit Desk'.misfit Desk'.table Desk'.verdict Desk'.row_of Outcome'.answer_words Outcome'.accepted Outcome'.answered Outcome'.outcome Shuffle'.corners_of Shuffle'.shares is_nan add sub mul div neg lt le eq to_bits of_bits round to_unsigned to_signed of_int size units xor flat_map
two-quads = refl

-- request E7: the missing corner of a marked quad is copied within it: 4, and what stood behind is carried along
pub quad-filled : Outcome'.outcome (call (handed (4 ∷ []) (numbers (0 ∷ 0 ∷ 0 ∷ 0x3f80_0000 ∷ 0 ∷ 0 ∷ 0 ∷ 0x3f80_0000 ∷ 0 ∷ 0 ∷ 0x3f80_0000 ∷ 0 ∷ [])) (numbers (0 ∷ 0 ∷ 0x3f80_0000 ∷ 0 ∷ 0 ∷ 0x3f80_0000 ∷ 0 ∷ 0 ∷ 0x3f80_0000 ∷ 0 ∷ 0 ∷ 0x3f80_0000 ∷ [])) (numbers (0 ∷ 0 ∷ 0x3f80_0000 ∷ 0 ∷ 0 ∷ 0x3f80_0000 ∷ 0 ∷ 0x3f80_0000 ∷ []))) (number 0xbf80_0000) (replicate 48 7) (replicate 128 9)) ≡ record { number = 0; place = 0; slots = 4; answer = (1 ∷ 0x3f80_0000 ∷ 0 ∷ 0 ∷ 0 ∷ 0x3f80_0000 ∷ 0 ∷ 0x3f80_0000 ∷ 0x3f80_0000 ∷ 1 ∷ 1 ∷ 1 ∷ 1 ∷ 0x3f80_0000 ∷ 0 ∷ 0 ∷ 0 ∷ 0x3f80_0000 ∷ 0 ∷ 0x3f80_0000 ∷ 0x3f80_0000 ∷ 1 ∷ 1 ∷ 1 ∷ 1 ∷ 0x3f80_0000 ∷ 0 ∷ 0 ∷ 0 ∷ 0x3f80_0000 ∷ 0 ∷ 0x3f80_0000 ∷ 0x3f80_0000 ∷ 1 ∷ 1 ∷ 1 ∷ 1 ∷ 0x3f80_0000 ∷ 0 ∷ 0 ∷ 0 ∷ 0x3f80_0000 ∷ 0 ∷ 0x3f80_0000 ∷ 0x3f80_0000 ∷ 1 ∷ 4 ∷ 1 ∷ []); work = replicate 128 0 }
unfolding Root'.root Root'.rooted Root'.sqrt Table'.cosines Table'.c Angle'.greatest Angle'.way_at Angle'.angle Vector'.added Vector'.subtracted Vector'.scaled_by Vector'.negated Vector'.dot Vector'.length_of Vector'.equals Vector'.abs Vector'.counts Vector'.spans Vector'.points Vector'.direction Vector'.or_zero Vector'.unit_of Space'.equals Space'.mean Space'.combine Space'.united Space'.reached Space'.copied Space'.copy_of Slot'.flag Slot'.ten_words Slot'.present Slot'.words Slot'.vector_of Slot'.space_of Slot'.of_origin Slot'.reading_of Word'.is_finite Lists'.keep Lists'.first Lists'.has Lists'.run Mesh'.after Mesh'.before Mesh'.next Mesh'.prior Mesh'.kept Mesh'.corner_of Mesh'.slot_of Mesh'.same_third Mesh'.same_triangle Mesh'.same_spot Handed'.vector_at Handed'.corner_at Handed'.corners_from Handed'.mesh_from Handed'.used Handed'.slots_of Handed'.corner_count Handed'.slot_count Step1Cut'.across² Step1Cut'.apart² Step1Cut'.cut02 Step2Degenerate'.flat Step2Degenerate'.exactly_one Step3Tangents'.turn Step3Tangents'.raw_s Step3Tangents'.raw_t Step3Tangents'.sign_of Step3Tangents'.tangent_at Step3Tangents'.first_order Step3Tangents'.unsure Step3Tangents'.area Step3Tangents'.quad_way Triangles'.make Triangles'.settled Triangles'.agree Triangles'.pair Triangles'.quad Triangles'.usable Triangles'.pieces Triangles'.triangles Step4Order'.is_sound Step4Order'.sound Step4Order'.broken Step4Order'.spots Step4Order'.ordered Step4Order'.same_bits Step4Order'.same_vector Step4Order'.same_numbers Step4Order'.welded Step4Order'.welded_to Step5Links'.end_of Step5Links'.opposite Step5Links'.linked Step5Links'.add_link Step5Links'.link_one Step5Links'.link_all Step5Links'.links Step5Links'.beyond Step6Groups'.grouped Step6Groups'.touched Step6Groups'.way_of Step6Groups'.facing Step6Groups'.stops Step6Groups'.corner_in Step6Groups'.over_to Step6Groups'.over Step6Groups'.going Step6Groups'.walk Step6Groups'.fan Step6Groups'.start_at Step6Groups'.marks Step6Groups'.members Step7Sums'.projected Step7Sums'.close Step7Sums'.joins Step7Sums'.subgroup Step7Sums'.opening Step7Sums'.weighed Step7Sums'.add_spot Step7Sums'.contribute Step7Sums'.finish Step7Sums'.evaluate Step7Sums'.bring Step7Sums'.brought_all Step8Slots'.put Step8Slots'.reading Step9Copies'.copied Step9Copies'.from_sound Step9Copies'.from_kept Step9Copies'.from_marked Step9Copies'.final_of Step9Copies'.nooks Step9Copies'.face_readings Frames'.numbered Frames'.frames_from Frames'.frames_of Frames'.frames Desk'.finite_vector Desk'.finite_corner Desk'.bad_in Desk'.or_else Desk'.bad_corner Desk'.has_normal Desk'.is_there Desk'.or_zero Desk'.too_many Desk'.unfit Desk'.misfit Desk'.table Desk'.verdict Desk'.row_of Outcome'.answer_words Outcome'.accepted Outcome'.answered Outcome'.outcome Shuffle'.corners_of Shuffle'.shares is_nan add sub mul div neg lt le eq to_bits of_bits round to_unsigned to_signed of_int size units xor flat_map
quad-filled = refl

-- 'if the two are equal by float comparison, the earlier stays as it is'; it is combined all the same
pub earlier : Outcome'.outcome (call (handed (4 ∷ 4 ∷ []) (numbers (0 ∷ 0 ∷ 1 ∷ 0x8000_0000 ∷ 0x3f80_0000 ∷ 0 ∷ 0 ∷ 0x3f80_0000 ∷ 0x3f80_0000 ∷ 0 ∷ 0x8000_0000 ∷ 0x3f80_0000 ∷ 0 ∷ 0x3f80_0000 ∷ 0x3f80_0000 ∷ 0 ∷ 0x3f80_0000 ∷ 0x4000_0000 ∷ 0 ∷ 0 ∷ 0x4000_0000 ∷ 0 ∷ 0x8000_0000 ∷ 0x3f80_0000 ∷ [])) (numbers (0x3f80_0000 ∷ 0 ∷ 0 ∷ 0x3f80_0000 ∷ 0 ∷ 0 ∷ 0x3f80_0000 ∷ 0 ∷ 0 ∷ 0x3f80_0000 ∷ 0 ∷ 0 ∷ 0x3f80_0000 ∷ 0 ∷ 0 ∷ 0x3f80_0000 ∷ 0 ∷ 0 ∷ 0x3f80_0000 ∷ 0 ∷ 0 ∷ 0x3f80_0000 ∷ 0 ∷ 0 ∷ [])) (numbers (0 ∷ 0 ∷ 0x3f80_0000 ∷ 0 ∷ 0x3f80_0000 ∷ 0x3f80_0000 ∷ 0 ∷ 0x3f80_0000 ∷ 0x3f80_0000 ∷ 0x3f80_0000 ∷ 0x4000_0000 ∷ 0 ∷ 0 ∷ 0x4000_0000 ∷ 0 ∷ 0x3f80_0000 ∷ []))) (number 0x4000_0000) (replicate 96 7) (replicate 256 9)) ≡ record { number = 0; place = 0; slots = 8; answer = (1 ∷ 0 ∷ 0x3f80_0000 ∷ 0x8000_0001 ∷ 0 ∷ 0 ∷ 0x3f80_0000 ∷ 0x3f80_0000 ∷ 0x3f80_0000 ∷ 1 ∷ 2 ∷ 4 ∷ 1 ∷ 0 ∷ 0x3f80_0000 ∷ 0x8000_0001 ∷ 0 ∷ 0 ∷ 0x3f80_0000 ∷ 0x3f80_0000 ∷ 0x3f80_0000 ∷ 1 ∷ 1 ∷ 1 ∷ 1 ∷ 0 ∷ 0x3f80_0000 ∷ 0x8000_0001 ∷ 0 ∷ 0 ∷ 0x3f80_0000 ∷ 0x3f80_0000 ∷ 0x3f80_0000 ∷ 1 ∷ 2 ∷ 4 ∷ 1 ∷ 0 ∷ 0x3f80_0000 ∷ 0 ∷ 0 ∷ 0 ∷ 0x3f80_0000 ∷ 0x3f80_0000 ∷ 0x3f80_0000 ∷ 1 ∷ 1 ∷ 1 ∷ 1 ∷ 0 ∷ 0x3f80_0000 ∷ 0 ∷ 0 ∷ 0 ∷ 0x3f80_0000 ∷ 0x3f80_0000 ∷ 0x3f80_0000 ∷ 1 ∷ 2 ∷ 4 ∷ 0 ∷ 0 ∷ 0 ∷ 0 ∷ 0 ∷ 0 ∷ 0 ∷ 0 ∷ 0 ∷ 0 ∷ 0 ∷ 0 ∷ 1 ∷ 0 ∷ 0x3f80_0000 ∷ 0 ∷ 0 ∷ 0 ∷ 0x3f80_0000 ∷ 0x3f80_0000 ∷ 0x3f80_0000 ∷ 1 ∷ 2 ∷ 2 ∷ 1 ∷ 0 ∷ 0x3f80_0000 ∷ 0 ∷ 0 ∷ 0 ∷ 0x3f80_0000 ∷ 0x3f80_0000 ∷ 0x3f80_0000 ∷ 1 ∷ 1 ∷ 1 ∷ []); work = replicate 256 0 }
unfolding Root'.root Root'.rooted Root'.sqrt Table'.cosines Table'.c Angle'.greatest Angle'.way_at Angle'.angle Vector'.added Vector'.subtracted Vector'.scaled_by Vector'.negated Vector'.dot Vector'.length_of Vector'.equals Vector'.abs Vector'.counts Vector'.spans Vector'.points Vector'.direction Vector'.or_zero Vector'.unit_of Space'.equals Space'.mean Space'.combine Space'.united Space'.reached Space'.copied Space'.copy_of Slot'.flag Slot'.ten_words Slot'.present Slot'.words Slot'.vector_of Slot'.space_of Slot'.of_origin Slot'.reading_of Word'.is_finite Lists'.keep Lists'.first Lists'.has Lists'.run Mesh'.after Mesh'.before Mesh'.next Mesh'.prior Mesh'.kept Mesh'.corner_of Mesh'.slot_of Mesh'.same_third Mesh'.same_triangle Mesh'.same_spot Handed'.vector_at Handed'.corner_at Handed'.corners_from Handed'.mesh_from Handed'.used Handed'.slots_of Handed'.corner_count Handed'.slot_count Step1Cut'.across² Step1Cut'.apart² Step1Cut'.cut02 Step2Degenerate'.flat Step2Degenerate'.exactly_one Step3Tangents'.turn Step3Tangents'.raw_s Step3Tangents'.raw_t Step3Tangents'.sign_of Step3Tangents'.tangent_at Step3Tangents'.first_order Step3Tangents'.unsure Step3Tangents'.area Step3Tangents'.quad_way Triangles'.make Triangles'.settled Triangles'.agree Triangles'.pair Triangles'.quad Triangles'.usable Triangles'.pieces Triangles'.triangles Step4Order'.is_sound Step4Order'.sound Step4Order'.broken Step4Order'.spots Step4Order'.ordered Step4Order'.same_bits Step4Order'.same_vector Step4Order'.same_numbers Step4Order'.welded Step4Order'.welded_to Step5Links'.end_of Step5Links'.opposite Step5Links'.linked Step5Links'.add_link Step5Links'.link_one Step5Links'.link_all Step5Links'.links Step5Links'.beyond Step6Groups'.grouped Step6Groups'.touched Step6Groups'.way_of Step6Groups'.facing Step6Groups'.stops Step6Groups'.corner_in Step6Groups'.over_to Step6Groups'.over Step6Groups'.going Step6Groups'.walk Step6Groups'.fan Step6Groups'.start_at Step6Groups'.marks Step6Groups'.members Step7Sums'.projected Step7Sums'.close Step7Sums'.joins Step7Sums'.subgroup Step7Sums'.opening Step7Sums'.weighed Step7Sums'.add_spot Step7Sums'.contribute Step7Sums'.finish Step7Sums'.evaluate Step7Sums'.bring Step7Sums'.brought_all Step8Slots'.put Step8Slots'.reading Step9Copies'.copied Step9Copies'.from_sound Step9Copies'.from_kept Step9Copies'.from_marked Step9Copies'.final_of Step9Copies'.nooks Step9Copies'.face_readings Frames'.numbered Frames'.frames_from Frames'.frames_of Frames'.frames Desk'.finite_vector Desk'.finite_corner Desk'.bad_in Desk'.or_else Desk'.bad_corner Desk'.has_normal Desk'.is_there Desk'.or_zero Desk'.too_many Desk'.unfit Desk'.misfit Desk'.table Desk'.verdict Desk'.row_of Outcome'.answer_words Outcome'.accepted Outcome'.answered Outcome'.outcome Shuffle'.corners_of Shuffle'.shares is_nan add sub mul div neg lt le eq to_bits of_bits round to_unsigned to_signed of_int size units xor flat_map
earlier = refl

-- 'the side before the corner first': the sign of a zero in slot 8 tells
pub sides : take 12 (drop 96 (Outcome'.outcome (call (handed (4 ∷ 4 ∷ 4 ∷ 4 ∷ []) (numbers (0 ∷ 0 ∷ 1 ∷ 0x8000_0000 ∷ 0x3f80_0000 ∷ 0 ∷ 0 ∷ 0x3f80_0000 ∷ 0x3f80_0000 ∷ 0 ∷ 0x8000_0000 ∷ 0x3f80_0000 ∷ 0x8000_0001 ∷ 0x4000_0000 ∷ 0x3f80_0000 ∷ 0 ∷ 0x3f80_0000 ∷ 0x3f80_0000 ∷ 0x8000_0000 ∷ 0x3f80_0000 ∷ 0 ∷ 0 ∷ 0x4000_0000 ∷ 0 ∷ 0 ∷ 0x3f80_0000 ∷ 0x3f80_0000 ∷ 0 ∷ 0x3f80_0000 ∷ 0x4000_0000 ∷ 0 ∷ 0 ∷ 0x4000_0000 ∷ 0 ∷ 0x8000_0000 ∷ 0x3f80_0000 ∷ 0 ∷ 0x3f80_0000 ∷ 0x3f80_0000 ∷ 0x8000_0001 ∷ 0x4000_0000 ∷ 0x3f80_0000 ∷ 0 ∷ 0x4000_0000 ∷ 0x4000_0000 ∷ 0 ∷ 0x3f80_0000 ∷ 0x4000_0000 ∷ [])) (numbers (0x3f80_0000 ∷ 0 ∷ 0 ∷ 0x3f80_0000 ∷ 0 ∷ 0 ∷ 0x3f80_0000 ∷ 0 ∷ 0 ∷ 0x3f80_0000 ∷ 0 ∷ 0 ∷ 0x3f80_0000 ∷ 0 ∷ 0 ∷ 0x3f80_0000 ∷ 0 ∷ 0 ∷ 0x3f80_0000 ∷ 0 ∷ 0 ∷ 0x3f80_0000 ∷ 0 ∷ 0 ∷ 0x3f80_0000 ∷ 0 ∷ 0 ∷ 0x3f80_0000 ∷ 0 ∷ 0 ∷ 0x3f80_0000 ∷ 0 ∷ 0 ∷ 0x3f80_0000 ∷ 0 ∷ 0 ∷ 0x3f80_0000 ∷ 0 ∷ 0 ∷ 0x3f80_0000 ∷ 0 ∷ 0 ∷ 0x3f80_0000 ∷ 0 ∷ 0 ∷ 0x3f80_0000 ∷ 0 ∷ 0 ∷ [])) (numbers (0 ∷ 0 ∷ 0x3f80_0000 ∷ 0 ∷ 0x3f80_0000 ∷ 0x3f80_0000 ∷ 0 ∷ 0x3f80_0000 ∷ 0x4000_0000 ∷ 0x3f80_0000 ∷ 0x3f80_0000 ∷ 0x3f80_0000 ∷ 0x3f80_0000 ∷ 0 ∷ 0x4000_0000 ∷ 0 ∷ 0x3f80_0000 ∷ 0x3f80_0000 ∷ 0x4000_0000 ∷ 0 ∷ 0 ∷ 0x4000_0000 ∷ 0 ∷ 0x3f80_0000 ∷ 0x3f80_0000 ∷ 0x3f80_0000 ∷ 0x4000_0000 ∷ 0x3f80_0000 ∷ 0x3f80_0000 ∷ 0x3f80_0000 ∷ 0x4000_0000 ∷ 0 ∷ []))) (number 0x4000_0000) (replicate 192 7) (replicate 512 9))).answer) ≡ (1 ∷ 0 ∷ 0x3f80_0000 ∷ 0x8000_0000 ∷ 0 ∷ 0 ∷ 0x3f80_0000 ∷ 0x3f80_0000 ∷ 0x3f80_0000 ∷ 1 ∷ 2 ∷ 5 ∷ [])
unfolding Root'.root Root'.rooted Root'.sqrt Table'.cosines Table'.c Angle'.greatest Angle'.way_at Angle'.angle Vector'.added Vector'.subtracted Vector'.scaled_by Vector'.negated Vector'.dot Vector'.length_of Vector'.equals Vector'.abs Vector'.counts Vector'.spans Vector'.points Vector'.direction Vector'.or_zero Vector'.unit_of Space'.equals Space'.mean Space'.combine Space'.united Space'.reached Space'.copied Space'.copy_of Slot'.flag Slot'.ten_words Slot'.present Slot'.words Slot'.vector_of Slot'.space_of Slot'.of_origin Slot'.reading_of Word'.is_finite Lists'.keep Lists'.first Lists'.has Lists'.run Mesh'.after Mesh'.before Mesh'.next Mesh'.prior Mesh'.kept Mesh'.corner_of Mesh'.slot_of Mesh'.same_third Mesh'.same_triangle Mesh'.same_spot Handed'.vector_at Handed'.corner_at Handed'.corners_from Handed'.mesh_from Handed'.used Handed'.slots_of Handed'.corner_count Handed'.slot_count Step1Cut'.across² Step1Cut'.apart² Step1Cut'.cut02 Step2Degenerate'.flat Step2Degenerate'.exactly_one Step3Tangents'.turn Step3Tangents'.raw_s Step3Tangents'.raw_t Step3Tangents'.sign_of Step3Tangents'.tangent_at Step3Tangents'.first_order Step3Tangents'.unsure Step3Tangents'.area Step3Tangents'.quad_way Triangles'.make Triangles'.settled Triangles'.agree Triangles'.pair Triangles'.quad Triangles'.usable Triangles'.pieces Triangles'.triangles Step4Order'.is_sound Step4Order'.sound Step4Order'.broken Step4Order'.spots Step4Order'.ordered Step4Order'.same_bits Step4Order'.same_vector Step4Order'.same_numbers Step4Order'.welded Step4Order'.welded_to Step5Links'.end_of Step5Links'.opposite Step5Links'.linked Step5Links'.add_link Step5Links'.link_one Step5Links'.link_all Step5Links'.links Step5Links'.beyond Step6Groups'.grouped Step6Groups'.touched Step6Groups'.way_of Step6Groups'.facing Step6Groups'.stops Step6Groups'.corner_in Step6Groups'.over_to Step6Groups'.over Step6Groups'.going Step6Groups'.walk Step6Groups'.fan Step6Groups'.start_at Step6Groups'.marks Step6Groups'.members Step7Sums'.projected Step7Sums'.close Step7Sums'.joins Step7Sums'.subgroup Step7Sums'.opening Step7Sums'.weighed Step7Sums'.add_spot Step7Sums'.contribute Step7Sums'.finish Step7Sums'.evaluate Step7Sums'.bring Step7Sums'.brought_all Step8Slots'.put Step8Slots'.reading Step9Copies'.copied Step9Copies'.from_sound Step9Copies'.from_kept Step9Copies'.from_marked Step9Copies'.final_of Step9Copies'.nooks Step9Copies'.face_readings Frames'.numbered Frames'.frames_from Frames'.frames_of Frames'.frames Desk'.finite_vector Desk'.finite_corner Desk'.bad_in Desk'.or_else Desk'.bad_corner Desk'.has_normal Desk'.is_there Desk'.or_zero Desk'.too_many Desk'.unfit Desk'.misfit Desk'.table Desk'.verdict Desk'.row_of Outcome'.answer_words Outcome'.accepted Outcome'.answered Outcome'.outcome Shuffle'.corners_of Shuffle'.shares is_nan add sub mul div neg lt le eq to_bits of_bits round to_unsigned to_signed of_int size units xor flat_map
sides = refl

-- request E6: a triangle whose s is none starts no group, so it is absent; before it was there, with a zero direction and an infinite magnitude
pub far : Outcome'.outcome (call (handed (3 ∷ []) (numbers (0 ∷ 0 ∷ 0 ∷ 0x60ad_78ec ∷ 0 ∷ 0 ∷ 0 ∷ 0x3f80_0000 ∷ 0 ∷ [])) (numbers (0 ∷ 0 ∷ 0x3f80_0000 ∷ 0 ∷ 0 ∷ 0x3f80_0000 ∷ 0 ∷ 0 ∷ 0x3f80_0000 ∷ [])) (numbers (0 ∷ 0 ∷ 0x3f80_0000 ∷ 0 ∷ 0 ∷ 0x3f80_0000 ∷ []))) (number 0xbf80_0000) (replicate 36 7) (replicate 128 9)) ≡ record { number = 0; place = 0; slots = 3; answer = (0 ∷ 0 ∷ 0 ∷ 0 ∷ 0 ∷ 0 ∷ 0 ∷ 0 ∷ 0 ∷ 0 ∷ 0 ∷ 0 ∷ 0 ∷ 0 ∷ 0 ∷ 0 ∷ 0 ∷ 0 ∷ 0 ∷ 0 ∷ 0 ∷ 0 ∷ 0 ∷ 0 ∷ 0 ∷ 0 ∷ 0 ∷ 0 ∷ 0 ∷ 0 ∷ 0 ∷ 0 ∷ 0 ∷ 0 ∷ 0 ∷ 0 ∷ []); work = replicate 128 0 }
unfolding Root'.root Root'.rooted Root'.sqrt Table'.cosines Table'.c Angle'.greatest Angle'.way_at Angle'.angle Vector'.added Vector'.subtracted Vector'.scaled_by Vector'.negated Vector'.dot Vector'.length_of Vector'.equals Vector'.abs Vector'.counts Vector'.spans Vector'.points Vector'.direction Vector'.or_zero Vector'.unit_of Space'.equals Space'.mean Space'.combine Space'.united Space'.reached Space'.copied Space'.copy_of Slot'.flag Slot'.ten_words Slot'.present Slot'.words Slot'.vector_of Slot'.space_of Slot'.of_origin Slot'.reading_of Word'.is_finite Lists'.keep Lists'.first Lists'.has Lists'.run Mesh'.after Mesh'.before Mesh'.next Mesh'.prior Mesh'.kept Mesh'.corner_of Mesh'.slot_of Mesh'.same_third Mesh'.same_triangle Mesh'.same_spot Handed'.vector_at Handed'.corner_at Handed'.corners_from Handed'.mesh_from Handed'.used Handed'.slots_of Handed'.corner_count Handed'.slot_count Step1Cut'.across² Step1Cut'.apart² Step1Cut'.cut02 Step2Degenerate'.flat Step2Degenerate'.exactly_one Step3Tangents'.turn Step3Tangents'.raw_s Step3Tangents'.raw_t Step3Tangents'.sign_of Step3Tangents'.tangent_at Step3Tangents'.first_order Step3Tangents'.unsure Step3Tangents'.area Step3Tangents'.quad_way Triangles'.make Triangles'.settled Triangles'.agree Triangles'.pair Triangles'.quad Triangles'.usable Triangles'.pieces Triangles'.triangles Step4Order'.is_sound Step4Order'.sound Step4Order'.broken Step4Order'.spots Step4Order'.ordered Step4Order'.same_bits Step4Order'.same_vector Step4Order'.same_numbers Step4Order'.welded Step4Order'.welded_to Step5Links'.end_of Step5Links'.opposite Step5Links'.linked Step5Links'.add_link Step5Links'.link_one Step5Links'.link_all Step5Links'.links Step5Links'.beyond Step6Groups'.grouped Step6Groups'.touched Step6Groups'.way_of Step6Groups'.facing Step6Groups'.stops Step6Groups'.corner_in Step6Groups'.over_to Step6Groups'.over Step6Groups'.going Step6Groups'.walk Step6Groups'.fan Step6Groups'.start_at Step6Groups'.marks Step6Groups'.members Step7Sums'.projected Step7Sums'.close Step7Sums'.joins Step7Sums'.subgroup Step7Sums'.opening Step7Sums'.weighed Step7Sums'.add_spot Step7Sums'.contribute Step7Sums'.finish Step7Sums'.evaluate Step7Sums'.bring Step7Sums'.brought_all Step8Slots'.put Step8Slots'.reading Step9Copies'.copied Step9Copies'.from_sound Step9Copies'.from_kept Step9Copies'.from_marked Step9Copies'.final_of Step9Copies'.nooks Step9Copies'.face_readings Frames'.numbered Frames'.frames_from Frames'.frames_of Frames'.frames Desk'.finite_vector Desk'.finite_corner Desk'.bad_in Desk'.or_else Desk'.bad_corner Desk'.has_normal Desk'.is_there Desk'.or_zero Desk'.too_many Desk'.unfit Desk'.misfit Desk'.table Desk'.verdict Desk'.row_of Outcome'.answer_words Outcome'.accepted Outcome'.answered Outcome'.outcome Shuffle'.corners_of Shuffle'.shares is_nan add sub mul div neg lt le eq to_bits of_bits round to_unsigned to_signed of_int size units xor flat_map
far = refl

-- a face whose corners are all one: absent
pub point-alone : Outcome'.outcome (call (handed (3 ∷ []) (numbers (0 ∷ 0 ∷ 0 ∷ 0 ∷ 0 ∷ 0 ∷ 0 ∷ 0 ∷ 0 ∷ [])) (numbers (0 ∷ 0 ∷ 0x3f80_0000 ∷ 0 ∷ 0 ∷ 0x3f80_0000 ∷ 0 ∷ 0 ∷ 0x3f80_0000 ∷ [])) (numbers (0 ∷ 0 ∷ 0 ∷ 0 ∷ 0 ∷ 0 ∷ []))) (number 0xbf80_0000) (replicate 36 7) (replicate 128 9)) ≡ record { number = 0; place = 0; slots = 3; answer = (0 ∷ 0 ∷ 0 ∷ 0 ∷ 0 ∷ 0 ∷ 0 ∷ 0 ∷ 0 ∷ 0 ∷ 0 ∷ 0 ∷ 0 ∷ 0 ∷ 0 ∷ 0 ∷ 0 ∷ 0 ∷ 0 ∷ 0 ∷ 0 ∷ 0 ∷ 0 ∷ 0 ∷ 0 ∷ 0 ∷ 0 ∷ 0 ∷ 0 ∷ 0 ∷ 0 ∷ 0 ∷ 0 ∷ 0 ∷ 0 ∷ 0 ∷ []); work = replicate 128 0 }
unfolding Root'.root Root'.rooted Root'.sqrt Table'.cosines Table'.c Angle'.greatest Angle'.way_at Angle'.angle Vector'.added Vector'.subtracted Vector'.scaled_by Vector'.negated Vector'.dot Vector'.length_of Vector'.equals Vector'.abs Vector'.counts Vector'.spans Vector'.points Vector'.direction Vector'.or_zero Vector'.unit_of Space'.equals Space'.mean Space'.combine Space'.united Space'.reached Space'.copied Space'.copy_of Slot'.flag Slot'.ten_words Slot'.present Slot'.words Slot'.vector_of Slot'.space_of Slot'.of_origin Slot'.reading_of Word'.is_finite Lists'.keep Lists'.first Lists'.has Lists'.run Mesh'.after Mesh'.before Mesh'.next Mesh'.prior Mesh'.kept Mesh'.corner_of Mesh'.slot_of Mesh'.same_third Mesh'.same_triangle Mesh'.same_spot Handed'.vector_at Handed'.corner_at Handed'.corners_from Handed'.mesh_from Handed'.used Handed'.slots_of Handed'.corner_count Handed'.slot_count Step1Cut'.across² Step1Cut'.apart² Step1Cut'.cut02 Step2Degenerate'.flat Step2Degenerate'.exactly_one Step3Tangents'.turn Step3Tangents'.raw_s Step3Tangents'.raw_t Step3Tangents'.sign_of Step3Tangents'.tangent_at Step3Tangents'.first_order Step3Tangents'.unsure Step3Tangents'.area Step3Tangents'.quad_way Triangles'.make Triangles'.settled Triangles'.agree Triangles'.pair Triangles'.quad Triangles'.usable Triangles'.pieces Triangles'.triangles Step4Order'.is_sound Step4Order'.sound Step4Order'.broken Step4Order'.spots Step4Order'.ordered Step4Order'.same_bits Step4Order'.same_vector Step4Order'.same_numbers Step4Order'.welded Step4Order'.welded_to Step5Links'.end_of Step5Links'.opposite Step5Links'.linked Step5Links'.add_link Step5Links'.link_one Step5Links'.link_all Step5Links'.links Step5Links'.beyond Step6Groups'.grouped Step6Groups'.touched Step6Groups'.way_of Step6Groups'.facing Step6Groups'.stops Step6Groups'.corner_in Step6Groups'.over_to Step6Groups'.over Step6Groups'.going Step6Groups'.walk Step6Groups'.fan Step6Groups'.start_at Step6Groups'.marks Step6Groups'.members Step7Sums'.projected Step7Sums'.close Step7Sums'.joins Step7Sums'.subgroup Step7Sums'.opening Step7Sums'.weighed Step7Sums'.add_spot Step7Sums'.contribute Step7Sums'.finish Step7Sums'.evaluate Step7Sums'.bring Step7Sums'.brought_all Step8Slots'.put Step8Slots'.reading Step9Copies'.copied Step9Copies'.from_sound Step9Copies'.from_kept Step9Copies'.from_marked Step9Copies'.final_of Step9Copies'.nooks Step9Copies'.face_readings Frames'.numbered Frames'.frames_from Frames'.frames_of Frames'.frames Desk'.finite_vector Desk'.finite_corner Desk'.bad_in Desk'.or_else Desk'.bad_corner Desk'.has_normal Desk'.is_there Desk'.or_zero Desk'.too_many Desk'.unfit Desk'.misfit Desk'.table Desk'.verdict Desk'.row_of Outcome'.answer_words Outcome'.accepted Outcome'.answered Outcome'.outcome Shuffle'.corners_of Shuffle'.shares is_nan add sub mul div neg lt le eq to_bits of_bits round to_unsigned to_signed of_int size units xor flat_map
point-alone = refl

-- the same behind sample 1, whose first corner it shares: it copies that corner's frame, which word 10 says. So demand 3 counts corners of degenerate faces too
pub point-shared : Outcome'.outcome (call (handed (3 ∷ 3 ∷ []) (numbers (0 ∷ 0 ∷ 0 ∷ 0x3f80_0000 ∷ 0 ∷ 0 ∷ 0 ∷ 0x3f80_0000 ∷ 0 ∷ 0 ∷ 0 ∷ 0 ∷ 0 ∷ 0 ∷ 0 ∷ 0 ∷ 0 ∷ 0 ∷ [])) (numbers (0 ∷ 0 ∷ 0x3f80_0000 ∷ 0 ∷ 0 ∷ 0x3f80_0000 ∷ 0 ∷ 0 ∷ 0x3f80_0000 ∷ 0 ∷ 0 ∷ 0x3f80_0000 ∷ 0 ∷ 0 ∷ 0x3f80_0000 ∷ 0 ∷ 0 ∷ 0x3f80_0000 ∷ [])) (numbers (0 ∷ 0 ∷ 0x3f80_0000 ∷ 0 ∷ 0 ∷ 0x3f80_0000 ∷ 0 ∷ 0 ∷ 0 ∷ 0 ∷ 0 ∷ 0 ∷ []))) (number 0xbf80_0000) (replicate 72 7) (replicate 256 9)) ≡ record { number = 0; place = 0; slots = 6; answer = (1 ∷ 0x3f80_0000 ∷ 0 ∷ 0 ∷ 0 ∷ 0x3f80_0000 ∷ 0 ∷ 0x3f80_0000 ∷ 0x3f80_0000 ∷ 1 ∷ 1 ∷ 1 ∷ 1 ∷ 0x3f80_0000 ∷ 0 ∷ 0 ∷ 0 ∷ 0x3f80_0000 ∷ 0 ∷ 0x3f80_0000 ∷ 0x3f80_0000 ∷ 1 ∷ 1 ∷ 1 ∷ 1 ∷ 0x3f80_0000 ∷ 0 ∷ 0 ∷ 0 ∷ 0x3f80_0000 ∷ 0 ∷ 0x3f80_0000 ∷ 0x3f80_0000 ∷ 1 ∷ 1 ∷ 1 ∷ 1 ∷ 0x3f80_0000 ∷ 0 ∷ 0 ∷ 0 ∷ 0x3f80_0000 ∷ 0 ∷ 0x3f80_0000 ∷ 0x3f80_0000 ∷ 1 ∷ 3 ∷ 1 ∷ 1 ∷ 0x3f80_0000 ∷ 0 ∷ 0 ∷ 0 ∷ 0x3f80_0000 ∷ 0 ∷ 0x3f80_0000 ∷ 0x3f80_0000 ∷ 1 ∷ 3 ∷ 1 ∷ 1 ∷ 0x3f80_0000 ∷ 0 ∷ 0 ∷ 0 ∷ 0x3f80_0000 ∷ 0 ∷ 0x3f80_0000 ∷ 0x3f80_0000 ∷ 1 ∷ 3 ∷ 1 ∷ []); work = replicate 256 0 }
unfolding Root'.root Root'.rooted Root'.sqrt Table'.cosines Table'.c Angle'.greatest Angle'.way_at Angle'.angle Vector'.added Vector'.subtracted Vector'.scaled_by Vector'.negated Vector'.dot Vector'.length_of Vector'.equals Vector'.abs Vector'.counts Vector'.spans Vector'.points Vector'.direction Vector'.or_zero Vector'.unit_of Space'.equals Space'.mean Space'.combine Space'.united Space'.reached Space'.copied Space'.copy_of Slot'.flag Slot'.ten_words Slot'.present Slot'.words Slot'.vector_of Slot'.space_of Slot'.of_origin Slot'.reading_of Word'.is_finite Lists'.keep Lists'.first Lists'.has Lists'.run Mesh'.after Mesh'.before Mesh'.next Mesh'.prior Mesh'.kept Mesh'.corner_of Mesh'.slot_of Mesh'.same_third Mesh'.same_triangle Mesh'.same_spot Handed'.vector_at Handed'.corner_at Handed'.corners_from Handed'.mesh_from Handed'.used Handed'.slots_of Handed'.corner_count Handed'.slot_count Step1Cut'.across² Step1Cut'.apart² Step1Cut'.cut02 Step2Degenerate'.flat Step2Degenerate'.exactly_one Step3Tangents'.turn Step3Tangents'.raw_s Step3Tangents'.raw_t Step3Tangents'.sign_of Step3Tangents'.tangent_at Step3Tangents'.first_order Step3Tangents'.unsure Step3Tangents'.area Step3Tangents'.quad_way Triangles'.make Triangles'.settled Triangles'.agree Triangles'.pair Triangles'.quad Triangles'.usable Triangles'.pieces Triangles'.triangles Step4Order'.is_sound Step4Order'.sound Step4Order'.broken Step4Order'.spots Step4Order'.ordered Step4Order'.same_bits Step4Order'.same_vector Step4Order'.same_numbers Step4Order'.welded Step4Order'.welded_to Step5Links'.end_of Step5Links'.opposite Step5Links'.linked Step5Links'.add_link Step5Links'.link_one Step5Links'.link_all Step5Links'.links Step5Links'.beyond Step6Groups'.grouped Step6Groups'.touched Step6Groups'.way_of Step6Groups'.facing Step6Groups'.stops Step6Groups'.corner_in Step6Groups'.over_to Step6Groups'.over Step6Groups'.going Step6Groups'.walk Step6Groups'.fan Step6Groups'.start_at Step6Groups'.marks Step6Groups'.members Step7Sums'.projected Step7Sums'.close Step7Sums'.joins Step7Sums'.subgroup Step7Sums'.opening Step7Sums'.weighed Step7Sums'.add_spot Step7Sums'.contribute Step7Sums'.finish Step7Sums'.evaluate Step7Sums'.bring Step7Sums'.brought_all Step8Slots'.put Step8Slots'.reading Step9Copies'.copied Step9Copies'.from_sound Step9Copies'.from_kept Step9Copies'.from_marked Step9Copies'.final_of Step9Copies'.nooks Step9Copies'.face_readings Frames'.numbered Frames'.frames_from Frames'.frames_of Frames'.frames Desk'.finite_vector Desk'.finite_corner Desk'.bad_in Desk'.or_else Desk'.bad_corner Desk'.has_normal Desk'.is_there Desk'.or_zero Desk'.too_many Desk'.unfit Desk'.misfit Desk'.table Desk'.verdict Desk'.row_of Outcome'.answer_words Outcome'.accepted Outcome'.answered Outcome'.outcome Shuffle'.corners_of Shuffle'.shares is_nan add sub mul div neg lt le eq to_bits of_bits round to_unsigned to_signed of_int size units xor flat_map
point-shared = refl

-- request E7: the same behind sample 3, whose first corner is absent: 'a copy of an absent slot stays 0'
pub point-absent : Outcome'.outcome (call (handed (3 ∷ 3 ∷ []) (numbers (0 ∷ 0 ∷ 0 ∷ 0x3f80_0000 ∷ 0 ∷ 0 ∷ 0 ∷ 0x3f80_0000 ∷ 0 ∷ 0 ∷ 0 ∷ 0 ∷ 0 ∷ 0 ∷ 0 ∷ 0 ∷ 0 ∷ 0 ∷ [])) (numbers (0 ∷ 0 ∷ 0x3f80_0000 ∷ 0 ∷ 0 ∷ 0x3f80_0000 ∷ 0 ∷ 0 ∷ 0x3f80_0000 ∷ 0 ∷ 0 ∷ 0x3f80_0000 ∷ 0 ∷ 0 ∷ 0x3f80_0000 ∷ 0 ∷ 0 ∷ 0x3f80_0000 ∷ [])) (numbers (0 ∷ 0 ∷ 0 ∷ 0 ∷ 0 ∷ 0 ∷ 0 ∷ 0 ∷ 0 ∷ 0 ∷ 0 ∷ 0 ∷ []))) (number 0xbf80_0000) (replicate 72 7) (replicate 256 9)) ≡ record { number = 0; place = 0; slots = 6; answer = (0 ∷ 0 ∷ 0 ∷ 0 ∷ 0 ∷ 0 ∷ 0 ∷ 0 ∷ 0 ∷ 0 ∷ 0 ∷ 0 ∷ 0 ∷ 0 ∷ 0 ∷ 0 ∷ 0 ∷ 0 ∷ 0 ∷ 0 ∷ 0 ∷ 0 ∷ 0 ∷ 0 ∷ 0 ∷ 0 ∷ 0 ∷ 0 ∷ 0 ∷ 0 ∷ 0 ∷ 0 ∷ 0 ∷ 0 ∷ 0 ∷ 0 ∷ 0 ∷ 0 ∷ 0 ∷ 0 ∷ 0 ∷ 0 ∷ 0 ∷ 0 ∷ 0 ∷ 0 ∷ 0 ∷ 0 ∷ 0 ∷ 0 ∷ 0 ∷ 0 ∷ 0 ∷ 0 ∷ 0 ∷ 0 ∷ 0 ∷ 0 ∷ 0 ∷ 0 ∷ 0 ∷ 0 ∷ 0 ∷ 0 ∷ 0 ∷ 0 ∷ 0 ∷ 0 ∷ 0 ∷ 0 ∷ 0 ∷ 0 ∷ []); work = replicate 256 0 }
unfolding Root'.root Root'.rooted Root'.sqrt Table'.cosines Table'.c Angle'.greatest Angle'.way_at Angle'.angle Vector'.added Vector'.subtracted Vector'.scaled_by Vector'.negated Vector'.dot Vector'.length_of Vector'.equals Vector'.abs Vector'.counts Vector'.spans Vector'.points Vector'.direction Vector'.or_zero Vector'.unit_of Space'.equals Space'.mean Space'.combine Space'.united Space'.reached Space'.copied Space'.copy_of Slot'.flag Slot'.ten_words Slot'.present Slot'.words Slot'.vector_of Slot'.space_of Slot'.of_origin Slot'.reading_of Word'.is_finite Lists'.keep Lists'.first Lists'.has Lists'.run Mesh'.after Mesh'.before Mesh'.next Mesh'.prior Mesh'.kept Mesh'.corner_of Mesh'.slot_of Mesh'.same_third Mesh'.same_triangle Mesh'.same_spot Handed'.vector_at Handed'.corner_at Handed'.corners_from Handed'.mesh_from Handed'.used Handed'.slots_of Handed'.corner_count Handed'.slot_count Step1Cut'.across² Step1Cut'.apart² Step1Cut'.cut02 Step2Degenerate'.flat Step2Degenerate'.exactly_one Step3Tangents'.turn Step3Tangents'.raw_s Step3Tangents'.raw_t Step3Tangents'.sign_of Step3Tangents'.tangent_at Step3Tangents'.first_order Step3Tangents'.unsure Step3Tangents'.area Step3Tangents'.quad_way Triangles'.make Triangles'.settled Triangles'.agree Triangles'.pair Triangles'.quad Triangles'.usable Triangles'.pieces Triangles'.triangles Step4Order'.is_sound Step4Order'.sound Step4Order'.broken Step4Order'.spots Step4Order'.ordered Step4Order'.same_bits Step4Order'.same_vector Step4Order'.same_numbers Step4Order'.welded Step4Order'.welded_to Step5Links'.end_of Step5Links'.opposite Step5Links'.linked Step5Links'.add_link Step5Links'.link_one Step5Links'.link_all Step5Links'.links Step5Links'.beyond Step6Groups'.grouped Step6Groups'.touched Step6Groups'.way_of Step6Groups'.facing Step6Groups'.stops Step6Groups'.corner_in Step6Groups'.over_to Step6Groups'.over Step6Groups'.going Step6Groups'.walk Step6Groups'.fan Step6Groups'.start_at Step6Groups'.marks Step6Groups'.members Step7Sums'.projected Step7Sums'.close Step7Sums'.joins Step7Sums'.subgroup Step7Sums'.opening Step7Sums'.weighed Step7Sums'.add_spot Step7Sums'.contribute Step7Sums'.finish Step7Sums'.evaluate Step7Sums'.bring Step7Sums'.brought_all Step8Slots'.put Step8Slots'.reading Step9Copies'.copied Step9Copies'.from_sound Step9Copies'.from_kept Step9Copies'.from_marked Step9Copies'.final_of Step9Copies'.nooks Step9Copies'.face_readings Frames'.numbered Frames'.frames_from Frames'.frames_of Frames'.frames Desk'.finite_vector Desk'.finite_corner Desk'.bad_in Desk'.or_else Desk'.bad_corner Desk'.has_normal Desk'.is_there Desk'.or_zero Desk'.too_many Desk'.unfit Desk'.misfit Desk'.table Desk'.verdict Desk'.row_of Outcome'.answer_words Outcome'.accepted Outcome'.answered Outcome'.outcome Shuffle'.corners_of Shuffle'.shares is_nan add sub mul div neg lt le eq to_bits of_bits round to_unsigned to_signed of_int size units xor flat_map
point-absent = refl

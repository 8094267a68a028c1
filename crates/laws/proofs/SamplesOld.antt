-- Meshes whose words are those of the crate built without the corrected features, with our root and angle. Written by tools/samples_old.py. Groundwork of request E13: no public call uses it yet. Assumes nothing.
use Prim.Native.Nat.{ℕ}
use mathlib.Core.Path.{◌≡◌, refl}
use mathlib.Core.Bool.{xor}
use mathlib.Core.List.{List, [], ◌∷◌, map, flat_map}
use lib.Ieee.{Float, is_nan, add, sub, mul, div, neg, lt, le, eq, to_bits, of_bits, round, to_unsigned, to_signed, of_int, size, units}
use Rattle.bits.specs.Word.{word, number}
use Rattle.math.specs.Vector.{vec}
use Rattle.definition.specs.Handed.{handed, call}
use Rattle.definition.specs.Desk.{shown}
use Rattle.root.specs.Root as Root'
use Rattle.angle.specs.Table as Table'
use Rattle.angle.specs.Angle as Angle'
use Rattle.math.specs.Vector as Vector'
use Rattle.tangent.specs.Space as Space'
use Rattle.tangent.specs.Slot as Slot'
use Rattle.bits.specs.Word as Word'
use Rattle.lists.specs.Lists as Lists'
use Rattle.definition.specs.Mesh as Mesh'
use Rattle.definition.specs.Handed as Handed'
use Rattle.definition.specs.Step1Cut as Step1Cut'
use Rattle.definition.specs.Step2Degenerate as Step2Degenerate'
use Rattle.definition.specs.Step3Tangents as Step3Tangents'
use Rattle.definition.specs.Triangles as Triangles'
use Rattle.definition.specs.Step4Order as Step4Order'
use Rattle.definition.specs.Step5Links as Step5Links'
use Rattle.definition.specs.Step6Groups as Step6Groups'
use Rattle.definition.specs.Step7Sums as Step7Sums'
use Rattle.definition.specs.Step8Slots as Step8Slots'
use Rattle.definition.specs.Step9Copies as Step9Copies'
use Rattle.definition.specs.Frames as Frames'
use Rattle.definition.specs.Desk as Desk'
use Rattle.definition.specs.Outcome as Outcome'
use Rattle.definition.specs.Shuffle as Shuffle'
use Rattle.definition.specs.Step5Sorted as Step5Sorted'
use Rattle.definition.specs.Step5Quick as Step5Quick'
use Rattle.definition.specs.Step5Old as Step5Old'
use Rattle.definition.specs.Step4Old as Step4Old'
use Rattle.definition.specs.FramesOld as FramesOld'

-- numbers, by their bits
abbrev numbers : List ℕ → List Float
numbers l = map number l

-- 12 sides; corners merged with others of other bits; sides left out of order; other links than edition 1's
pub old-1 : Outcome'.answer_words (FramesOld'.old_frames (number 0xbf80_0000) (Handed'.mesh_from (numbers (0x40400000 ∷ 0x3f000000 ∷ 0x3f800000 ∷ 0xbf800000 ∷ 0x80000000 ∷ 0x40000000 ∷ 0xbf800000 ∷ 0x3f000000 ∷ 0x40000000 ∷ 0x40000000 ∷ 0x40400000 ∷ 0 ∷ 0xbf800000 ∷ 0x3f000000 ∷ 0x40000000 ∷ 0xbf800000 ∷ 0x80000000 ∷ 0x40000000 ∷ 0x40400000 ∷ 0x3f000000 ∷ 0x3f800000 ∷ 0x40000000 ∷ 0x40400000 ∷ 0 ∷ 0xbf800000 ∷ 0x80000000 ∷ 0x40000000 ∷ 0xbf800000 ∷ 0x3f000000 ∷ 0x40000000 ∷ [])) (numbers (0 ∷ 0 ∷ 0x3f800000 ∷ 0 ∷ 0 ∷ 0x3f800000 ∷ 0 ∷ 0x80000000 ∷ 0x3f800000 ∷ 0 ∷ 0 ∷ 0x3f800000 ∷ 0 ∷ 0x80000000 ∷ 0x3f800000 ∷ 0 ∷ 0 ∷ 0x3f800000 ∷ 0 ∷ 0 ∷ 0x3f800000 ∷ 0 ∷ 0 ∷ 0x3f800000 ∷ 0 ∷ 0x80000000 ∷ 0x3f800000 ∷ 0 ∷ 0x80000000 ∷ 0x3f800000 ∷ [])) (numbers (0 ∷ 0x3f000000 ∷ 0x40400000 ∷ 0x3f000000 ∷ 0x40000000 ∷ 0 ∷ 0x40000000 ∷ 0x3f800000 ∷ 0x40000000 ∷ 0 ∷ 0x40400000 ∷ 0x3f000000 ∷ 0 ∷ 0x3f000000 ∷ 0x40000000 ∷ 0x3f800000 ∷ 0x40400000 ∷ 0x3f000000 ∷ 0x40000000 ∷ 0 ∷ [])) 0 (3 ∷ 3 ∷ 4 ∷ []))) ≡ (1 ∷ 0xbf7e_05ed ∷ 0xbdfe_05ed ∷ 0 ∷ 0x3f78_5b42 ∷ 0xbe78_5b42 ∷ 0 ∷ 0x3fb1_353d ∷ 0x4035_04f3 ∷ 0 ∷ 1 ∷ 1 ∷ 1 ∷ 0xbf7e_05ed ∷ 0xbdfe_05ed ∷ 0 ∷ 0x3f78_5b42 ∷ 0xbe78_5b42 ∷ 0 ∷ 0x3fb1_353d ∷ 0x4035_04f2 ∷ 0 ∷ 1 ∷ 1 ∷ 1 ∷ 0xbf7e_05ec ∷ 0xbdfe_05ec ∷ 0 ∷ 0x3f78_5b43 ∷ 0xbe78_5b43 ∷ 0 ∷ 0x3fb1_353d ∷ 0x4035_04f3 ∷ 0 ∷ 1 ∷ 1 ∷ 1 ∷ 0xbf26_9a43 ∷ 0xbf42_5ea3 ∷ 0 ∷ 0x3f44_aa26 ∷ 0x3f23_e31f ∷ 0 ∷ 0x4020_cc4a ∷ 0x408c_6641 ∷ 1 ∷ 1 ∷ 1 ∷ 1 ∷ 0xbf26_9a44 ∷ 0xbf42_5ea4 ∷ 0 ∷ 0x3f44_aa26 ∷ 0x3f23_e31f ∷ 0 ∷ 0x4020_cc4a ∷ 0x408c_6641 ∷ 1 ∷ 1 ∷ 1 ∷ 1 ∷ 0xbf26_9a45 ∷ 0xbf42_5ea4 ∷ 0 ∷ 0x3f44_aa27 ∷ 0x3f23_e320 ∷ 0 ∷ 0x4020_cc4a ∷ 0x408c_6641 ∷ 1 ∷ 1 ∷ 1 ∷ 1 ∷ 0xbf64_f92e ∷ 0x3ee4_f92e ∷ 0 ∷ 0x3f44_aa28 ∷ 0x3f23_e321 ∷ 0 ∷ 0x3fb2_e2ac ∷ 0x408c_6641 ∷ 0 ∷ 1 ∷ 1 ∷ 1 ∷ 0xbf6c_4a63 ∷ 0x3ec5_0156 ∷ 0 ∷ 0x3f44_aa26 ∷ 0x3f23_e31f ∷ 0 ∷ 0x3fbc_7d2b ∷ 0x408c_6641 ∷ 0 ∷ 2 ∷ 4 ∷ 1 ∷ 0xbf26_9a45 ∷ 0xbf42_5ea4 ∷ 0 ∷ 0x3f44_aa27 ∷ 0x3f23_e320 ∷ 0 ∷ 0x4020_cc4a ∷ 0x408c_6641 ∷ 0 ∷ 1 ∷ 1 ∷ 1 ∷ 0xbf54_6e44 ∷ 0xbf0e_dc59 ∷ 0 ∷ 0x3f44_aa27 ∷ 0x3f23_e31f ∷ 0 ∷ 0x4010_0d44 ∷ 0x408c_6642 ∷ 0 ∷ 2 ∷ 4 ∷ [])
unfolding Root'.root Root'.rooted Root'.sqrt Table'.cosines Table'.c Angle'.greatest Angle'.way_at Angle'.angle Vector'.added Vector'.subtracted Vector'.scaled_by Vector'.negated Vector'.dot Vector'.length_of Vector'.equals Vector'.abs Vector'.counts Vector'.spans Vector'.points Vector'.direction Vector'.or_zero Vector'.unit_of Space'.equals Space'.mean Space'.combine Space'.united Space'.reached Space'.copied Space'.copy_of Slot'.flag Slot'.ten_words Slot'.present Slot'.words Slot'.vector_of Slot'.space_of Slot'.of_origin Slot'.reading_of Word'.is_finite Lists'.keep Lists'.first Lists'.has Lists'.run Mesh'.after Mesh'.before Mesh'.next Mesh'.prior Mesh'.kept Mesh'.corner_of Mesh'.slot_of Mesh'.same_third Mesh'.same_triangle Mesh'.same_spot Handed'.vector_at Handed'.corner_at Handed'.corners_from Handed'.mesh_from Handed'.used Handed'.slots_of Handed'.corner_count Handed'.slot_count Step1Cut'.across² Step1Cut'.apart² Step1Cut'.cut02 Step2Degenerate'.flat Step2Degenerate'.exactly_one Step3Tangents'.turn Step3Tangents'.raw_s Step3Tangents'.raw_t Step3Tangents'.sign_of Step3Tangents'.tangent_at Step3Tangents'.first_order Step3Tangents'.unsure Step3Tangents'.area Step3Tangents'.quad_way Triangles'.make Triangles'.settled Triangles'.agree Triangles'.pair Triangles'.quad Triangles'.usable Triangles'.pieces Triangles'.triangles Step4Order'.is_sound Step4Order'.sound Step4Order'.broken Step4Order'.spots Step4Order'.ordered Step4Order'.same_bits Step4Order'.same_vector Step4Order'.same_numbers Step4Order'.welded Step4Order'.welded_to Step5Links'.end_of Step5Links'.opposite Step5Links'.linked Step5Links'.add_link Step5Links'.link_one Step5Links'.link_all Step5Links'.links Step5Links'.beyond Step6Groups'.grouped Step6Groups'.touched Step6Groups'.way_of Step6Groups'.facing Step6Groups'.stops Step6Groups'.corner_in Step6Groups'.over_to Step6Groups'.over Step6Groups'.going Step6Groups'.walk Step6Groups'.fan Step6Groups'.start_at Step6Groups'.marks Step6Groups'.members Step7Sums'.projected Step7Sums'.close Step7Sums'.joins Step7Sums'.subgroup Step7Sums'.opening Step7Sums'.weighed Step7Sums'.add_spot Step7Sums'.contribute Step7Sums'.finish Step7Sums'.evaluate Step7Sums'.bring Step7Sums'.brought_all Step8Slots'.put Step8Slots'.reading Step9Copies'.copied Step9Copies'.from_sound Step9Copies'.from_kept Step9Copies'.from_marked Step9Copies'.final_of Step9Copies'.nooks Step9Copies'.face_readings Frames'.numbered Frames'.frames_from Frames'.frames_of Frames'.frames Desk'.finite_vector Desk'.finite_corner Desk'.bad_in Desk'.or_else Desk'.bad_corner Desk'.has_normal Desk'.is_there Desk'.or_zero Desk'.too_many Desk'.unfit Desk'.misfit Desk'.table Desk'.verdict Desk'.row_of Outcome'.answer_words Outcome'.accepted Outcome'.answered Outcome'.outcome Shuffle'.corners_of Shuffle'.shares Step5Sorted'.number_of Step5Sorted'.vertex_of Step5Sorted'.side_of Step5Sorted'.sides_from Step5Sorted'.sides Step5Sorted'.may_precede Step5Sorted'.set_in Step5Sorted'.sorted_by Step5Sorted'.sorted_sides Step5Sorted'.sorted_links Step5Sorted'.alike Step5Quick'.next_seed Step5Quick'.swapped Step5Quick'.seek_up Step5Quick'.seek_down Step5Quick'.parted Step5Quick'.paired Step5Quick'.quick Step5Old'.numbers_from Step5Old'.lesser Step5Old'.greater Step5Old'.run_end Step5Old'.last_run Step5Old'.sort_runs Step5Old'.may_stand Step5Old'.old_order Step5Old'.picked Step5Old'.old_sides Step5Old'.same_ends Step5Old'.while Step5Old'.link_runs Step5Old'.old_links Step4Old'.along Step4Old'.least Step4Old'.greatest Step4Old'.box_of Step4Old'.reach Step4Old'.widest Step4Old'.bucket_of Step4Old'.halved Step4Old'.same_values Step4Old'.or_row Step4Old'.merged_here Step4Old'.halfway Step4Old'.way_in Step4Old'.way_of Step4Old'.side_of Step4Old'.merge Step4Old'.merge_runs Step4Old'.bucket_in Step4Old'.merged_rows Step4Old'.tag_of Step4Old'.tagged Step4Old'.merged_with Step4Old'.recornered Step4Old'.merged FramesOld'.seen_as FramesOld'.seen FramesOld'.old_readings FramesOld'.old_frames is_nan add sub mul div neg lt le eq to_bits of_bits round to_unsigned to_signed of_int size units xor flat_map
old-1 = refl

-- 9 sides; corners merged with others of other bits; sides left out of order; other links than edition 1's
pub old-2 : Outcome'.answer_words (FramesOld'.old_frames (number 0xbf80_0000) (Handed'.mesh_from (numbers (0x3f800000 ∷ 0x3f800000 ∷ 0x3f800000 ∷ 0x3f800000 ∷ 0x3f800000 ∷ 0x3f800000 ∷ 0x3f800000 ∷ 0x3f800000 ∷ 0 ∷ 0x3f000000 ∷ 0x80000000 ∷ 0x3f000000 ∷ 0x3f000000 ∷ 0x80000000 ∷ 0x3f000000 ∷ 0x3f800000 ∷ 0x3f800000 ∷ 0 ∷ 0x3f800000 ∷ 0x3f800000 ∷ 0x3f800000 ∷ 0x3f800000 ∷ 0x3f800000 ∷ 0x3f800000 ∷ 0x3f800000 ∷ 0x3f800000 ∷ 0x3f800000 ∷ 0x3f000000 ∷ 0x80000000 ∷ 0x3f000000 ∷ 0x3f800000 ∷ 0x3f800000 ∷ 0x3f800000 ∷ 0x3f000000 ∷ 0x80000000 ∷ 0x3f000000 ∷ 0x3f800000 ∷ 0x3f800000 ∷ 0 ∷ 0x3f000000 ∷ 0 ∷ 0x3f000000 ∷ 0x3f800000 ∷ 0x3f800000 ∷ 0x3f800000 ∷ 0x3f800000 ∷ 0x3f800000 ∷ 0x3f800000 ∷ [])) (numbers (0 ∷ 0 ∷ 0x3f800000 ∷ 0 ∷ 0 ∷ 0x3f800000 ∷ 0 ∷ 0 ∷ 0x3f800000 ∷ 0 ∷ 0x80000000 ∷ 0x3f800000 ∷ 0 ∷ 0 ∷ 0x3f800000 ∷ 0x80000000 ∷ 0x80000000 ∷ 0x3f800000 ∷ 0 ∷ 0 ∷ 0x3f800000 ∷ 0 ∷ 0 ∷ 0x3f800000 ∷ 0 ∷ 0 ∷ 0x3f800000 ∷ 0 ∷ 0 ∷ 0x3f800000 ∷ 0 ∷ 0 ∷ 0x3f800000 ∷ 0 ∷ 0 ∷ 0x3f800000 ∷ 0 ∷ 0 ∷ 0x3f800000 ∷ 0x80000000 ∷ 0 ∷ 0x3f800000 ∷ 0x80000000 ∷ 0x80000000 ∷ 0x3f800000 ∷ 0x80000000 ∷ 0x80000000 ∷ 0x3f800000 ∷ [])) (numbers (0x3f800000 ∷ 0xbf800000 ∷ 0x3f800000 ∷ 0xbf800000 ∷ 0x80000000 ∷ 0x40400000 ∷ 0x80000000 ∷ 0xbf800000 ∷ 0x80000000 ∷ 0xbf800000 ∷ 0x80000000 ∷ 0x40400000 ∷ 0x3f800000 ∷ 0xbf800000 ∷ 0x3f800000 ∷ 0xbf800000 ∷ 0x3f800000 ∷ 0xbf800000 ∷ 0x80000000 ∷ 0xbf800000 ∷ 0x3f800000 ∷ 0xbf800000 ∷ 0x80000000 ∷ 0xbf800000 ∷ 0x80000000 ∷ 0x40400000 ∷ 0x80000000 ∷ 0xbf800000 ∷ 0x3f800000 ∷ 0xbf800000 ∷ 0x3f800000 ∷ 0xbf800000 ∷ [])) 0 (4 ∷ 4 ∷ 4 ∷ 4 ∷ []))) ≡ (1 ∷ 0x3ee4_f92e ∷ 0x3f64_f92e ∷ 0 ∷ 0x3ee4_f92e ∷ 0x3f64_f92e ∷ 0 ∷ 0x3f9c_c471 ∷ 0x3e9c_c471 ∷ 1 ∷ 4 ∷ 1 ∷ 1 ∷ 0x3ee4_f92e ∷ 0x3f64_f92e ∷ 0 ∷ 0x3ee4_f92e ∷ 0x3f64_f92e ∷ 0 ∷ 0x3f9c_c471 ∷ 0x3e9c_c471 ∷ 1 ∷ 1 ∷ 1 ∷ 1 ∷ 0x3ee4_f92e ∷ 0x3f64_f92e ∷ 0 ∷ 0x3ee4_f92e ∷ 0x3f64_f92e ∷ 0 ∷ 0x3f9c_c471 ∷ 0x3e9c_c471 ∷ 1 ∷ 1 ∷ 1 ∷ 1 ∷ 0x3ee4_f92e ∷ 0x3f64_f92e ∷ 0 ∷ 0x3ee4_f92e ∷ 0x3f64_f92e ∷ 0 ∷ 0x3f9c_c471 ∷ 0x3e9c_c471 ∷ 1 ∷ 1 ∷ 1 ∷ 1 ∷ 0x3ee4_f92e ∷ 0x3f64_f92e ∷ 0 ∷ 0x3ee4_f92e ∷ 0x3f64_f92e ∷ 0 ∷ 0x3f9c_c471 ∷ 0x3e9c_c471 ∷ 0 ∷ 1 ∷ 1 ∷ 1 ∷ 0x3ee4_f92e ∷ 0x3f64_f92e ∷ 0 ∷ 0x3ee4_f92e ∷ 0x3f64_f92e ∷ 0 ∷ 0x3f9c_c471 ∷ 0x3e9c_c471 ∷ 0 ∷ 1 ∷ 1 ∷ 1 ∷ 0x3ee4_f92e ∷ 0x3f64_f92e ∷ 0 ∷ 0x3ee4_f92e ∷ 0x3f64_f92e ∷ 0 ∷ 0x3f9c_c471 ∷ 0x3e9c_c471 ∷ 0 ∷ 1 ∷ 1 ∷ 1 ∷ 0x3ee4_f92e ∷ 0x3f64_f92e ∷ 0 ∷ 0x3ee4_f92e ∷ 0x3f64_f92e ∷ 0 ∷ 0x3f9c_c471 ∷ 0x3e9c_c471 ∷ 0 ∷ 4 ∷ 1 ∷ 1 ∷ 0x3ee4_f92e ∷ 0x3f64_f92e ∷ 0 ∷ 0x3ee4_f92e ∷ 0x3f64_f92e ∷ 0 ∷ 0x3f9c_c471 ∷ 0x3e9c_c471 ∷ 1 ∷ 3 ∷ 1 ∷ 1 ∷ 0x3ee4_f92e ∷ 0x3f64_f92e ∷ 0 ∷ 0x3ee4_f92e ∷ 0x3f64_f92e ∷ 0 ∷ 0x3f9c_c471 ∷ 0x3e9c_c471 ∷ 1 ∷ 3 ∷ 1 ∷ 1 ∷ 0x3ee4_f92e ∷ 0x3f64_f92e ∷ 0 ∷ 0x3ee4_f92e ∷ 0x3f64_f92e ∷ 0 ∷ 0x3f9c_c471 ∷ 0x3e9c_c471 ∷ 1 ∷ 3 ∷ 1 ∷ 1 ∷ 0x3ee4_f92e ∷ 0x3f64_f92e ∷ 0 ∷ 0x3ee4_f92e ∷ 0x3f64_f92e ∷ 0 ∷ 0x3f9c_c471 ∷ 0x3e9c_c471 ∷ 1 ∷ 3 ∷ 1 ∷ 1 ∷ 0x3ee4_f92e ∷ 0x3f64_f92e ∷ 0 ∷ 0x3ee4_f92e ∷ 0x3f64_f92e ∷ 0 ∷ 0x3f9c_c471 ∷ 0x3e9c_c471 ∷ 1 ∷ 1 ∷ 1 ∷ 1 ∷ 0x3ee4_f92e ∷ 0x3f64_f92e ∷ 0 ∷ 0x3ee4_f92e ∷ 0x3f64_f92e ∷ 0 ∷ 0x3f9c_c471 ∷ 0x3e9c_c471 ∷ 1 ∷ 1 ∷ 1 ∷ 1 ∷ 0x3ee4_f92e ∷ 0x3f64_f92e ∷ 0 ∷ 0x3ee4_f92e ∷ 0x3f64_f92e ∷ 0 ∷ 0x3f9c_c471 ∷ 0x3e9c_c471 ∷ 1 ∷ 4 ∷ 1 ∷ 1 ∷ 0x3ee4_f92e ∷ 0x3f64_f92e ∷ 0 ∷ 0x3ee4_f92e ∷ 0x3f64_f92e ∷ 0 ∷ 0x3f9c_c471 ∷ 0x3e9c_c471 ∷ 1 ∷ 1 ∷ 1 ∷ [])
unfolding Root'.root Root'.rooted Root'.sqrt Table'.cosines Table'.c Angle'.greatest Angle'.way_at Angle'.angle Vector'.added Vector'.subtracted Vector'.scaled_by Vector'.negated Vector'.dot Vector'.length_of Vector'.equals Vector'.abs Vector'.counts Vector'.spans Vector'.points Vector'.direction Vector'.or_zero Vector'.unit_of Space'.equals Space'.mean Space'.combine Space'.united Space'.reached Space'.copied Space'.copy_of Slot'.flag Slot'.ten_words Slot'.present Slot'.words Slot'.vector_of Slot'.space_of Slot'.of_origin Slot'.reading_of Word'.is_finite Lists'.keep Lists'.first Lists'.has Lists'.run Mesh'.after Mesh'.before Mesh'.next Mesh'.prior Mesh'.kept Mesh'.corner_of Mesh'.slot_of Mesh'.same_third Mesh'.same_triangle Mesh'.same_spot Handed'.vector_at Handed'.corner_at Handed'.corners_from Handed'.mesh_from Handed'.used Handed'.slots_of Handed'.corner_count Handed'.slot_count Step1Cut'.across² Step1Cut'.apart² Step1Cut'.cut02 Step2Degenerate'.flat Step2Degenerate'.exactly_one Step3Tangents'.turn Step3Tangents'.raw_s Step3Tangents'.raw_t Step3Tangents'.sign_of Step3Tangents'.tangent_at Step3Tangents'.first_order Step3Tangents'.unsure Step3Tangents'.area Step3Tangents'.quad_way Triangles'.make Triangles'.settled Triangles'.agree Triangles'.pair Triangles'.quad Triangles'.usable Triangles'.pieces Triangles'.triangles Step4Order'.is_sound Step4Order'.sound Step4Order'.broken Step4Order'.spots Step4Order'.ordered Step4Order'.same_bits Step4Order'.same_vector Step4Order'.same_numbers Step4Order'.welded Step4Order'.welded_to Step5Links'.end_of Step5Links'.opposite Step5Links'.linked Step5Links'.add_link Step5Links'.link_one Step5Links'.link_all Step5Links'.links Step5Links'.beyond Step6Groups'.grouped Step6Groups'.touched Step6Groups'.way_of Step6Groups'.facing Step6Groups'.stops Step6Groups'.corner_in Step6Groups'.over_to Step6Groups'.over Step6Groups'.going Step6Groups'.walk Step6Groups'.fan Step6Groups'.start_at Step6Groups'.marks Step6Groups'.members Step7Sums'.projected Step7Sums'.close Step7Sums'.joins Step7Sums'.subgroup Step7Sums'.opening Step7Sums'.weighed Step7Sums'.add_spot Step7Sums'.contribute Step7Sums'.finish Step7Sums'.evaluate Step7Sums'.bring Step7Sums'.brought_all Step8Slots'.put Step8Slots'.reading Step9Copies'.copied Step9Copies'.from_sound Step9Copies'.from_kept Step9Copies'.from_marked Step9Copies'.final_of Step9Copies'.nooks Step9Copies'.face_readings Frames'.numbered Frames'.frames_from Frames'.frames_of Frames'.frames Desk'.finite_vector Desk'.finite_corner Desk'.bad_in Desk'.or_else Desk'.bad_corner Desk'.has_normal Desk'.is_there Desk'.or_zero Desk'.too_many Desk'.unfit Desk'.misfit Desk'.table Desk'.verdict Desk'.row_of Outcome'.answer_words Outcome'.accepted Outcome'.answered Outcome'.outcome Shuffle'.corners_of Shuffle'.shares Step5Sorted'.number_of Step5Sorted'.vertex_of Step5Sorted'.side_of Step5Sorted'.sides_from Step5Sorted'.sides Step5Sorted'.may_precede Step5Sorted'.set_in Step5Sorted'.sorted_by Step5Sorted'.sorted_sides Step5Sorted'.sorted_links Step5Sorted'.alike Step5Quick'.next_seed Step5Quick'.swapped Step5Quick'.seek_up Step5Quick'.seek_down Step5Quick'.parted Step5Quick'.paired Step5Quick'.quick Step5Old'.numbers_from Step5Old'.lesser Step5Old'.greater Step5Old'.run_end Step5Old'.last_run Step5Old'.sort_runs Step5Old'.may_stand Step5Old'.old_order Step5Old'.picked Step5Old'.old_sides Step5Old'.same_ends Step5Old'.while Step5Old'.link_runs Step5Old'.old_links Step4Old'.along Step4Old'.least Step4Old'.greatest Step4Old'.box_of Step4Old'.reach Step4Old'.widest Step4Old'.bucket_of Step4Old'.halved Step4Old'.same_values Step4Old'.or_row Step4Old'.merged_here Step4Old'.halfway Step4Old'.way_in Step4Old'.way_of Step4Old'.side_of Step4Old'.merge Step4Old'.merge_runs Step4Old'.bucket_in Step4Old'.merged_rows Step4Old'.tag_of Step4Old'.tagged Step4Old'.merged_with Step4Old'.recornered Step4Old'.merged FramesOld'.seen_as FramesOld'.seen FramesOld'.old_readings FramesOld'.old_frames is_nan add sub mul div neg lt le eq to_bits of_bits round to_unsigned to_signed of_int size units xor flat_map
old-2 = refl

-- 3 sides; corners merged with others of other bits
pub old-3 : Outcome'.answer_words (FramesOld'.old_frames (number 0xbf80_0000) (Handed'.mesh_from (numbers (0xbf800000 ∷ 0 ∷ 0xbf800000 ∷ 0xbf800000 ∷ 0xbf800000 ∷ 0 ∷ 0 ∷ 0x40400000 ∷ 0x3f000000 ∷ 0 ∷ 0x40400000 ∷ 0x3f000000 ∷ 0 ∷ 0x40400000 ∷ 0x3f000000 ∷ 0xbf800000 ∷ 0 ∷ 0xbf800000 ∷ 0xbf800000 ∷ 0 ∷ 0xbf800000 ∷ [])) (numbers (0 ∷ 0 ∷ 0x3f800000 ∷ 0 ∷ 0 ∷ 0x3f800000 ∷ 0 ∷ 0x80000000 ∷ 0x3f800000 ∷ 0x80000000 ∷ 0 ∷ 0x3f800000 ∷ 0 ∷ 0x80000000 ∷ 0x3f800000 ∷ 0 ∷ 0x80000000 ∷ 0x3f800000 ∷ 0 ∷ 0 ∷ 0x3f800000 ∷ [])) (numbers (0x80000000 ∷ 0x40000000 ∷ 0x80000000 ∷ 0xbf800000 ∷ 0x3f000000 ∷ 0x40000000 ∷ 0x3f000000 ∷ 0x40000000 ∷ 0x3f000000 ∷ 0x40000000 ∷ 0x80000000 ∷ 0x40000000 ∷ 0x80000000 ∷ 0x40000000 ∷ [])) 0 (4 ∷ 3 ∷ []))) ≡ (1 ∷ 0x3ea1_e89b ∷ 0x3f72_dce8 ∷ 0 ∷ 0 ∷ 0x3f80_0000 ∷ 0 ∷ 0x40e0_0000 ∷ 0x3ef1_5bef ∷ 1 ∷ 1 ∷ 1 ∷ 1 ∷ 0x3ea1_e89b ∷ 0x3f72_dce8 ∷ 0 ∷ 0 ∷ 0x3f80_0000 ∷ 0 ∷ 0x40e0_0000 ∷ 0x3ef1_5bef ∷ 1 ∷ 1 ∷ 1 ∷ 1 ∷ 0x3ea1_e89b ∷ 0x3f72_dce8 ∷ 0 ∷ 0 ∷ 0x3f80_0000 ∷ 0 ∷ 0x40e0_0000 ∷ 0x3ef1_5bee ∷ 1 ∷ 1 ∷ 1 ∷ 1 ∷ 0x3ea1_e89b ∷ 0x3f72_dce8 ∷ 0 ∷ 0 ∷ 0x3f80_0000 ∷ 0 ∷ 0x40e0_0000 ∷ 0x3ef1_5bee ∷ 1 ∷ 4 ∷ 1 ∷ 1 ∷ 0x3ea1_e89b ∷ 0x3f72_dce8 ∷ 0 ∷ 0 ∷ 0x3f80_0000 ∷ 0 ∷ 0x40e0_0000 ∷ 0x3ef1_5bee ∷ 1 ∷ 3 ∷ 1 ∷ 1 ∷ 0x3ea1_e89b ∷ 0x3f72_dce8 ∷ 0 ∷ 0 ∷ 0x3f80_0000 ∷ 0 ∷ 0x40e0_0000 ∷ 0x3ef1_5bef ∷ 1 ∷ 3 ∷ 1 ∷ 1 ∷ 0x3ea1_e89b ∷ 0x3f72_dce8 ∷ 0 ∷ 0 ∷ 0x3f80_0000 ∷ 0 ∷ 0x40e0_0000 ∷ 0x3ef1_5bef ∷ 1 ∷ 3 ∷ 1 ∷ [])
unfolding Root'.root Root'.rooted Root'.sqrt Table'.cosines Table'.c Angle'.greatest Angle'.way_at Angle'.angle Vector'.added Vector'.subtracted Vector'.scaled_by Vector'.negated Vector'.dot Vector'.length_of Vector'.equals Vector'.abs Vector'.counts Vector'.spans Vector'.points Vector'.direction Vector'.or_zero Vector'.unit_of Space'.equals Space'.mean Space'.combine Space'.united Space'.reached Space'.copied Space'.copy_of Slot'.flag Slot'.ten_words Slot'.present Slot'.words Slot'.vector_of Slot'.space_of Slot'.of_origin Slot'.reading_of Word'.is_finite Lists'.keep Lists'.first Lists'.has Lists'.run Mesh'.after Mesh'.before Mesh'.next Mesh'.prior Mesh'.kept Mesh'.corner_of Mesh'.slot_of Mesh'.same_third Mesh'.same_triangle Mesh'.same_spot Handed'.vector_at Handed'.corner_at Handed'.corners_from Handed'.mesh_from Handed'.used Handed'.slots_of Handed'.corner_count Handed'.slot_count Step1Cut'.across² Step1Cut'.apart² Step1Cut'.cut02 Step2Degenerate'.flat Step2Degenerate'.exactly_one Step3Tangents'.turn Step3Tangents'.raw_s Step3Tangents'.raw_t Step3Tangents'.sign_of Step3Tangents'.tangent_at Step3Tangents'.first_order Step3Tangents'.unsure Step3Tangents'.area Step3Tangents'.quad_way Triangles'.make Triangles'.settled Triangles'.agree Triangles'.pair Triangles'.quad Triangles'.usable Triangles'.pieces Triangles'.triangles Step4Order'.is_sound Step4Order'.sound Step4Order'.broken Step4Order'.spots Step4Order'.ordered Step4Order'.same_bits Step4Order'.same_vector Step4Order'.same_numbers Step4Order'.welded Step4Order'.welded_to Step5Links'.end_of Step5Links'.opposite Step5Links'.linked Step5Links'.add_link Step5Links'.link_one Step5Links'.link_all Step5Links'.links Step5Links'.beyond Step6Groups'.grouped Step6Groups'.touched Step6Groups'.way_of Step6Groups'.facing Step6Groups'.stops Step6Groups'.corner_in Step6Groups'.over_to Step6Groups'.over Step6Groups'.going Step6Groups'.walk Step6Groups'.fan Step6Groups'.start_at Step6Groups'.marks Step6Groups'.members Step7Sums'.projected Step7Sums'.close Step7Sums'.joins Step7Sums'.subgroup Step7Sums'.opening Step7Sums'.weighed Step7Sums'.add_spot Step7Sums'.contribute Step7Sums'.finish Step7Sums'.evaluate Step7Sums'.bring Step7Sums'.brought_all Step8Slots'.put Step8Slots'.reading Step9Copies'.copied Step9Copies'.from_sound Step9Copies'.from_kept Step9Copies'.from_marked Step9Copies'.final_of Step9Copies'.nooks Step9Copies'.face_readings Frames'.numbered Frames'.frames_from Frames'.frames_of Frames'.frames Desk'.finite_vector Desk'.finite_corner Desk'.bad_in Desk'.or_else Desk'.bad_corner Desk'.has_normal Desk'.is_there Desk'.or_zero Desk'.too_many Desk'.unfit Desk'.misfit Desk'.table Desk'.verdict Desk'.row_of Outcome'.answer_words Outcome'.accepted Outcome'.answered Outcome'.outcome Shuffle'.corners_of Shuffle'.shares Step5Sorted'.number_of Step5Sorted'.vertex_of Step5Sorted'.side_of Step5Sorted'.sides_from Step5Sorted'.sides Step5Sorted'.may_precede Step5Sorted'.set_in Step5Sorted'.sorted_by Step5Sorted'.sorted_sides Step5Sorted'.sorted_links Step5Sorted'.alike Step5Quick'.next_seed Step5Quick'.swapped Step5Quick'.seek_up Step5Quick'.seek_down Step5Quick'.parted Step5Quick'.paired Step5Quick'.quick Step5Old'.numbers_from Step5Old'.lesser Step5Old'.greater Step5Old'.run_end Step5Old'.last_run Step5Old'.sort_runs Step5Old'.may_stand Step5Old'.old_order Step5Old'.picked Step5Old'.old_sides Step5Old'.same_ends Step5Old'.while Step5Old'.link_runs Step5Old'.old_links Step4Old'.along Step4Old'.least Step4Old'.greatest Step4Old'.box_of Step4Old'.reach Step4Old'.widest Step4Old'.bucket_of Step4Old'.halved Step4Old'.same_values Step4Old'.or_row Step4Old'.merged_here Step4Old'.halfway Step4Old'.way_in Step4Old'.way_of Step4Old'.side_of Step4Old'.merge Step4Old'.merge_runs Step4Old'.bucket_in Step4Old'.merged_rows Step4Old'.tag_of Step4Old'.tagged Step4Old'.merged_with Step4Old'.recornered Step4Old'.merged FramesOld'.seen_as FramesOld'.seen FramesOld'.old_readings FramesOld'.old_frames is_nan add sub mul div neg lt le eq to_bits of_bits round to_unsigned to_signed of_int size units xor flat_map
old-3 = refl

-- 6 sides; equal corners left unmerged
pub old-4 : Outcome'.answer_words (FramesOld'.old_frames (number 0xbf80_0000) (Handed'.mesh_from (numbers (0x7f5a2bf8 ∷ 0x7f5a2bf8 ∷ 0x3f800000 ∷ 0x800000 ∷ 0x80000001 ∷ 0x3f800000 ∷ 0xff7fc99e ∷ 0x3f800000 ∷ 0x80000001 ∷ 0x3f800000 ∷ 0x800000 ∷ 0xff7fc99e ∷ [])) (numbers (0 ∷ 0 ∷ 0x3f800000 ∷ 0 ∷ 0 ∷ 0x3f800000 ∷ 0 ∷ 0x80000000 ∷ 0x3f800000 ∷ 0 ∷ 0 ∷ 0x3f800000 ∷ [])) (numbers (0 ∷ 1 ∷ 0x7f5a2bf8 ∷ 0x80000001 ∷ 0x80000001 ∷ 0x800000 ∷ 1 ∷ 0x7f7fc99e ∷ [])) 0 (4 ∷ []))) ≡ (0 ∷ 0 ∷ 0 ∷ 0 ∷ 0 ∷ 0 ∷ 0 ∷ 0 ∷ 0 ∷ 0 ∷ 0 ∷ 0 ∷ 0 ∷ 0 ∷ 0 ∷ 0 ∷ 0 ∷ 0 ∷ 0 ∷ 0 ∷ 0 ∷ 0 ∷ 0 ∷ 0 ∷ 0 ∷ 0 ∷ 0 ∷ 0 ∷ 0 ∷ 0 ∷ 0 ∷ 0 ∷ 0 ∷ 0 ∷ 0 ∷ 0 ∷ 0 ∷ 0 ∷ 0 ∷ 0 ∷ 0 ∷ 0 ∷ 0 ∷ 0 ∷ 0 ∷ 0 ∷ 0 ∷ 0 ∷ [])
unfolding Root'.root Root'.rooted Root'.sqrt Table'.cosines Table'.c Angle'.greatest Angle'.way_at Angle'.angle Vector'.added Vector'.subtracted Vector'.scaled_by Vector'.negated Vector'.dot Vector'.length_of Vector'.equals Vector'.abs Vector'.counts Vector'.spans Vector'.points Vector'.direction Vector'.or_zero Vector'.unit_of Space'.equals Space'.mean Space'.combine Space'.united Space'.reached Space'.copied Space'.copy_of Slot'.flag Slot'.ten_words Slot'.present Slot'.words Slot'.vector_of Slot'.space_of Slot'.of_origin Slot'.reading_of Word'.is_finite Lists'.keep Lists'.first Lists'.has Lists'.run Mesh'.after Mesh'.before Mesh'.next Mesh'.prior Mesh'.kept Mesh'.corner_of Mesh'.slot_of Mesh'.same_third Mesh'.same_triangle Mesh'.same_spot Handed'.vector_at Handed'.corner_at Handed'.corners_from Handed'.mesh_from Handed'.used Handed'.slots_of Handed'.corner_count Handed'.slot_count Step1Cut'.across² Step1Cut'.apart² Step1Cut'.cut02 Step2Degenerate'.flat Step2Degenerate'.exactly_one Step3Tangents'.turn Step3Tangents'.raw_s Step3Tangents'.raw_t Step3Tangents'.sign_of Step3Tangents'.tangent_at Step3Tangents'.first_order Step3Tangents'.unsure Step3Tangents'.area Step3Tangents'.quad_way Triangles'.make Triangles'.settled Triangles'.agree Triangles'.pair Triangles'.quad Triangles'.usable Triangles'.pieces Triangles'.triangles Step4Order'.is_sound Step4Order'.sound Step4Order'.broken Step4Order'.spots Step4Order'.ordered Step4Order'.same_bits Step4Order'.same_vector Step4Order'.same_numbers Step4Order'.welded Step4Order'.welded_to Step5Links'.end_of Step5Links'.opposite Step5Links'.linked Step5Links'.add_link Step5Links'.link_one Step5Links'.link_all Step5Links'.links Step5Links'.beyond Step6Groups'.grouped Step6Groups'.touched Step6Groups'.way_of Step6Groups'.facing Step6Groups'.stops Step6Groups'.corner_in Step6Groups'.over_to Step6Groups'.over Step6Groups'.going Step6Groups'.walk Step6Groups'.fan Step6Groups'.start_at Step6Groups'.marks Step6Groups'.members Step7Sums'.projected Step7Sums'.close Step7Sums'.joins Step7Sums'.subgroup Step7Sums'.opening Step7Sums'.weighed Step7Sums'.add_spot Step7Sums'.contribute Step7Sums'.finish Step7Sums'.evaluate Step7Sums'.bring Step7Sums'.brought_all Step8Slots'.put Step8Slots'.reading Step9Copies'.copied Step9Copies'.from_sound Step9Copies'.from_kept Step9Copies'.from_marked Step9Copies'.final_of Step9Copies'.nooks Step9Copies'.face_readings Frames'.numbered Frames'.frames_from Frames'.frames_of Frames'.frames Desk'.finite_vector Desk'.finite_corner Desk'.bad_in Desk'.or_else Desk'.bad_corner Desk'.has_normal Desk'.is_there Desk'.or_zero Desk'.too_many Desk'.unfit Desk'.misfit Desk'.table Desk'.verdict Desk'.row_of Outcome'.answer_words Outcome'.accepted Outcome'.answered Outcome'.outcome Shuffle'.corners_of Shuffle'.shares Step5Sorted'.number_of Step5Sorted'.vertex_of Step5Sorted'.side_of Step5Sorted'.sides_from Step5Sorted'.sides Step5Sorted'.may_precede Step5Sorted'.set_in Step5Sorted'.sorted_by Step5Sorted'.sorted_sides Step5Sorted'.sorted_links Step5Sorted'.alike Step5Quick'.next_seed Step5Quick'.swapped Step5Quick'.seek_up Step5Quick'.seek_down Step5Quick'.parted Step5Quick'.paired Step5Quick'.quick Step5Old'.numbers_from Step5Old'.lesser Step5Old'.greater Step5Old'.run_end Step5Old'.last_run Step5Old'.sort_runs Step5Old'.may_stand Step5Old'.old_order Step5Old'.picked Step5Old'.old_sides Step5Old'.same_ends Step5Old'.while Step5Old'.link_runs Step5Old'.old_links Step4Old'.along Step4Old'.least Step4Old'.greatest Step4Old'.box_of Step4Old'.reach Step4Old'.widest Step4Old'.bucket_of Step4Old'.halved Step4Old'.same_values Step4Old'.or_row Step4Old'.merged_here Step4Old'.halfway Step4Old'.way_in Step4Old'.way_of Step4Old'.side_of Step4Old'.merge Step4Old'.merge_runs Step4Old'.bucket_in Step4Old'.merged_rows Step4Old'.tag_of Step4Old'.tagged Step4Old'.merged_with Step4Old'.recornered Step4Old'.merged FramesOld'.seen_as FramesOld'.seen FramesOld'.old_readings FramesOld'.old_frames is_nan add sub mul div neg lt le eq to_bits of_bits round to_unsigned to_signed of_int size units xor flat_map
old-4 = refl

-- 9 sides; equal corners left unmerged
pub old-5 : Outcome'.answer_words (FramesOld'.old_frames (number 0xbf80_0000) (Handed'.mesh_from (numbers (0x25d77001 ∷ 0x3f800000 ∷ 0x800000 ∷ 0x7f5a2bf8 ∷ 0x80000000 ∷ 0x80000001 ∷ 0x8b819d8c ∷ 0 ∷ 0x3f800000 ∷ 0 ∷ 1 ∷ 0x7f7fc99e ∷ 0 ∷ 1 ∷ 0x7f7fc99e ∷ 0 ∷ 1 ∷ 0x7f7fc99e ∷ 0 ∷ 0x7f7fc99e ∷ 0xff7fc99e ∷ 0x3f800000 ∷ 1 ∷ 0xff7fc99e ∷ 0 ∷ 0x80000000 ∷ 0 ∷ 0x3f800000 ∷ 1 ∷ 0xff7fc99e ∷ 0x7effc99e ∷ 0x80000000 ∷ 0x80000001 ∷ 0x7f5a2bf8 ∷ 0x80000000 ∷ 0x80000001 ∷ [])) (numbers (0 ∷ 0 ∷ 0x3f800000 ∷ 0 ∷ 0 ∷ 0x3f800000 ∷ 0x80000000 ∷ 0x80000000 ∷ 0x3f800000 ∷ 0 ∷ 0 ∷ 0x3f800000 ∷ 0 ∷ 0 ∷ 0x3f800000 ∷ 0 ∷ 0 ∷ 0x3f800000 ∷ 0 ∷ 0 ∷ 0x3f800000 ∷ 0 ∷ 0x80000000 ∷ 0x3f800000 ∷ 0 ∷ 0x80000000 ∷ 0x3f800000 ∷ 0 ∷ 0x80000000 ∷ 0x3f800000 ∷ 0 ∷ 0 ∷ 0x3f800000 ∷ 0 ∷ 0 ∷ 0x3f800000 ∷ [])) (numbers (0x7effc99e ∷ 0 ∷ 1 ∷ 0xff7fc99e ∷ 0x7effc99e ∷ 1 ∷ 0x3f800000 ∷ 0x80000000 ∷ 0x3f800000 ∷ 0x80000000 ∷ 0x3f800000 ∷ 0x80000000 ∷ 0x80000001 ∷ 0x800000 ∷ 0x3f800000 ∷ 0x7f7fc99e ∷ 0x7f5a2bf8 ∷ 0x3f800000 ∷ 0x3f800000 ∷ 0x7f7fc99e ∷ 0x80000000 ∷ 0x80000001 ∷ 1 ∷ 0xff7fc99e ∷ [])) 0 (4 ∷ 5 ∷ 3 ∷ []))) ≡ (0 ∷ 0 ∷ 0 ∷ 0 ∷ 0 ∷ 0 ∷ 0 ∷ 0 ∷ 0 ∷ 0 ∷ 0 ∷ 0 ∷ 0 ∷ 0 ∷ 0 ∷ 0 ∷ 0 ∷ 0 ∷ 0 ∷ 0 ∷ 0 ∷ 0 ∷ 0 ∷ 0 ∷ 0 ∷ 0 ∷ 0 ∷ 0 ∷ 0 ∷ 0 ∷ 0 ∷ 0 ∷ 0 ∷ 0 ∷ 0 ∷ 0 ∷ 0 ∷ 0 ∷ 0 ∷ 0 ∷ 0 ∷ 0 ∷ 0 ∷ 0 ∷ 0 ∷ 0 ∷ 0 ∷ 0 ∷ 0 ∷ 0 ∷ 0 ∷ 0 ∷ 0 ∷ 0 ∷ 0 ∷ 0 ∷ 0 ∷ 0 ∷ 0 ∷ 0 ∷ 0 ∷ 0 ∷ 0 ∷ 0 ∷ 0 ∷ 0 ∷ 0 ∷ 0 ∷ 0 ∷ 0 ∷ 0 ∷ 0 ∷ 0 ∷ 0 ∷ 0 ∷ 0 ∷ 0 ∷ 0 ∷ 0 ∷ 0 ∷ 0 ∷ 0 ∷ 0 ∷ 0 ∷ [])
unfolding Root'.root Root'.rooted Root'.sqrt Table'.cosines Table'.c Angle'.greatest Angle'.way_at Angle'.angle Vector'.added Vector'.subtracted Vector'.scaled_by Vector'.negated Vector'.dot Vector'.length_of Vector'.equals Vector'.abs Vector'.counts Vector'.spans Vector'.points Vector'.direction Vector'.or_zero Vector'.unit_of Space'.equals Space'.mean Space'.combine Space'.united Space'.reached Space'.copied Space'.copy_of Slot'.flag Slot'.ten_words Slot'.present Slot'.words Slot'.vector_of Slot'.space_of Slot'.of_origin Slot'.reading_of Word'.is_finite Lists'.keep Lists'.first Lists'.has Lists'.run Mesh'.after Mesh'.before Mesh'.next Mesh'.prior Mesh'.kept Mesh'.corner_of Mesh'.slot_of Mesh'.same_third Mesh'.same_triangle Mesh'.same_spot Handed'.vector_at Handed'.corner_at Handed'.corners_from Handed'.mesh_from Handed'.used Handed'.slots_of Handed'.corner_count Handed'.slot_count Step1Cut'.across² Step1Cut'.apart² Step1Cut'.cut02 Step2Degenerate'.flat Step2Degenerate'.exactly_one Step3Tangents'.turn Step3Tangents'.raw_s Step3Tangents'.raw_t Step3Tangents'.sign_of Step3Tangents'.tangent_at Step3Tangents'.first_order Step3Tangents'.unsure Step3Tangents'.area Step3Tangents'.quad_way Triangles'.make Triangles'.settled Triangles'.agree Triangles'.pair Triangles'.quad Triangles'.usable Triangles'.pieces Triangles'.triangles Step4Order'.is_sound Step4Order'.sound Step4Order'.broken Step4Order'.spots Step4Order'.ordered Step4Order'.same_bits Step4Order'.same_vector Step4Order'.same_numbers Step4Order'.welded Step4Order'.welded_to Step5Links'.end_of Step5Links'.opposite Step5Links'.linked Step5Links'.add_link Step5Links'.link_one Step5Links'.link_all Step5Links'.links Step5Links'.beyond Step6Groups'.grouped Step6Groups'.touched Step6Groups'.way_of Step6Groups'.facing Step6Groups'.stops Step6Groups'.corner_in Step6Groups'.over_to Step6Groups'.over Step6Groups'.going Step6Groups'.walk Step6Groups'.fan Step6Groups'.start_at Step6Groups'.marks Step6Groups'.members Step7Sums'.projected Step7Sums'.close Step7Sums'.joins Step7Sums'.subgroup Step7Sums'.opening Step7Sums'.weighed Step7Sums'.add_spot Step7Sums'.contribute Step7Sums'.finish Step7Sums'.evaluate Step7Sums'.bring Step7Sums'.brought_all Step8Slots'.put Step8Slots'.reading Step9Copies'.copied Step9Copies'.from_sound Step9Copies'.from_kept Step9Copies'.from_marked Step9Copies'.final_of Step9Copies'.nooks Step9Copies'.face_readings Frames'.numbered Frames'.frames_from Frames'.frames_of Frames'.frames Desk'.finite_vector Desk'.finite_corner Desk'.bad_in Desk'.or_else Desk'.bad_corner Desk'.has_normal Desk'.is_there Desk'.or_zero Desk'.too_many Desk'.unfit Desk'.misfit Desk'.table Desk'.verdict Desk'.row_of Outcome'.answer_words Outcome'.accepted Outcome'.answered Outcome'.outcome Shuffle'.corners_of Shuffle'.shares Step5Sorted'.number_of Step5Sorted'.vertex_of Step5Sorted'.side_of Step5Sorted'.sides_from Step5Sorted'.sides Step5Sorted'.may_precede Step5Sorted'.set_in Step5Sorted'.sorted_by Step5Sorted'.sorted_sides Step5Sorted'.sorted_links Step5Sorted'.alike Step5Quick'.next_seed Step5Quick'.swapped Step5Quick'.seek_up Step5Quick'.seek_down Step5Quick'.parted Step5Quick'.paired Step5Quick'.quick Step5Old'.numbers_from Step5Old'.lesser Step5Old'.greater Step5Old'.run_end Step5Old'.last_run Step5Old'.sort_runs Step5Old'.may_stand Step5Old'.old_order Step5Old'.picked Step5Old'.old_sides Step5Old'.same_ends Step5Old'.while Step5Old'.link_runs Step5Old'.old_links Step4Old'.along Step4Old'.least Step4Old'.greatest Step4Old'.box_of Step4Old'.reach Step4Old'.widest Step4Old'.bucket_of Step4Old'.halved Step4Old'.same_values Step4Old'.or_row Step4Old'.merged_here Step4Old'.halfway Step4Old'.way_in Step4Old'.way_of Step4Old'.side_of Step4Old'.merge Step4Old'.merge_runs Step4Old'.bucket_in Step4Old'.merged_rows Step4Old'.tag_of Step4Old'.tagged Step4Old'.merged_with Step4Old'.recornered Step4Old'.merged FramesOld'.seen_as FramesOld'.seen FramesOld'.old_readings FramesOld'.old_frames is_nan add sub mul div neg lt le eq to_bits of_bits round to_unsigned to_signed of_int size units xor flat_map
old-5 = refl

-- 6 sides; corners merged with others of other bits
pub old-6 : Outcome'.answer_words (FramesOld'.old_frames (number 0xbf80_0000) (Handed'.mesh_from (numbers (0xbf800000 ∷ 0x3f000000 ∷ 0 ∷ 0x80000000 ∷ 0x3f800000 ∷ 0 ∷ 0x3f800000 ∷ 0 ∷ 0 ∷ 0xbf800000 ∷ 0x3f000000 ∷ 0x80000000 ∷ 0x80000000 ∷ 0 ∷ 0 ∷ 0x3f800000 ∷ 0 ∷ 0 ∷ 0x80000000 ∷ 0x3f800000 ∷ 0 ∷ 0xbf800000 ∷ 0x3f000000 ∷ 0x80000000 ∷ 0x80000000 ∷ 0 ∷ 0 ∷ 0x80000000 ∷ 0x3f800000 ∷ 0x40400000 ∷ 0x80000000 ∷ 0 ∷ 0 ∷ [])) (numbers (0x80000000 ∷ 0x80000000 ∷ 0x3f800000 ∷ 0 ∷ 0 ∷ 0x3f800000 ∷ 0 ∷ 0 ∷ 0x3f800000 ∷ 0 ∷ 0x80000000 ∷ 0x3f800000 ∷ 0 ∷ 0 ∷ 0x3f800000 ∷ 0 ∷ 0 ∷ 0x3f800000 ∷ 0x80000000 ∷ 0x80000000 ∷ 0x3f800000 ∷ 0x80000000 ∷ 0 ∷ 0x3f800000 ∷ 0 ∷ 0 ∷ 0x3f800000 ∷ 0 ∷ 0 ∷ 0x3f800000 ∷ 0 ∷ 0 ∷ 0x3f800000 ∷ [])) (numbers (0x3f800000 ∷ 0x40400000 ∷ 0x40400000 ∷ 0x80000000 ∷ 0x3f800000 ∷ 0xbf800000 ∷ 0x3f800000 ∷ 0x40400000 ∷ 0x3f800000 ∷ 0x3f800000 ∷ 0x3f800000 ∷ 0xbf800000 ∷ 0x40400000 ∷ 0x80000000 ∷ 0x3f800000 ∷ 0x40400000 ∷ 0x3f800000 ∷ 0x3f800000 ∷ 0x40000000 ∷ 0 ∷ 0x3f800000 ∷ 0x3f800000 ∷ [])) 0 (4 ∷ 3 ∷ 4 ∷ []))) ≡ (1 ∷ 0xbefe_05ed ∷ 0x3f5e_452e ∷ 0 ∷ 0xbf78_5b42 ∷ 0x3e78_5b42 ∷ 0 ∷ 0x3f00_ff02 ∷ 0x3f03_f07b ∷ 0 ∷ 4 ∷ 1 ∷ 1 ∷ 0xbefe_05eb ∷ 0x3f5e_452e ∷ 0 ∷ 0xbf78_5b42 ∷ 0x3e78_5b42 ∷ 0 ∷ 0x3f00_ff02 ∷ 0x3f03_f07b ∷ 0 ∷ 1 ∷ 1 ∷ 1 ∷ 0xbefe_05ec ∷ 0x3f5e_452f ∷ 0 ∷ 0xbf78_5b42 ∷ 0x3e78_5b42 ∷ 0 ∷ 0x3f00_ff02 ∷ 0x3f03_f07b ∷ 0 ∷ 1 ∷ 1 ∷ 1 ∷ 0xbefe_05ed ∷ 0x3f5e_452e ∷ 0 ∷ 0xbf78_5b42 ∷ 0x3e78_5b42 ∷ 0 ∷ 0x3f00_ff02 ∷ 0x3f03_f07b ∷ 0 ∷ 1 ∷ 1 ∷ 1 ∷ 0xbee4_f92e ∷ 0x3f64_f92e ∷ 0 ∷ 0xbf80_0000 ∷ 0 ∷ 0 ∷ 0x3f0f_1bbd ∷ 0x3f00_0000 ∷ 1 ∷ 1 ∷ 1 ∷ 1 ∷ 0xbee4_f92e ∷ 0x3f64_f92e ∷ 0 ∷ 0xbf80_0000 ∷ 0 ∷ 0 ∷ 0x3f0f_1bbd ∷ 0x3f00_0000 ∷ 1 ∷ 1 ∷ 1 ∷ 1 ∷ 0xbee4_f92e ∷ 0x3f64_f92e ∷ 0 ∷ 0xbf80_0000 ∷ 0 ∷ 0 ∷ 0x3f0f_1bbd ∷ 0x3f00_0000 ∷ 1 ∷ 1 ∷ 1 ∷ 1 ∷ 0xbefe_05ed ∷ 0x3f5e_452e ∷ 0 ∷ 0xbf78_5b42 ∷ 0x3e78_5b42 ∷ 0 ∷ 0x3f00_ff02 ∷ 0x3f03_f07b ∷ 0 ∷ 3 ∷ 1 ∷ 1 ∷ 0xbee4_f92e ∷ 0x3f64_f92e ∷ 0 ∷ 0xbf80_0000 ∷ 0 ∷ 0 ∷ 0x3f0f_1bbd ∷ 0x3f00_0000 ∷ 1 ∷ 3 ∷ 1 ∷ 0 ∷ 0 ∷ 0 ∷ 0 ∷ 0 ∷ 0 ∷ 0 ∷ 0 ∷ 0 ∷ 0 ∷ 0 ∷ 0 ∷ 1 ∷ 0xbee4_f92e ∷ 0x3f64_f92e ∷ 0 ∷ 0xbf80_0000 ∷ 0 ∷ 0 ∷ 0x3f0f_1bbd ∷ 0x3f00_0000 ∷ 1 ∷ 3 ∷ 1 ∷ [])
unfolding Root'.root Root'.rooted Root'.sqrt Table'.cosines Table'.c Angle'.greatest Angle'.way_at Angle'.angle Vector'.added Vector'.subtracted Vector'.scaled_by Vector'.negated Vector'.dot Vector'.length_of Vector'.equals Vector'.abs Vector'.counts Vector'.spans Vector'.points Vector'.direction Vector'.or_zero Vector'.unit_of Space'.equals Space'.mean Space'.combine Space'.united Space'.reached Space'.copied Space'.copy_of Slot'.flag Slot'.ten_words Slot'.present Slot'.words Slot'.vector_of Slot'.space_of Slot'.of_origin Slot'.reading_of Word'.is_finite Lists'.keep Lists'.first Lists'.has Lists'.run Mesh'.after Mesh'.before Mesh'.next Mesh'.prior Mesh'.kept Mesh'.corner_of Mesh'.slot_of Mesh'.same_third Mesh'.same_triangle Mesh'.same_spot Handed'.vector_at Handed'.corner_at Handed'.corners_from Handed'.mesh_from Handed'.used Handed'.slots_of Handed'.corner_count Handed'.slot_count Step1Cut'.across² Step1Cut'.apart² Step1Cut'.cut02 Step2Degenerate'.flat Step2Degenerate'.exactly_one Step3Tangents'.turn Step3Tangents'.raw_s Step3Tangents'.raw_t Step3Tangents'.sign_of Step3Tangents'.tangent_at Step3Tangents'.first_order Step3Tangents'.unsure Step3Tangents'.area Step3Tangents'.quad_way Triangles'.make Triangles'.settled Triangles'.agree Triangles'.pair Triangles'.quad Triangles'.usable Triangles'.pieces Triangles'.triangles Step4Order'.is_sound Step4Order'.sound Step4Order'.broken Step4Order'.spots Step4Order'.ordered Step4Order'.same_bits Step4Order'.same_vector Step4Order'.same_numbers Step4Order'.welded Step4Order'.welded_to Step5Links'.end_of Step5Links'.opposite Step5Links'.linked Step5Links'.add_link Step5Links'.link_one Step5Links'.link_all Step5Links'.links Step5Links'.beyond Step6Groups'.grouped Step6Groups'.touched Step6Groups'.way_of Step6Groups'.facing Step6Groups'.stops Step6Groups'.corner_in Step6Groups'.over_to Step6Groups'.over Step6Groups'.going Step6Groups'.walk Step6Groups'.fan Step6Groups'.start_at Step6Groups'.marks Step6Groups'.members Step7Sums'.projected Step7Sums'.close Step7Sums'.joins Step7Sums'.subgroup Step7Sums'.opening Step7Sums'.weighed Step7Sums'.add_spot Step7Sums'.contribute Step7Sums'.finish Step7Sums'.evaluate Step7Sums'.bring Step7Sums'.brought_all Step8Slots'.put Step8Slots'.reading Step9Copies'.copied Step9Copies'.from_sound Step9Copies'.from_kept Step9Copies'.from_marked Step9Copies'.final_of Step9Copies'.nooks Step9Copies'.face_readings Frames'.numbered Frames'.frames_from Frames'.frames_of Frames'.frames Desk'.finite_vector Desk'.finite_corner Desk'.bad_in Desk'.or_else Desk'.bad_corner Desk'.has_normal Desk'.is_there Desk'.or_zero Desk'.too_many Desk'.unfit Desk'.misfit Desk'.table Desk'.verdict Desk'.row_of Outcome'.answer_words Outcome'.accepted Outcome'.answered Outcome'.outcome Shuffle'.corners_of Shuffle'.shares Step5Sorted'.number_of Step5Sorted'.vertex_of Step5Sorted'.side_of Step5Sorted'.sides_from Step5Sorted'.sides Step5Sorted'.may_precede Step5Sorted'.set_in Step5Sorted'.sorted_by Step5Sorted'.sorted_sides Step5Sorted'.sorted_links Step5Sorted'.alike Step5Quick'.next_seed Step5Quick'.swapped Step5Quick'.seek_up Step5Quick'.seek_down Step5Quick'.parted Step5Quick'.paired Step5Quick'.quick Step5Old'.numbers_from Step5Old'.lesser Step5Old'.greater Step5Old'.run_end Step5Old'.last_run Step5Old'.sort_runs Step5Old'.may_stand Step5Old'.old_order Step5Old'.picked Step5Old'.old_sides Step5Old'.same_ends Step5Old'.while Step5Old'.link_runs Step5Old'.old_links Step4Old'.along Step4Old'.least Step4Old'.greatest Step4Old'.box_of Step4Old'.reach Step4Old'.widest Step4Old'.bucket_of Step4Old'.halved Step4Old'.same_values Step4Old'.or_row Step4Old'.merged_here Step4Old'.halfway Step4Old'.way_in Step4Old'.way_of Step4Old'.side_of Step4Old'.merge Step4Old'.merge_runs Step4Old'.bucket_in Step4Old'.merged_rows Step4Old'.tag_of Step4Old'.tagged Step4Old'.merged_with Step4Old'.recornered Step4Old'.merged FramesOld'.seen_as FramesOld'.seen FramesOld'.old_readings FramesOld'.old_frames is_nan add sub mul div neg lt le eq to_bits of_bits round to_unsigned to_signed of_int size units xor flat_map
old-6 = refl

-- 9 sides; corners merged with others of other bits; sides left out of order; other links than edition 1's
pub old-7 : Outcome'.answer_words (FramesOld'.old_frames (number 0xbf80_0000) (Handed'.mesh_from (numbers (0x40400000 ∷ 0x40000000 ∷ 0 ∷ 0x80000000 ∷ 0x80000000 ∷ 0x80000000 ∷ 0x3f000000 ∷ 0x80000000 ∷ 0 ∷ 0x3f000000 ∷ 0x80000000 ∷ 0x80000000 ∷ 0x80000000 ∷ 0 ∷ 0 ∷ 0x40400000 ∷ 0x40000000 ∷ 0 ∷ 0x40400000 ∷ 0x40000000 ∷ 0x80000000 ∷ 0x3f000000 ∷ 0x80000000 ∷ 0x80000000 ∷ 0x80000000 ∷ 0x80000000 ∷ 0x80000000 ∷ 0x80000000 ∷ 0 ∷ 0x80000000 ∷ 0x3f000000 ∷ 0x80000000 ∷ 0x80000000 ∷ 0x3f000000 ∷ 0x80000000 ∷ 0x80000000 ∷ [])) (numbers (0 ∷ 0 ∷ 0x3f800000 ∷ 0 ∷ 0 ∷ 0x3f800000 ∷ 0 ∷ 0x80000000 ∷ 0x3f800000 ∷ 0 ∷ 0 ∷ 0x3f800000 ∷ 0 ∷ 0 ∷ 0x3f800000 ∷ 0 ∷ 0 ∷ 0x3f800000 ∷ 0 ∷ 0x80000000 ∷ 0x3f800000 ∷ 0 ∷ 0 ∷ 0x3f800000 ∷ 0 ∷ 0 ∷ 0x3f800000 ∷ 0x80000000 ∷ 0x80000000 ∷ 0x3f800000 ∷ 0 ∷ 0 ∷ 0x3f800000 ∷ 0 ∷ 0 ∷ 0x3f800000 ∷ [])) (numbers (0x3f800000 ∷ 0x40400000 ∷ 0x3f000000 ∷ 0x3f800000 ∷ 0x40000000 ∷ 0x3f800000 ∷ 0x40000000 ∷ 0x3f800000 ∷ 0x3f000000 ∷ 0x3f800000 ∷ 0x3f800000 ∷ 0x40400000 ∷ 0x3f800000 ∷ 0x40400000 ∷ 0x40000000 ∷ 0x3f800000 ∷ 0x3f000000 ∷ 0x3f800000 ∷ 0x80000000 ∷ 0x40400000 ∷ 0x40000000 ∷ 0x3f800000 ∷ 0x40000000 ∷ 0x3f800000 ∷ [])) 0 (3 ∷ 3 ∷ 3 ∷ 3 ∷ []))) ≡ (1 ∷ 0x3f80_0000 ∷ 0 ∷ 0 ∷ 0x3f51_24d0 ∷ 0x3f13_a183 ∷ 0 ∷ 0x3eaa_aaab ∷ 0x3fdd_f57f ∷ 1 ∷ 1 ∷ 1 ∷ 1 ∷ 0x3f80_0000 ∷ 0 ∷ 0 ∷ 0x3f51_24cf ∷ 0x3f13_a182 ∷ 0 ∷ 0x3eaa_aaab ∷ 0x3fdd_f580 ∷ 1 ∷ 1 ∷ 1 ∷ 1 ∷ 0x3f80_0000 ∷ 0 ∷ 0 ∷ 0x3f51_24cf ∷ 0x3f13_a182 ∷ 0 ∷ 0x3eaa_aaab ∷ 0x3fdd_f57f ∷ 1 ∷ 1 ∷ 1 ∷ 1 ∷ 0x3f80_0000 ∷ 0 ∷ 0 ∷ 0x3f51_24cf ∷ 0x3f13_a182 ∷ 0 ∷ 0x3eaa_aaab ∷ 0x3fdd_f57f ∷ 0 ∷ 1 ∷ 1 ∷ 1 ∷ 0x3f80_0000 ∷ 0 ∷ 0 ∷ 0x3f51_24cf ∷ 0x3f13_a182 ∷ 0 ∷ 0x3eaa_aaab ∷ 0x3fdd_f580 ∷ 0 ∷ 1 ∷ 1 ∷ 1 ∷ 0x3f80_0000 ∷ 0 ∷ 0 ∷ 0x3f51_24d0 ∷ 0x3f13_a183 ∷ 0 ∷ 0x3eaa_aaab ∷ 0x3fdd_f57f ∷ 0 ∷ 1 ∷ 1 ∷ 1 ∷ 0x3f80_0000 ∷ 0 ∷ 0 ∷ 0x3f51_24d0 ∷ 0x3f13_a183 ∷ 0 ∷ 0x3eaa_aaab ∷ 0x3fdd_f57f ∷ 0 ∷ 1 ∷ 1 ∷ 1 ∷ 0x3f80_0000 ∷ 0 ∷ 0 ∷ 0x3f51_24cf ∷ 0x3f13_a182 ∷ 0 ∷ 0x3eaa_aaab ∷ 0x3fdd_f57f ∷ 0 ∷ 1 ∷ 1 ∷ 1 ∷ 0x3f80_0000 ∷ 0 ∷ 0 ∷ 0x3f51_24cf ∷ 0x3f13_a182 ∷ 0 ∷ 0x3eaa_aaab ∷ 0x3fdd_f580 ∷ 0 ∷ 1 ∷ 1 ∷ 0 ∷ 0 ∷ 0 ∷ 0 ∷ 0 ∷ 0 ∷ 0 ∷ 0 ∷ 0 ∷ 0 ∷ 0 ∷ 0 ∷ 1 ∷ 0x3f80_0000 ∷ 0 ∷ 0 ∷ 0x3f51_24cf ∷ 0x3f13_a182 ∷ 0 ∷ 0x3eaa_aaab ∷ 0x3fdd_f57f ∷ 1 ∷ 3 ∷ 1 ∷ 1 ∷ 0x3f80_0000 ∷ 0 ∷ 0 ∷ 0x3f51_24cf ∷ 0x3f13_a182 ∷ 0 ∷ 0x3eaa_aaab ∷ 0x3fdd_f57f ∷ 1 ∷ 3 ∷ 1 ∷ [])
unfolding Root'.root Root'.rooted Root'.sqrt Table'.cosines Table'.c Angle'.greatest Angle'.way_at Angle'.angle Vector'.added Vector'.subtracted Vector'.scaled_by Vector'.negated Vector'.dot Vector'.length_of Vector'.equals Vector'.abs Vector'.counts Vector'.spans Vector'.points Vector'.direction Vector'.or_zero Vector'.unit_of Space'.equals Space'.mean Space'.combine Space'.united Space'.reached Space'.copied Space'.copy_of Slot'.flag Slot'.ten_words Slot'.present Slot'.words Slot'.vector_of Slot'.space_of Slot'.of_origin Slot'.reading_of Word'.is_finite Lists'.keep Lists'.first Lists'.has Lists'.run Mesh'.after Mesh'.before Mesh'.next Mesh'.prior Mesh'.kept Mesh'.corner_of Mesh'.slot_of Mesh'.same_third Mesh'.same_triangle Mesh'.same_spot Handed'.vector_at Handed'.corner_at Handed'.corners_from Handed'.mesh_from Handed'.used Handed'.slots_of Handed'.corner_count Handed'.slot_count Step1Cut'.across² Step1Cut'.apart² Step1Cut'.cut02 Step2Degenerate'.flat Step2Degenerate'.exactly_one Step3Tangents'.turn Step3Tangents'.raw_s Step3Tangents'.raw_t Step3Tangents'.sign_of Step3Tangents'.tangent_at Step3Tangents'.first_order Step3Tangents'.unsure Step3Tangents'.area Step3Tangents'.quad_way Triangles'.make Triangles'.settled Triangles'.agree Triangles'.pair Triangles'.quad Triangles'.usable Triangles'.pieces Triangles'.triangles Step4Order'.is_sound Step4Order'.sound Step4Order'.broken Step4Order'.spots Step4Order'.ordered Step4Order'.same_bits Step4Order'.same_vector Step4Order'.same_numbers Step4Order'.welded Step4Order'.welded_to Step5Links'.end_of Step5Links'.opposite Step5Links'.linked Step5Links'.add_link Step5Links'.link_one Step5Links'.link_all Step5Links'.links Step5Links'.beyond Step6Groups'.grouped Step6Groups'.touched Step6Groups'.way_of Step6Groups'.facing Step6Groups'.stops Step6Groups'.corner_in Step6Groups'.over_to Step6Groups'.over Step6Groups'.going Step6Groups'.walk Step6Groups'.fan Step6Groups'.start_at Step6Groups'.marks Step6Groups'.members Step7Sums'.projected Step7Sums'.close Step7Sums'.joins Step7Sums'.subgroup Step7Sums'.opening Step7Sums'.weighed Step7Sums'.add_spot Step7Sums'.contribute Step7Sums'.finish Step7Sums'.evaluate Step7Sums'.bring Step7Sums'.brought_all Step8Slots'.put Step8Slots'.reading Step9Copies'.copied Step9Copies'.from_sound Step9Copies'.from_kept Step9Copies'.from_marked Step9Copies'.final_of Step9Copies'.nooks Step9Copies'.face_readings Frames'.numbered Frames'.frames_from Frames'.frames_of Frames'.frames Desk'.finite_vector Desk'.finite_corner Desk'.bad_in Desk'.or_else Desk'.bad_corner Desk'.has_normal Desk'.is_there Desk'.or_zero Desk'.too_many Desk'.unfit Desk'.misfit Desk'.table Desk'.verdict Desk'.row_of Outcome'.answer_words Outcome'.accepted Outcome'.answered Outcome'.outcome Shuffle'.corners_of Shuffle'.shares Step5Sorted'.number_of Step5Sorted'.vertex_of Step5Sorted'.side_of Step5Sorted'.sides_from Step5Sorted'.sides Step5Sorted'.may_precede Step5Sorted'.set_in Step5Sorted'.sorted_by Step5Sorted'.sorted_sides Step5Sorted'.sorted_links Step5Sorted'.alike Step5Quick'.next_seed Step5Quick'.swapped Step5Quick'.seek_up Step5Quick'.seek_down Step5Quick'.parted Step5Quick'.paired Step5Quick'.quick Step5Old'.numbers_from Step5Old'.lesser Step5Old'.greater Step5Old'.run_end Step5Old'.last_run Step5Old'.sort_runs Step5Old'.may_stand Step5Old'.old_order Step5Old'.picked Step5Old'.old_sides Step5Old'.same_ends Step5Old'.while Step5Old'.link_runs Step5Old'.old_links Step4Old'.along Step4Old'.least Step4Old'.greatest Step4Old'.box_of Step4Old'.reach Step4Old'.widest Step4Old'.bucket_of Step4Old'.halved Step4Old'.same_values Step4Old'.or_row Step4Old'.merged_here Step4Old'.halfway Step4Old'.way_in Step4Old'.way_of Step4Old'.side_of Step4Old'.merge Step4Old'.merge_runs Step4Old'.bucket_in Step4Old'.merged_rows Step4Old'.tag_of Step4Old'.tagged Step4Old'.merged_with Step4Old'.recornered Step4Old'.merged FramesOld'.seen_as FramesOld'.seen FramesOld'.old_readings FramesOld'.old_frames is_nan add sub mul div neg lt le eq to_bits of_bits round to_unsigned to_signed of_int size units xor flat_map
old-7 = refl

-- 6 sides; corners merged with others of other bits
pub old-8 : Outcome'.answer_words (FramesOld'.old_frames (number 0xbf80_0000) (Handed'.mesh_from (numbers (0x3f800000 ∷ 0x3f800000 ∷ 0x40400000 ∷ 0x40400000 ∷ 0x40000000 ∷ 0x3f800000 ∷ 0xbf800000 ∷ 0x3f800000 ∷ 0x3f800000 ∷ 0x40400000 ∷ 0x40000000 ∷ 0x3f800000 ∷ 0x3f800000 ∷ 0x40000000 ∷ 0x40400000 ∷ 0xbf800000 ∷ 0x3f800000 ∷ 0x3f800000 ∷ 0x40400000 ∷ 0x40000000 ∷ 0x3f800000 ∷ 0x40400000 ∷ 0x40000000 ∷ 0x3f800000 ∷ 0xbf800000 ∷ 0x3f800000 ∷ 0x3f800000 ∷ 0xbf800000 ∷ 0x3f800000 ∷ 0x3f800000 ∷ [])) (numbers (0 ∷ 0x80000000 ∷ 0x3f800000 ∷ 0 ∷ 0 ∷ 0x3f800000 ∷ 0 ∷ 0 ∷ 0x3f800000 ∷ 0 ∷ 0 ∷ 0x3f800000 ∷ 0 ∷ 0 ∷ 0x3f800000 ∷ 0 ∷ 0 ∷ 0x3f800000 ∷ 0 ∷ 0 ∷ 0x3f800000 ∷ 0x80000000 ∷ 0x80000000 ∷ 0x3f800000 ∷ 0x80000000 ∷ 0x80000000 ∷ 0x3f800000 ∷ 0 ∷ 0 ∷ 0x3f800000 ∷ [])) (numbers (0x3f800000 ∷ 0x3f000000 ∷ 0x3f000000 ∷ 0x40000000 ∷ 0x80000000 ∷ 0xbf800000 ∷ 0x3f000000 ∷ 0x40000000 ∷ 0 ∷ 0 ∷ 0x80000000 ∷ 0xbf800000 ∷ 0x3f000000 ∷ 0x40000000 ∷ 0x3f000000 ∷ 0x40000000 ∷ 0x80000000 ∷ 0xbf800000 ∷ 0x80000000 ∷ 0xbf800000 ∷ [])) 0 (3 ∷ 3 ∷ 4 ∷ []))) ≡ (1 ∷ 0 ∷ 0xbf80_0000 ∷ 0 ∷ 0x3f72_dce9 ∷ 0x3ea1_e89b ∷ 0 ∷ 0x402f_eb4f ∷ 0x3fbc_adda ∷ 1 ∷ 1 ∷ 1 ∷ 1 ∷ 0xbece_feb8 ∷ 0xbf6a_2554 ∷ 0 ∷ 0x3f6c_1dbd ∷ 0x3ec5_d704 ∷ 0 ∷ 0x4104_e582 ∷ 0x4011_f0ce ∷ 1 ∷ 1 ∷ 2 ∷ 1 ∷ 0xbeb8_c3c1 ∷ 0xbf6e_bff8 ∷ 0 ∷ 0x3f6c_e803 ∷ 0x3ec2_0656 ∷ 0 ∷ 0x40f6_b1cc ∷ 0x400c_6620 ∷ 1 ∷ 1 ∷ 2 ∷ 1 ∷ 0xbece_feb8 ∷ 0xbf6a_2554 ∷ 0 ∷ 0x3f6c_1dbd ∷ 0x3ec5_d704 ∷ 0 ∷ 0x4104_e582 ∷ 0x4011_f0ce ∷ 1 ∷ 1 ∷ 2 ∷ 1 ∷ 0xbf35_04f3 ∷ 0xbf35_04f3 ∷ 0 ∷ 0x3f64_f92e ∷ 0x3ee4_f92e ∷ 0 ∷ 0x4154_4394 ∷ 0x4040_0000 ∷ 1 ∷ 1 ∷ 1 ∷ 1 ∷ 0xbeb8_c3c1 ∷ 0xbf6e_bff8 ∷ 0 ∷ 0x3f6c_e803 ∷ 0x3ec2_0656 ∷ 0 ∷ 0x40f6_b1cc ∷ 0x400c_6620 ∷ 1 ∷ 1 ∷ 2 ∷ 1 ∷ 0xbece_feb8 ∷ 0xbf6a_2554 ∷ 0 ∷ 0x3f6c_1dbd ∷ 0x3ec5_d704 ∷ 0 ∷ 0x4104_e582 ∷ 0x4011_f0ce ∷ 1 ∷ 3 ∷ 2 ∷ 1 ∷ 0xbece_feb8 ∷ 0xbf6a_2554 ∷ 0 ∷ 0x3f6c_1dbd ∷ 0x3ec5_d704 ∷ 0 ∷ 0x4104_e582 ∷ 0x4011_f0ce ∷ 1 ∷ 3 ∷ 2 ∷ 1 ∷ 0xbeb8_c3c1 ∷ 0xbf6e_bff8 ∷ 0 ∷ 0x3f6c_e803 ∷ 0x3ec2_0656 ∷ 0 ∷ 0x40f6_b1cc ∷ 0x400c_6620 ∷ 1 ∷ 3 ∷ 2 ∷ 1 ∷ 0xbeb8_c3c1 ∷ 0xbf6e_bff8 ∷ 0 ∷ 0x3f6c_e803 ∷ 0x3ec2_0656 ∷ 0 ∷ 0x40f6_b1cc ∷ 0x400c_6620 ∷ 1 ∷ 3 ∷ 2 ∷ [])
unfolding Root'.root Root'.rooted Root'.sqrt Table'.cosines Table'.c Angle'.greatest Angle'.way_at Angle'.angle Vector'.added Vector'.subtracted Vector'.scaled_by Vector'.negated Vector'.dot Vector'.length_of Vector'.equals Vector'.abs Vector'.counts Vector'.spans Vector'.points Vector'.direction Vector'.or_zero Vector'.unit_of Space'.equals Space'.mean Space'.combine Space'.united Space'.reached Space'.copied Space'.copy_of Slot'.flag Slot'.ten_words Slot'.present Slot'.words Slot'.vector_of Slot'.space_of Slot'.of_origin Slot'.reading_of Word'.is_finite Lists'.keep Lists'.first Lists'.has Lists'.run Mesh'.after Mesh'.before Mesh'.next Mesh'.prior Mesh'.kept Mesh'.corner_of Mesh'.slot_of Mesh'.same_third Mesh'.same_triangle Mesh'.same_spot Handed'.vector_at Handed'.corner_at Handed'.corners_from Handed'.mesh_from Handed'.used Handed'.slots_of Handed'.corner_count Handed'.slot_count Step1Cut'.across² Step1Cut'.apart² Step1Cut'.cut02 Step2Degenerate'.flat Step2Degenerate'.exactly_one Step3Tangents'.turn Step3Tangents'.raw_s Step3Tangents'.raw_t Step3Tangents'.sign_of Step3Tangents'.tangent_at Step3Tangents'.first_order Step3Tangents'.unsure Step3Tangents'.area Step3Tangents'.quad_way Triangles'.make Triangles'.settled Triangles'.agree Triangles'.pair Triangles'.quad Triangles'.usable Triangles'.pieces Triangles'.triangles Step4Order'.is_sound Step4Order'.sound Step4Order'.broken Step4Order'.spots Step4Order'.ordered Step4Order'.same_bits Step4Order'.same_vector Step4Order'.same_numbers Step4Order'.welded Step4Order'.welded_to Step5Links'.end_of Step5Links'.opposite Step5Links'.linked Step5Links'.add_link Step5Links'.link_one Step5Links'.link_all Step5Links'.links Step5Links'.beyond Step6Groups'.grouped Step6Groups'.touched Step6Groups'.way_of Step6Groups'.facing Step6Groups'.stops Step6Groups'.corner_in Step6Groups'.over_to Step6Groups'.over Step6Groups'.going Step6Groups'.walk Step6Groups'.fan Step6Groups'.start_at Step6Groups'.marks Step6Groups'.members Step7Sums'.projected Step7Sums'.close Step7Sums'.joins Step7Sums'.subgroup Step7Sums'.opening Step7Sums'.weighed Step7Sums'.add_spot Step7Sums'.contribute Step7Sums'.finish Step7Sums'.evaluate Step7Sums'.bring Step7Sums'.brought_all Step8Slots'.put Step8Slots'.reading Step9Copies'.copied Step9Copies'.from_sound Step9Copies'.from_kept Step9Copies'.from_marked Step9Copies'.final_of Step9Copies'.nooks Step9Copies'.face_readings Frames'.numbered Frames'.frames_from Frames'.frames_of Frames'.frames Desk'.finite_vector Desk'.finite_corner Desk'.bad_in Desk'.or_else Desk'.bad_corner Desk'.has_normal Desk'.is_there Desk'.or_zero Desk'.too_many Desk'.unfit Desk'.misfit Desk'.table Desk'.verdict Desk'.row_of Outcome'.answer_words Outcome'.accepted Outcome'.answered Outcome'.outcome Shuffle'.corners_of Shuffle'.shares Step5Sorted'.number_of Step5Sorted'.vertex_of Step5Sorted'.side_of Step5Sorted'.sides_from Step5Sorted'.sides Step5Sorted'.may_precede Step5Sorted'.set_in Step5Sorted'.sorted_by Step5Sorted'.sorted_sides Step5Sorted'.sorted_links Step5Sorted'.alike Step5Quick'.next_seed Step5Quick'.swapped Step5Quick'.seek_up Step5Quick'.seek_down Step5Quick'.parted Step5Quick'.paired Step5Quick'.quick Step5Old'.numbers_from Step5Old'.lesser Step5Old'.greater Step5Old'.run_end Step5Old'.last_run Step5Old'.sort_runs Step5Old'.may_stand Step5Old'.old_order Step5Old'.picked Step5Old'.old_sides Step5Old'.same_ends Step5Old'.while Step5Old'.link_runs Step5Old'.old_links Step4Old'.along Step4Old'.least Step4Old'.greatest Step4Old'.box_of Step4Old'.reach Step4Old'.widest Step4Old'.bucket_of Step4Old'.halved Step4Old'.same_values Step4Old'.or_row Step4Old'.merged_here Step4Old'.halfway Step4Old'.way_in Step4Old'.way_of Step4Old'.side_of Step4Old'.merge Step4Old'.merge_runs Step4Old'.bucket_in Step4Old'.merged_rows Step4Old'.tag_of Step4Old'.tagged Step4Old'.merged_with Step4Old'.recornered Step4Old'.merged FramesOld'.seen_as FramesOld'.seen FramesOld'.old_readings FramesOld'.old_frames is_nan add sub mul div neg lt le eq to_bits of_bits round to_unsigned to_signed of_int size units xor flat_map
old-8 = refl

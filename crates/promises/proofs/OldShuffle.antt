-- Demand 3 does not hold of the old edition: three shuffles, computed. Assumes nothing.
use Prim.Native.Nat.{ℕ}
use native.Mathlib.Omega.{arith}
use mathlib.Core.Path.{refl, sym, ◌∙◌, ap}
use mathlib.Core.Bool.{Bool, true, false, xor}
use mathlib.Core.List.{List, [], ◌∷◌, flat_map}
use lib.ListN.{get_or}
use lib.Ieee.{is_nan, add, sub, mul, div, neg, lt, le, eq, to_bits, of_bits, round, to_unsigned, to_signed, of_int, size, units}
use Rattle.root.specs.Root as Root'
use Rattle.angle.specs.Table as Table'
use Rattle.angle.specs.Angle as Angle'
use Rattle.math.specs.Vector as Vector'
use Rattle.tangent.specs.Space as Space'
use Rattle.tangent.specs.Slot as Slot'
use Rattle.bits.specs.Word as Word'
use Rattle.lists.specs.Lists as Lists'
use Rattle.definition.specs.Mesh as Mesh'
use Rattle.definition.specs.Handed as Handed'
use Rattle.definition.specs.Step1Cut as Step1Cut'
use Rattle.definition.specs.Step2Degenerate as Step2Degenerate'
use Rattle.definition.specs.Step3Tangents as Step3Tangents'
use Rattle.definition.specs.Triangles as Triangles'
use Rattle.definition.specs.Step4Order as Step4Order'
use Rattle.definition.specs.Step5Links as Step5Links'
use Rattle.definition.specs.Step6Groups as Step6Groups'
use Rattle.definition.specs.Step7Sums as Step7Sums'
use Rattle.definition.specs.Step8Slots as Step8Slots'
use Rattle.definition.specs.Step9Copies as Step9Copies'
use Rattle.definition.specs.Frames as Frames'
use Rattle.definition.specs.Desk as Desk'
use Rattle.definition.specs.Outcome as Outcome'
use Rattle.definition.specs.Shuffle as Shuffle'
use Rattle.definition.specs.Step5Sorted as Step5Sorted'
use Rattle.definition.specs.Step5Quick as Step5Quick'
use Rattle.definition.specs.Step5Old as Step5Old'
use Rattle.definition.specs.Step4Old as Step4Old'
use Rattle.definition.specs.FramesOld as FramesOld'
use Rattle.definition.specs.Editions as Editions'
use Rattle.definition.specs.declared.Corner.{Corner}
use Rattle.definition.specs.Handed.{Call}
use Rattle.definition.specs.Shuffle.{done, left, right, shares}
use Rattle.definition.specs.Editions.{corrected, old, outcome_in}
use Rattle.promises.specs.Calls.{slots_before, face_answer}
use Rattle.promises.specs.Small.{lying, up, triangle, fan_first}
use Rattle.promises.specs.Demand3.{left_at}
use Rattle.promises.specs.Demand3 as Demand3
use Rattle.promises.specs.OldShuffle.{Claimed, shares_equal, Differs, below, below_texture, signs_second, signs, high, high_texture, wide, plain, far_first, far_second, far, folded, folded_texture, beside, unsorted_first, unsorted_second, unsorted, Promised}
use Rattle.promises.proofs.Demand3.{demand3}
use Rattle.promises.proofs.Editions.{leaves-corrected}

-- a shuffle in which a word differs is one of which demand 3 is not true
refuted : {e : ℕ} {sharing : List (List Corner) → List (List Corner) → Bool} {p : List Bool} {a b m : Call} {n w alone among : ℕ} → Differs e sharing p a b m n w alone among → Claimed e sharing → ⊥
unfolding Claimed
refuted {e} {sharing} {p} {a} {b} {m} {n} {w} D c =
    let d = c p a b m (outcome_in e a) (outcome_in e b) (outcome_in e m) refl refl refl D.shuffle D.apart D.thresholds.0 D.thresholds.1 D.accepted.0 D.accepted.1 D.accepted.2 in
    D.other (sym D.word_alone ∙ (ap (λ (l : List ℕ). get_or l w 0) (sym (d.first n D.face)) ∙ D.word_among))

-- the corrected edition's
holds : Claimed corrected shares
unfolding Claimed Demand3.Promised
holds p a b m ra rb rm qa qb qm = demand3 p a b m ra rb rm (qa ∙ sym (leaves-corrected a)) (qb ∙ sym (leaves-corrected b)) (qm ∙ sym (leaves-corrected m))

-- ---- the three shuffles, computed

by_signs : Differs old shares (true ∷ false ∷ []) fan_first signs_second signs 0 8 0x3eaa_aaab 0x3ed5_5555
unfolding Root'.root Root'.rooted Root'.sqrt Table'.cosines Table'.c Angle'.greatest Angle'.way_at Angle'.angle Vector'.added Vector'.subtracted Vector'.scaled_by Vector'.negated Vector'.dot Vector'.length_of Vector'.equals Vector'.abs Vector'.counts Vector'.spans Vector'.points Vector'.direction Vector'.or_zero Vector'.unit_of Space'.equals Space'.mean Space'.combine Space'.united Space'.reached Space'.copied Space'.copy_of Slot'.flag Slot'.ten_words Slot'.present Slot'.words Slot'.vector_of Slot'.space_of Slot'.of_origin Slot'.reading_of Word'.is_finite Lists'.keep Lists'.first Lists'.has Lists'.run Mesh'.after Mesh'.before Mesh'.next Mesh'.prior Mesh'.kept Mesh'.corner_of Mesh'.slot_of Mesh'.same_third Mesh'.same_triangle Mesh'.same_spot Handed'.vector_at Handed'.corner_at Handed'.corners_from Handed'.mesh_from Handed'.used Handed'.slots_of Handed'.corner_count Handed'.slot_count Step1Cut'.across² Step1Cut'.apart² Step1Cut'.cut02 Step2Degenerate'.flat Step2Degenerate'.exactly_one Step3Tangents'.turn Step3Tangents'.raw_s Step3Tangents'.raw_t Step3Tangents'.sign_of Step3Tangents'.tangent_at Step3Tangents'.first_order Step3Tangents'.unsure Step3Tangents'.area Step3Tangents'.quad_way Triangles'.make Triangles'.settled Triangles'.agree Triangles'.pair Triangles'.quad Triangles'.usable Triangles'.pieces Triangles'.triangles Step4Order'.is_sound Step4Order'.sound Step4Order'.broken Step4Order'.spots Step4Order'.ordered Step4Order'.same_bits Step4Order'.same_vector Step4Order'.same_numbers Step4Order'.welded Step4Order'.welded_to Step5Links'.end_of Step5Links'.opposite Step5Links'.linked Step5Links'.add_link Step5Links'.link_one Step5Links'.link_all Step5Links'.links Step5Links'.beyond Step6Groups'.grouped Step6Groups'.touched Step6Groups'.way_of Step6Groups'.facing Step6Groups'.stops Step6Groups'.corner_in Step6Groups'.over_to Step6Groups'.over Step6Groups'.going Step6Groups'.walk Step6Groups'.fan Step6Groups'.start_at Step6Groups'.marks Step6Groups'.members Step7Sums'.projected Step7Sums'.close Step7Sums'.joins Step7Sums'.subgroup Step7Sums'.opening Step7Sums'.weighed Step7Sums'.add_spot Step7Sums'.contribute Step7Sums'.finish Step7Sums'.evaluate Step7Sums'.bring Step7Sums'.brought_all Step8Slots'.put Step8Slots'.reading Step9Copies'.copied Step9Copies'.from_sound Step9Copies'.from_kept Step9Copies'.from_marked Step9Copies'.final_of Step9Copies'.nooks Step9Copies'.face_readings Frames'.numbered Frames'.frames_from Frames'.frames_of Frames'.frames Desk'.finite_vector Desk'.finite_corner Desk'.bad_in Desk'.or_else Desk'.bad_corner Desk'.has_normal Desk'.is_there Desk'.or_zero Desk'.too_many Desk'.unfit Desk'.misfit Desk'.table Desk'.verdict Desk'.row_of Outcome'.answer_words Outcome'.accepted Outcome'.answered Outcome'.outcome Shuffle'.corners_of Shuffle'.shares Step5Sorted'.number_of Step5Sorted'.vertex_of Step5Sorted'.side_of Step5Sorted'.sides_from Step5Sorted'.sides Step5Sorted'.may_precede Step5Sorted'.set_in Step5Sorted'.sorted_by Step5Sorted'.sorted_sides Step5Sorted'.sorted_links Step5Sorted'.alike Step5Quick'.next_seed Step5Quick'.swapped Step5Quick'.seek_up Step5Quick'.seek_down Step5Quick'.parted Step5Quick'.paired Step5Quick'.quick Step5Old'.numbers_from Step5Old'.lesser Step5Old'.greater Step5Old'.run_end Step5Old'.last_run Step5Old'.sort_runs Step5Old'.may_stand Step5Old'.old_order Step5Old'.picked Step5Old'.old_sides Step5Old'.same_ends Step5Old'.while Step5Old'.link_runs Step5Old'.old_links Step4Old'.along Step4Old'.least Step4Old'.greatest Step4Old'.box_of Step4Old'.reach Step4Old'.widest Step4Old'.bucket_of Step4Old'.halved Step4Old'.same_values Step4Old'.or_row Step4Old'.merged_here Step4Old'.halfway Step4Old'.way_in Step4Old'.way_of Step4Old'.side_of Step4Old'.merge Step4Old'.merge_runs Step4Old'.bucket_in Step4Old'.merged_rows Step4Old'.tag_of Step4Old'.tagged Step4Old'.merged_with Step4Old'.recornered Step4Old'.merged FramesOld'.seen_as FramesOld'.seen FramesOld'.old_readings FramesOld'.old_frames is_nan add sub mul div neg lt le eq to_bits of_bits round to_unsigned to_signed of_int size units xor flat_map Editions'.is_edition Editions'.frames_in Editions'.table_in Editions'.verdict_in Editions'.accepted_in Editions'.outcome_in lying up face_answer slots_before left_at triangle fan_first below below_texture signs_second signs
by_signs = record { shuffle = left (right done); apart = refl; thresholds = (refl, refl); accepted = (refl, refl, refl); face = omega arith; word_alone = refl; word_among = refl; other = λ z. omega (arith, z) }

by_far : Differs old shares_equal (true ∷ true ∷ false ∷ []) far_first far_second far 0 8 0x3ed5_5555 0x3eaa_aaab
unfolding Root'.root Root'.rooted Root'.sqrt Table'.cosines Table'.c Angle'.greatest Angle'.way_at Angle'.angle Vector'.added Vector'.subtracted Vector'.scaled_by Vector'.negated Vector'.dot Vector'.length_of Vector'.equals Vector'.abs Vector'.counts Vector'.spans Vector'.points Vector'.direction Vector'.or_zero Vector'.unit_of Space'.equals Space'.mean Space'.combine Space'.united Space'.reached Space'.copied Space'.copy_of Slot'.flag Slot'.ten_words Slot'.present Slot'.words Slot'.vector_of Slot'.space_of Slot'.of_origin Slot'.reading_of Word'.is_finite Lists'.keep Lists'.first Lists'.has Lists'.run Mesh'.after Mesh'.before Mesh'.next Mesh'.prior Mesh'.kept Mesh'.corner_of Mesh'.slot_of Mesh'.same_third Mesh'.same_triangle Mesh'.same_spot Handed'.vector_at Handed'.corner_at Handed'.corners_from Handed'.mesh_from Handed'.used Handed'.slots_of Handed'.corner_count Handed'.slot_count Step1Cut'.across² Step1Cut'.apart² Step1Cut'.cut02 Step2Degenerate'.flat Step2Degenerate'.exactly_one Step3Tangents'.turn Step3Tangents'.raw_s Step3Tangents'.raw_t Step3Tangents'.sign_of Step3Tangents'.tangent_at Step3Tangents'.first_order Step3Tangents'.unsure Step3Tangents'.area Step3Tangents'.quad_way Triangles'.make Triangles'.settled Triangles'.agree Triangles'.pair Triangles'.quad Triangles'.usable Triangles'.pieces Triangles'.triangles Step4Order'.is_sound Step4Order'.sound Step4Order'.broken Step4Order'.spots Step4Order'.ordered Step4Order'.same_bits Step4Order'.same_vector Step4Order'.same_numbers Step4Order'.welded Step4Order'.welded_to Step5Links'.end_of Step5Links'.opposite Step5Links'.linked Step5Links'.add_link Step5Links'.link_one Step5Links'.link_all Step5Links'.links Step5Links'.beyond Step6Groups'.grouped Step6Groups'.touched Step6Groups'.way_of Step6Groups'.facing Step6Groups'.stops Step6Groups'.corner_in Step6Groups'.over_to Step6Groups'.over Step6Groups'.going Step6Groups'.walk Step6Groups'.fan Step6Groups'.start_at Step6Groups'.marks Step6Groups'.members Step7Sums'.projected Step7Sums'.close Step7Sums'.joins Step7Sums'.subgroup Step7Sums'.opening Step7Sums'.weighed Step7Sums'.add_spot Step7Sums'.contribute Step7Sums'.finish Step7Sums'.evaluate Step7Sums'.bring Step7Sums'.brought_all Step8Slots'.put Step8Slots'.reading Step9Copies'.copied Step9Copies'.from_sound Step9Copies'.from_kept Step9Copies'.from_marked Step9Copies'.final_of Step9Copies'.nooks Step9Copies'.face_readings Frames'.numbered Frames'.frames_from Frames'.frames_of Frames'.frames Desk'.finite_vector Desk'.finite_corner Desk'.bad_in Desk'.or_else Desk'.bad_corner Desk'.has_normal Desk'.is_there Desk'.or_zero Desk'.too_many Desk'.unfit Desk'.misfit Desk'.table Desk'.verdict Desk'.row_of Outcome'.answer_words Outcome'.accepted Outcome'.answered Outcome'.outcome Shuffle'.corners_of Shuffle'.shares Step5Sorted'.number_of Step5Sorted'.vertex_of Step5Sorted'.side_of Step5Sorted'.sides_from Step5Sorted'.sides Step5Sorted'.may_precede Step5Sorted'.set_in Step5Sorted'.sorted_by Step5Sorted'.sorted_sides Step5Sorted'.sorted_links Step5Sorted'.alike Step5Quick'.next_seed Step5Quick'.swapped Step5Quick'.seek_up Step5Quick'.seek_down Step5Quick'.parted Step5Quick'.paired Step5Quick'.quick Step5Old'.numbers_from Step5Old'.lesser Step5Old'.greater Step5Old'.run_end Step5Old'.last_run Step5Old'.sort_runs Step5Old'.may_stand Step5Old'.old_order Step5Old'.picked Step5Old'.old_sides Step5Old'.same_ends Step5Old'.while Step5Old'.link_runs Step5Old'.old_links Step4Old'.along Step4Old'.least Step4Old'.greatest Step4Old'.box_of Step4Old'.reach Step4Old'.widest Step4Old'.bucket_of Step4Old'.halved Step4Old'.same_values Step4Old'.or_row Step4Old'.merged_here Step4Old'.halfway Step4Old'.way_in Step4Old'.way_of Step4Old'.side_of Step4Old'.merge Step4Old'.merge_runs Step4Old'.bucket_in Step4Old'.merged_rows Step4Old'.tag_of Step4Old'.tagged Step4Old'.merged_with Step4Old'.recornered Step4Old'.merged FramesOld'.seen_as FramesOld'.seen FramesOld'.old_readings FramesOld'.old_frames is_nan add sub mul div neg lt le eq to_bits of_bits round to_unsigned to_signed of_int size units xor flat_map Editions'.is_edition Editions'.frames_in Editions'.table_in Editions'.verdict_in Editions'.accepted_in Editions'.outcome_in lying up face_answer slots_before left_at shares_equal high high_texture wide plain far_first far_second far
by_far = record { shuffle = left (left (right done)); apart = refl; thresholds = (refl, refl); accepted = (refl, refl, refl); face = omega arith; word_alone = refl; word_among = refl; other = λ z. omega (arith, z) }

by_unsorted : Differs old shares_equal (true ∷ true ∷ false ∷ []) unsorted_first unsorted_second unsorted 0 13 0 0xbf80_0000
unfolding Root'.root Root'.rooted Root'.sqrt Table'.cosines Table'.c Angle'.greatest Angle'.way_at Angle'.angle Vector'.added Vector'.subtracted Vector'.scaled_by Vector'.negated Vector'.dot Vector'.length_of Vector'.equals Vector'.abs Vector'.counts Vector'.spans Vector'.points Vector'.direction Vector'.or_zero Vector'.unit_of Space'.equals Space'.mean Space'.combine Space'.united Space'.reached Space'.copied Space'.copy_of Slot'.flag Slot'.ten_words Slot'.present Slot'.words Slot'.vector_of Slot'.space_of Slot'.of_origin Slot'.reading_of Word'.is_finite Lists'.keep Lists'.first Lists'.has Lists'.run Mesh'.after Mesh'.before Mesh'.next Mesh'.prior Mesh'.kept Mesh'.corner_of Mesh'.slot_of Mesh'.same_third Mesh'.same_triangle Mesh'.same_spot Handed'.vector_at Handed'.corner_at Handed'.corners_from Handed'.mesh_from Handed'.used Handed'.slots_of Handed'.corner_count Handed'.slot_count Step1Cut'.across² Step1Cut'.apart² Step1Cut'.cut02 Step2Degenerate'.flat Step2Degenerate'.exactly_one Step3Tangents'.turn Step3Tangents'.raw_s Step3Tangents'.raw_t Step3Tangents'.sign_of Step3Tangents'.tangent_at Step3Tangents'.first_order Step3Tangents'.unsure Step3Tangents'.area Step3Tangents'.quad_way Triangles'.make Triangles'.settled Triangles'.agree Triangles'.pair Triangles'.quad Triangles'.usable Triangles'.pieces Triangles'.triangles Step4Order'.is_sound Step4Order'.sound Step4Order'.broken Step4Order'.spots Step4Order'.ordered Step4Order'.same_bits Step4Order'.same_vector Step4Order'.same_numbers Step4Order'.welded Step4Order'.welded_to Step5Links'.end_of Step5Links'.opposite Step5Links'.linked Step5Links'.add_link Step5Links'.link_one Step5Links'.link_all Step5Links'.links Step5Links'.beyond Step6Groups'.grouped Step6Groups'.touched Step6Groups'.way_of Step6Groups'.facing Step6Groups'.stops Step6Groups'.corner_in Step6Groups'.over_to Step6Groups'.over Step6Groups'.going Step6Groups'.walk Step6Groups'.fan Step6Groups'.start_at Step6Groups'.marks Step6Groups'.members Step7Sums'.projected Step7Sums'.close Step7Sums'.joins Step7Sums'.subgroup Step7Sums'.opening Step7Sums'.weighed Step7Sums'.add_spot Step7Sums'.contribute Step7Sums'.finish Step7Sums'.evaluate Step7Sums'.bring Step7Sums'.brought_all Step8Slots'.put Step8Slots'.reading Step9Copies'.copied Step9Copies'.from_sound Step9Copies'.from_kept Step9Copies'.from_marked Step9Copies'.final_of Step9Copies'.nooks Step9Copies'.face_readings Frames'.numbered Frames'.frames_from Frames'.frames_of Frames'.frames Desk'.finite_vector Desk'.finite_corner Desk'.bad_in Desk'.or_else Desk'.bad_corner Desk'.has_normal Desk'.is_there Desk'.or_zero Desk'.too_many Desk'.unfit Desk'.misfit Desk'.table Desk'.verdict Desk'.row_of Outcome'.answer_words Outcome'.accepted Outcome'.answered Outcome'.outcome Shuffle'.corners_of Shuffle'.shares Step5Sorted'.number_of Step5Sorted'.vertex_of Step5Sorted'.side_of Step5Sorted'.sides_from Step5Sorted'.sides Step5Sorted'.may_precede Step5Sorted'.set_in Step5Sorted'.sorted_by Step5Sorted'.sorted_sides Step5Sorted'.sorted_links Step5Sorted'.alike Step5Quick'.next_seed Step5Quick'.swapped Step5Quick'.seek_up Step5Quick'.seek_down Step5Quick'.parted Step5Quick'.paired Step5Quick'.quick Step5Old'.numbers_from Step5Old'.lesser Step5Old'.greater Step5Old'.run_end Step5Old'.last_run Step5Old'.sort_runs Step5Old'.may_stand Step5Old'.old_order Step5Old'.picked Step5Old'.old_sides Step5Old'.same_ends Step5Old'.while Step5Old'.link_runs Step5Old'.old_links Step4Old'.along Step4Old'.least Step4Old'.greatest Step4Old'.box_of Step4Old'.reach Step4Old'.widest Step4Old'.bucket_of Step4Old'.halved Step4Old'.same_values Step4Old'.or_row Step4Old'.merged_here Step4Old'.halfway Step4Old'.way_in Step4Old'.way_of Step4Old'.side_of Step4Old'.merge Step4Old'.merge_runs Step4Old'.bucket_in Step4Old'.merged_rows Step4Old'.tag_of Step4Old'.tagged Step4Old'.merged_with Step4Old'.recornered Step4Old'.merged FramesOld'.seen_as FramesOld'.seen FramesOld'.old_readings FramesOld'.old_frames is_nan add sub mul div neg lt le eq to_bits of_bits round to_unsigned to_signed of_int size units xor flat_map Editions'.is_edition Editions'.frames_in Editions'.table_in Editions'.verdict_in Editions'.accepted_in Editions'.outcome_in lying up face_answer slots_before left_at shares_equal folded folded_texture beside plain unsorted_first unsorted_second unsorted
by_unsorted = record { shuffle = left (left (right done)); apart = refl; thresholds = (refl, refl); accepted = (refl, refl, refl); face = omega arith; word_alone = refl; word_among = refl; other = λ z. omega (arith, z) }

pub old_shuffle : Promised
old_shuffle = record { holds = holds; by_signs = by_signs; by_far = by_far; by_unsorted = by_unsorted; not_by_bits = refuted by_signs; not_by_values = refuted by_unsorted }

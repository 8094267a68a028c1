-- Document 01's samples, computed from the definitions. Written by tools/samples.py. Assumes nothing.
use Prim.Native.Nat.{ℕ}
use mathlib.Core.Path.{◌≡◌, refl}
use mathlib.Core.Bool.{Bool, true, false, not, ◌&&◌, xor}
use mathlib.Core.List.{List, [], ◌∷◌, ◌++◌, map, flat_map}
use lib.Dec.{eqb}
use lib.ListN.{take, drop, replicate}
use lib.IntN.{ℤ, pos, neg_ℤ}
use lib.Signed.{le_z}
use lib.Ieee.{Float, nan, is_nan, add, sub, mul, div, neg, lt, le, eq, to_bits, of_bits, round, to_unsigned, to_signed, of_int, size, units}
use Rattle.bits.specs.Word.{word, number}
use Rattle.math.specs.Vector.{vec}
use Rattle.tangent.specs.declared.Reading.TheVariants.{Absent}
use Rattle.definition.specs.Handed.{handed, call}
use Rattle.definition.specs.Desk.{shown}
use Rattle.root.specs.Root as Root'
use Rattle.angle.specs.Table as Table'
use Rattle.angle.specs.Angle as Angle'
use Rattle.math.specs.Vector as Vector'
use Rattle.tangent.specs.Space as Space'
use Rattle.tangent.specs.Slot as Slot'
use Rattle.bits.specs.Word as Word'
use Rattle.lists.specs.Lists as Lists'
use Rattle.definition.specs.Mesh as Mesh'
use Rattle.definition.specs.Handed as Handed'
use Rattle.definition.specs.Step1Cut as Step1Cut'
use Rattle.definition.specs.Step2Degenerate as Step2Degenerate'
use Rattle.definition.specs.Step3Tangents as Step3Tangents'
use Rattle.definition.specs.Triangles as Triangles'
use Rattle.definition.specs.Step4Order as Step4Order'
use Rattle.definition.specs.Step5Links as Step5Links'
use Rattle.definition.specs.Step6Groups as Step6Groups'
use Rattle.definition.specs.Step7Sums as Step7Sums'
use Rattle.definition.specs.Step8Slots as Step8Slots'
use Rattle.definition.specs.Step9Copies as Step9Copies'
use Rattle.definition.specs.Frames as Frames'
use Rattle.definition.specs.Desk as Desk'
use Rattle.definition.specs.Outcome as Outcome'
use Rattle.definition.specs.Shuffle as Shuffle'

-- numbers, by their bits
abbrev numbers : List ℕ → List Float
numbers l = map number l

-- the same words
unfoldable same_words : List ℕ → List ℕ → Bool
same_words [] [] = true
same_words [] (y ∷ m) = false
same_words (x ∷ l) [] = false
same_words (x ∷ l) (y ∷ m) = eqb x y && same_words l m

-- what stands past 36 words of the answer list and 128 of the work list
abbrev untouched : Outcome'.Result → List ℕ
untouched r = drop 36 r.answer ++ drop 128 r.work

-- the same whole number
abbrev same_whole : ℤ → ℤ → Bool
same_whole a b = le_z a b && le_z b a

-- the samples marked *, as tests, in document 01's order; then, for each slip that was seen coming, what tells it from the rule
pub starred : List Bool
starred =
    (Step2Degenerate'.flat (record { place = (vec (number 0) (number 0) (number 0)); normal = (vec (number 0) (number 0) (number 0)); u = number 0; v = number 0; tag = 0 }) (record { place = (vec (number 0x8000_0000) (number 0) (number 0)); normal = (vec (number 0) (number 0) (number 0)); u = number 0; v = number 0; tag = 0 }) (record { place = (vec (number 0x3f80_0000) (number 0) (number 0)); normal = (vec (number 0) (number 0) (number 0)); u = number 0; v = number 0; tag = 0 })) ∷
    (not (Step4Order'.welded (record { place = (vec (number 0) (number 0) (number 0)); normal = (vec (number 0) (number 0) (number 0)); u = number 0; v = number 0; tag = 0 }) (record { place = (vec (number 0x8000_0000) (number 0) (number 0)); normal = (vec (number 0) (number 0) (number 0)); u = number 0; v = number 0; tag = 0 }))) ∷
    (Step1Cut'.cut02 (record { place = (vec (number 0) (number 0) (number 0)); normal = (vec (number 0) (number 0) (number 0x3f80_0000)); u = number 0; v = number 0; tag = 0 }) (record { place = (vec (number 0x3f80_0000) (number 0) (number 0)); normal = (vec (number 0) (number 0) (number 0x3f80_0000)); u = number 0x3f80_0000; v = number 0; tag = 0 }) (record { place = (vec (number 0x3f80_0000) (number 0x3f80_0000) (number 0)); normal = (vec (number 0) (number 0) (number 0x3f80_0000)); u = number 0x3f80_0000; v = number 0x3f80_0000; tag = 0 }) (record { place = (vec (number 0) (number 0x3f80_0000) (number 0)); normal = (vec (number 0) (number 0) (number 0x3f80_0000)); u = number 0; v = number 0x3f80_0000; tag = 0 })) ∷
    (not (Vector'.counts (number 0x0080_0000))) ∷
    (Vector'.counts (number 0x0080_0001)) ∷
    (eqb (word (Root'.sqrt (number 0x4000_0000))) 0x3fb5_04f3) ∷
    (eqb (word (Root'.sqrt (number 0x4080_0000))) 0x4000_0000) ∷
    (eqb (word (Angle'.angle (number 0x3f80_0000))) 0) ∷
    (eqb (word (Angle'.angle (number 0))) 0x3fc9_0fdb) ∷
    (eqb (word (Angle'.angle (number 0xbf80_0000))) 0x4049_0fdb) ∷
    (same_whole (Angle'.whole_of (number 0x3f35_04f3)) (pos 759250112)) ∷
    (same_whole (Angle'.whole_of (number 0xbf35_04f3)) (neg_ℤ (pos 759250112))) ∷
    (same_whole (Angle'.whole_of (number 0x3000_0000)) (pos 0)) ∷
    (same_whole (Angle'.whole_of (number 0x8000_0000)) (pos 0)) ∷
    (eqb (Outcome'.outcome (call (handed (replicate 65537 3) [] [] []) nan [] [])).number 1) ∷
    (eqb (Outcome'.outcome (call (handed (replicate 65536 3) [] [] []) nan [] [])).number 2) ∷
    (not (Lists'.has (λ r. r.applies) (Desk'.table (shown (handed (replicate 65536 0) [] [] []) (number 0xbf80_0000) 0 8388608)))) ∷
    (eqb (Handed'.slot_count (5 ∷ 2 ∷ 0 ∷ [])) 0) ∷
    (eqb (Outcome'.outcome (call (handed (5 ∷ []) (numbers (0 ∷ 0 ∷ 0 ∷ 0 ∷ 0 ∷ 0 ∷ 0 ∷ 0 ∷ 0 ∷ 0 ∷ 0 ∷ 0 ∷ 0 ∷ 0 ∷ 0x7fc0_0000 ∷ [])) (numbers (0 ∷ 0 ∷ 0 ∷ 0 ∷ 0 ∷ 0 ∷ 0 ∷ 0 ∷ 0 ∷ 0 ∷ 0 ∷ 0 ∷ 0 ∷ 0 ∷ 0 ∷ [])) (numbers (0 ∷ 0 ∷ 0 ∷ 0 ∷ 0 ∷ 0 ∷ 0 ∷ 0 ∷ 0 ∷ 0 ∷ []))) (number 0xbf80_0000) [] (replicate 256 9))).number 0) ∷
    (eqb (Outcome'.outcome (call (handed (3 ∷ []) (numbers (0 ∷ 0 ∷ 0 ∷ 0 ∷ 0 ∷ 0 ∷ 0 ∷ 0 ∷ 0x7fc0_0000 ∷ [])) (numbers (0 ∷ 0 ∷ 0 ∷ 0 ∷ 0 ∷ 0 ∷ 0 ∷ 0 ∷ 0 ∷ [])) (numbers (0 ∷ 0 ∷ 0 ∷ 0 ∷ 0 ∷ 0 ∷ []))) (number 0xbf80_0000) [] (replicate 256 9))).number 4) ∷
    (eqb (Outcome'.outcome (call (handed (5 ∷ 3 ∷ []) (numbers (0 ∷ 0 ∷ 0 ∷ 0 ∷ 0 ∷ 0 ∷ 0 ∷ 0 ∷ 0 ∷ 0 ∷ 0 ∷ 0 ∷ 0 ∷ 0 ∷ 0 ∷ 0 ∷ 0 ∷ 0 ∷ 0 ∷ 0 ∷ 0 ∷ 0 ∷ 0 ∷ 0x7fc0_0000 ∷ [])) (numbers (0 ∷ 0 ∷ 0 ∷ 0 ∷ 0 ∷ 0 ∷ 0 ∷ 0 ∷ 0 ∷ 0 ∷ 0 ∷ 0 ∷ 0 ∷ 0 ∷ 0 ∷ 0 ∷ 0 ∷ 0 ∷ 0 ∷ 0 ∷ 0 ∷ 0 ∷ 0 ∷ 0 ∷ [])) (numbers (0 ∷ 0 ∷ 0 ∷ 0 ∷ 0 ∷ 0 ∷ 0 ∷ 0 ∷ 0 ∷ 0 ∷ 0 ∷ 0 ∷ 0 ∷ 0 ∷ 0 ∷ 0 ∷ []))) (number 0xbf80_0000) [] (replicate 256 9))).place 7) ∷
    (eqb (Outcome'.outcome (call (handed (3 ∷ []) (numbers (0 ∷ 0 ∷ 0 ∷ 0 ∷ 0 ∷ 0 ∷ 0 ∷ 0 ∷ 0 ∷ [])) (numbers (0 ∷ 0 ∷ 0x3f80_0000 ∷ 0 ∷ 0 ∷ 0x3f80_0000 ∷ 0 ∷ 0 ∷ 0 ∷ [])) (numbers (0 ∷ 0 ∷ 0 ∷ 0 ∷ 0 ∷ 0 ∷ []))) (number 0xbf80_0000) [] (replicate 256 9))).number 7) ∷
    (eqb (Outcome'.outcome (call (handed (3 ∷ []) (numbers (0 ∷ 0 ∷ 0 ∷ 0 ∷ 0 ∷ 0 ∷ 0 ∷ 0 ∷ 0 ∷ [])) (numbers (0 ∷ 0 ∷ 0x3f80_0000 ∷ 0 ∷ 0 ∷ 0x3f80_0000 ∷ 0 ∷ 0 ∷ 0 ∷ [])) (numbers (0 ∷ 0 ∷ 0 ∷ 0 ∷ 0 ∷ 0 ∷ []))) (number 0xbf80_0000) [] (replicate 256 9))).place 2) ∷
    (eqb (Outcome'.outcome (call (handed (5 ∷ 3 ∷ []) (numbers (0 ∷ 0 ∷ 0 ∷ 0 ∷ 0 ∷ 0 ∷ 0 ∷ 0 ∷ 0 ∷ 0 ∷ 0 ∷ 0 ∷ 0 ∷ 0 ∷ 0 ∷ 0 ∷ 0 ∷ 0 ∷ 0 ∷ 0 ∷ 0 ∷ 0 ∷ 0 ∷ 0 ∷ [])) (numbers (0 ∷ 0 ∷ 0 ∷ 0 ∷ 0 ∷ 0 ∷ 0 ∷ 0 ∷ 0 ∷ 0 ∷ 0 ∷ 0 ∷ 0 ∷ 0 ∷ 0 ∷ 0 ∷ 0 ∷ 0x3f80_0000 ∷ 0 ∷ 0 ∷ 0 ∷ 0 ∷ 0 ∷ 0 ∷ [])) (numbers (0 ∷ 0 ∷ 0 ∷ 0 ∷ 0 ∷ 0 ∷ 0 ∷ 0 ∷ 0 ∷ 0 ∷ 0 ∷ 0 ∷ 0 ∷ 0 ∷ 0 ∷ 0 ∷ []))) (number 0xbf80_0000) [] (replicate 256 9))).place 6) ∷
    (eqb (Outcome'.outcome (call (handed (5 ∷ []) (numbers (0 ∷ 0 ∷ 0 ∷ 0 ∷ 0 ∷ 0 ∷ 0 ∷ 0 ∷ 0 ∷ 0 ∷ 0 ∷ 0 ∷ 0 ∷ 0 ∷ 0 ∷ [])) (numbers (0 ∷ 0 ∷ 0 ∷ 0 ∷ 0 ∷ 0 ∷ 0 ∷ 0 ∷ 0 ∷ 0 ∷ 0 ∷ 0 ∷ 0 ∷ 0 ∷ 0 ∷ [])) (numbers (0 ∷ 0 ∷ 0 ∷ 0 ∷ 0 ∷ 0 ∷ 0 ∷ 0 ∷ 0 ∷ 0 ∷ []))) (number 0xbf80_0000) [] (replicate 256 9))).number 0) ∷
    (eqb (Outcome'.outcome (call (handed (4 ∷ []) (numbers (0 ∷ 0 ∷ 0 ∷ 0 ∷ 0 ∷ 0 ∷ 0 ∷ 0 ∷ 0 ∷ 0 ∷ 0 ∷ 0 ∷ [])) (numbers (0 ∷ 0 ∷ 0x3f80_0000 ∷ 0 ∷ 0 ∷ 0x3f80_0000 ∷ 0 ∷ 0 ∷ 0x3f80_0000 ∷ 0 ∷ 0 ∷ 0 ∷ [])) (numbers (0 ∷ 0 ∷ 0 ∷ 0 ∷ 0 ∷ 0 ∷ 0 ∷ 0 ∷ []))) (number 0xbf80_0000) [] (replicate 256 9))).place 3) ∷
    (eqb (Outcome'.outcome (call (handed (3 ∷ []) (numbers (0 ∷ 0 ∷ 0 ∷ 0 ∷ 0 ∷ 0 ∷ 0 ∷ 0 ∷ 0 ∷ [])) (numbers (0 ∷ 0 ∷ 0x3f80_0000 ∷ 0x0080_0000 ∷ 0x8080_0000 ∷ 0x8000_0000 ∷ 0 ∷ 0 ∷ 0x3f80_0000 ∷ [])) (numbers (0 ∷ 0 ∷ 0 ∷ 0 ∷ 0 ∷ 0 ∷ []))) (number 0xbf80_0000) [] (replicate 256 9))).number 7) ∷
    (eqb (Outcome'.outcome (call (handed (3 ∷ []) (numbers (0 ∷ 0 ∷ 0 ∷ 0 ∷ 0 ∷ 0 ∷ 0 ∷ 0 ∷ 0 ∷ [])) (numbers (0x0080_0001 ∷ 0x0080_0000 ∷ 0 ∷ 0x8000_0000 ∷ 0x8080_0001 ∷ 0 ∷ 0 ∷ 0x8080_0000 ∷ 0x0080_0001 ∷ [])) (numbers (0 ∷ 0 ∷ 0 ∷ 0 ∷ 0 ∷ 0 ∷ []))) (number 0xbf80_0000) [] (replicate 256 9))).number 5) ∷
    (eqb (Outcome'.outcome (call (handed (3 ∷ []) (numbers (0 ∷ 0 ∷ 0 ∷ 0 ∷ 0 ∷ 0 ∷ 0 ∷ 0 ∷ 0x7fc0_0000 ∷ [])) (numbers (0 ∷ 0 ∷ 0 ∷ 0 ∷ 0 ∷ 0x3f80_0000 ∷ 0 ∷ 0 ∷ 0x3f80_0000 ∷ [])) (numbers (0 ∷ 0 ∷ 0 ∷ 0 ∷ 0 ∷ 0 ∷ []))) (number 0xbf80_0000) [] (replicate 256 9))).number 4) ∷
    (eqb (Outcome'.outcome (call (handed (3 ∷ []) (numbers (0 ∷ 0 ∷ 0 ∷ 0 ∷ 0 ∷ 0 ∷ 0 ∷ 0 ∷ 0x7fc0_0000 ∷ [])) (numbers (0 ∷ 0 ∷ 0 ∷ 0 ∷ 0 ∷ 0x3f80_0000 ∷ 0 ∷ 0 ∷ 0x3f80_0000 ∷ [])) (numbers (0 ∷ 0 ∷ 0 ∷ 0 ∷ 0 ∷ 0 ∷ []))) (number 0xbf80_0000) [] (replicate 256 9))).place 2) ∷
    (eqb (Outcome'.outcome (call (handed (3 ∷ []) (numbers (0 ∷ 0 ∷ 0 ∷ 0 ∷ 0 ∷ 0 ∷ 0 ∷ 0 ∷ 0 ∷ [])) (numbers (0 ∷ 0 ∷ 0 ∷ 0 ∷ 0 ∷ 0x3f80_0000 ∷ 0 ∷ 0 ∷ 0x3f80_0000 ∷ [])) (numbers (0 ∷ 0 ∷ 0 ∷ 0 ∷ 0 ∷ 0 ∷ []))) (number 0x7f80_0000) [] (replicate 256 9))).number 3) ∷
    (Step4Order'.same_vector (Vector'.unit_of (vec (number 0x8080_0000) (number 0x8000_0001) (number 0x8000_0000))) (vec (number 0) (number 0) (number 0))) ∷
    (Step4Order'.same_vector (Vector'.unit_of (vec (number 0x8da2_4260) (number 0) (number 0))) (vec (number 0) (number 0) (number 0))) ∷
    (Step4Order'.same_vector (Vector'.unit_of (vec (number 0x60ad_78ec) (number 0) (number 0))) (vec (number 0) (number 0) (number 0))) ∷
    (Step4Order'.same_vector (Vector'.unit_of (vec (number 0x3f80_0000) (number 0x7fc0_0000) (number 0))) (vec (number 0) (number 0) (number 0))) ∷
    (eqb (word (Vector'.unit_of (vec (number 0x1af1_c901) (number 0) (number 0))).x) 0x3f81_3d57) ∷
    (Triangles'.make 0 false 3 (Triangles'.nook 0 (record { place = (vec (number 0) (number 0) (number 0)); normal = (vec (number 0) (number 0) (number 0x3f80_0000)); u = number 0; v = number 0; tag = 0 })) (Triangles'.nook 1 (record { place = (vec (number 0x60ad_78ec) (number 0) (number 0)); normal = (vec (number 0) (number 0) (number 0x3f80_0000)); u = number 0x3f80_0000; v = number 0; tag = 0 })) (Triangles'.nook 2 (record { place = (vec (number 0) (number 0x3f80_0000) (number 0)); normal = (vec (number 0) (number 0) (number 0x3f80_0000)); u = number 0; v = number 0x3f80_0000; tag = 0 }))).any ∷
    (Vector'.counts (Step3Tangents'.turn (record { place = (vec (number 0) (number 0) (number 0)); normal = (vec (number 0) (number 0) (number 0x3f80_0000)); u = number 0; v = number 0; tag = 0 }) (record { place = (vec (number 0x60ad_78ec) (number 0) (number 0)); normal = (vec (number 0) (number 0) (number 0x3f80_0000)); u = number 0x3f80_0000; v = number 0; tag = 0 }) (record { place = (vec (number 0) (number 0x3f80_0000) (number 0)); normal = (vec (number 0) (number 0) (number 0x3f80_0000)); u = number 0; v = number 0x3f80_0000; tag = 0 }))) ∷
    (Vector'.counts (Triangles'.make 0 false 3 (Triangles'.nook 0 (record { place = (vec (number 0) (number 0) (number 0)); normal = (vec (number 0) (number 0) (number 0x3f80_0000)); u = number 0; v = number 0; tag = 0 })) (Triangles'.nook 1 (record { place = (vec (number 0x60ad_78ec) (number 0) (number 0)); normal = (vec (number 0) (number 0) (number 0x3f80_0000)); u = number 0x3f80_0000; v = number 0; tag = 0 })) (Triangles'.nook 2 (record { place = (vec (number 0) (number 0x3f80_0000) (number 0)); normal = (vec (number 0) (number 0) (number 0x3f80_0000)); u = number 0; v = number 0x3f80_0000; tag = 0 }))).tangent.s_magnitude) ∷
    (Vector'.counts (Triangles'.make 0 false 3 (Triangles'.nook 0 (record { place = (vec (number 0) (number 0) (number 0)); normal = (vec (number 0) (number 0) (number 0x3f80_0000)); u = number 0; v = number 0; tag = 0 })) (Triangles'.nook 1 (record { place = (vec (number 0x60ad_78ec) (number 0) (number 0)); normal = (vec (number 0) (number 0) (number 0x3f80_0000)); u = number 0x3f80_0000; v = number 0; tag = 0 })) (Triangles'.nook 2 (record { place = (vec (number 0) (number 0x3f80_0000) (number 0)); normal = (vec (number 0) (number 0) (number 0x3f80_0000)); u = number 0; v = number 0x3f80_0000; tag = 0 }))).tangent.t_magnitude) ∷
    (Vector'.equals (vec (number 0) (number 0) (number 0)) (vec (number 0x8000_0000) (number 0) (number 0))) ∷
    (not (lt (Step1Cut'.apart² (record { place = (vec (number 0x3f80_0000) (number 0x3f80_0000) (number 0)); normal = (vec (number 0) (number 0) (number 0x3f80_0000)); u = number 0x3f80_0000; v = number 0x3f80_0000; tag = 0 }) (record { place = (vec (number 0) (number 0) (number 0)); normal = (vec (number 0) (number 0) (number 0x3f80_0000)); u = number 0; v = number 0; tag = 0 })) (Step1Cut'.apart² (record { place = (vec (number 0) (number 0x3f80_0000) (number 0)); normal = (vec (number 0) (number 0) (number 0x3f80_0000)); u = number 0; v = number 0x3f80_0000; tag = 0 }) (record { place = (vec (number 0x3f80_0000) (number 0) (number 0)); normal = (vec (number 0) (number 0) (number 0x3f80_0000)); u = number 0x3f80_0000; v = number 0; tag = 0 })))) ∷
    (same_words (Slot'.present 1 (Step7Sums'.evaluate (record { place = (vec (number 0) (number 0) (number 0)); normal = (vec (number 0) (number 0) (number 0x3f80_0000)); u = number 0; v = number 0; tag = 0 }) ((Triangles'.make 0 false 3 (Triangles'.nook 0 (record { place = (vec (number 0) (number 0) (number 0)); normal = (vec (number 0) (number 0) (number 0x3f80_0000)); u = number 0; v = number 0; tag = 0 })) (Triangles'.nook 1 (record { place = (vec (number 0x3f80_0000) (number 0) (number 0)); normal = (vec (number 0) (number 0) (number 0x3f80_0000)); u = number 0x3f80_0000; v = number 0; tag = 0 })) (Triangles'.nook 2 (record { place = (vec (number 0) (number 0x3f80_0000) (number 0)); normal = (vec (number 0) (number 0) (number 0x3f80_0000)); u = number 0; v = number 0x4040_0000; tag = 0 }))) ∷ (Triangles'.make 1 false 3 (Triangles'.nook 0 (record { place = (vec (number 0) (number 0) (number 0)); normal = (vec (number 0) (number 0) (number 0x3f80_0000)); u = number 0; v = number 0; tag = 0 })) (Triangles'.nook 1 (record { place = (vec (number 0) (number 0xbf80_0000) (number 0)); normal = (vec (number 0) (number 0) (number 0x3f80_0000)); u = number 0; v = number 0xc000_0000; tag = 0 })) (Triangles'.nook 2 (record { place = (vec (number 0x3f80_0000) (number 0) (number 0)); normal = (vec (number 0) (number 0) (number 0x3f80_0000)); u = number 0x3f80_0000; v = number 0; tag = 0 }))) ∷ (Triangles'.make 2 false 3 (Triangles'.nook 0 (record { place = (vec (number 0) (number 0) (number 0)); normal = (vec (number 0) (number 0) (number 0x3f80_0000)); u = number 0; v = number 0; tag = 0 })) (Triangles'.nook 1 (record { place = (vec (number 0) (number 0x3f80_0000) (number 0)); normal = (vec (number 0) (number 0) (number 0x3f80_0000)); u = number 0; v = number 0x4040_0000; tag = 0 })) (Triangles'.nook 2 (record { place = (vec (number 0xbf80_0000) (number 0) (number 0)); normal = (vec (number 0) (number 0) (number 0x3f80_0000)); u = number 0xbf80_0000; v = number 0; tag = 0 }))) ∷ [])) true) (1 ∷ 0x3f80_0000 ∷ 0 ∷ 0 ∷ 0 ∷ 0x3f80_0000 ∷ 0 ∷ 0x3f80_0000 ∷ 0x3ec7_1c72 ∷ 1 ∷ 1 ∷ 3 ∷ [])) ∷
    (not (same_words (Slot'.present 1 (Step7Sums'.evaluate (record { place = (vec (number 0) (number 0) (number 0)); normal = (vec (number 0) (number 0) (number 0x3f80_0000)); u = number 0; v = number 0; tag = 0 }) ((Triangles'.make 0 false 3 (Triangles'.nook 0 (record { place = (vec (number 0) (number 0) (number 0)); normal = (vec (number 0) (number 0) (number 0x3f80_0000)); u = number 0; v = number 0; tag = 0 })) (Triangles'.nook 1 (record { place = (vec (number 0x3f80_0000) (number 0) (number 0)); normal = (vec (number 0) (number 0) (number 0x3f80_0000)); u = number 0x3f80_0000; v = number 0; tag = 0 })) (Triangles'.nook 2 (record { place = (vec (number 0) (number 0x3f80_0000) (number 0)); normal = (vec (number 0) (number 0) (number 0x3f80_0000)); u = number 0; v = number 0x4040_0000; tag = 0 }))) ∷ (Triangles'.make 2 false 3 (Triangles'.nook 0 (record { place = (vec (number 0) (number 0) (number 0)); normal = (vec (number 0) (number 0) (number 0x3f80_0000)); u = number 0; v = number 0; tag = 0 })) (Triangles'.nook 1 (record { place = (vec (number 0) (number 0x3f80_0000) (number 0)); normal = (vec (number 0) (number 0) (number 0x3f80_0000)); u = number 0; v = number 0x4040_0000; tag = 0 })) (Triangles'.nook 2 (record { place = (vec (number 0xbf80_0000) (number 0) (number 0)); normal = (vec (number 0) (number 0) (number 0x3f80_0000)); u = number 0xbf80_0000; v = number 0; tag = 0 }))) ∷ (Triangles'.make 1 false 3 (Triangles'.nook 0 (record { place = (vec (number 0) (number 0) (number 0)); normal = (vec (number 0) (number 0) (number 0x3f80_0000)); u = number 0; v = number 0; tag = 0 })) (Triangles'.nook 1 (record { place = (vec (number 0) (number 0xbf80_0000) (number 0)); normal = (vec (number 0) (number 0) (number 0x3f80_0000)); u = number 0; v = number 0xc000_0000; tag = 0 })) (Triangles'.nook 2 (record { place = (vec (number 0x3f80_0000) (number 0) (number 0)); normal = (vec (number 0) (number 0) (number 0x3f80_0000)); u = number 0x3f80_0000; v = number 0; tag = 0 }))) ∷ [])) true) (1 ∷ 0x3f80_0000 ∷ 0 ∷ 0 ∷ 0 ∷ 0x3f80_0000 ∷ 0 ∷ 0x3f80_0000 ∷ 0x3ec7_1c72 ∷ 1 ∷ 1 ∷ 3 ∷ []))) ∷
    (same_words (Slot'.words Absent) (replicate 12 0)) ∷ []

-- one proof over all of them: no test fails
pub starred-hold : Lists'.has not starred ≡ false
unfolding starred same_words Root'.root Root'.rooted Root'.sqrt Table'.cosines Table'.c Angle'.greatest Angle'.way_at Angle'.angle Vector'.added Vector'.subtracted Vector'.scaled_by Vector'.negated Vector'.dot Vector'.length_of Vector'.equals Vector'.abs Vector'.counts Vector'.spans Vector'.points Vector'.direction Vector'.or_zero Vector'.unit_of Space'.equals Space'.mean Space'.combine Space'.united Space'.reached Space'.copied Space'.copy_of Slot'.flag Slot'.ten_words Slot'.present Slot'.words Slot'.vector_of Slot'.space_of Slot'.of_origin Slot'.reading_of Word'.is_finite Lists'.keep Lists'.first Lists'.has Lists'.run Mesh'.after Mesh'.before Mesh'.next Mesh'.prior Mesh'.kept Mesh'.corner_of Mesh'.slot_of Mesh'.same_third Mesh'.same_triangle Mesh'.same_spot Handed'.vector_at Handed'.corner_at Handed'.corners_from Handed'.mesh_from Handed'.used Handed'.slots_of Handed'.corner_count Handed'.slot_count Step1Cut'.across² Step1Cut'.apart² Step1Cut'.cut02 Step2Degenerate'.flat Step2Degenerate'.exactly_one Step3Tangents'.turn Step3Tangents'.raw_s Step3Tangents'.raw_t Step3Tangents'.sign_of Step3Tangents'.tangent_at Step3Tangents'.first_order Step3Tangents'.unsure Step3Tangents'.area Step3Tangents'.quad_way Triangles'.make Triangles'.settled Triangles'.agree Triangles'.pair Triangles'.quad Triangles'.usable Triangles'.pieces Triangles'.triangles Step4Order'.is_sound Step4Order'.sound Step4Order'.broken Step4Order'.spots Step4Order'.ordered Step4Order'.same_bits Step4Order'.same_vector Step4Order'.same_numbers Step4Order'.welded Step4Order'.welded_to Step5Links'.end_of Step5Links'.opposite Step5Links'.linked Step5Links'.add_link Step5Links'.link_one Step5Links'.link_all Step5Links'.links Step5Links'.beyond Step6Groups'.grouped Step6Groups'.touched Step6Groups'.way_of Step6Groups'.facing Step6Groups'.stops Step6Groups'.corner_in Step6Groups'.over_to Step6Groups'.over Step6Groups'.going Step6Groups'.walk Step6Groups'.fan Step6Groups'.start_at Step6Groups'.marks Step6Groups'.members Step7Sums'.projected Step7Sums'.close Step7Sums'.joins Step7Sums'.subgroup Step7Sums'.opening Step7Sums'.weighed Step7Sums'.add_spot Step7Sums'.contribute Step7Sums'.finish Step7Sums'.evaluate Step7Sums'.bring Step7Sums'.brought_all Step8Slots'.put Step8Slots'.reading Step9Copies'.copied Step9Copies'.from_sound Step9Copies'.from_kept Step9Copies'.from_marked Step9Copies'.final_of Step9Copies'.nooks Step9Copies'.face_readings Frames'.numbered Frames'.frames_from Frames'.frames_of Frames'.frames Desk'.finite_vector Desk'.finite_corner Desk'.bad_in Desk'.or_else Desk'.bad_corner Desk'.has_normal Desk'.is_there Desk'.or_zero Desk'.too_many Desk'.unfit Desk'.misfit Desk'.table Desk'.verdict Desk'.row_of Outcome'.answer_words Outcome'.accepted Outcome'.answered Outcome'.outcome Shuffle'.corners_of Shuffle'.shares is_nan add sub mul div neg lt le eq to_bits of_bits round to_unsigned to_signed of_int size units xor flat_map
starred-hold = refl

-- sample 1
pub sample_1 : Outcome'.outcome (call (handed (3 ∷ []) (numbers (0 ∷ 0 ∷ 0 ∷ 0x3f80_0000 ∷ 0 ∷ 0 ∷ 0 ∷ 0x3f80_0000 ∷ 0 ∷ [])) (numbers (0 ∷ 0 ∷ 0x3f80_0000 ∷ 0 ∷ 0 ∷ 0x3f80_0000 ∷ 0 ∷ 0 ∷ 0x3f80_0000 ∷ [])) (numbers (0 ∷ 0 ∷ 0x3f80_0000 ∷ 0 ∷ 0 ∷ 0x3f80_0000 ∷ []))) (number 0xbf80_0000) (replicate 36 7) (replicate 128 9)) ≡ record { number = 0; place = 0; slots = 3; answer = (1 ∷ 0x3f80_0000 ∷ 0 ∷ 0 ∷ 0 ∷ 0x3f80_0000 ∷ 0 ∷ 0x3f80_0000 ∷ 0x3f80_0000 ∷ 1 ∷ 1 ∷ 1 ∷ 1 ∷ 0x3f80_0000 ∷ 0 ∷ 0 ∷ 0 ∷ 0x3f80_0000 ∷ 0 ∷ 0x3f80_0000 ∷ 0x3f80_0000 ∷ 1 ∷ 1 ∷ 1 ∷ 1 ∷ 0x3f80_0000 ∷ 0 ∷ 0 ∷ 0 ∷ 0x3f80_0000 ∷ 0 ∷ 0x3f80_0000 ∷ 0x3f80_0000 ∷ 1 ∷ 1 ∷ 1 ∷ []); work = replicate 128 0 }
unfolding Root'.root Root'.rooted Root'.sqrt Table'.cosines Table'.c Angle'.greatest Angle'.way_at Angle'.angle Vector'.added Vector'.subtracted Vector'.scaled_by Vector'.negated Vector'.dot Vector'.length_of Vector'.equals Vector'.abs Vector'.counts Vector'.spans Vector'.points Vector'.direction Vector'.or_zero Vector'.unit_of Space'.equals Space'.mean Space'.combine Space'.united Space'.reached Space'.copied Space'.copy_of Slot'.flag Slot'.ten_words Slot'.present Slot'.words Slot'.vector_of Slot'.space_of Slot'.of_origin Slot'.reading_of Word'.is_finite Lists'.keep Lists'.first Lists'.has Lists'.run Mesh'.after Mesh'.before Mesh'.next Mesh'.prior Mesh'.kept Mesh'.corner_of Mesh'.slot_of Mesh'.same_third Mesh'.same_triangle Mesh'.same_spot Handed'.vector_at Handed'.corner_at Handed'.corners_from Handed'.mesh_from Handed'.used Handed'.slots_of Handed'.corner_count Handed'.slot_count Step1Cut'.across² Step1Cut'.apart² Step1Cut'.cut02 Step2Degenerate'.flat Step2Degenerate'.exactly_one Step3Tangents'.turn Step3Tangents'.raw_s Step3Tangents'.raw_t Step3Tangents'.sign_of Step3Tangents'.tangent_at Step3Tangents'.first_order Step3Tangents'.unsure Step3Tangents'.area Step3Tangents'.quad_way Triangles'.make Triangles'.settled Triangles'.agree Triangles'.pair Triangles'.quad Triangles'.usable Triangles'.pieces Triangles'.triangles Step4Order'.is_sound Step4Order'.sound Step4Order'.broken Step4Order'.spots Step4Order'.ordered Step4Order'.same_bits Step4Order'.same_vector Step4Order'.same_numbers Step4Order'.welded Step4Order'.welded_to Step5Links'.end_of Step5Links'.opposite Step5Links'.linked Step5Links'.add_link Step5Links'.link_one Step5Links'.link_all Step5Links'.links Step5Links'.beyond Step6Groups'.grouped Step6Groups'.touched Step6Groups'.way_of Step6Groups'.facing Step6Groups'.stops Step6Groups'.corner_in Step6Groups'.over_to Step6Groups'.over Step6Groups'.going Step6Groups'.walk Step6Groups'.fan Step6Groups'.start_at Step6Groups'.marks Step6Groups'.members Step7Sums'.projected Step7Sums'.close Step7Sums'.joins Step7Sums'.subgroup Step7Sums'.opening Step7Sums'.weighed Step7Sums'.add_spot Step7Sums'.contribute Step7Sums'.finish Step7Sums'.evaluate Step7Sums'.bring Step7Sums'.brought_all Step8Slots'.put Step8Slots'.reading Step9Copies'.copied Step9Copies'.from_sound Step9Copies'.from_kept Step9Copies'.from_marked Step9Copies'.final_of Step9Copies'.nooks Step9Copies'.face_readings Frames'.numbered Frames'.frames_from Frames'.frames_of Frames'.frames Desk'.finite_vector Desk'.finite_corner Desk'.bad_in Desk'.or_else Desk'.bad_corner Desk'.has_normal Desk'.is_there Desk'.or_zero Desk'.too_many Desk'.unfit Desk'.misfit Desk'.table Desk'.verdict Desk'.row_of Outcome'.answer_words Outcome'.accepted Outcome'.answered Outcome'.outcome Shuffle'.corners_of Shuffle'.shares is_nan add sub mul div neg lt le eq to_bits of_bits round to_unsigned to_signed of_int size units xor flat_map
sample_1 = refl

-- sample 2
pub sample_2 : Outcome'.outcome (call (handed (3 ∷ []) (numbers (0 ∷ 0 ∷ 0 ∷ 0x3f80_0000 ∷ 0 ∷ 0 ∷ 0 ∷ 0x3f80_0000 ∷ 0 ∷ [])) (numbers (0 ∷ 0 ∷ 0x3f80_0000 ∷ 0 ∷ 0 ∷ 0x3f80_0000 ∷ 0 ∷ 0 ∷ 0x3f80_0000 ∷ [])) (numbers (0 ∷ 0 ∷ 0xbf80_0000 ∷ 0 ∷ 0 ∷ 0x3f80_0000 ∷ []))) (number 0xbf80_0000) (replicate 36 7) (replicate 128 9)) ≡ record { number = 0; place = 0; slots = 3; answer = (1 ∷ 0xbf80_0000 ∷ 0 ∷ 0 ∷ 0 ∷ 0x3f80_0000 ∷ 0 ∷ 0x3f80_0000 ∷ 0x3f80_0000 ∷ 0 ∷ 1 ∷ 1 ∷ 1 ∷ 0xbf80_0000 ∷ 0 ∷ 0 ∷ 0 ∷ 0x3f80_0000 ∷ 0 ∷ 0x3f80_0000 ∷ 0x3f80_0000 ∷ 0 ∷ 1 ∷ 1 ∷ 1 ∷ 0xbf80_0000 ∷ 0 ∷ 0 ∷ 0 ∷ 0x3f80_0000 ∷ 0 ∷ 0x3f80_0000 ∷ 0x3f80_0000 ∷ 0 ∷ 1 ∷ 1 ∷ []); work = replicate 128 0 }
unfolding Root'.root Root'.rooted Root'.sqrt Table'.cosines Table'.c Angle'.greatest Angle'.way_at Angle'.angle Vector'.added Vector'.subtracted Vector'.scaled_by Vector'.negated Vector'.dot Vector'.length_of Vector'.equals Vector'.abs Vector'.counts Vector'.spans Vector'.points Vector'.direction Vector'.or_zero Vector'.unit_of Space'.equals Space'.mean Space'.combine Space'.united Space'.reached Space'.copied Space'.copy_of Slot'.flag Slot'.ten_words Slot'.present Slot'.words Slot'.vector_of Slot'.space_of Slot'.of_origin Slot'.reading_of Word'.is_finite Lists'.keep Lists'.first Lists'.has Lists'.run Mesh'.after Mesh'.before Mesh'.next Mesh'.prior Mesh'.kept Mesh'.corner_of Mesh'.slot_of Mesh'.same_third Mesh'.same_triangle Mesh'.same_spot Handed'.vector_at Handed'.corner_at Handed'.corners_from Handed'.mesh_from Handed'.used Handed'.slots_of Handed'.corner_count Handed'.slot_count Step1Cut'.across² Step1Cut'.apart² Step1Cut'.cut02 Step2Degenerate'.flat Step2Degenerate'.exactly_one Step3Tangents'.turn Step3Tangents'.raw_s Step3Tangents'.raw_t Step3Tangents'.sign_of Step3Tangents'.tangent_at Step3Tangents'.first_order Step3Tangents'.unsure Step3Tangents'.area Step3Tangents'.quad_way Triangles'.make Triangles'.settled Triangles'.agree Triangles'.pair Triangles'.quad Triangles'.usable Triangles'.pieces Triangles'.triangles Step4Order'.is_sound Step4Order'.sound Step4Order'.broken Step4Order'.spots Step4Order'.ordered Step4Order'.same_bits Step4Order'.same_vector Step4Order'.same_numbers Step4Order'.welded Step4Order'.welded_to Step5Links'.end_of Step5Links'.opposite Step5Links'.linked Step5Links'.add_link Step5Links'.link_one Step5Links'.link_all Step5Links'.links Step5Links'.beyond Step6Groups'.grouped Step6Groups'.touched Step6Groups'.way_of Step6Groups'.facing Step6Groups'.stops Step6Groups'.corner_in Step6Groups'.over_to Step6Groups'.over Step6Groups'.going Step6Groups'.walk Step6Groups'.fan Step6Groups'.start_at Step6Groups'.marks Step6Groups'.members Step7Sums'.projected Step7Sums'.close Step7Sums'.joins Step7Sums'.subgroup Step7Sums'.opening Step7Sums'.weighed Step7Sums'.add_spot Step7Sums'.contribute Step7Sums'.finish Step7Sums'.evaluate Step7Sums'.bring Step7Sums'.brought_all Step8Slots'.put Step8Slots'.reading Step9Copies'.copied Step9Copies'.from_sound Step9Copies'.from_kept Step9Copies'.from_marked Step9Copies'.final_of Step9Copies'.nooks Step9Copies'.face_readings Frames'.numbered Frames'.frames_from Frames'.frames_of Frames'.frames Desk'.finite_vector Desk'.finite_corner Desk'.bad_in Desk'.or_else Desk'.bad_corner Desk'.has_normal Desk'.is_there Desk'.or_zero Desk'.too_many Desk'.unfit Desk'.misfit Desk'.table Desk'.verdict Desk'.row_of Outcome'.answer_words Outcome'.accepted Outcome'.answered Outcome'.outcome Shuffle'.corners_of Shuffle'.shares is_nan add sub mul div neg lt le eq to_bits of_bits round to_unsigned to_signed of_int size units xor flat_map
sample_2 = refl

-- sample 3: 36 zero words
pub sample-3 : Outcome'.outcome (call (handed (3 ∷ []) (numbers (0 ∷ 0 ∷ 0 ∷ 0x3f80_0000 ∷ 0 ∷ 0 ∷ 0 ∷ 0x3f80_0000 ∷ 0 ∷ [])) (numbers (0 ∷ 0 ∷ 0x3f80_0000 ∷ 0 ∷ 0 ∷ 0x3f80_0000 ∷ 0 ∷ 0 ∷ 0x3f80_0000 ∷ [])) (numbers (0 ∷ 0 ∷ 0 ∷ 0 ∷ 0 ∷ 0 ∷ []))) (number 0xbf80_0000) (replicate 36 7) (replicate 128 9)) ≡ record { number = 0; place = 0; slots = 3; answer = (0 ∷ 0 ∷ 0 ∷ 0 ∷ 0 ∷ 0 ∷ 0 ∷ 0 ∷ 0 ∷ 0 ∷ 0 ∷ 0 ∷ 0 ∷ 0 ∷ 0 ∷ 0 ∷ 0 ∷ 0 ∷ 0 ∷ 0 ∷ 0 ∷ 0 ∷ 0 ∷ 0 ∷ 0 ∷ 0 ∷ 0 ∷ 0 ∷ 0 ∷ 0 ∷ 0 ∷ 0 ∷ 0 ∷ 0 ∷ 0 ∷ 0 ∷ []); work = replicate 128 0 }
unfolding Root'.root Root'.rooted Root'.sqrt Table'.cosines Table'.c Angle'.greatest Angle'.way_at Angle'.angle Vector'.added Vector'.subtracted Vector'.scaled_by Vector'.negated Vector'.dot Vector'.length_of Vector'.equals Vector'.abs Vector'.counts Vector'.spans Vector'.points Vector'.direction Vector'.or_zero Vector'.unit_of Space'.equals Space'.mean Space'.combine Space'.united Space'.reached Space'.copied Space'.copy_of Slot'.flag Slot'.ten_words Slot'.present Slot'.words Slot'.vector_of Slot'.space_of Slot'.of_origin Slot'.reading_of Word'.is_finite Lists'.keep Lists'.first Lists'.has Lists'.run Mesh'.after Mesh'.before Mesh'.next Mesh'.prior Mesh'.kept Mesh'.corner_of Mesh'.slot_of Mesh'.same_third Mesh'.same_triangle Mesh'.same_spot Handed'.vector_at Handed'.corner_at Handed'.corners_from Handed'.mesh_from Handed'.used Handed'.slots_of Handed'.corner_count Handed'.slot_count Step1Cut'.across² Step1Cut'.apart² Step1Cut'.cut02 Step2Degenerate'.flat Step2Degenerate'.exactly_one Step3Tangents'.turn Step3Tangents'.raw_s Step3Tangents'.raw_t Step3Tangents'.sign_of Step3Tangents'.tangent_at Step3Tangents'.first_order Step3Tangents'.unsure Step3Tangents'.area Step3Tangents'.quad_way Triangles'.make Triangles'.settled Triangles'.agree Triangles'.pair Triangles'.quad Triangles'.usable Triangles'.pieces Triangles'.triangles Step4Order'.is_sound Step4Order'.sound Step4Order'.broken Step4Order'.spots Step4Order'.ordered Step4Order'.same_bits Step4Order'.same_vector Step4Order'.same_numbers Step4Order'.welded Step4Order'.welded_to Step5Links'.end_of Step5Links'.opposite Step5Links'.linked Step5Links'.add_link Step5Links'.link_one Step5Links'.link_all Step5Links'.links Step5Links'.beyond Step6Groups'.grouped Step6Groups'.touched Step6Groups'.way_of Step6Groups'.facing Step6Groups'.stops Step6Groups'.corner_in Step6Groups'.over_to Step6Groups'.over Step6Groups'.going Step6Groups'.walk Step6Groups'.fan Step6Groups'.start_at Step6Groups'.marks Step6Groups'.members Step7Sums'.projected Step7Sums'.close Step7Sums'.joins Step7Sums'.subgroup Step7Sums'.opening Step7Sums'.weighed Step7Sums'.add_spot Step7Sums'.contribute Step7Sums'.finish Step7Sums'.evaluate Step7Sums'.bring Step7Sums'.brought_all Step8Slots'.put Step8Slots'.reading Step9Copies'.copied Step9Copies'.from_sound Step9Copies'.from_kept Step9Copies'.from_marked Step9Copies'.final_of Step9Copies'.nooks Step9Copies'.face_readings Frames'.numbered Frames'.frames_from Frames'.frames_of Frames'.frames Desk'.finite_vector Desk'.finite_corner Desk'.bad_in Desk'.or_else Desk'.bad_corner Desk'.has_normal Desk'.is_there Desk'.or_zero Desk'.too_many Desk'.unfit Desk'.misfit Desk'.table Desk'.verdict Desk'.row_of Outcome'.answer_words Outcome'.accepted Outcome'.answered Outcome'.outcome Shuffle'.corners_of Shuffle'.shares is_nan add sub mul div neg lt le eq to_bits of_bits round to_unsigned to_signed of_int size units xor flat_map
sample-3 = refl

-- sample 1 with both lists two words longer: nothing past 12S and 128F is altered
pub past : untouched (Outcome'.outcome (call (handed (3 ∷ []) (numbers (0 ∷ 0 ∷ 0 ∷ 0x3f80_0000 ∷ 0 ∷ 0 ∷ 0 ∷ 0x3f80_0000 ∷ 0 ∷ [])) (numbers (0 ∷ 0 ∷ 0x3f80_0000 ∷ 0 ∷ 0 ∷ 0x3f80_0000 ∷ 0 ∷ 0 ∷ 0x3f80_0000 ∷ [])) (numbers (0 ∷ 0 ∷ 0x3f80_0000 ∷ 0 ∷ 0 ∷ 0x3f80_0000 ∷ []))) (number 0xbf80_0000) (replicate 38 7) (replicate 130 9))) ≡ (7 ∷ 7 ∷ 9 ∷ 9 ∷ [])
unfolding Root'.root Root'.rooted Root'.sqrt Table'.cosines Table'.c Angle'.greatest Angle'.way_at Angle'.angle Vector'.added Vector'.subtracted Vector'.scaled_by Vector'.negated Vector'.dot Vector'.length_of Vector'.equals Vector'.abs Vector'.counts Vector'.spans Vector'.points Vector'.direction Vector'.or_zero Vector'.unit_of Space'.equals Space'.mean Space'.combine Space'.united Space'.reached Space'.copied Space'.copy_of Slot'.flag Slot'.ten_words Slot'.present Slot'.words Slot'.vector_of Slot'.space_of Slot'.of_origin Slot'.reading_of Word'.is_finite Lists'.keep Lists'.first Lists'.has Lists'.run Mesh'.after Mesh'.before Mesh'.next Mesh'.prior Mesh'.kept Mesh'.corner_of Mesh'.slot_of Mesh'.same_third Mesh'.same_triangle Mesh'.same_spot Handed'.vector_at Handed'.corner_at Handed'.corners_from Handed'.mesh_from Handed'.used Handed'.slots_of Handed'.corner_count Handed'.slot_count Step1Cut'.across² Step1Cut'.apart² Step1Cut'.cut02 Step2Degenerate'.flat Step2Degenerate'.exactly_one Step3Tangents'.turn Step3Tangents'.raw_s Step3Tangents'.raw_t Step3Tangents'.sign_of Step3Tangents'.tangent_at Step3Tangents'.first_order Step3Tangents'.unsure Step3Tangents'.area Step3Tangents'.quad_way Triangles'.make Triangles'.settled Triangles'.agree Triangles'.pair Triangles'.quad Triangles'.usable Triangles'.pieces Triangles'.triangles Step4Order'.is_sound Step4Order'.sound Step4Order'.broken Step4Order'.spots Step4Order'.ordered Step4Order'.same_bits Step4Order'.same_vector Step4Order'.same_numbers Step4Order'.welded Step4Order'.welded_to Step5Links'.end_of Step5Links'.opposite Step5Links'.linked Step5Links'.add_link Step5Links'.link_one Step5Links'.link_all Step5Links'.links Step5Links'.beyond Step6Groups'.grouped Step6Groups'.touched Step6Groups'.way_of Step6Groups'.facing Step6Groups'.stops Step6Groups'.corner_in Step6Groups'.over_to Step6Groups'.over Step6Groups'.going Step6Groups'.walk Step6Groups'.fan Step6Groups'.start_at Step6Groups'.marks Step6Groups'.members Step7Sums'.projected Step7Sums'.close Step7Sums'.joins Step7Sums'.subgroup Step7Sums'.opening Step7Sums'.weighed Step7Sums'.add_spot Step7Sums'.contribute Step7Sums'.finish Step7Sums'.evaluate Step7Sums'.bring Step7Sums'.brought_all Step8Slots'.put Step8Slots'.reading Step9Copies'.copied Step9Copies'.from_sound Step9Copies'.from_kept Step9Copies'.from_marked Step9Copies'.final_of Step9Copies'.nooks Step9Copies'.face_readings Frames'.numbered Frames'.frames_from Frames'.frames_of Frames'.frames Desk'.finite_vector Desk'.finite_corner Desk'.bad_in Desk'.or_else Desk'.bad_corner Desk'.has_normal Desk'.is_there Desk'.or_zero Desk'.too_many Desk'.unfit Desk'.misfit Desk'.table Desk'.verdict Desk'.row_of Outcome'.answer_words Outcome'.accepted Outcome'.answered Outcome'.outcome Shuffle'.corners_of Shuffle'.shares is_nan add sub mul div neg lt le eq to_bits of_bits round to_unsigned to_signed of_int size units xor flat_map
past = refl

-- 'F = 0 by itself is no ground for refusal': nothing is altered
pub no-face : Outcome'.outcome (call (handed ([]) (numbers ([])) (numbers ([])) (numbers ([]))) (number 0xbf80_0000) (replicate 3 7) (replicate 2 9)) ≡ record { number = 0; place = 0; slots = 0; answer = replicate 3 7; work = replicate 2 9 }
unfolding Root'.root Root'.rooted Root'.sqrt Table'.cosines Table'.c Angle'.greatest Angle'.way_at Angle'.angle Vector'.added Vector'.subtracted Vector'.scaled_by Vector'.negated Vector'.dot Vector'.length_of Vector'.equals Vector'.abs Vector'.counts Vector'.spans Vector'.points Vector'.direction Vector'.or_zero Vector'.unit_of Space'.equals Space'.mean Space'.combine Space'.united Space'.reached Space'.copied Space'.copy_of Slot'.flag Slot'.ten_words Slot'.present Slot'.words Slot'.vector_of Slot'.space_of Slot'.of_origin Slot'.reading_of Word'.is_finite Lists'.keep Lists'.first Lists'.has Lists'.run Mesh'.after Mesh'.before Mesh'.next Mesh'.prior Mesh'.kept Mesh'.corner_of Mesh'.slot_of Mesh'.same_third Mesh'.same_triangle Mesh'.same_spot Handed'.vector_at Handed'.corner_at Handed'.corners_from Handed'.mesh_from Handed'.used Handed'.slots_of Handed'.corner_count Handed'.slot_count Step1Cut'.across² Step1Cut'.apart² Step1Cut'.cut02 Step2Degenerate'.flat Step2Degenerate'.exactly_one Step3Tangents'.turn Step3Tangents'.raw_s Step3Tangents'.raw_t Step3Tangents'.sign_of Step3Tangents'.tangent_at Step3Tangents'.first_order Step3Tangents'.unsure Step3Tangents'.area Step3Tangents'.quad_way Triangles'.make Triangles'.settled Triangles'.agree Triangles'.pair Triangles'.quad Triangles'.usable Triangles'.pieces Triangles'.triangles Step4Order'.is_sound Step4Order'.sound Step4Order'.broken Step4Order'.spots Step4Order'.ordered Step4Order'.same_bits Step4Order'.same_vector Step4Order'.same_numbers Step4Order'.welded Step4Order'.welded_to Step5Links'.end_of Step5Links'.opposite Step5Links'.linked Step5Links'.add_link Step5Links'.link_one Step5Links'.link_all Step5Links'.links Step5Links'.beyond Step6Groups'.grouped Step6Groups'.touched Step6Groups'.way_of Step6Groups'.facing Step6Groups'.stops Step6Groups'.corner_in Step6Groups'.over_to Step6Groups'.over Step6Groups'.going Step6Groups'.walk Step6Groups'.fan Step6Groups'.start_at Step6Groups'.marks Step6Groups'.members Step7Sums'.projected Step7Sums'.close Step7Sums'.joins Step7Sums'.subgroup Step7Sums'.opening Step7Sums'.weighed Step7Sums'.add_spot Step7Sums'.contribute Step7Sums'.finish Step7Sums'.evaluate Step7Sums'.bring Step7Sums'.brought_all Step8Slots'.put Step8Slots'.reading Step9Copies'.copied Step9Copies'.from_sound Step9Copies'.from_kept Step9Copies'.from_marked Step9Copies'.final_of Step9Copies'.nooks Step9Copies'.face_readings Frames'.numbered Frames'.frames_from Frames'.frames_of Frames'.frames Desk'.finite_vector Desk'.finite_corner Desk'.bad_in Desk'.or_else Desk'.bad_corner Desk'.has_normal Desk'.is_there Desk'.or_zero Desk'.too_many Desk'.unfit Desk'.misfit Desk'.table Desk'.verdict Desk'.row_of Outcome'.answer_words Outcome'.accepted Outcome'.answered Outcome'.outcome Shuffle'.corners_of Shuffle'.shares is_nan add sub mul div neg lt le eq to_bits of_bits round to_unsigned to_signed of_int size units xor flat_map
no-face = refl

-- sample 1 with an answer list one word short: refusal 5 alters nothing
pub refused : Outcome'.outcome (call (handed (3 ∷ []) (numbers (0 ∷ 0 ∷ 0 ∷ 0x3f80_0000 ∷ 0 ∷ 0 ∷ 0 ∷ 0x3f80_0000 ∷ 0 ∷ [])) (numbers (0 ∷ 0 ∷ 0x3f80_0000 ∷ 0 ∷ 0 ∷ 0x3f80_0000 ∷ 0 ∷ 0 ∷ 0x3f80_0000 ∷ [])) (numbers (0 ∷ 0 ∷ 0x3f80_0000 ∷ 0 ∷ 0 ∷ 0x3f80_0000 ∷ []))) (number 0xbf80_0000) (replicate 35 7) (replicate 128 9)) ≡ record { number = 5; place = 0; slots = 0; answer = replicate 35 7; work = replicate 128 9 }
unfolding Root'.root Root'.rooted Root'.sqrt Table'.cosines Table'.c Angle'.greatest Angle'.way_at Angle'.angle Vector'.added Vector'.subtracted Vector'.scaled_by Vector'.negated Vector'.dot Vector'.length_of Vector'.equals Vector'.abs Vector'.counts Vector'.spans Vector'.points Vector'.direction Vector'.or_zero Vector'.unit_of Space'.equals Space'.mean Space'.combine Space'.united Space'.reached Space'.copied Space'.copy_of Slot'.flag Slot'.ten_words Slot'.present Slot'.words Slot'.vector_of Slot'.space_of Slot'.of_origin Slot'.reading_of Word'.is_finite Lists'.keep Lists'.first Lists'.has Lists'.run Mesh'.after Mesh'.before Mesh'.next Mesh'.prior Mesh'.kept Mesh'.corner_of Mesh'.slot_of Mesh'.same_third Mesh'.same_triangle Mesh'.same_spot Handed'.vector_at Handed'.corner_at Handed'.corners_from Handed'.mesh_from Handed'.used Handed'.slots_of Handed'.corner_count Handed'.slot_count Step1Cut'.across² Step1Cut'.apart² Step1Cut'.cut02 Step2Degenerate'.flat Step2Degenerate'.exactly_one Step3Tangents'.turn Step3Tangents'.raw_s Step3Tangents'.raw_t Step3Tangents'.sign_of Step3Tangents'.tangent_at Step3Tangents'.first_order Step3Tangents'.unsure Step3Tangents'.area Step3Tangents'.quad_way Triangles'.make Triangles'.settled Triangles'.agree Triangles'.pair Triangles'.quad Triangles'.usable Triangles'.pieces Triangles'.triangles Step4Order'.is_sound Step4Order'.sound Step4Order'.broken Step4Order'.spots Step4Order'.ordered Step4Order'.same_bits Step4Order'.same_vector Step4Order'.same_numbers Step4Order'.welded Step4Order'.welded_to Step5Links'.end_of Step5Links'.opposite Step5Links'.linked Step5Links'.add_link Step5Links'.link_one Step5Links'.link_all Step5Links'.links Step5Links'.beyond Step6Groups'.grouped Step6Groups'.touched Step6Groups'.way_of Step6Groups'.facing Step6Groups'.stops Step6Groups'.corner_in Step6Groups'.over_to Step6Groups'.over Step6Groups'.going Step6Groups'.walk Step6Groups'.fan Step6Groups'.start_at Step6Groups'.marks Step6Groups'.members Step7Sums'.projected Step7Sums'.close Step7Sums'.joins Step7Sums'.subgroup Step7Sums'.opening Step7Sums'.weighed Step7Sums'.add_spot Step7Sums'.contribute Step7Sums'.finish Step7Sums'.evaluate Step7Sums'.bring Step7Sums'.brought_all Step8Slots'.put Step8Slots'.reading Step9Copies'.copied Step9Copies'.from_sound Step9Copies'.from_kept Step9Copies'.from_marked Step9Copies'.final_of Step9Copies'.nooks Step9Copies'.face_readings Frames'.numbered Frames'.frames_from Frames'.frames_of Frames'.frames Desk'.finite_vector Desk'.finite_corner Desk'.bad_in Desk'.or_else Desk'.bad_corner Desk'.has_normal Desk'.is_there Desk'.or_zero Desk'.too_many Desk'.unfit Desk'.misfit Desk'.table Desk'.verdict Desk'.row_of Outcome'.answer_words Outcome'.accepted Outcome'.answered Outcome'.outcome Shuffle'.corners_of Shuffle'.shares is_nan add sub mul div neg lt le eq to_bits of_bits round to_unsigned to_signed of_int size units xor flat_map
refused = refl

-- three triangles round a hub: the hub's frame is that of the sum in triangle order
pub fan : take 12 (Outcome'.outcome (call (handed (3 ∷ 3 ∷ 3 ∷ []) (numbers (0 ∷ 0 ∷ 0 ∷ 0x3f80_0000 ∷ 0 ∷ 0 ∷ 0 ∷ 0x3f80_0000 ∷ 0 ∷ 0 ∷ 0 ∷ 0 ∷ 0 ∷ 0xbf80_0000 ∷ 0 ∷ 0x3f80_0000 ∷ 0 ∷ 0 ∷ 0 ∷ 0 ∷ 0 ∷ 0 ∷ 0x3f80_0000 ∷ 0 ∷ 0xbf80_0000 ∷ 0 ∷ 0 ∷ [])) (numbers (0 ∷ 0 ∷ 0x3f80_0000 ∷ 0 ∷ 0 ∷ 0x3f80_0000 ∷ 0 ∷ 0 ∷ 0x3f80_0000 ∷ 0 ∷ 0 ∷ 0x3f80_0000 ∷ 0 ∷ 0 ∷ 0x3f80_0000 ∷ 0 ∷ 0 ∷ 0x3f80_0000 ∷ 0 ∷ 0 ∷ 0x3f80_0000 ∷ 0 ∷ 0 ∷ 0x3f80_0000 ∷ 0 ∷ 0 ∷ 0x3f80_0000 ∷ [])) (numbers (0 ∷ 0 ∷ 0x3f80_0000 ∷ 0 ∷ 0 ∷ 0x4040_0000 ∷ 0 ∷ 0 ∷ 0 ∷ 0xc000_0000 ∷ 0x3f80_0000 ∷ 0 ∷ 0 ∷ 0 ∷ 0 ∷ 0x4040_0000 ∷ 0xbf80_0000 ∷ 0 ∷ []))) (number 0xbf80_0000) (replicate 108 7) (replicate 384 9))).answer ≡ (1 ∷ 0x3f80_0000 ∷ 0 ∷ 0 ∷ 0 ∷ 0x3f80_0000 ∷ 0 ∷ 0x3f80_0000 ∷ 0x3ec7_1c72 ∷ 1 ∷ 1 ∷ 3 ∷ [])
unfolding Root'.root Root'.rooted Root'.sqrt Table'.cosines Table'.c Angle'.greatest Angle'.way_at Angle'.angle Vector'.added Vector'.subtracted Vector'.scaled_by Vector'.negated Vector'.dot Vector'.length_of Vector'.equals Vector'.abs Vector'.counts Vector'.spans Vector'.points Vector'.direction Vector'.or_zero Vector'.unit_of Space'.equals Space'.mean Space'.combine Space'.united Space'.reached Space'.copied Space'.copy_of Slot'.flag Slot'.ten_words Slot'.present Slot'.words Slot'.vector_of Slot'.space_of Slot'.of_origin Slot'.reading_of Word'.is_finite Lists'.keep Lists'.first Lists'.has Lists'.run Mesh'.after Mesh'.before Mesh'.next Mesh'.prior Mesh'.kept Mesh'.corner_of Mesh'.slot_of Mesh'.same_third Mesh'.same_triangle Mesh'.same_spot Handed'.vector_at Handed'.corner_at Handed'.corners_from Handed'.mesh_from Handed'.used Handed'.slots_of Handed'.corner_count Handed'.slot_count Step1Cut'.across² Step1Cut'.apart² Step1Cut'.cut02 Step2Degenerate'.flat Step2Degenerate'.exactly_one Step3Tangents'.turn Step3Tangents'.raw_s Step3Tangents'.raw_t Step3Tangents'.sign_of Step3Tangents'.tangent_at Step3Tangents'.first_order Step3Tangents'.unsure Step3Tangents'.area Step3Tangents'.quad_way Triangles'.make Triangles'.settled Triangles'.agree Triangles'.pair Triangles'.quad Triangles'.usable Triangles'.pieces Triangles'.triangles Step4Order'.is_sound Step4Order'.sound Step4Order'.broken Step4Order'.spots Step4Order'.ordered Step4Order'.same_bits Step4Order'.same_vector Step4Order'.same_numbers Step4Order'.welded Step4Order'.welded_to Step5Links'.end_of Step5Links'.opposite Step5Links'.linked Step5Links'.add_link Step5Links'.link_one Step5Links'.link_all Step5Links'.links Step5Links'.beyond Step6Groups'.grouped Step6Groups'.touched Step6Groups'.way_of Step6Groups'.facing Step6Groups'.stops Step6Groups'.corner_in Step6Groups'.over_to Step6Groups'.over Step6Groups'.going Step6Groups'.walk Step6Groups'.fan Step6Groups'.start_at Step6Groups'.marks Step6Groups'.members Step7Sums'.projected Step7Sums'.close Step7Sums'.joins Step7Sums'.subgroup Step7Sums'.opening Step7Sums'.weighed Step7Sums'.add_spot Step7Sums'.contribute Step7Sums'.finish Step7Sums'.evaluate Step7Sums'.bring Step7Sums'.brought_all Step8Slots'.put Step8Slots'.reading Step9Copies'.copied Step9Copies'.from_sound Step9Copies'.from_kept Step9Copies'.from_marked Step9Copies'.final_of Step9Copies'.nooks Step9Copies'.face_readings Frames'.numbered Frames'.frames_from Frames'.frames_of Frames'.frames Desk'.finite_vector Desk'.finite_corner Desk'.bad_in Desk'.or_else Desk'.bad_corner Desk'.has_normal Desk'.is_there Desk'.or_zero Desk'.too_many Desk'.unfit Desk'.misfit Desk'.table Desk'.verdict Desk'.row_of Outcome'.answer_words Outcome'.accepted Outcome'.answered Outcome'.outcome Shuffle'.corners_of Shuffle'.shares is_nan add sub mul div neg lt le eq to_bits of_bits round to_unsigned to_signed of_int size units xor flat_map
fan = refl

-- the first of them alone: another frame
pub fan-first : Outcome'.outcome (call (handed (3 ∷ []) (numbers (0 ∷ 0 ∷ 0 ∷ 0x3f80_0000 ∷ 0 ∷ 0 ∷ 0 ∷ 0x3f80_0000 ∷ 0 ∷ [])) (numbers (0 ∷ 0 ∷ 0x3f80_0000 ∷ 0 ∷ 0 ∷ 0x3f80_0000 ∷ 0 ∷ 0 ∷ 0x3f80_0000 ∷ [])) (numbers (0 ∷ 0 ∷ 0x3f80_0000 ∷ 0 ∷ 0 ∷ 0x4040_0000 ∷ []))) (number 0xbf80_0000) (replicate 36 7) (replicate 128 9)) ≡ record { number = 0; place = 0; slots = 3; answer = (1 ∷ 0x3f80_0000 ∷ 0 ∷ 0 ∷ 0 ∷ 0x3f80_0000 ∷ 0 ∷ 0x3f80_0000 ∷ 0x3eaa_aaab ∷ 1 ∷ 1 ∷ 1 ∷ 1 ∷ 0x3f80_0000 ∷ 0 ∷ 0 ∷ 0 ∷ 0x3f80_0000 ∷ 0 ∷ 0x3f80_0000 ∷ 0x3eaa_aaac ∷ 1 ∷ 1 ∷ 1 ∷ 1 ∷ 0x3f80_0000 ∷ 0 ∷ 0 ∷ 0 ∷ 0x3f80_0000 ∷ 0 ∷ 0x3f80_0000 ∷ 0x3eaa_aaac ∷ 1 ∷ 1 ∷ 1 ∷ []); work = replicate 128 0 }
unfolding Root'.root Root'.rooted Root'.sqrt Table'.cosines Table'.c Angle'.greatest Angle'.way_at Angle'.angle Vector'.added Vector'.subtracted Vector'.scaled_by Vector'.negated Vector'.dot Vector'.length_of Vector'.equals Vector'.abs Vector'.counts Vector'.spans Vector'.points Vector'.direction Vector'.or_zero Vector'.unit_of Space'.equals Space'.mean Space'.combine Space'.united Space'.reached Space'.copied Space'.copy_of Slot'.flag Slot'.ten_words Slot'.present Slot'.words Slot'.vector_of Slot'.space_of Slot'.of_origin Slot'.reading_of Word'.is_finite Lists'.keep Lists'.first Lists'.has Lists'.run Mesh'.after Mesh'.before Mesh'.next Mesh'.prior Mesh'.kept Mesh'.corner_of Mesh'.slot_of Mesh'.same_third Mesh'.same_triangle Mesh'.same_spot Handed'.vector_at Handed'.corner_at Handed'.corners_from Handed'.mesh_from Handed'.used Handed'.slots_of Handed'.corner_count Handed'.slot_count Step1Cut'.across² Step1Cut'.apart² Step1Cut'.cut02 Step2Degenerate'.flat Step2Degenerate'.exactly_one Step3Tangents'.turn Step3Tangents'.raw_s Step3Tangents'.raw_t Step3Tangents'.sign_of Step3Tangents'.tangent_at Step3Tangents'.first_order Step3Tangents'.unsure Step3Tangents'.area Step3Tangents'.quad_way Triangles'.make Triangles'.settled Triangles'.agree Triangles'.pair Triangles'.quad Triangles'.usable Triangles'.pieces Triangles'.triangles Step4Order'.is_sound Step4Order'.sound Step4Order'.broken Step4Order'.spots Step4Order'.ordered Step4Order'.same_bits Step4Order'.same_vector Step4Order'.same_numbers Step4Order'.welded Step4Order'.welded_to Step5Links'.end_of Step5Links'.opposite Step5Links'.linked Step5Links'.add_link Step5Links'.link_one Step5Links'.link_all Step5Links'.links Step5Links'.beyond Step6Groups'.grouped Step6Groups'.touched Step6Groups'.way_of Step6Groups'.facing Step6Groups'.stops Step6Groups'.corner_in Step6Groups'.over_to Step6Groups'.over Step6Groups'.going Step6Groups'.walk Step6Groups'.fan Step6Groups'.start_at Step6Groups'.marks Step6Groups'.members Step7Sums'.projected Step7Sums'.close Step7Sums'.joins Step7Sums'.subgroup Step7Sums'.opening Step7Sums'.weighed Step7Sums'.add_spot Step7Sums'.contribute Step7Sums'.finish Step7Sums'.evaluate Step7Sums'.bring Step7Sums'.brought_all Step8Slots'.put Step8Slots'.reading Step9Copies'.copied Step9Copies'.from_sound Step9Copies'.from_kept Step9Copies'.from_marked Step9Copies'.final_of Step9Copies'.nooks Step9Copies'.face_readings Frames'.numbered Frames'.frames_from Frames'.frames_of Frames'.frames Desk'.finite_vector Desk'.finite_corner Desk'.bad_in Desk'.or_else Desk'.bad_corner Desk'.has_normal Desk'.is_there Desk'.or_zero Desk'.too_many Desk'.unfit Desk'.misfit Desk'.table Desk'.verdict Desk'.row_of Outcome'.answer_words Outcome'.accepted Outcome'.answered Outcome'.outcome Shuffle'.corners_of Shuffle'.shares is_nan add sub mul div neg lt le eq to_bits of_bits round to_unsigned to_signed of_int size units xor flat_map
fan-first = refl

-- sample 1 beside its mirror image: a triangle of the other orientation stops the walk
pub mirror : Outcome'.outcome (call (handed (3 ∷ 3 ∷ []) (numbers (0 ∷ 0 ∷ 0 ∷ 0x3f80_0000 ∷ 0 ∷ 0 ∷ 0 ∷ 0x3f80_0000 ∷ 0 ∷ 0 ∷ 0 ∷ 0 ∷ 0 ∷ 0xbf80_0000 ∷ 0 ∷ 0x3f80_0000 ∷ 0 ∷ 0 ∷ [])) (numbers (0 ∷ 0 ∷ 0x3f80_0000 ∷ 0 ∷ 0 ∷ 0x3f80_0000 ∷ 0 ∷ 0 ∷ 0x3f80_0000 ∷ 0 ∷ 0 ∷ 0x3f80_0000 ∷ 0 ∷ 0 ∷ 0x3f80_0000 ∷ 0 ∷ 0 ∷ 0x3f80_0000 ∷ [])) (numbers (0 ∷ 0 ∷ 0x3f80_0000 ∷ 0 ∷ 0 ∷ 0x3f80_0000 ∷ 0 ∷ 0 ∷ 0 ∷ 0x3f80_0000 ∷ 0x3f80_0000 ∷ 0 ∷ []))) (number 0xbf80_0000) (replicate 72 7) (replicate 256 9)) ≡ record { number = 0; place = 0; slots = 6; answer = (1 ∷ 0x3f80_0000 ∷ 0 ∷ 0 ∷ 0 ∷ 0x3f80_0000 ∷ 0 ∷ 0x3f80_0000 ∷ 0x3f80_0000 ∷ 1 ∷ 1 ∷ 1 ∷ 1 ∷ 0x3f80_0000 ∷ 0 ∷ 0 ∷ 0 ∷ 0x3f80_0000 ∷ 0 ∷ 0x3f80_0000 ∷ 0x3f80_0000 ∷ 1 ∷ 1 ∷ 1 ∷ 1 ∷ 0x3f80_0000 ∷ 0 ∷ 0 ∷ 0 ∷ 0x3f80_0000 ∷ 0 ∷ 0x3f80_0000 ∷ 0x3f80_0000 ∷ 1 ∷ 1 ∷ 1 ∷ 1 ∷ 0x3f80_0000 ∷ 0 ∷ 0 ∷ 0 ∷ 0xbf80_0000 ∷ 0 ∷ 0x3f80_0000 ∷ 0x3f80_0000 ∷ 0 ∷ 1 ∷ 1 ∷ 1 ∷ 0x3f80_0000 ∷ 0 ∷ 0 ∷ 0 ∷ 0xbf80_0000 ∷ 0 ∷ 0x3f80_0000 ∷ 0x3f80_0000 ∷ 0 ∷ 1 ∷ 1 ∷ 1 ∷ 0x3f80_0000 ∷ 0 ∷ 0 ∷ 0 ∷ 0xbf80_0000 ∷ 0 ∷ 0x3f80_0000 ∷ 0x3f80_0000 ∷ 0 ∷ 1 ∷ 1 ∷ []); work = replicate 256 0 }
unfolding Root'.root Root'.rooted Root'.sqrt Table'.cosines Table'.c Angle'.greatest Angle'.way_at Angle'.angle Vector'.added Vector'.subtracted Vector'.scaled_by Vector'.negated Vector'.dot Vector'.length_of Vector'.equals Vector'.abs Vector'.counts Vector'.spans Vector'.points Vector'.direction Vector'.or_zero Vector'.unit_of Space'.equals Space'.mean Space'.combine Space'.united Space'.reached Space'.copied Space'.copy_of Slot'.flag Slot'.ten_words Slot'.present Slot'.words Slot'.vector_of Slot'.space_of Slot'.of_origin Slot'.reading_of Word'.is_finite Lists'.keep Lists'.first Lists'.has Lists'.run Mesh'.after Mesh'.before Mesh'.next Mesh'.prior Mesh'.kept Mesh'.corner_of Mesh'.slot_of Mesh'.same_third Mesh'.same_triangle Mesh'.same_spot Handed'.vector_at Handed'.corner_at Handed'.corners_from Handed'.mesh_from Handed'.used Handed'.slots_of Handed'.corner_count Handed'.slot_count Step1Cut'.across² Step1Cut'.apart² Step1Cut'.cut02 Step2Degenerate'.flat Step2Degenerate'.exactly_one Step3Tangents'.turn Step3Tangents'.raw_s Step3Tangents'.raw_t Step3Tangents'.sign_of Step3Tangents'.tangent_at Step3Tangents'.first_order Step3Tangents'.unsure Step3Tangents'.area Step3Tangents'.quad_way Triangles'.make Triangles'.settled Triangles'.agree Triangles'.pair Triangles'.quad Triangles'.usable Triangles'.pieces Triangles'.triangles Step4Order'.is_sound Step4Order'.sound Step4Order'.broken Step4Order'.spots Step4Order'.ordered Step4Order'.same_bits Step4Order'.same_vector Step4Order'.same_numbers Step4Order'.welded Step4Order'.welded_to Step5Links'.end_of Step5Links'.opposite Step5Links'.linked Step5Links'.add_link Step5Links'.link_one Step5Links'.link_all Step5Links'.links Step5Links'.beyond Step6Groups'.grouped Step6Groups'.touched Step6Groups'.way_of Step6Groups'.facing Step6Groups'.stops Step6Groups'.corner_in Step6Groups'.over_to Step6Groups'.over Step6Groups'.going Step6Groups'.walk Step6Groups'.fan Step6Groups'.start_at Step6Groups'.marks Step6Groups'.members Step7Sums'.projected Step7Sums'.close Step7Sums'.joins Step7Sums'.subgroup Step7Sums'.opening Step7Sums'.weighed Step7Sums'.add_spot Step7Sums'.contribute Step7Sums'.finish Step7Sums'.evaluate Step7Sums'.bring Step7Sums'.brought_all Step8Slots'.put Step8Slots'.reading Step9Copies'.copied Step9Copies'.from_sound Step9Copies'.from_kept Step9Copies'.from_marked Step9Copies'.final_of Step9Copies'.nooks Step9Copies'.face_readings Frames'.numbered Frames'.frames_from Frames'.frames_of Frames'.frames Desk'.finite_vector Desk'.finite_corner Desk'.bad_in Desk'.or_else Desk'.bad_corner Desk'.has_normal Desk'.is_there Desk'.or_zero Desk'.too_many Desk'.unfit Desk'.misfit Desk'.table Desk'.verdict Desk'.row_of Outcome'.answer_words Outcome'.accepted Outcome'.answered Outcome'.outcome Shuffle'.corners_of Shuffle'.shares is_nan add sub mul div neg lt le eq to_bits of_bits round to_unsigned to_signed of_int size units xor flat_map
mirror = refl

-- a square whose texture crosses itself: its triangles disagree, and the first's area is as large, so the orientation is the first's
pub crossed : Outcome'.outcome (call (handed (4 ∷ []) (numbers (0 ∷ 0 ∷ 0 ∷ 0x3f80_0000 ∷ 0 ∷ 0 ∷ 0x3f80_0000 ∷ 0x3f80_0000 ∷ 0 ∷ 0 ∷ 0x3f80_0000 ∷ 0 ∷ [])) (numbers (0 ∷ 0 ∷ 0x3f80_0000 ∷ 0 ∷ 0 ∷ 0x3f80_0000 ∷ 0 ∷ 0 ∷ 0x3f80_0000 ∷ 0 ∷ 0 ∷ 0x3f80_0000 ∷ [])) (numbers (0 ∷ 0 ∷ 0x3f80_0000 ∷ 0 ∷ 0 ∷ 0x3f80_0000 ∷ 0x3f80_0000 ∷ 0x3f80_0000 ∷ []))) (number 0xbf80_0000) (replicate 48 7) (replicate 128 9)) ≡ record { number = 0; place = 0; slots = 4; answer = (1 ∷ 0 ∷ 0 ∷ 0 ∷ 0x3f35_04f3 ∷ 0x3f35_04f3 ∷ 0 ∷ 0x3f80_0000 ∷ 0x3fb5_04f3 ∷ 1 ∷ 2 ∷ 4 ∷ 1 ∷ 0x3f80_0000 ∷ 0 ∷ 0 ∷ 0x3f35_04f3 ∷ 0x3f35_04f3 ∷ 0 ∷ 0x3f80_0000 ∷ 0x3fb5_04f3 ∷ 1 ∷ 1 ∷ 1 ∷ 1 ∷ 0 ∷ 0 ∷ 0 ∷ 0x3f35_04f3 ∷ 0x3f35_04f3 ∷ 0 ∷ 0x3f80_0000 ∷ 0x3fb5_04f3 ∷ 1 ∷ 2 ∷ 4 ∷ 1 ∷ 0xbf80_0000 ∷ 0 ∷ 0 ∷ 0x3f35_04f3 ∷ 0x3f35_04f3 ∷ 0 ∷ 0x3f80_0000 ∷ 0x3fb5_04f3 ∷ 1 ∷ 1 ∷ 1 ∷ []); work = replicate 128 0 }
unfolding Root'.root Root'.rooted Root'.sqrt Table'.cosines Table'.c Angle'.greatest Angle'.way_at Angle'.angle Vector'.added Vector'.subtracted Vector'.scaled_by Vector'.negated Vector'.dot Vector'.length_of Vector'.equals Vector'.abs Vector'.counts Vector'.spans Vector'.points Vector'.direction Vector'.or_zero Vector'.unit_of Space'.equals Space'.mean Space'.combine Space'.united Space'.reached Space'.copied Space'.copy_of Slot'.flag Slot'.ten_words Slot'.present Slot'.words Slot'.vector_of Slot'.space_of Slot'.of_origin Slot'.reading_of Word'.is_finite Lists'.keep Lists'.first Lists'.has Lists'.run Mesh'.after Mesh'.before Mesh'.next Mesh'.prior Mesh'.kept Mesh'.corner_of Mesh'.slot_of Mesh'.same_third Mesh'.same_triangle Mesh'.same_spot Handed'.vector_at Handed'.corner_at Handed'.corners_from Handed'.mesh_from Handed'.used Handed'.slots_of Handed'.corner_count Handed'.slot_count Step1Cut'.across² Step1Cut'.apart² Step1Cut'.cut02 Step2Degenerate'.flat Step2Degenerate'.exactly_one Step3Tangents'.turn Step3Tangents'.raw_s Step3Tangents'.raw_t Step3Tangents'.sign_of Step3Tangents'.tangent_at Step3Tangents'.first_order Step3Tangents'.unsure Step3Tangents'.area Step3Tangents'.quad_way Triangles'.make Triangles'.settled Triangles'.agree Triangles'.pair Triangles'.quad Triangles'.usable Triangles'.pieces Triangles'.triangles Step4Order'.is_sound Step4Order'.sound Step4Order'.broken Step4Order'.spots Step4Order'.ordered Step4Order'.same_bits Step4Order'.same_vector Step4Order'.same_numbers Step4Order'.welded Step4Order'.welded_to Step5Links'.end_of Step5Links'.opposite Step5Links'.linked Step5Links'.add_link Step5Links'.link_one Step5Links'.link_all Step5Links'.links Step5Links'.beyond Step6Groups'.grouped Step6Groups'.touched Step6Groups'.way_of Step6Groups'.facing Step6Groups'.stops Step6Groups'.corner_in Step6Groups'.over_to Step6Groups'.over Step6Groups'.going Step6Groups'.walk Step6Groups'.fan Step6Groups'.start_at Step6Groups'.marks Step6Groups'.members Step7Sums'.projected Step7Sums'.close Step7Sums'.joins Step7Sums'.subgroup Step7Sums'.opening Step7Sums'.weighed Step7Sums'.add_spot Step7Sums'.contribute Step7Sums'.finish Step7Sums'.evaluate Step7Sums'.bring Step7Sums'.brought_all Step8Slots'.put Step8Slots'.reading Step9Copies'.copied Step9Copies'.from_sound Step9Copies'.from_kept Step9Copies'.from_marked Step9Copies'.final_of Step9Copies'.nooks Step9Copies'.face_readings Frames'.numbered Frames'.frames_from Frames'.frames_of Frames'.frames Desk'.finite_vector Desk'.finite_corner Desk'.bad_in Desk'.or_else Desk'.bad_corner Desk'.has_normal Desk'.is_there Desk'.or_zero Desk'.too_many Desk'.unfit Desk'.misfit Desk'.table Desk'.verdict Desk'.row_of Outcome'.answer_words Outcome'.accepted Outcome'.answered Outcome'.outcome Shuffle'.corners_of Shuffle'.shares is_nan add sub mul div neg lt le eq to_bits of_bits round to_unsigned to_signed of_int size units xor flat_map
crossed = refl

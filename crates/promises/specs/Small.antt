-- Five small calls whose answers tell the definition from the impostors. Definitions only.
use Rattle.std.specs.Prelude.{ℕ, zero, suc, ◌*◌, List, [], ◌∷◌, ◌++◌, map, length, replicate}
use Rattle.bits.specs.Word.{number}
use Rattle.tangent.specs.Slot.{slot_words}
use Rattle.definition.specs.Limits.{work_words}
use Rattle.definition.specs.Handed.{Call, corner_count, slot_count}
use Rattle.definition.specs.Outcome.{Result}

-- the bits of 1 and of -1
abbrev pub one : ℕ
one = 0x3f80_0000

abbrev pub minus_one : ℕ
minus_one = 0xbf80_0000

-- the normals of n corners, all of them (0, 0, 1)
unfoldable pub up : ℕ → List ℕ
up zero = []
up (suc n) = 0 ∷ 0 ∷ one ∷ up n

-- the call of faces of these sizes, positions and texture coordinates by their bits, normals up, threshold -1; it lends just enough words, all of them 7 in the answer list and 9 in the work list
unfoldable pub lying : List ℕ → List ℕ → List ℕ → Call
lying sizes places texture =
    record {
      mesh = record { sizes = sizes; positions = map number places; normals = map number (up (corner_count sizes)); texture = map number texture };
      threshold = number minus_one;
      answer = replicate (slot_words * slot_count sizes) 7;
      work = replicate (work_words * length sizes) 9;
    }

-- what an accepted call of these sizes leaves behind, with these words in the answer list
unfoldable pub taken_with : List ℕ → List ℕ → Result
taken_with sizes words = record { number = 0; place = 0; slots = slot_count sizes; answer = words; work = replicate (work_words * length sizes) 0 }

-- samples 1 and 2: the triangle (0,0,0), (1,0,0), (0,1,0), with the texture (0,0), (1,0), (0,1), and with (0,0), (-1,0), (0,1)
unfoldable pub triangle : List ℕ → Call
triangle texture = lying (3 ∷ []) (0 ∷ 0 ∷ 0 ∷ one ∷ 0 ∷ 0 ∷ 0 ∷ one ∷ 0 ∷ []) texture

unfoldable pub sample1 : Call
sample1 = triangle (0 ∷ 0 ∷ one ∷ 0 ∷ 0 ∷ one ∷ [])

unfoldable pub sample2 : Call
sample2 = triangle (0 ∷ 0 ∷ minus_one ∷ 0 ∷ 0 ∷ one ∷ [])

-- three triangles round (0,0,0), linked by the sides that they share; the texture is three times as long northwards and twice southwards
unfoldable pub fan : Call
fan =
    lying (3 ∷ 3 ∷ 3 ∷ []) (0 ∷ 0 ∷ 0 ∷ one ∷ 0 ∷ 0 ∷ 0 ∷ one ∷ 0 ∷ 0 ∷ 0 ∷ 0 ∷ 0 ∷ minus_one ∷ 0 ∷ one ∷ 0 ∷ 0 ∷ 0 ∷ 0 ∷ 0 ∷ 0 ∷ one ∷ 0 ∷ minus_one ∷ 0 ∷ 0 ∷ [])
    (0 ∷ 0 ∷ one ∷ 0 ∷ 0 ∷ 0x4040_0000 ∷ 0 ∷ 0 ∷ 0 ∷ 0xc000_0000 ∷ one ∷ 0 ∷ 0 ∷ 0 ∷ 0 ∷ 0x4040_0000 ∷ minus_one ∷ 0 ∷ [])

-- the first of the three alone
unfoldable pub fan_first : Call
fan_first = triangle (0 ∷ 0 ∷ one ∷ 0 ∷ 0 ∷ 0x4040_0000 ∷ [])

-- sample 1 beside its mirror image, whose texture runs the other way; they share a side
unfoldable pub mirror : Call
mirror =
    lying (3 ∷ 3 ∷ []) (0 ∷ 0 ∷ 0 ∷ one ∷ 0 ∷ 0 ∷ 0 ∷ one ∷ 0 ∷ 0 ∷ 0 ∷ 0 ∷ 0 ∷ minus_one ∷ 0 ∷ one ∷ 0 ∷ 0 ∷ [])
    (0 ∷ 0 ∷ one ∷ 0 ∷ 0 ∷ one ∷ 0 ∷ 0 ∷ 0 ∷ one ∷ one ∷ 0 ∷ [])

-- the words of a slot that is there: s, t, the magnitude along t, the orientation, and how many stood behind it; the magnitude along s is 1, and it was reached once
unfoldable pub there : ℕ → ℕ → ℕ → ℕ → ℕ → List ℕ
there s t magnitude orientation behind = 1 ∷ s ∷ 0 ∷ 0 ∷ 0 ∷ t ∷ 0 ∷ one ∷ magnitude ∷ orientation ∷ 1 ∷ behind ∷ []

-- the same words for each corner of a triangle
unfoldable pub thrice : List ℕ → List ℕ
thrice l = l ++ l ++ l

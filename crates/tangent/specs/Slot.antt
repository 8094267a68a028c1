-- A slot's twelve words: document 01's ten, and two of request E7. Definitions only.
use Rattle.std.specs.Prelude.{Bool, cond, List, [], ◌∷◌, ◌++◌, ℕ, eqb, get_or, replicate}
use Rattle.bits.specs.Word.{word, number}
use Rattle.math.specs.declared.Vec3.{Vec3}
use Rattle.math.specs.Vector.{vec}
use Rattle.tangent.specs.declared.RawTangentSpace.{RawTangentSpace}
use Rattle.tangent.specs.declared.Evaluated.{Evaluated}
use Rattle.tangent.specs.declared.Reading.{Reading}
use Rattle.tangent.specs.declared.Reading.TheVariants.{Absent, Single, Combined, Copied, Filled}

-- 'The slot record grows to twelve words'
abbrev pub slot_words : ℕ
slot_words = 12

-- 'orientation 0 or 1'
unfoldable pub flag : Bool → ℕ
flag b = cond b 1 0

-- '1 for present; tangent x y z; bi-tangent x y z; mag_s; mag_t; orientation 0 or 1'
unfoldable pub ten_words : RawTangentSpace → Bool → List ℕ
ten_words u o =
    1 ∷ word u.s.x ∷ word u.s.y ∷ word u.s.z ∷ word u.t.x ∷ word u.t.y ∷ word u.t.z
    ∷ word u.s_magnitude ∷ word u.t_magnitude ∷ flag o ∷ []

-- those, and where it came from, and how many stood behind it
unfoldable pub present : ℕ → Evaluated → Bool → List ℕ
present origin e o = ten_words e.space o ++ origin ∷ e.behind ∷ []

-- 'Word 10: 0 absent, 1 single, 2 combined, 3 copied to a degenerate corner, 4 copied within a quad'
abbrev pub single_origin : ℕ
single_origin = 1

abbrev pub combined_origin : ℕ
combined_origin = 2

abbrev pub copied_origin : ℕ
copied_origin = 3

abbrev pub filled_origin : ℕ
filled_origin = 4

-- the words of a reading: an absent slot is zero words
unfoldable pub words : Reading → List ℕ
words Absent = replicate slot_words 0
words (Single e o) = present single_origin e o
words (Combined e o) = present combined_origin e o
words (Copied e o) = present copied_origin e o
words (Filled e o) = present filled_origin e o

-- back: the vector whose numbers three words stand for
unfoldable pub vector_of : ℕ → ℕ → ℕ → Vec3
vector_of x y z = vec (number x) (number y) (number z)

-- back: the numbers that words 1 to 8 stand for
unfoldable pub space_of : List ℕ → RawTangentSpace
space_of l =
    record {
      s = vector_of (get_or l 1 0) (get_or l 2 0) (get_or l 3 0);
      t = vector_of (get_or l 4 0) (get_or l 5 0) (get_or l 6 0);
      s_magnitude = number (get_or l 7 0);
      t_magnitude = number (get_or l 8 0);
    }

-- back: the reading by its word 10
unfoldable pub of_origin : ℕ → Evaluated → Bool → Reading
of_origin n e o = cond (eqb n single_origin) (Single e o) (cond (eqb n copied_origin) (Copied e o) (cond (eqb n filled_origin) (Filled e o) (Combined e o)))

-- back: absent where word 0 is 0, and else the numbers, whether word 9 is 1, and words 10 and 11
unfoldable pub reading_of : List ℕ → Reading
reading_of l = cond (eqb (get_or l 0 0) 0) Absent (of_origin (get_or l 10 0) (record { space = space_of l; behind = get_or l 11 0 }) (eqb (get_or l 9 0) 1))

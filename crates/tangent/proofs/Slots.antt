-- What a slot's words tell: whether the reading is absent, and of one that is there its numbers and its orientation. Assumes nothing.
use mathlib.Core.Path.{◌≡◌, refl, sym, ap, ◌∙◌}
use mathlib.Core.Bool.{Bool, true, false}
use mathlib.Core.List.{List}
use Prim.Native.Nat.{ℕ}
use native.Mathlib.Omega.{arith}
use lib.Dec.{eqb}
use lib.ListN.{length, get_or}
use Rattle.bits.proofs.Back.{number_word}
use Rattle.math.specs.declared.Vec3.{Vec3}
use Rattle.math.specs.Held.{HeldVec}
use Rattle.bits.specs.Word.{word}
use Rattle.tangent.specs.declared.Reading.{Reading}
use Rattle.tangent.specs.declared.Evaluated.{Evaluated}
use Rattle.tangent.specs.declared.Reading.TheVariants.{Absent, Single, Combined, Copied, Filled}
use Rattle.tangent.specs.Space.{reached}
use Rattle.tangent.specs.Slot.{slot_words, flag, ten_words, present, words, vector_of, space_of, of_origin, reading_of}
use Rattle.tangent.specs.Held.{HeldSpace, HeldReading, single, combined, copied, filled}

pub words-length : (r : Reading) → length (words r) ≡ slot_words
unfolding words present ten_words
words-length Absent = refl
words-length (Single u o) = refl
words-length (Combined u o) = refl
words-length (Copied u o) = refl
words-length (Filled u o) = refl

-- ---- an absent slot's words are no other reading's
first_word : (n : ℕ) (e : Evaluated) (o : Bool) → present n e o ≡ words Absent → ⊥
unfolding present ten_words words
first_word n e o p = let z : ◌≡◌ {A = ℕ} 1 0 = ap (λ (l : List ℕ). get_or l 0 0) p in omega arith

pub absent_alone : (r : Reading) → words r ≡ words Absent → r ≡ Absent
unfolding words
absent_alone Absent e = refl
absent_alone (Single u o) e = absurd (first_word 1 u o e)
absent_alone (Combined u o) e = absurd (first_word 2 u o e)
absent_alone (Copied u o) e = absurd (first_word 3 u o e)
absent_alone (Filled u o) e = absurd (first_word 4 u o e)

-- ---- from a reading to its words and back
pub vector-back : (v : Vec3) → HeldVec v → vector_of (word v.x) (word v.y) (word v.z) ≡ v
unfolding vector_of
vector-back v h = λ i. record { x = number_word v.x h.x_held i; y = number_word v.y h.y_held i; z = number_word v.z h.z_held i }

space-back : (n : ℕ) (e : Evaluated) (o : Bool) → HeldSpace e.space → space_of (present n e o) ≡ e.space
unfolding space_of present ten_words
space-back n e o h =
    λ i. record {
      s = vector-back e.space.s h.s_held i;
      t = vector-back e.space.t h.t_held i;
      s_magnitude = number_word e.space.s_magnitude h.s_magnitude_held i;
      t_magnitude = number_word e.space.t_magnitude h.t_magnitude_held i;
    }

flag-back : (o : Bool) → eqb (flag o) 1 ≡ o
unfolding flag
flag-back true = refl
flag-back false = refl

present-back : (n : ℕ) (e : Evaluated) (o : Bool) → HeldSpace e.space → reading_of (present n e o) ≡ of_origin n e o
unfolding reading_of present ten_words
present-back n e o h = (λ i. of_origin n (record { space = space-back n e o h i; behind = e.behind }) (eqb (flag o) 1)) ∙ ap (of_origin n e) (flag-back o)

pub reading-words : (r : Reading) → HeldReading r → reading_of (words r) ≡ r
unfolding reading_of words of_origin
reading-words Absent h = refl
reading-words (Single u o) (single h) = present-back 1 u o h
reading-words (Combined u o) (combined h) = present-back 2 u o h
reading-words (Copied u o) (copied h) = present-back 3 u o h
reading-words (Filled u o) (filled h) = present-back 4 u o h

-- ---- so equal words mean equal readings
pub same-words : (r q : Reading) → HeldReading r → HeldReading q → words r ≡ words q → r ≡ q
same-words r q h k e = sym (reading-words r h) ∙ ap reading_of e ∙ reading-words q k

-- ---- and a slot's words are all that step 8 needs of it
pub reached-words : (r : Reading) (v : Evaluated) (o : Bool) → HeldReading r → words (reached (reading_of (words r)) v o) ≡ words (reached r v o)
reached-words r v o h = ap (λ (q : Reading). words (reached q v o)) (reading-words r h)

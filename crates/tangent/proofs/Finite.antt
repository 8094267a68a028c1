-- A slot reached with finite directions has finite directions, and so say words 1 to 6. Assumes nothing.
use mathlib.Core.Path.{sym, subst}
use mathlib.Core.Bool.{Bool, true, false, cond}
use Prim.Native.Nat.{ℕ, zero, suc, ◌+◌, ◌<◌}
use native.Mathlib.Omega.{arith}
use lib.Dec.{T}
use lib.ListN.{get_or, replicate}
use lib.Ieee.{Float, binary32, fits, of_bits}
use Rattle.bits.specs.Word.{word, number, is_finite}
use Rattle.bits.proofs.Back.{number_word}
use Rattle.math.specs.declared.Vec3.{Vec3}
use Rattle.math.specs.Vector as math
use Rattle.math.specs.Held.{HeldVec}
use Rattle.math.proofs.Held.{added-held, unit-held}
use Rattle.math.proofs.Finite.{unit-finite}
use Rattle.tangent.specs.declared.RawTangentSpace.{RawTangentSpace}
use Rattle.tangent.specs.declared.Reading.{Reading}
use Rattle.tangent.specs.declared.Evaluated.{Evaluated}
use Rattle.tangent.specs.declared.Reading.TheVariants.{Absent, Single, Combined, Copied, Filled}
use Rattle.tangent.specs.Space.{equals, combine, united, reached, copy_of, copied as copy}
use Rattle.tangent.specs.Slot.{slot_words, ten_words, present, words}
use Rattle.tangent.specs.Finite.{Pointing, FiniteReading, absent, single, combined, copied, filled}
use Rattle.tangent.proofs.Held.{mixed}

-- two held vectors, each brought to unit length
pub units-point : (u v : Vec3) (a b : Float) → HeldVec u → HeldVec v → Pointing (record { s = math.unit_of u; t = math.unit_of v; s_magnitude = a; t_magnitude = b })
units-point u v a b h k = record { s_held = unit-held u; t_held = unit-held v; s_finite = unit-finite u h; t_finite = unit-finite v k }

combine-finite : (a b : RawTangentSpace) → Pointing a → Pointing (combine a b)
unfolding combine
combine-finite a b h = go (equals a b)
  where
    go : (t : Bool) → Pointing (cond t a (mixed a b))
    go true = h
    go false = units-point (math.added a.s b.s) (math.added a.t b.t) _ _ (added-held a.s b.s) (added-held a.t b.t)

united-finite : (a b : Evaluated) → Pointing a.space → Pointing (united a b).space
unfolding united
united-finite a b h = combine-finite a.space b.space h

pub reached-finite : (r : Reading) (v : Evaluated) (o : Bool) → FiniteReading r → Pointing v.space → FiniteReading (reached r v o)
unfolding reached
reached-finite Absent v o h k = single k
reached-finite (Single u w) v o (single h) k = combined (united-finite u v h)
reached-finite (Combined u w) v o (combined h) k = combined (united-finite u v h)
reached-finite (Copied u w) v o (copied h) k = combined (united-finite u v h)
reached-finite (Filled u w) v o (filled h) k = combined (united-finite u v h)

-- a copy
pub copy-finite : (quad : Bool) (r : Reading) → FiniteReading r → FiniteReading (copy_of quad r)
unfolding copy_of copy
copy-finite quad Absent h = absent
copy-finite true (Single u o) (single h) = filled h
copy-finite false (Single u o) (single h) = copied h
copy-finite true (Combined u o) (combined h) = filled h
copy-finite false (Combined u o) (combined h) = copied h
copy-finite true (Copied u o) (copied h) = filled h
copy-finite false (Copied u o) (copied h) = copied h
copy-finite true (Filled u o) (filled h) = filled h
copy-finite false (Filled u o) (filled h) = copied h

-- ---- words

told : (x : Float) → T (fits binary32 x) → T (is_finite x) → T (is_finite (number (word x)))
told x f h = subst (λ (y : Float). T (is_finite y)) (sym (number_word x f)) h

present-finite : (n : ℕ) (e : Evaluated) (o : Bool) → Pointing e.space → (i : ℕ) → i < 6 → T (is_finite (number (get_or (present n e o) (1 + i) 0)))
unfolding present ten_words
present-finite n e o h zero l = told e.space.s.x h.s_held.x_held h.s_finite.x_finite
present-finite n e o h (suc zero) l = told e.space.s.y h.s_held.y_held h.s_finite.y_finite
present-finite n e o h (suc (suc zero)) l = told e.space.s.z h.s_held.z_held h.s_finite.z_finite
present-finite n e o h (suc (suc (suc zero))) l = told e.space.t.x h.t_held.x_held h.t_finite.x_finite
present-finite n e o h (suc (suc (suc (suc zero)))) l = told e.space.t.y h.t_held.y_held h.t_finite.y_finite
present-finite n e o h (suc (suc (suc (suc (suc zero))))) l = told e.space.t.z h.t_held.z_held h.t_finite.z_finite
present-finite n e o h (suc (suc (suc (suc (suc (suc i)))))) l = absurd (no i l)
  where
    no : (i : ℕ) → suc (suc (suc (suc (suc (suc i))))) < 6 → ⊥
    no i l = omega arith

-- words 1 to 6 of a slot are words of finite numbers
pub words-finite : (r : Reading) → FiniteReading r → (i : ℕ) → i < 6 → T (is_finite (number (get_or (words r) (1 + i) 0)))
unfolding words is_finite of_bits
words-finite Absent h i l = none i l
  where
    none : (i : ℕ) → i < 6 → T (is_finite (number (get_or (replicate slot_words 0) (1 + i) 0)))
    none zero l = tt
    none (suc zero) l = tt
    none (suc (suc zero)) l = tt
    none (suc (suc (suc zero))) l = tt
    none (suc (suc (suc (suc zero)))) l = tt
    none (suc (suc (suc (suc (suc zero))))) l = tt
    none (suc (suc (suc (suc (suc (suc i)))))) l = absurd (no i l)
      where
        no : (i : ℕ) → suc (suc (suc (suc (suc (suc i))))) < 6 → ⊥
        no i l = omega arith
words-finite (Single u o) (single h) i l = present-finite 1 u o h i l
words-finite (Combined u o) (combined h) i l = present-finite 2 u o h i l
words-finite (Copied u o) (copied h) i l = present-finite 3 u o h i l
words-finite (Filled u o) (filled h) i l = present-finite 4 u o h i l

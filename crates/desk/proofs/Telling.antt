-- The verdict, by the first row of the table that applies. Assumes nothing.
use Prim.Native.Nat.{ℕ, ◌*◌, ◌≤◌, ◌<◌}
use native.Mathlib.Omega.{arith}
use mathlib.Core.Path.{◌≡◌, sym, ◌∙◌}
use mathlib.Core.Bool.{Bool, true, false, cond}
use mathlib.Core.Option.{Option, none, some}
use lib.Dec.{ltb}
use borrow.Author.Tests.{lt-ltb, le-ltb}
use lib.ListN.{length}
use Rattle.bits.specs.Word.{is_finite}
use Rattle.tangent.specs.Slot.{slot_words}
use Rattle.lists.specs.Lists.{first}
use Rattle.definition.specs.Limits.{face_limit, work_words}
use Rattle.definition.specs.Handed.{corner_count, slot_count}
use Rattle.definition.specs.Desk.{Shown, too_many, unfit, misfit, not_finite, no_normal, is_there, or_zero, table, verdict}
use Rattle.std.specs.Prelude.{Result, Ok, Err}
use Rattle.desk.specs.declared.Refusal.{Refusal}
use Rattle.desk.specs.declared.Refusal.TheVariants.{TooManyFaces, Misfit, Threshold, NotFinite, NoNormal, ShortAnswer, ShortWork, ShortOwn}
use Rattle.desk.specs.Verdict.{as_verdict, told, number_of, place_of}

module _ (x : Shown) where
  -- ---- what the rows say
  abbrev pub IsMany : Bool → Type 0
  IsMany b = too_many x.mesh.sizes ≡ b

  abbrev pub IsMisfit : Bool → Type 0
  IsMisfit b = misfit x.mesh ≡ b

  abbrev pub IsFinite : Bool → Type 0
  IsFinite b = is_finite x.threshold ≡ b

  abbrev pub Lowest : Option ℕ → Type 0
  Lowest o = not_finite x.mesh ≡ o

  abbrev pub Bare : Option ℕ → Type 0
  Bare o = no_normal x.mesh ≡ o

  abbrev Told : Result Unit Refusal → Type 0
  Told r = told r ≡ as_verdict (verdict x)

  pub many : face_limit < length x.mesh.sizes → IsMany true
  unfolding too_many
  many l = lt-ltb face_limit (length x.mesh.sizes) l

  pub few : length x.mesh.sizes ≤ face_limit → IsMany false
  unfolding too_many
  few l = le-ltb face_limit (length x.mesh.sizes) l

  pub fits : (n : ℕ) → n ≡ corner_count x.mesh.sizes → misfit x.mesh ≡ unfit n (length x.mesh.positions) (length x.mesh.normals) (length x.mesh.texture)
  unfolding misfit
  fits n e = rw (e)

  -- what the tests of the first two rows tell
  pub two-passed : (n : ℕ) (b : Bool) → length x.mesh.sizes ≤ face_limit → n ≡ corner_count x.mesh.sizes → b ≡ unfit n (length x.mesh.positions) (length x.mesh.normals) (length x.mesh.texture) → IsMany false × IsMisfit b
  two-passed n b l c u = (few l, fits n c ∙ sym u)

  -- ---- the first that applies
  pub row1 : IsMany true → Told (Err TooManyFaces)
  unfolding as_verdict verdict table first told number_of place_of
  row1 m = rw (m)

  pub row2 : IsMany false → IsMisfit true → Told (Err Misfit)
  unfolding as_verdict verdict table first told number_of place_of
  row2 m f = rw (m, f)

  pub row3 : IsMany false → IsMisfit false → IsFinite false → Told (Err Threshold)
  unfolding as_verdict verdict table first told number_of place_of
  row3 m f t = rw (m, f, t)

  pub row4 : IsMany false → IsMisfit false → IsFinite true → (i : ℕ) → Lowest (some i) → Told (Err (NotFinite i))
  unfolding as_verdict verdict table first is_there or_zero told number_of place_of
  row4 m f t i b = rw (m, f, t, b)

  pub row7 : IsMany false → IsMisfit false → IsFinite true → Lowest none → (i : ℕ) → Bare (some i) → Told (Err (NoNormal i))
  unfolding as_verdict verdict table first is_there or_zero told number_of place_of
  row7 m f t b i n = rw (m, f, t, b, n)

  -- ---- no row before the last two applies
  module _ (m : IsMany false) (f : IsMisfit false) (t : IsFinite true) (b : Lowest none) (n : Bare none) where
    pub row5 : x.answer < slot_words * slot_count x.mesh.sizes → Told (Err ShortAnswer)
    unfolding as_verdict verdict table first is_there or_zero told number_of place_of
    row5 a = rw (m, f, t, b, n, lt-ltb x.answer (slot_words * slot_count x.mesh.sizes) a)

    pub row6 : slot_words * slot_count x.mesh.sizes ≤ x.answer → x.work < work_words * length x.mesh.sizes → Told (Err ShortWork)
    unfolding as_verdict verdict table first is_there or_zero told number_of place_of
    row6 a w = rw (m, f, t, b, n, le-ltb x.answer (slot_words * slot_count x.mesh.sizes) a, lt-ltb x.work (work_words * length x.mesh.sizes) w)

    pub no-row : slot_words * slot_count x.mesh.sizes ≤ x.answer → work_words * length x.mesh.sizes ≤ x.work → Told (Ok tt)
    unfolding as_verdict verdict table first is_there or_zero told number_of place_of
    no-row a w = rw (m, f, t, b, n, le-ltb x.answer (slot_words * slot_count x.mesh.sizes) a, le-ltb x.work (work_words * length x.mesh.sizes) w)

-- a refusal has a number
pub number-some : (r : Refusal) → number_of r ≡ 0 → ⊥
unfolding number_of
number-some TooManyFaces e = absurd (omega (arith, e))
number-some Misfit e = absurd (omega (arith, e))
number-some Threshold e = absurd (omega (arith, e))
number-some (NotFinite i) e = absurd (omega (arith, e))
number-some (NoNormal i) e = absurd (omega (arith, e))
number-some ShortAnswer e = absurd (omega (arith, e))
number-some ShortWork e = absurd (omega (arith, e))
number-some ShortOwn e = absurd (omega (arith, e))

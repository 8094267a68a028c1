-- Words 10 and 11 of a slot. Assumes nothing.
use Prim.Native.Nat.{ℕ, ◌+◌, ◌*◌, ◌≤◌, ◌<◌}
use native.Mathlib.Omega.{arith}
use mathlib.Core.Path.{◌≡◌, refl, sym, ◌∙◌, ap, subst}
use mathlib.Core.Bool.{Bool, true, false, cond, not, ◌&&◌}
use mathlib.Core.List.{List, [], ◌∷◌, map, Memᴰ}
use lib.Dec.{eqb}
use lib.ListN.{length, get_or, take, length-map}
use lib.Ieee.{Float}
use Rattle.tangent.specs.declared.Evaluated.{Evaluated}
use Rattle.tangent.specs.declared.Reading.{Reading}
use Rattle.tangent.specs.declared.Reading.TheVariants.{Absent, Single, Combined, Copied, Filled}
use Rattle.tangent.specs.Space.{united, reached, copied as copy_from, copy_of}
use Rattle.tangent.specs.Slot.{copied_origin, filled_origin, ten_words, present, words}
use Rattle.lists.specs.Lists.{keep, run}
use Rattle.lists.specs.Parts.{sum_of}
use Rattle.lists.specs.Every.{Every, every_nil, every_cons}
use Rattle.definition.specs.declared.Corner.{Corner}
use Rattle.definition.specs.declared.Kept.{Kept}
use Rattle.definition.specs.declared.Triangle.{Triangle}
use Rattle.definition.specs.Mesh.{Spot, slot_of}
use Rattle.definition.specs.Limits.{face_limit}
use Rattle.definition.specs.Handed.{Call, mesh_of}
use Rattle.definition.specs.Desk.{at_desk}
use Rattle.definition.specs.Outcome.{Result}
use Rattle.definition.specs.Step4Order.{is_sound, sound}
use Rattle.definition.specs.Step5Links.{links}
use Rattle.definition.specs.Step6Groups.{Mark}
use Rattle.definition.specs.Step7Sums.{Brought, subgroup, bring, brought_all}
use Rattle.definition.specs.Step8Slots.{put, reading}
use Rattle.definition.specs.Triangles.{usable}
use Rattle.definition.specs.Names.{Names}
use Rattle.definition.proofs.Lengths.{mesh-length}
use Rattle.laws.proofs.Part.{every-keep, keep-map, keep-length}
use Rattle.laws.proofs.Pieces.{triangles-few}
use Rattle.laws.proofs.Shuffled.{every-mem}
use Rattle.laws.proofs.Closed.{links-sound}
use Rattle.laws.proofs.Numbers.{names-keep, triangles-names}
use Rattle.laws.proofs.Twice.{twice}
use Rattle.laws.proofs.Counting.{brings-plain, some-plain}
use Rattle.laws.proofs.Readings.{frames-every}
use Rattle.laws.proofs.Verdict.{fine}
use Rattle.view.specs.Answer.{HasSlot}
use Rattle.promises.specs.Calls.{Answers, Accepted, reading_at}
use Rattle.copies.proofs.Places.{slot-below}
use Rattle.promises.specs.Faithful.{SlotEnds, own, copy as copied-to, none_welded, all_triangles, sound_triangles, times_reached, final_reading, brought_reading, Copies, in_quad}
use Rattle.promises.specs.Origins.{present_word, origin_word, behind_word, marks_of, reaching, standing, standing_behind, CopyWords, SlotFrom, brought, copy, nowhere, SlotWords, Promised}
use Rattle.promises.specs.Directions.{slot_in}
use Rattle.promises.proofs.Acceptance.{no_row}
use Rattle.promises.proofs.Directions.{every-or, taken-slot}
use Rattle.promises.proofs.StepNine as nine

-- ---- one slot, reached at most twice

words-origin : (bs : List Brought) → length bs ≤ 2 → origin_word (words (run put Absent bs)) ≡ length bs
unfolding run put reached words present ten_words
words-origin [] l = refl
words-origin (b ∷ []) l = refl
words-origin (b ∷ c ∷ []) l = refl
words-origin (b ∷ c ∷ d ∷ bs) l = absurd (omega (arith, l))

words-behind : (bs : List Brought) → length bs ≤ 2 → sum_of (map (λ b. b.value.behind) bs) < 4294967296 → behind_word (words (run put Absent bs)) ≡ sum_of (map (λ b. b.value.behind) bs)
unfolding run put reached united words present ten_words sum_of
words-behind [] l k = refl
words-behind (b ∷ []) l k = omega arith
words-behind (b ∷ c ∷ []) l k = omega (arith, k)
words-behind (b ∷ c ∷ d ∷ bs) l k = absurd (omega (arith, l))

by-times : (h : Float) (m : List (List Corner)) (f i : ℕ) → origin_word (words (brought_reading h m f i)) ≡ times_reached h m f i
unfolding reading times_reached
by-times h m f i = words-origin (keep (λ b. eqb b.face f && eqb b.slot i) (brought_all h (sound_triangles m) (marks_of m))) (twice h m f i)

-- ---- the sum

module _ (h : Float) (m : List (List Corner)) where
  abbrev ss : List Triangle
  ss = sound_triangles m

  abbrev ms : List Mark
  ms = marks_of m

  names : Names ss
  unfolding sound
  names = names-keep is_sound (triangles-names 0 m)

  one-stands : (k : Mark) → Memᴰ k ms → 0 < standing h m k
  unfolding standing
  one-stands k i = some-plain ss (links ss) (links-sound ss) names h k i

  -- a subgroup is no longer than the sound triangles, and those are two a face at most
  subgroup-few : (k : Mark) → length (subgroup h ss ms k) ≤ length ss
  unfolding subgroup
  subgroup-few k = keep-length _ ss

  few : (k : Mark) → standing h m k ≤ 2 * length m
  unfolding standing sound
  few k =
      let a = keep-length (λ t. not t.any) (subgroup h ss ms k) in
      let b = subgroup-few k in
      let c = keep-length is_sound (all_triangles m) in
      let d = triangles-few 0 m in
      omega (arith, a, b, c, d)

  values : length m ≤ face_limit → {ks : List Mark} → Every (λ k. Memᴰ k ms) ks → sum_of (map (λ b. b.value.behind) (map (bring h ss ms) ks)) ≡ sum_of (map (standing h m) ks)
  unfolding sum_of bring standing
  values l every_nil = refl
  values l (every_cons {x = k} p r) = let a = few k in (λ z. brings-plain ss (links ss) (links-sound ss) names h k p (omega (arith, a, l)) z + values l r z)

  sum-few : (ks : List Mark) → length ks ≤ 2 → sum_of (map (standing h m) ks) ≤ 4 * length m
  unfolding sum_of
  sum-few [] l = omega arith
  sum-few (j ∷ []) l = let a = few j in omega (arith, a)
  sum-few (j ∷ k ∷ []) l = let a = few j in let b = few k in omega (arith, a, b)
  sum-few (j ∷ k ∷ i ∷ ks) l = absurd (omega (arith, l))

  module _ (f i : ℕ) where
    abbrev to_slot : Brought → Bool
    to_slot b = eqb b.face f && eqb b.slot i

    -- what is brought to the slot is what the marks bring that reach it
    brought-is : keep to_slot (brought_all h ss ms) ≡ map (bring h ss ms) (reaching m f i)
    unfolding brought_all bring reaching
    brought-is = keep-map to_slot (bring h ss ms) ms

    times-is : times_reached h m f i ≡ length (reaching m f i)
    unfolding times_reached
    times-is = ap length brought-is ∙ length-map (reaching m f i) (bring h ss ms)

    at-most-twice : length (reaching m f i) ≤ 2
    unfolding times_reached
    at-most-twice = subst (λ (n : ℕ). n ≤ 2) times-is (twice h m f i)

    all-marks : Every (λ k. Memᴰ k ms) (reaching m f i)
    unfolding reaching
    all-marks = every-keep _ (every-mem (λ k. Memᴰ k ms) ms (λ k j. j))

    by-sum : length m ≤ face_limit → behind_word (words (brought_reading h m f i)) ≡ standing_behind h m f i
    unfolding reading standing_behind
    by-sum l =
        let e = values l all-marks in
        let a = sum-few (reaching m f i) at-most-twice in
        ap (λ (bs : List Brought). behind_word (words (run put Absent bs))) brought-is
        ∙ words-behind (map (bring h ss ms) (reaching m f i)) (subst (λ (n : ℕ). n ≤ 2) (sym (length-map (reaching m f i) (bring h ss ms))) at-most-twice) (omega (arith, e, a, l))
        ∙ e

    -- where nothing stands behind it, nothing reached it
    none-reached : {ks : List Mark} → Every (λ k. Memᴰ k ms) ks → sum_of (map (standing h m) ks) ≡ 0 → length ks ≡ 0
    unfolding sum_of
    none-reached every_nil e = refl
    none-reached (every_cons {x = k} p r) e = let a = one-stands k p in absurd (omega (arith, a, e))

-- ---- any reading

none-there : (n : ℕ) (e : Evaluated) (o : Bool) → 0 < n → origin_word (present n e o) ≡ 0 → ⊥
unfolding present ten_words
none-there n e o p q = omega (arith, p, q)

present-origin : (r : Reading) → origin_word (words r) ≡ 0 → present_word (words r) ≡ 0
unfolding words
present-origin Absent q = refl
present-origin (Single e o) q = absurd (none-there 1 e o (omega arith) q)
present-origin (Combined e o) q = absurd (none-there 2 e o (omega arith) q)
present-origin (Copied e o) q = absurd (none-there 3 e o (omega arith) q)
present-origin (Filled e o) q = absurd (none-there 4 e o (omega arith) q)

-- something stands behind it, or it is absent
record Stood (r : Reading) : Type 0 where
  stood : behind_word (words r) ≡ 0 → present_word (words r) ≡ 0

absent-stood : Stood Absent
unfolding words
absent-stood = record { stood = λ e. refl }

there : (n : ℕ) (e : Evaluated) (o : Bool) → 0 < n → n ≤ 4 → (behind_word (present n e o) ≡ 0 → present_word (present n e o) ≡ 0) → SlotWords (present n e o)
unfolding present ten_words
there n e o p l s = record { highest = l; absent_origin = λ q. absurd (omega (arith, q)); origin_absent = λ q. absurd (none-there n e o p q); absent_behind = λ q. absurd (omega (arith, q)); behind_absent = s }

slot-words : (r : Reading) → Stood r → SlotWords (words r)
unfolding words
slot-words Absent s = record { highest = omega arith; absent_origin = λ q. refl; origin_absent = λ q. refl; absent_behind = λ q. refl; behind_absent = s.stood }
slot-words (Single e o) s = there 1 e o (omega arith) (omega arith) s.stood
slot-words (Combined e o) s = there 2 e o (omega arith) (omega arith) s.stood
slot-words (Copied e o) s = there 3 e o (omega arith) (omega arith) s.stood
slot-words (Filled e o) s = there 4 e o (omega arith) (omega arith) s.stood

-- ---- copies

copied-words : (quad : Bool) (n : ℕ) (e : Evaluated) (o : Bool) → CopyWords (cond quad 4 3) (present n e o) (words (copy_from e o quad))
unfolding copy_from words present ten_words
copied-words true n e o = record { origin = refl; behind = refl; ten = refl }
copied-words false n e o = record { origin = refl; behind = refl; ten = refl }

copy-words : (quad : Bool) (r : Reading) → CopyWords (cond quad 4 3) (words r) (words (copy_of quad r))
unfolding copy_of words
copy-words quad Absent = record { origin = refl; behind = refl; ten = refl }
copy-words quad (Single e o) = copied-words quad 1 e o
copy-words quad (Combined e o) = copied-words quad 2 e o
copy-words quad (Copied e o) = copied-words quad 3 e o
copy-words quad (Filled e o) = copied-words quad 4 e o

first-of-ten : (l : List ℕ) → present_word (take 10 l) ≡ present_word l
first-of-ten [] = refl
first-of-ten (x ∷ l) = refl

copy-stood : (quad : Bool) (r : Reading) → Stood r → Stood (copy_of quad r)
copy-stood quad r s =
    let c = copy-words quad r in
    record { stood = λ e. sym (first-of-ten (words (copy_of quad r))) ∙ ap present_word c.ten ∙ first-of-ten (words r) ∙ s.stood (sym c.behind ∙ e) }

by_copy : (h : Float) (m : List (List Corner)) (f : ℕ) (k : Kept) (s : Spot) (c : Copies m f k s) → CopyWords (cond (in_quad c) 4 3) (words (final_reading h m s.tri.face (slot_of s))) (words (final_reading h m f k.which))
by_copy h m f k s c =
    subst (λ (r : Reading). CopyWords (cond (in_quad c) 4 3) (words (final_reading h m s.tri.face (slot_of s))) (words r)) (sym (nine.copies m h f k s c)) (copy-words (in_quad c) (final_reading h m s.tri.face (slot_of s)))

no_copy_copied : (h : Float) (m : List (List Corner)) (f : ℕ) (k : Kept) (s : Spot) → Copies m f k s → origin_word (words (final_reading h m s.tri.face (slot_of s))) ≤ 2
unfolding times_reached
no_copy_copied h m f k s c =
    subst (λ (n : ℕ). n ≤ 2) (sym (ap (λ (r : Reading). origin_word (words r)) (nine.sources m h f k s c).1 ∙ by-times h m s.tri.face (slot_of s))) (twice h m s.tri.face (slot_of s))

-- ---- all slots

brought-stood : (h : Float) (m : List (List Corner)) → length m ≤ face_limit → (f i : ℕ) → Stood (brought_reading h m f i)
unfolding standing_behind
brought-stood h m l f i = record {
  stood = λ e. present-origin (brought_reading h m f i) (by-times h m f i ∙ times-is h m f i ∙ none-reached h m f i (all-marks h m f i) (sym (by-sum h m f i l) ∙ e));
}

few-faces : (x : Call) (z : Result) → Answers x z → z.number ≡ 0 → length (mesh_of x.mesh) ≤ face_limit
unfolding Accepted
few-faces x z a n =
    let e = mesh-length x.mesh.positions x.mesh.normals x.mesh.texture 0 x.mesh.sizes in
    let l = (fine (at_desk x) (no_row x (ap (λ (y : Result). y.number) (sym a) ∙ n))).few in
    omega (arith, e, l)

reading-stood : (x : Call) (f i : ℕ) → length (mesh_of x.mesh) ≤ face_limit → Stood (reading_at x f i)
unfolding reading_at
reading-stood x f i l = every-or Stood Absent absent-stood i (every-or (Every Stood) [] every_nil f (frames-every Stood absent-stood copy-stood x.threshold (mesh_of x.mesh) (brought-stood x.threshold (mesh_of x.mesh) l)))

-- by how step 9 leaves the slot
from-ends : (h : Float) (m : List (List Corner)) → length m ≤ face_limit → (f i : ℕ) → SlotEnds h m f i → SlotFrom h m f i (words (final_reading h m f i))
unfolding words
from-ends h m l f i (own s T g j e) = brought s T g j (ap (λ (r : Reading). origin_word (words r)) e ∙ by-times h m f i) (ap (λ (r : Reading). behind_word (words r)) e ∙ by-sum h m f i l)
from-ends h m l f i (copied-to k s e c) =
    copy k s c e (subst (λ (n : ℕ). CopyWords (cond (in_quad c) filled_origin copied_origin) (words (final_reading h m s.tri.face (slot_of s))) (words (final_reading h m f n))) e (by_copy h m f k s c))
from-ends h m l f i (none_welded k g B w e) = nowhere k g B w (ap words e)

slot_from : (x : Call) (z : Result) → Answers x z → z.number ≡ 0 → (f i : ℕ) → HasSlot x.mesh.sizes f i → SlotFrom x.threshold (mesh_of x.mesh) f i (slot_in x.mesh.sizes f i z.answer)
unfolding reading_at
slot_from x z a n f i h =
    let m = mesh_of x.mesh in
    let l = slot-below x.mesh.positions x.mesh.normals x.mesh.texture x.mesh.sizes f i h in
    subst (SlotFrom x.threshold m f i) (sym (taken-slot x z a n f i h))
    (from-ends x.threshold m (few-faces x z a n) f i (nine.all_slots m x.threshold f i (omega (arith, l, nine.slots_length 0 (usable (get_or m f []))))))

pub origins : Promised
origins = record {
  reached = by-times;
  times = times-is;
  summed = by-sum;
  some_stand = one-stands;
  copied = by_copy;
  no_copy_copied = no_copy_copied;
  slot_from = slot_from;
  slots = λ x z a n f i h. subst SlotWords (sym (taken-slot x z a n f i h)) (slot-words (reading_at x f i) (reading-stood x f i (few-faces x z a n)));
}

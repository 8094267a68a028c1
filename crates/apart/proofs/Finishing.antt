-- After the last island: what the call leaves behind. Assumes nothing.
use Prim.Native.Nat.{ℕ, ◌*◌, ◌≤◌, min}
use native.Mathlib.Nat.{one-mul}
use native.Mathlib.Omega.{arith}
use mathlib.Core.Path.{◌≡◌, sym, ◌∙◌, ap, subst}
use mathlib.Core.Bool.{Bool, true, false, ◌||◌}
use mathlib.Core.List.{List, ◌++◌}
use mathlib.Core.Option.{Option, none, some}
use lib.Dec.{ltb}
use lib.ListN.{length, get_or, take, drop}
use lib.Ieee.{Float, nan}
use borrow.Author.Tests.{ltb-false, le-ltb}
use Rattle.bits.proofs.Bools.{or_left, or_right}
use Rattle.bits.specs.Single.{zeroᶠ}
use Rattle.tangent.specs.Slot.{slot_words}
use Rattle.definition.specs.Limits.{face_limit, work_words}
use Rattle.definition.specs.Handed.{call, mesh_of, Handed, slot_count}
use Rattle.definition.specs.Desk.{shown, Row, verdict}
use Rattle.definition.specs.Outcome.{Result, answer_words, answered}
use Rattle.std.specs.Prelude.{Err}
use Rattle.desk.specs.declared.Refusal.{Refusal}
use Rattle.desk.specs.declared.Refusal.TheVariants.{ShortOwn}
use Rattle.desk.specs.Verdict.{as_verdict, told, number_of, place_of}
use Rattle.desk.proofs.Telling.{number-some}
use Rattle.mikktspace.specs.Contract.{left, outcome_of}
use Rattle.mikktspace.proofs.Verdicts.{all_slots}
use Rattle.islands.specs.Rows.{labelled}
use Rattle.islands.proofs.Together.{together-is}
use Rattle.apart.specs.Lists.{Past, cleared}
use Rattle.apart.specs.Steps.{Ready, Room, Kept, DoneBelow}
use Rattle.islands.specs.Nine.{afterwards}
use Rattle.apart.specs.Call.{Own, lists, number_entries, frame_entries, too_short, short, verdict_of, accepted_of, own_after, own_left, leaving, taken, islands_outcome}
use Rattle.apart.proofs.Lists.{cleared-low, cleared-past, cleared-same}
use Rattle.apart.proofs.Call.{outcome-by}
use Rattle.apart.proofs.Whole.{below_all}

-- ---- lists that are not too short

pub record Long (n : ℕ) (o : Own) : Type 0 where
  pub labels : n ≤ length o.labels
  pub order : 4 * n ≤ length o.order
  pub sizes : n ≤ length o.sizes
  pub numbers : number_entries * n ≤ length o.numbers
  pub frames : frame_entries * n ≤ length o.frames

none-of-five : (a b c d e : Bool) → (a || b || c || d || e) ≡ false → (a ≡ false) × (b ≡ false) × (c ≡ false) × (d ≡ false) × (e ≡ false)
none-of-five a b c d e p =
    let p4 = or_left (a || b || c || d) e p in
    let p3 = or_left (a || b || c) d p4 in
    let p2 = or_left (a || b) c p3 in
    (or_left a b p2, or_right a b p2, or_right (a || b) c p3, or_right (a || b || c) d p4, or_right (a || b || c || d) e p)

pub long-enough : (n : ℕ) (o : Own) → short n o ≡ false → Long n o
unfolding short too_short
long-enough n o e =
    let p = none-of-five (ltb (length o.labels) (1 * n)) (ltb (length o.order) (4 * n)) (ltb (length o.sizes) (1 * n)) (ltb (length o.numbers) (number_entries * n)) (ltb (length o.frames) (frame_entries * n)) e in
    let a = ltb-false (length o.labels) (1 * n) p.0 in
    let c = ltb-false (length o.sizes) (1 * n) p.2 in
    record {
      labels = omega (arith, a);
      order = ltb-false (length o.order) (4 * n) p.1;
      sizes = omega (arith, c);
      numbers = ltb-false (length o.numbers) (number_entries * n) p.3;
      frames = ltb-false (length o.frames) (frame_entries * n) p.4;
    }

-- and the other way
pub long-is : (n : ℕ) (o : Own) → Long n o → short n o ≡ false
unfolding short too_short
long-is n o l =
    let a = le-ltb (length o.labels) (1 * n) (omega (arith, l.labels)) in
    let b = le-ltb (length o.order) (4 * n) l.order in
    let c = le-ltb (length o.sizes) (1 * n) (omega (arith, l.sizes)) in
    let d = le-ltb (length o.numbers) (number_entries * n) l.numbers in
    let e = le-ltb (length o.frames) (frame_entries * n) l.frames in
    λ i. a i || b i || c i || d i || e i

-- the lists before the first island
pub room-first : (sizes a w v : List ℕ) (o : Own) → slot_words * slot_count sizes ≤ length a → work_words * length sizes ≤ length w → v ≡ cleared 0 (work_words * length sizes) w → Long (length sizes) o → Room sizes a v o.sizes o.numbers o.frames
room-first sizes a w v o p q e l = record {
  answer = p;
  work = let z = ap length e ∙ (cleared-past 0 0 (work_words * length sizes) w q).size in omega (arith, z, q);
  blank = λ x h. ap (λ y. get_or y x 0) e ∙ cleared-low 0 0 (work_words * length sizes) w x h;
  faces = l.sizes;
  numbers = l.numbers;
  frames = omega (arith, l.frames);
}

-- ---- acceptance

module _ (mesh : Handed) (h : Float) (a w : List ℕ) (o : Own) (room : slot_words * slot_count mesh.sizes ≤ length a) (l : Long (length mesh.sizes) o) where
  abbrev n : ℕ
  n = length mesh.sizes

  pub accepted-leaves : (s : ℕ) (b v v' labels order order' ss ss' : List ℕ) (xs xs' : List Float) (fs fs' : List ℕ) → n ≤ face_limit → s ≡ slot_count (take (min 65536 face_limit) mesh.sizes) → labels ≡ labelled mesh o.labels → Ready mesh order → Past 0 (4 * n) o.order order → v ≡ cleared 0 (work_words * n) w → DoneBelow mesh h n a b → v' ≡ v → Kept n o.sizes ss o.numbers xs o.frames fs → order' ≡ cleared 0 (4 * n) order → ss' ≡ cleared 0 n ss → xs' ≡ cleared zeroᶠ (number_entries * n) xs → fs' ≡ cleared 0 (frame_entries * n) fs → leaving (record { number = 0; place = 0; slots = s }) b v' (lists labels order' ss' xs' fs') ≡ taken (call mesh h a w) o
  unfolding leaving left taken accepted_of own_after
  accepted-leaves s b v v' labels order order' ss ss' xs xs' fs fs' few e1 e2 ready p e3 done e4 kept e5 e6 e7 e8 =
      let f : Past 0 (frame_entries * n) o.frames fs = subst (λ x. Past 0 x o.frames fs) (omega arith) kept.frames in
      let E1 = all_slots mesh.sizes s few e1 in
      let E3 = e4 ∙ e3 in
      let E4 = below_all mesh h order ready a b room done ∙ ap (λ m. answer_words m ++ drop (slot_words * slot_count mesh.sizes) a) (sym (together-is h (mesh_of mesh))) in
      let E5 = e5 ∙ cleared-same 0 0 (4 * n) o.order order l.order p in
      let E6 = e6 ∙ cleared-same 0 0 n o.sizes ss l.sizes kept.sizes ∙ ap (λ k. cleared 0 k o.sizes) (sym (one-mul n)) in
      let E7 = e7 ∙ cleared-same nan zeroᶠ (number_entries * n) o.numbers xs l.numbers kept.numbers in
      let E8 = e8 ∙ cleared-same 0 0 (frame_entries * n) o.frames fs l.frames f in
      λ i. record { result = record { number = 0; place = 0; slots = E1 i; answer = E4 i; work = E3 i }; own = record { labels = e2 i; order = E5 i; sizes = E6 i; numbers = E7 i; frames = E8 i } }

-- ---- the call

-- a refusal of the table
refused-by : (v : Option Row) (r : Refusal) (b : Bool) (z : Result) (y o : Own) (a w : List ℕ) → told (Err r) ≡ as_verdict v → leaving (outcome_of (Err r)) a w o ≡ record { result = answered (afterwards v b) z a w; own = own_left (afterwards v b) y o }
unfolding leaving left told as_verdict afterwards answered own_left outcome_of
refused-by none r b z y o a w e = absurd (number-some r (ap (λ x. x.number) e))
refused-by (some x) r b z y o a w e = λ i. record { result = record { number = (e i).number; place = (e i).place; slots = 0; answer = a; work = w }; own = o }

module _ (mesh : Handed) (h : Float) (a w : List ℕ) (o : Own) where
  abbrev v : Option Row
  v = verdict (shown mesh h (length a) (length w))

  pub table-leaves : (r : Refusal) → told (Err r) ≡ as_verdict v → leaving (outcome_of (Err r)) a w o ≡ islands_outcome (call mesh h a w) o
  unfolding islands_outcome verdict_of
  table-leaves r e = refused-by v r (short (length mesh.sizes) o) (accepted_of (call mesh h a w)) (own_after mesh o) o a w e

  pub nine-leaves : v ≡ none → short (length mesh.sizes) o ≡ true → leaving (outcome_of (Err ShortOwn)) a w o ≡ islands_outcome (call mesh h a w) o
  unfolding afterwards leaving left answered own_left outcome_of number_of place_of
  nine-leaves k s = sym (outcome-by mesh h a w o none true k s)

  pub taken-leaves : v ≡ none → short (length mesh.sizes) o ≡ false → taken (call mesh h a w) o ≡ islands_outcome (call mesh h a w) o
  unfolding afterwards taken answered own_left
  taken-leaves k s = sym (outcome-by mesh h a w o none false k s)

-- Slots of a face by the words of the face: what is alike in the words of a face is alike slot by slot. Assumes nothing.
use Prim.Native.Nat.{ℕ, zero, suc, ◌+◌, ◌*◌, ◌≤◌, ◌<◌}
use native.Mathlib.Omega.{arith}
use mathlib.Core.Path.{◌≡◌, sym, ◌∙◌, ap}
use mathlib.Core.List.{List, [], ◌∷◌}
use lib.ListN.{length, get_or, take, drop, length-append}
use Rattle.tangent.specs.Slot.{slot_words}
use Rattle.lists.specs.Parts.{part}
use Rattle.lists.proofs.Parts.{length_part, part-part}
use Rattle.definition.specs.Handed.{Call, mesh_of, slots_of, slot_count}
use Rattle.definition.specs.Outcome.{Result, answer_words}
use Rattle.definition.specs.Frames.{frames}
use Rattle.laws.proofs.Bridge.{answer_length}
use Rattle.view.specs.Answer.{slot_number, HasSlot}
use Rattle.promises.specs.Calls.{Answers, Accepted, slots_before, face_answer}
use Rattle.promises.specs.Directions.{slot_in}
use Rattle.promises.proofs.Demand3.{taken_is}

-- the slots of a face are among all
face-fits : (sizes : List ℕ) (n : ℕ) → n < length sizes → slot_count (take n sizes) + slots_of (get_or sizes n 0) ≤ slot_count sizes
unfolding slot_count
face-fits [] n h = absurd (omega arith)
face-fits (k ∷ sizes) zero h = omega arith
face-fits (k ∷ sizes) (suc n) h = let r = face-fits sizes n (omega arith) in omega (arith, r)

-- an accepted answer has them all
answer-fits : (x : Call) (z : Result) → Answers x z → z.number ≡ 0 → slot_words * slot_count x.mesh.sizes ≤ length z.answer
unfolding Accepted
answer-fits x z q e =
    let A = answer_words (frames x.threshold (mesh_of x.mesh)) in
    let is = ap (λ (y : Result). y.answer) q ∙ taken_is x (sym (ap (λ (y : Result). y.number) q) ∙ e) in
    omega (arith, ap length is ∙ length-append A (drop (slot_words * slot_count x.mesh.sizes) x.answer), answer_length x.mesh.positions x.mesh.normals x.mesh.texture x.threshold x.mesh.sizes)

module _ (sizes answer : List ℕ) (long : slot_words * slot_count sizes ≤ length answer) (n : ℕ) (h : n < length sizes) where
  -- how long a face's words are
  pub face-length : length (face_answer sizes answer n) ≡ slot_words * slots_of (get_or sizes n 0)
  unfolding face_answer slots_before part
  face-length = length_part (slot_words * slot_count (take n sizes)) (slot_words * slots_of (get_or sizes n 0)) answer (omega (arith, long, face-fits sizes n h))

  -- a slot is a part of them
  pub slot-part : (i : ℕ) → i < slots_of (get_or sizes n 0) → slot_in sizes n i answer ≡ part (slot_words * i) slot_words (face_answer sizes answer n)
  unfolding face_answer slots_before part
  slot-part i l =
      let p = slot_words * slot_count (take n sizes) in
      let at : slot_words * slot_number sizes n i ≡ p + slot_words * i = omega arith in
      ap (λ (k : ℕ). take slot_words (drop k answer)) at
      ∙ sym (part-part p (slot_words * slots_of (get_or sizes n 0)) (slot_words * i) slot_words answer (omega (arith, l)) (omega (arith, long, face-fits sizes n h)))

-- faces with the same words have the same slots
pub same_slots : (x y : Call) (z r : Result) → Answers x z → Answers y r → z.number ≡ 0 → r.number ≡ 0 → (n k : ℕ) → k < length y.mesh.sizes → face_answer y.mesh.sizes r.answer k ≡ face_answer x.mesh.sizes z.answer n
    → (i : ℕ) → HasSlot x.mesh.sizes n i → slot_in y.mesh.sizes k i r.answer ≡ slot_in x.mesh.sizes n i z.answer
same_slots x y z r qx qy ex ey n k h e i H =
    let sx = x.mesh.sizes in
    let sy = y.mesh.sizes in
    let lx = answer-fits x z qx ex in
    let ly = answer-fits y r qy ey in
    let f = face-length sx z.answer lx n H.face in
    let g = face-length sy r.answer ly k h in
    slot-part sy r.answer ly k h i (omega (arith, sym g ∙ (ap length e ∙ f), H.slot))
    ∙ (ap (part (slot_words * i) slot_words) e ∙ sym (slot-part sx z.answer lx n H.face i H.slot))

-- The call for frames and reasons (crate reasons; dokphalun_reasons of the archive): what is promised of whatever its contract allows. Definitions only.
use Rattle.std.specs.Prelude.{ℕ, ◌≤◌, ◌<◌, ◌≡◌, List, length, get_or, drop, Float}
use Rattle.tangent.specs.declared.Reading.TheVariants.{Absent}
use Rattle.definition.specs.declared.Corner.{Corner}
use Rattle.definition.specs.Handed.{Call, mesh_of, slot_count}
use Rattle.definition.specs.Outcome.{Result}
use Rattle.view.specs.Answer.{slot_number, HasSlot}
use Rattle.mikktspace.specs.declared.Outcome.{Outcome}
use Rattle.reasons.specs.Reasons.{no_reason, unwelded_slot, copying_slot, unreached_slot}
use Rattle.reasons.specs.Contract.{Explains}
use Rattle.promises.specs.Calls.{leaves, Answers, Accepted}
use Rattle.promises.specs.Faithful.{slots_at, final_reading}
use Rattle.promises.specs.Reasons.{Unwelded, CopiesAbsent, Unreached}

-- a call that was made, with the list k lent for the reasons: what it returned, and the three lists after it, as its contract allows
pub record ReasonsMade (x : Call) (k : List ℕ) : Type 0 where
  pub returned : Outcome
  pub answer : List ℕ
  pub work : List ℕ
  pub reasons : List ℕ
  pub meets : Explains x k returned answer work reasons

-- all of it but the reasons
abbrev pub remains : {x : Call} {k : List ℕ} → ReasonsMade x k → Result
remains m = record { number = m.returned.number; place = m.returned.place; slots = m.returned.slots; answer = m.answer; work = m.work }

-- the byte of slot i of face f
abbrev pub reason_at : {x : Call} {k : List ℕ} → ReasonsMade x k → ℕ → ℕ → ℕ
reason_at {x} m f i = get_or m.reasons (slot_number x.mesh.sizes f i) 0

-- what a byte says of slot i of face f, with its ground
pub data Says (h : Float) (m : List (List Corner)) (f i b : ℕ) : Type 0 where
  present : b ≡ no_reason → (final_reading h m f i ≡ Absent → ⊥) → Says h m f i b
  unwelded : b ≡ unwelded_slot → Unwelded m f i → Says h m f i b
  copies_absent : b ≡ copying_slot → CopiesAbsent h m f i → Says h m f i b
  unreached : b ≡ unreached_slot → Unreached m f i → Says h m f i b

pub record Promised : Type 0 where
  -- the byte of every slot of an accepted call has its ground, and no two bytes have one for the same slot
  pub told : (x : Call) (k : List ℕ) (m : ReasonsMade x k) → m.returned.number ≡ 0 → (f i : ℕ) → HasSlot x.mesh.sizes f i → Says x.threshold (mesh_of x.mesh) f i (reason_at m f i)
  pub only : (h : Float) (m : List (List Corner)) (f i b c : ℕ) → Says h m f i b → Says h m f i c → b ≡ c
  -- no byte depends on the threshold
  pub any_threshold : (g h : Float) (m : List (List Corner)) (f i b : ℕ) → i < length (slots_at m f) → Says g m f i b → Says h m f i b
  -- where there is a byte a slot, all but the reasons is what the call for frames leaves
  pub frames : (x : Call) (k : List ℕ) (m : ReasonsMade x k) → slot_count x.mesh.sizes ≤ length k → Answers x (remains m)
  -- the other refusals come first, with their places, then 9 at place 0 where there is less than a byte a slot
  pub table_first : (x : Call) (k : List ℕ) (m : ReasonsMade x k) → (Accepted x → ⊥) → (m.returned.number ≡ (leaves x).number) × (m.returned.place ≡ (leaves x).place)
  pub nine : (x : Call) (k : List ℕ) (m : ReasonsMade x k) → Accepted x → length k < slot_count x.mesh.sizes → (m.returned.number ≡ 9) × (m.returned.place ≡ 0)
  -- a refusal alters nothing
  pub refused : (x : Call) (k : List ℕ) (m : ReasonsMade x k) → (m.returned.number ≡ 0 → ⊥) → (m.returned.slots ≡ 0) × (m.answer ≡ x.answer) × (m.work ≡ x.work) × (m.reasons ≡ k)
  -- and nothing alters a byte past the slots
  pub past : (x : Call) (k : List ℕ) (m : ReasonsMade x k) → drop (slot_count x.mesh.sizes) m.reasons ≡ drop (slot_count x.mesh.sizes) k
  -- any two outcomes that the contract allows are equal
  pub determined : (x : Call) (k : List ℕ) (m n : ReasonsMade x k) → (m.returned ≡ n.returned) × (m.answer ≡ n.answer) × (m.work ≡ n.work) × (m.reasons ≡ n.reasons)

-- The public call (crate mikktspace; dokphalun_frames of the archive): the demands, of whatever its contract allows. Definitions only.
use Rattle.std.specs.Prelude.{ℕ, ◌≡◌, Bool, false, ◌⊎◌, List}
use Rattle.definition.specs.Outcome.{Result}
use Rattle.definition.specs.Shuffle.{Shuffle, shares}
use Rattle.view.specs.Answer.{HasSlot}
use Rattle.mikktspace.specs.declared.Outcome.{Outcome}
use Rattle.mikktspace.specs.Contract.{left, Contract}
use Rattle.definition.specs.Handed.{Call, mesh_of}
use Rattle.promises.specs.Calls.{leaves}
use Rattle.promises.specs.Demand1.{Refused, Taken}
use Rattle.promises.specs.Demand3.{Demand3}
use Rattle.promises.specs.Directions.{slot_in, FiniteWords}

-- a call that was made: what it returned, and the two lists after it, as its contract allows
pub record Made (x : Call) : Type 0 where
  pub returned : Outcome
  pub answer : List ℕ
  pub work : List ℕ
  pub meets : Contract x returned answer work

-- all that it left behind
abbrev pub remains : {x : Call} → Made x → Result
remains m = left m.returned m.answer m.work

-- (That each call ends is part of what its contract says.)
pub record Promised : Type 1 where
  -- demand 1: refused with one of seven numbers and nothing altered, or accepted; absent told apart from every number
  pub demand_1 : (x : Call) (m : Made x) → Refused x (remains m) ⊎ Taken x (remains m)
  -- demand 2: 'Every word of every answer equals the definition'
  pub demand_2 : (x : Call) (m : Made x) → remains m ≡ leaves x
  -- demand 3: of three accepted calls at one threshold, the third mesh a shuffle of the two others, which share no welded corner
  pub demand_3 : (p : List Bool) (a b c : Call) (ma : Made a) (mb : Made b) (mc : Made c) → Shuffle p (mesh_of a.mesh) (mesh_of b.mesh) (mesh_of c.mesh) → shares (mesh_of a.mesh) (mesh_of b.mesh) ≡ false → a.threshold ≡ c.threshold → b.threshold ≡ c.threshold → ma.returned.number ≡ 0 → mb.returned.number ≡ 0 → mc.returned.number ≡ 0 → Demand3 p a b c (remains ma) (remains mb) (remains mc)
  -- 'Any pair of outcomes satisfying it is shown identical'
  pub determined : (x : Call) (m n : Made x) → (m.returned ≡ n.returned) × (m.answer ≡ n.answer) × (m.work ≡ n.work)
  -- request E6: of an accepted call each direction word of each slot is the word of a finite number, no NaN and no infinity
  pub directions : (x : Call) (m : Made x) → m.returned.number ≡ 0 → (f i : ℕ) → HasSlot x.mesh.sizes f i → FiniteWords (slot_in x.mesh.sizes f i m.answer)

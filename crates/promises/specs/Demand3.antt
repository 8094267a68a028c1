-- Demand 3 (README): 'Shuffle two meshes that share no welded corner into one: each face gets, word for word, the frames it had alone.' Definitions only.
use Rattle.std.specs.Prelude.{ℕ, zero, suc, ◌<◌, ◌≡◌, Bool, true, false, List, [], ◌∷◌, length}
use Rattle.definition.specs.Shuffle.{Shuffle, shares}
use Rattle.definition.specs.Outcome.{Result}
use Rattle.definition.specs.Handed.{Call, mesh_of}
use Rattle.promises.specs.Calls.{Answers, face_answer}

-- where face number n of the first mesh stands in a shuffle by the pattern: true takes the next face of the first mesh, false the next of the second
unfoldable pub left_at : List Bool → ℕ → ℕ
left_at [] n = 0
left_at (true ∷ p) zero = 0
left_at (true ∷ p) (suc n) = suc (left_at p n)
left_at (false ∷ p) n = suc (left_at p n)

-- where face number n of the second mesh stands
unfoldable pub right_at : List Bool → ℕ → ℕ
right_at [] n = 0
right_at (true ∷ p) n = suc (right_at p n)
right_at (false ∷ p) zero = 0
right_at (false ∷ p) (suc n) = suc (right_at p n)

-- Of three accepted calls at one threshold, the third mesh a shuffle of the two others, which share no welded corner:
-- the words answered for each face of the shuffle are those that its mesh got alone.
pub record Demand3 (p : List Bool) (a b m : Call) (ra rb rm : Result) : Type 0 where
  pub first : (n : ℕ) → n < length a.mesh.sizes → face_answer m.mesh.sizes rm.answer (left_at p n) ≡ face_answer a.mesh.sizes ra.answer n
  pub second : (n : ℕ) → n < length b.mesh.sizes → face_answer m.mesh.sizes rm.answer (right_at p n) ≡ face_answer b.mesh.sizes rb.answer n

-- the promise
unfoldable pub Promised : Type 0
Promised =
    (p : List Bool) (a b m : Call) (ra rb rm : Result) → Answers a ra → Answers b rb → Answers m rm → Shuffle p (mesh_of a.mesh) (mesh_of b.mesh) (mesh_of m.mesh) → shares (mesh_of a.mesh) (mesh_of b.mesh) ≡ false
    → a.threshold ≡ m.threshold → b.threshold ≡ m.threshold → ra.number ≡ 0 → rb.number ≡ 0 → rm.number ≡ 0 → Demand3 p a b m ra rb rm

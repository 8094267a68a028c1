-- What is said of what a search found, as a stage of the verdict. Assumes nothing.
use Prim.Native.Nat.{ℕ, ◌+◌, ◌<◌}
use native.Mathlib.Omega.{arith}
use mathlib.Core.Path.{◌≡◌, refl, ap, ◌∙◌}
use Rattle.std.proofs.Common.{Option, Some, None, Result, Ok, Err}
use Rattle.asked.specs.Lowest.{Finds, Stage, objected}
use Rattle.asked.proofs.Stages.{clear-more, stops, passes, stage-on, stage-off}
use Rattle.examiner.specs.declared.Fault.{Fault}
use Rattle.examiner.specs.declared.Fault.TheVariants.{Misfit, Wide, Crooked, OneSided, LeftOver, NoFlag, Turned, Loose, OtherVertex, OtherWay, Parted, Severed}
use Rattle.examiner.specs.declared.Objection.{Objection}
use Rattle.examiner.specs.Said.{number_of, number_in, place_in, refusal, Refuses}

refuses : (fault : Fault) (P : ℕ → Type 0) (n : ℕ) (found : Option ℕ) → Finds P n found → Refuses fault P n (refusal fault found)
refuses fault P n None f = f
refuses fault P n (Some r) f = (refl, f.0, f.1, f.2)

pub says : (fault : Fault) (P : ℕ → Type 0) (n : ℕ) (found : Option ℕ) (said : Result Unit Objection) → said ≡ refusal fault found → Finds P n found → Refuses fault P n said
says fault P n found said e f = rw e (refuses fault P n found f)

-- a fault has a number
pub numbered : (fault : Fault) → 0 < number_of fault
numbered Misfit = omega arith
numbered Wide = omega arith
numbered Crooked = omega arith
numbered OneSided = omega arith
numbered LeftOver = omega arith
numbered NoFlag = omega arith
numbered Turned = omega arith
numbered Loose = omega arith
numbered OtherVertex = omega arith
numbered OtherWay = omega arith
numbered Parted = omega arith
numbered Severed = omega arith

module _ (A : ℕ → ℕ → Type 0) (m : ℕ) where
  -- one fault
  pub stage-of : (k n : ℕ) (fault : Fault) (P : ℕ → Type 0) (said : Result Unit Objection) → number_of fault ≡ k → k < m → ((q : ℕ) → A k q → (q < n) × P q) → ((q : ℕ) → (q < n) × P q → A k q) → Refuses fault P n said → Stage A m k (k + 1) (number_in said) (place_in said)
  stage-of k n fault P (Ok x) e h to back R = passes A m k (k + 1) 0 0 refl refl (λ c. clear-more A k c (λ q a. let y = to q a in R q y.0 y.1))
  stage-of k n fault P (Err o) e h to back R =
      stops A m k (k + 1) k o.place (number_of o.fault) o.place (ap number_of R.0 ∙ e) refl (omega (arith, numbered fault, e)) (λ c. objected k o.place h (back o.place (R.1, R.2)) c (λ q i a. R.3 q i (to q a).1))

  -- a stage after a stage that passed, and one that stops all
  pub stage-ok : (from mid to : ℕ) (said : Result Unit Objection) (x : Unit) (number place : ℕ) → said ≡ Ok x → Stage A m from mid (number_in said) (place_in said) → Stage A m mid to number place → Stage A m from to number place
  stage-ok from mid to said x number place e S T = stage-on A m from mid to 0 0 number place (rw e at S) refl T

  pub stage-err : (from mid to : ℕ) (said : Result Unit Objection) (o : Objection) → said ≡ Err o → Stage A m from mid (number_in said) (place_in said) → Stage A m from to (number_of o.fault) o.place
  stage-err from mid to said o e S = stage-off A m from mid to (number_of o.fault) o.place (rw e at S) (λ z. omega (arith, numbered o.fault, z))

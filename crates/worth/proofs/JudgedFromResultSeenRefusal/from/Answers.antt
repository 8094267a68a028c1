-- `worth::JudgedFromResultSeenRefusal::from` meets its contract. Assumes nothing.
use Prim.Native.Nat.{ℕ}
use native.Mathlib.Omega.{arith}
use mathlib.Core.Path.{◌≡◌, sym, ap, ◌∙◌}
use Rattle.std.specs.Prelude.{Result, Ok}
use Rattle.worth.specs.declared.Seen.{Seen}
use Rattle.worth.specs.declared.Judged.{Judged}
use Rattle.worth.specs.declared.Refusal.{Refusal}
use Rattle.worth.specs.Contract.{judged_of}
use Rattle.worth.proofs.Outcomes.{number-is}
use Rattle.worth.proofs.JudgedFromResultSeenRefusal.from.Goals as goal

-- what C gets, by equations of its fields
made : (x y : ℕ) (p : Seen) (r : Result Seen Refusal) → x ≡ p.good → y ≡ p.first → r ≡ Ok p → ◌≡◌ {A = Judged} (record { number = 0; good = x; first = y }) (judged_of r)
made x y p r e f h = (λ i. record { number = 0; good = e i; first = f i }) ∙ sym (ap judged_of h)

pub returns-in-Ok : goal.returns-in-Ok
returns-in-Ok c = made _ _ c.in-Ok.seen _ (omega arith) (omega arith) c.in-Ok.is

pub returns-in-Err : goal.returns-in-Err
returns-in-Err c = (λ z. record { number = number-is c.in-Err.refusal z; good = 0; first = 0 }) ∙ sym (ap judged_of c.in-Err.is)

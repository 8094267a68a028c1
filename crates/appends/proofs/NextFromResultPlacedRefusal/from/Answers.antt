-- `appends::NextFromResultPlacedRefusal::from` meets its contract. Assumes nothing.
use Prim.Native.Nat.{ℕ}
use native.Mathlib.Omega.{arith}
use mathlib.Core.Path.{◌≡◌, sym, ap, ◌∙◌}
use Rattle.std.specs.Prelude.{Result, Ok}
use Rattle.appends.specs.declared.Placed.{Placed}
use Rattle.appends.specs.declared.Next.{Next}
use Rattle.appends.specs.declared.Refusal.{Refusal}
use Rattle.appends.specs.Contract.{next_of}
use Rattle.appends.proofs.Outcomes.{number-is}
use Rattle.appends.proofs.NextFromResultPlacedRefusal.from.Goals as goal

-- what C gets, by equations of its fields
made : (x y : ℕ) (p : Placed) (r : Result Placed Refusal) → x ≡ p.count → y ≡ p.at → r ≡ Ok p → ◌≡◌ {A = Next} (record { number = 0; records = x; at = y }) (next_of r)
made x y p r e f h = (λ i. record { number = 0; records = e i; at = f i }) ∙ sym (ap next_of h)

pub returns-in-Ok : goal.returns-in-Ok
returns-in-Ok c = made _ _ c.in-Ok.placed _ (omega arith) (omega arith) c.in-Ok.is

pub returns-in-Err : goal.returns-in-Err
returns-in-Err c = (λ z. record { number = number-is c.in-Err.refusal z; records = 0; at = 0 }) ∙ sym (ap next_of c.in-Err.is)

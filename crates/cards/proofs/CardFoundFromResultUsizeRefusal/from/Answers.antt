-- `cards::CardFoundFromResultUsizeRefusal::from` meets its contract. Assumes nothing.
use mathlib.Core.Path.{sym, ap, ◌∙◌}
use Rattle.cards.specs.Contract.{found}
use Rattle.cards.proofs.Outcomes.{number-is}
use Rattle.cards.proofs.CardFoundFromResultUsizeRefusal.from.Goals as goal

pub returns-in-Ok : goal.returns-in-Ok
returns-in-Ok c = sym (ap found c.in-Ok.is)

pub returns-in-Err : goal.returns-in-Err
returns-in-Err c = (λ z. record { number = number-is c.in-Err.refusal z; past = 0 }) ∙ sym (ap found c.in-Err.is)

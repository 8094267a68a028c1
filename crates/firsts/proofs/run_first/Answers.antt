-- Proof that `run_first` meets its contract. Assumes nothing.
use native.Mathlib.Omega.{arith}
use mathlib.Core.Path.{sym, ◌∙◌}
use Rattle.firsts.specs.Firsts.{begins, goes_on}
use Rattle.firsts.proofs.run_first.Goals as goal

pub returns-in-Some : goal.returns-in-Some
returns-in-Some c = rw c.in-Some.is (goes_on (rw c.in-Some.is at c.requires.1) (sym c.word_at.ensures ∙ (c.if-word_at-word.true ∙ c.word_at-word.ensures)))

pub returns-in_default : goal.returns-in_default
returns-in_default c = rw c.in-Some.is (begins (λ l al. c.if-word_at-word.false (c.word_at.ensures ∙ (al ∙ sym c.word_at-word.ensures))))

pub returns-in_default-2 : goal.returns-in_default-2
returns-in_default-2 c = rw c.in_default.is (begins (λ l al. omega (arith, l)))

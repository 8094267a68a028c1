-- `fellows::loose_at` meets its contract. Assumes nothing.
use mathlib.Core.Path.{sym, ◌∙◌}
use Rattle.asked.proofs.Rows.{told-not, tells-equal}
use Rattle.fellows.proofs.loose_at.Goals as goal

pub returns-then-any_at-ne0 : goal.returns-then-any_at-ne0
returns-then-any_at-ne0 c = told-not (λ k. c.if-any_at-ne0.true (c.any_at.ensures ∙ k.firm))

pub returns : goal.returns
returns c =
    tells-equal _ _
    (λ h. record { firm = sym c.any_at.ensures ∙ c.if-any_at-ne0.false; free = sym c.word_at.ensures ∙ h })
    (λ h k. h (c.word_at.ensures ∙ k.free))

-- `fellows::firm_pair` meets its contract. Assumes nothing.
use mathlib.Core.Path.{sym, ◌∙◌}
use Rattle.asked.proofs.Rows.{told-not, tells-equal}
use Rattle.fellows.proofs.firm_pair.Goals as goal

pub returns-then-any_at-ne0 : goal.returns-then-any_at-ne0
returns-then-any_at-ne0 c = told-not (λ f. c.if-any_at-ne0.true (c.any_at.ensures ∙ f.near))

pub returns-then-any_at-ne0-2 : goal.returns-then-any_at-ne0-2
returns-then-any_at-ne0-2 c = told-not (λ f. c.if-any_at-ne0-2.true (c.any_at-2.ensures ∙ f.far))

pub returns : goal.returns
returns c =
    tells-equal _ _
    (λ h. record { near = sym c.any_at.ensures ∙ c.if-any_at-ne0.false; far = sym c.any_at-2.ensures ∙ c.if-any_at-ne0-2.false; same = sym c.word_at.ensures ∙ (h ∙ c.word_at-2.ensures) })
    (λ h f. h (c.word_at.ensures ∙ (f.same ∙ sym c.word_at-2.ensures)))

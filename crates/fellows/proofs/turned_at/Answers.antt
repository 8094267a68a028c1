-- `fellows::turned_at` meets its contract. Assumes nothing.
use mathlib.Core.Path.{sym, ◌∙◌}
use Rattle.asked.proofs.Rows.{told-not, tells-differ}
use native.Mathlib.Omega.{arith}
use Rattle.fellows.proofs.turned_at.Goals as goal

pub returns-then-any_at-ne0 : goal.returns-then-any_at-ne0
returns-then-any_at-ne0 c = told-not (λ k. c.if-any_at-ne0.true (c.any_at.ensures ∙ k.firm))

pub returns : goal.returns
returns c =
    tells-differ _ _
    (λ h. record { firm = sym c.any_at.ensures ∙ c.if-any_at-ne0.false; differs = λ z. h (omega (arith, c.word_at-theirs.ensures, z, c.way_at-ours.ensures)) })
    (λ h k. k.differs (omega (arith, c.word_at-theirs.ensures, h, c.way_at-ours.ensures)))

-- `worth::present_worth` meets its contract. Assumes nothing.
use mathlib.Core.Path.{sym, ◌∙◌}
use Rattle.worth.specs.Worth.{present_worth}
use Rattle.worth.proofs.present_worth.Goals as goal

pub returns-then-not-directed : goal.returns-then-not-directed
unfolding present_worth
returns-then-not-directed c = simp (sym c.directed.ensures ∙ c.if-not-directed.true)

pub returns-then-not-all_near : goal.returns-then-not-all_near
unfolding present_worth
returns-then-not-all_near c =
    simp (sym c.directed.ensures ∙ c.if-not-directed.false, sym c.all_near.ensures ∙ c.if-not-all_near.true)

pub returns-then-not-both_shown : goal.returns-then-not-both_shown
unfolding present_worth
returns-then-not-both_shown c =
    simp (sym c.directed.ensures ∙ c.if-not-directed.false, sym c.all_near.ensures ∙ c.if-not-all_near.false, sym c.both_shown.ensures ∙ c.if-not-both_shown.true)

pub returns : goal.returns
unfolding present_worth
returns c =
    simp (sym c.directed.ensures ∙ c.if-not-directed.false, sym c.all_near.ensures ∙ c.if-not-all_near.false, sym c.both_shown.ensures ∙ c.if-not-both_shown.false)

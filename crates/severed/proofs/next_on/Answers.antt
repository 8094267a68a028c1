-- `severed::next_on` meets its contract. Assumes nothing.
use mathlib.Core.Path.{sym, ◌∙◌}
use Rattle.severed.specs.Walk.{Marked}
use Rattle.severed.proofs.Steps.{next-other, next-marked, next_here}
use Rattle.severed.proofs.next_on.Goals as goal

pub returns-then-word_at-clause-is : goal.returns-then-word_at-clause-is
returns-then-word_at-clause-is c =
    let a = c.args in
    next-other a.tris a.given.now a.groups.now (Marked a.rows a.work.now) a.back a.x _ _ _ c.in_ok-y.ensures.1 c.word_at.ensures c.word_at-2.ensures c.if-word_at.true

pub returns-then-mark_at-ne0-clause-is : goal.returns-then-mark_at-ne0-clause-is
returns-then-mark_at-ne0-clause-is c =
    let a = c.args in
    next-marked a.tris a.given.now a.groups.now (Marked a.rows a.work.now) a.back a.x _ c.in_ok-y.ensures.1 (λ z. c.if-mark_at-ne0.true (c.mark_at.ensures ∙ z))

pub returns-clause-is : goal.returns-clause-is
returns-clause-is c =
    let a = c.args in
    next_here a.tris a.given.now a.groups.now (Marked a.rows a.work.now) a.back a.x _ _ _ c.in_ok-y.ensures.0 c.in_ok-y.ensures.1 c.word_at.ensures c.word_at-2.ensures c.if-word_at.false c.requires.7 (λ k. k (sym c.mark_at.ensures ∙ c.if-mark_at-ne0.false))

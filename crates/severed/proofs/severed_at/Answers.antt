-- `severed::severed_at` meets its contract. Assumes nothing.
use mathlib.Core.Path.{◌∙◌}
use Rattle.view.proofs.Frame.{only_none}
use Rattle.severed.proofs.Steps.{turn-free, turn-marked, turn-severed, turn-walked}
use native.Mathlib.Omega.{arith}
use Rattle.severed.proofs.severed_at.Goals as goal

pub returns-then-word_at-eq0 : goal.returns-then-word_at-eq0
returns-then-word_at-eq0 c =
    let a = c.args in
    record { turn = turn-free a.rows a.tris a.given.now a.groups.now a.r _ _ c.word_at.ensures c.if-word_at-eq0.true; only = only_none _ _ _ }

pub returns-then-mark_at-ne0 : goal.returns-then-mark_at-ne0
returns-then-mark_at-ne0 c =
    let a = c.args in
    record { turn = turn-marked a.rows a.tris a.given.now a.groups.now a.r a.work.now (λ z. c.if-mark_at-ne0.true (c.mark_at.ensures ∙ z)); only = only_none _ _ _ }

pub returns-then-first_at-r : goal.returns-then-first_at-r
returns-then-first_at-r c =
    let a = c.args in
    record { turn = turn-severed a.rows a.tris a.given.now a.groups.now a.r _ _ c.first_at.result a.work.now c.requires.0 c.requires.7 c.word_at.ensures c.if-word_at-eq0.false c.mark_at.ensures c.if-mark_at-ne0.false c.first_at.ensures (λ h. c.if-first_at-r.true (omega (arith, h))); only = only_none _ _ _ }

pub returns : goal.returns
returns c =
    let a = c.args in
    record { turn = turn-walked a.rows a.tris a.given.now a.groups.now a.r c.first_at.result a.work.now _ c.requires.0 c.requires.7 c.first_at.ensures (omega (arith, c.if-first_at-r.false)) c.walk_group.ensures.walks; only = c.walk_group.ensures.only }

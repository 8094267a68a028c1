-- `spaces::reach_member` meets its contract. Assumes nothing.
use mathlib.Core.Path.{ap, ◌∙◌}
use native.Mathlib.Omega.{arith}
use Rattle.spaces.specs.Spaces.{reach_row, reach_with}
use Rattle.spaces.proofs.Kept.{with-kept}
use Rattle.spaces.proofs.reach_member.Goals as goal

pub reach_one-requires : goal.reach_one-requires
reach_one-requires c =
    (c.requires.0, omega (arith, c.requires.3, c.space_of-g.ensures.2.size))

pub returns : goal.returns
unfolding reach_row reach_with
returns c =
    let a = c.args in
    let l = c.requires.0 in
    (c.reach_one.ensures ∙ (with-kept a.rows a.work.now _ c.space_of-g.ensures.2 c.space_of-g.result a.r a.answer.now l ∙ ap (λ g. reach_with a.rows a.work.now g a.r a.answer.now) c.space_of-g.ensures.0), c.space_of-g.ensures.1, c.space_of-g.ensures.2)

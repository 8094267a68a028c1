-- `packed::component` meets its contract. Assumes nothing.
use mathlib.Core.Path.{◌∙◌, ap}
use Rattle.packed.specs.Component as spec
use Rattle.packed.proofs.Range.{component-positive, component-negative}
use Rattle.packed.proofs.component.Goals as goal

pub returns-then-w-lt-SIGN : goal.returns-then-w-lt-SIGN
returns-then-w-lt-SIGN c =
    let w = c.args.w in
    component-positive w c.units-q.result c.if-w-lt-SIGN.true (c.units-q.ensures.0 ∙ ap spec.units c.cut.ensures.0)

pub returns : goal.returns
returns c =
    let w = c.args.w in
    component-negative w c.units-q.result c.if-w-lt-SIGN.false (c.units-q.ensures.0 ∙ ap spec.units c.cut.ensures.0)

-- `severed::over_to` meets its contract. Assumes nothing.
use mathlib.Core.Bool.{true, false}
use Rattle.severed.proofs.Steps.{way_of}
use Rattle.severed.proofs.over_to.Goals as goal

pub returns-then-back : goal.returns-then-back
returns-then-back c = way_of c.args.tris c.args.given.now true c.args.back c.args.x _ c.if-back.true c.over_before.ensures

pub returns : goal.returns
returns c = way_of c.args.tris c.args.given.now false c.args.back c.args.x _ c.if-back.false c.over_after.ensures

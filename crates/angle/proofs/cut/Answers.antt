-- `angle::cut` meets its contract: each arm is what `cond` picks. Assumes nothing.
use Rattle.angle.proofs.cut.Goals as goal

pub returns-then-x : goal.returns-then-x
returns-then-x c = simp c.if-x.true

pub returns-then-x-2 : goal.returns-then-x-2
returns-then-x-2 c = simp (c.if-x.false, c.if-x-2.true)

pub returns-else-x-2 : goal.returns-else-x-2
returns-else-x-2 c = simp (c.if-x.false, c.if-x-2.false)

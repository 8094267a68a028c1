-- `angle::without_sign` meets its contract: each arm is what `cond` picks. Assumes nothing.
use Rattle.angle.proofs.without_sign.Goals as goal

pub returns-then-x : goal.returns-then-x
returns-then-x c = simp c.if-x.true

pub returns-else-x : goal.returns-else-x
returns-else-x c = simp c.if-x.false

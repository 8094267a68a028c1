-- `root::certain` meets its contract: it makes the two tests of the definition. Assumes nothing.
use Rattle.std.proofs.Common.{arith, le-ltb, lt-ltb}
use Rattle.root.proofs.Products.{square-fits}
use Rattle.root.proofs.certain.Goals as goal

pub overflow_mul-r : goal.overflow_mul-r
overflow_mul-r c = square-fits 33554432 c.args.r tt (omega arith)

pub returns-then-r-n : goal.returns-then-r-n
returns-then-r-n c = simp (lt-ltb _ _ c.if-r-n.true)

pub returns : goal.returns
returns c = simp (le-ltb _ _ c.if-r-n.false)

-- `exports::links_fit` meets its contract. Assumes nothing.
use Prim.Native.Nat.{◌+◌, ◌*◌}
use native.Mathlib.Omega.{arith}
use mathlib.Core.Bool.{false≢true}
use borrow.Author.Count.{below_more}
use Rattle.exports.proofs.links_fit.Goals as goal

pub loop-r-init : goal.loop-r-init
loop-r-init c = (omega arith, λ k h. absurd (omega arith))

pub overflow_cast-work : goal.overflow_cast-work
overflow_cast-work c = omega (arith, c.shared_slice_known-1.given (11 * c.args.rows + c.loop-r.r))

pub returns-then-tris-work : goal.returns-then-tris-work
returns-then-tris-work c = λ e. absurd (false≢true e)

pub loop-r-preserved : goal.loop-r-preserved
loop-r-preserved c = (omega arith, below_more _ _ c.loop-r.invariant.1 c.if-tris-work.false)

pub returns : goal.returns
returns c = λ e r h. c.loop-r.invariant.1 r (omega arith)

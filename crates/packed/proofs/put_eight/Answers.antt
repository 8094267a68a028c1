-- `packed::put_eight` meets its contract. Assumes nothing.
use native.Mathlib.Omega.{arith}
use mathlib.Core.Path.{ap, ◌∙◌}
use lib.ListN.{get_or, length-drop}
use lib.Seq.{length-take-le}
use Rattle.packed.proofs.Runs.{written_none, written_next, written_whole}
use Rattle.packed.proofs.put_eight.Goals as goal

pub loop-i-init : goal.loop-i-init
loop-i-init c = written_none _ c.args.eight.now (length-take-le _ _ (omega (arith, length-drop c.args.p c.args.l.now, c.requires)) ∙ omega arith)

pub loop-i-preserved : goal.loop-i-preserved
loop-i-preserved c = written_next c.loop-i.w-items c.args.eight.now c.loop-i.i _ c.loop-i.invariant (omega arith) (ap (λ k. get_or c.args.eight.now k 0) (omega arith))

pub returns : goal.returns
returns c = written_whole c.loop-i.w-items c.args.eight.now c.args.l.now c.args.p _ c.loop-i.i c.loop-i.invariant (omega arith) (omega arith) (omega (arith, c.requires))

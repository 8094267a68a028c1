-- `examiner::scan_all` meets its contract. Assumes nothing.
use Rattle.asked.proofs.Rows.{finds-lowest}
use Rattle.examiner.proofs.Turning.{scans-all}
use Rattle.examiner.proofs.scan_all.Goals as goal

pub returns : goal.returns
returns c = let l = c.loop-a in λ vertex E R O. finds-lowest _ _ _ l.invariant.3 (scans-all _ _ _ _ _ _ _ l.invariant.0 c.loop-a-test.false l.invariant.1 vertex E R O)

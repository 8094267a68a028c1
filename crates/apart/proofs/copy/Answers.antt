-- `apart::copy` meets its contract. Assumes nothing.
use Prim.Native.Nat.{◌+◌, ◌-◌}
use native.Mathlib.Omega.{arith}
use mathlib.Core.Path.{refl, ◌∙◌}
use lib.ListN.{length-set, length-drop}
use lib.Seq.{length-take-le}
use Rattle.lists.proofs.Written.{written-more, written-all}
use Rattle.apart.proofs.Lists.{copied_part}
use Rattle.apart.proofs.copy.Goals as goal

pub loop-i-init : goal.loop-i-init
loop-i-init g c = let a = c.args in (omega arith, refl, length-take-le (a.start + a.count - a.start) _ (omega (arith, length-drop a.start a.ys.now, c.requires.1)) ∙ omega arith)

pub loop-i-preserved : goal.loop-i-preserved
loop-i-preserved g c =
    let l = c.loop-i in
    let a = c.args in
    (omega arith, written-more a.xs.now l.y-items a.at l.i l.invariant.1 _ c.index-xs-at.result (omega arith) (omega arith) c.index-xs-at.is, length-set l.y-items l.i _ ∙ l.invariant.2)

pub returns : goal.returns
returns g c d =
    let l = c.loop-i in
    let a = c.args in
    copied_part d a.xs.now a.ys.now l.y-items a.at a.start a.count _ a.count (omega arith) refl c.requires.0 c.requires.1 (written-all a.xs.now l.y-items a.at l.i l.invariant.1 a.count (omega arith) l.invariant.2)

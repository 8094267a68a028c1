-- Proof that `alone` meets its contract. Assumes nothing.
use native.Mathlib.Omega.{arith}
use mathlib.Core.Path.{◌≡◌, sym}
use Rattle.std.proofs.Common.{length-take-le}
use Rattle.unions.proofs.Stores.{after, alone-front}
use Rattle.unions.proofs.alone.Goals as goal

pub loop-x-init : goal.loop-x-init
loop-x-init c = λ y h. absurd (omega arith)

pub loop-x-preserved : goal.loop-x-preserved
loop-x-preserved c =
    let l = c.loop-x in
    λ y h. after (λ v. v ≡ y) l.parent-items l.x l.x y (omega (arith, l.auto.parent-items, c.loop-x-test.true)) (λ e. sym e) (λ e. l.invariant y (omega arith))

pub returns : goal.returns
returns c =
    let l = c.loop-x in
    alone-front c.args.count c.args.parents.now l.parent-items c.requires.0 l.auto.parent-items (λ x h. l.invariant x (omega (arith, h, c.requires.0, c.loop-x-test.false, length-take-le c.args.count c.args.parents.now c.requires.0)))

-- Proof that `put_heads` meets its contract. Assumes nothing.
use native.Mathlib.Omega.{arith}
use Rattle.firsts.proofs.Heading.{heading-none, heading-more, heading-all, runs-right, runs-low, order-stands}
use Rattle.firsts.proofs.put_heads.Goals as goal

pub loop-a-init : goal.loop-a-init
loop-a-init c = let p = c.requires in (omega arith, heading-none _ _ _ _ p.0 p.1 p.4, tt)

pub head_turn-requires : goal.head_turn-requires
head_turn-requires c =
    let l = c.loop-a in
    let p = c.requires in
    let k = p.4.below _ c.loop-a-test.true in
    let o = order-stands _ _ _ _ p.0 p.1 p.4 _ _ _ l.invariant.1 _ c.loop-a-test.true in
    (c.loop-a-test.true, l.invariant.2, p.0, omega (arith, p.1, l.invariant.1.only.size), p.2, p.3, omega (arith, k, o))

pub overflow_step-a : goal.overflow_step-a
overflow_step-a c = omega (arith, c.loop-a-test.true)

pub loop-a-smaller : goal.loop-a-smaller
loop-a-smaller c = omega (arith, c.loop-a-test.true)

pub loop-a-preserved : goal.loop-a-preserved
loop-a-preserved c =
    let l = c.loop-a in
    let p = c.requires in
    let a = c.args in
    let n = c.loop-a-test.true in
    let o = order-stands a.rows a.n a.groups.now a.work.now p.0 p.1 p.4 _ _ _ l.invariant.1 _ n in
    let r = runs-right a.rows a.n a.groups.now a.work.now p.0 p.1 p.4 _ _ _ _ _ n l.invariant.1 o c.head_turn.ensures.runs in
    (omega (arith, n), heading-more a.rows a.n a.groups.now a.work.now p.0 p.1 p.4 _ _ _ _ _ _ n l.invariant.1 o r c.head_turn.ensures.puts, runs-low _ _ _ _ _ (omega (arith, p.4.below _ n, o)) c.head_turn.ensures.runs)

pub shape_of-work : goal.shape_of-work
shape_of-work c = c.loop-a.invariant.1.only.size

pub returns : goal.returns
returns c = let l = c.loop-a in let p = c.requires in heading-all _ _ _ _ p.0 p.1 p.4 _ _ _ c.loop-a-test.false l.invariant.1

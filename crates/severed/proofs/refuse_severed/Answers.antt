-- `severed::refuse_severed` meets its contract. Assumes nothing.
use native.Mathlib.Omega.{arith}
use mathlib.Core.Path.{refl, ◌∙◌}
use Rattle.view.proofs.Frame.{only_none, only-trans}
use Rattle.severed.proofs.Steps.{only-cleared, walks-none, walks-all, walks-connected, firsts-kept}
use Rattle.severed.proofs.refuse_severed.Goals as goal

pub clear-requires : goal.clear-requires
clear-requires c = (omega arith, c.requires.2)

pub overflow_mul-r-end : goal.overflow_mul-r-end
overflow_mul-r-end c = omega (arith, c.requires.0, c.requires.1)

pub loop-r-init : goal.loop-r-init
loop-r-init c =
    let a = c.args in
    (omega arith, walks-none a.rows a.tris _ _ a.work.now _ c.requires.0 c.requires.2 c.clear.ensures, only_none _ _ _)

pub severed_at-requires : goal.severed_at-requires
severed_at-requires c =
    let l = c.loop-r in
    let a = c.args in
    let p = c.requires in
    let o = only-cleared a.rows a.tris a.given.now a.groups.now a.work.now _ c.clear.ensures in
    let z = only-trans _ _ _ _ _ o l.invariant.2 in
    (c.loop-r-test.true, p.0, p.1, omega (arith, p.2, z.size), p.3, p.4, p.5, firsts-kept a.rows a.tris a.given.now a.groups.now a.work.now _ p.0 z p.6)

pub shape_of-work-then-severed_at : goal.shape_of-work-then-severed_at
shape_of-work-then-severed_at c =
    let l = c.loop-r in
    let a = c.args in
    let o = only-cleared a.rows a.tris a.given.now a.groups.now a.work.now _ c.clear.ensures in
    c.severed_at.ensures.only.size ∙ (l.invariant.2.size ∙ o.size)

pub returns-then-severed_at : goal.returns-then-severed_at
returns-then-severed_at c =
    let l = c.loop-r in
    let a = c.args in
    let o = only-cleared a.rows a.tris a.given.now a.groups.now a.work.now _ c.clear.ensures in
    let z = only-trans _ _ _ _ _ o (only-trans _ _ _ _ _ l.invariant.2 c.severed_at.ensures.only) in
    record {
      says = λ vertex F. let L = c.severed_at.ensures.turn.objects c.if-severed_at.true l.invariant.1 vertex F in (refl, c.loop-r-test.true, L.here c.loop-r-test.true, L.none);
      connected = tt;
      only = z;
    }

pub overflow_step-r : goal.overflow_step-r
overflow_step-r c = omega (arith, c.loop-r-test.true)

pub loop-r-smaller : goal.loop-r-smaller
loop-r-smaller c = omega (arith, c.loop-r-test.true)

pub loop-r-preserved : goal.loop-r-preserved
loop-r-preserved c =
    let l = c.loop-r in
    (omega (arith, c.loop-r-test.true), c.severed_at.ensures.turn.goes_on c.if-severed_at.false l.invariant.1, only-trans _ _ _ _ _ l.invariant.2 c.severed_at.ensures.only)

pub shape_of-work : goal.shape_of-work
shape_of-work c =
    let l = c.loop-r in
    let a = c.args in
    let o = only-cleared a.rows a.tris a.given.now a.groups.now a.work.now _ c.clear.ensures in
    let z = only-trans _ _ _ _ _ o l.invariant.2 in
    z.size

pub returns : goal.returns
returns c =
    let l = c.loop-r in
    let a = c.args in
    let o = only-cleared a.rows a.tris a.given.now a.groups.now a.work.now _ c.clear.ensures in
    let z = only-trans _ _ _ _ _ o l.invariant.2 in
    record {
      says = λ vertex F. (walks-all _ _ _ _ _ _ l.invariant.0 c.loop-r-test.false l.invariant.1 vertex F).none;
      connected = λ vertex F. walks-connected _ _ _ _ _ _ c.loop-r-test.false l.invariant.1 vertex F;
      only = z;
    }

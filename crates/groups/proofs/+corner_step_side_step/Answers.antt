-- `corner_step` and `side_step`, which call each other, meet their contracts. Assumes nothing.
use Rattle.std.proofs.Common.{◌≡◌, ℕ, suc, ◌+◌, ◌*◌, ◌<◌, List, sym, ◌∙◌, subst, arith}
use Rattle.std.specs.Prelude.{Option, IfSome}
use Rattle.groups.specs.Walk.{ungrouped, Ready}
use Rattle.groups.proofs.Steps.{ready-steps, corner-stops, corner-below, corner-falls, corner-ready, corner-goes, side-stops, side-goes}
use Rattle.groups.proofs.+corner_step_side_step.Goals as goal

-- once a triangle is entered at i: i is below 3, one corner less is ungrouped, and the next step's state is ready
record Entered (rows tris g n i : ℕ) (w u : List ℕ) : Type 0 where
  below : i < 3
  falls' : suc (ungrouped rows u) ≡ ungrouped rows w
  ready : Ready rows tris g (n + 1) u

pub corner_step-returns-in_default : goal.corner_step-returns-in_default
corner_step-returns-in_default t c =
    let e = c.enter_at.ensures in
    corner-stops _ _ _ _ _ _ _ _ c.requires.0 c.requires.1 _ _ e.entry e.work c.in_default.is

pub corner_step-overflow_add-first : goal.corner_step-overflow_add-first
corner_step-overflow_add-first t c =
    let e = c.enter_at.ensures in
    let b : c.in-Some.i < 3 = corner-below _ _ _ _ _ _ _ _ c.requires.0 c.requires.1 _ _ e.entry e.work _ c.in-Some.is in
    omega arith

pub corner_step-overflow_add-second : goal.corner_step-overflow_add-second
corner_step-overflow_add-second t c =
    let e = c.enter_at.ensures in
    let b : c.in-Some.i < 3 = corner-below _ _ _ _ _ _ _ _ c.requires.0 c.requires.1 _ _ e.entry e.work _ c.in-Some.is in
    omega (arith, c.requires.0)

pub corner_step-side_step-n-requires : goal.corner_step-side_step-n-requires
corner_step-side_step-n-requires t c =
    let e = c.enter_at.ensures in
    let E : Entered c.args.rows c.args.tris c.args.g.now.number c.args.count c.in-Some.i c.args.work.now c.enter_at.new.work =
    record {
      below = corner-below _ _ _ _ _ _ _ _ c.requires.0 c.requires.1 _ _ e.entry e.work _ c.in-Some.is;
      falls' = corner-falls _ _ _ _ _ _ _ _ c.requires.0 c.requires.1 _ _ e.entry e.work _ c.in-Some.is;
      ready = corner-ready _ _ _ _ _ _ _ _ c.requires.0 c.requires.1 _ _ e.entry e.work _ c.in-Some.is c.enter_at.auto.work;
    } in
    (omega (arith, c.decreases, E.falls'), (omega (arith, E.below, c.requires.0), E.ready))

pub corner_step-side_step-requires : goal.corner_step-side_step-requires
corner_step-side_step-requires t c =
    let e = c.enter_at.ensures in
    let first = c.side_step-n in
    let b : c.in-Some.i < 3 = corner-below _ _ _ _ _ _ _ _ c.requires.0 c.requires.1 _ _ e.entry e.work _ c.in-Some.is in
    let f = corner-falls _ _ _ _ _ _ _ _ c.requires.0 c.requires.1 _ _ e.entry e.work _ c.in-Some.is in
    let r = corner-ready _ _ _ _ _ _ _ _ c.requires.0 c.requires.1 _ _ e.entry e.work _ c.in-Some.is c.enter_at.auto.work in
    (omega (arith, c.decreases, f, first.ensures.fewer), (omega (arith, b, c.requires.0), ready-steps _ _ _ _ _ _ _ _ r first.ensures first.auto.work))

pub corner_step-returns : goal.corner_step-returns
corner_step-returns t c =
    let e = c.enter_at.ensures in
    corner-goes _ _ _ _ _ _ _ _ c.requires.0 c.requires.1 _ _ e.entry e.work _ c.in-Some.is _ _ c.side_step-n.ensures c.side_step.ensures

pub side_step-link_at-requires : goal.side_step-link_at-requires
side_step-link_at-requires t c =
    let R = c.requires.1 in
    (c.requires.0, R.fits, R.long, R.links c.args.k c.requires.0)

pub side_step-returns-in_default : goal.side_step-returns-in_default
side_step-returns-in_default t c = side-stops _ _ _ _ _ _ _ (sym c.in_default.is ∙ c.link_at.ensures.0)

pub side_step-corner_step-requires : goal.side_step-corner_step-requires
side_step-corner_step-requires t c =
    let below : c.in-Some.u < 3 * c.args.tris = subst (λ (o : Option ℕ). IfSome o (λ u. u < 3 * c.args.tris)) c.in-Some.is c.link_at.ensures.1 in
    (omega (arith, c.decreases), (omega arith, c.requires.1))

pub side_step-returns : goal.side_step-returns
side_step-returns t c = side-goes _ _ _ _ _ _ _ _ _ (sym c.in-Some.is ∙ c.link_at.ensures.0) c.corner_step.ensures

-- `severed::go_on` meets its contract. Assumes nothing.
use Prim.Native.Nat.{◌*◌, ◌<◌, ◌≤◌}
use native.Mathlib.Omega.{arith}
use mathlib.Core.Path.{refl, sym, subst}
use mathlib.Core.List.{[], ◌∷◌}
use lib.ListN.{length}
use Rattle.std.proofs.Common.{IfSome, unwrap_or}
use Rattle.table.specs.Columns.{next_column, columns}
use Rattle.view.specs.Frame.{Only}
use Rattle.view.proofs.Frame.{only_none, only-put}
use Rattle.severed.specs.Walk.{unmarked}
use Rattle.severed.proofs.Steps.{fewer, goes_none, goes-more, goes-none-left, next-start}
use Rattle.severed.proofs.go_on.Goals as goal

pub loop-next-init : goal.loop-next-init
loop-next-init c = (c.requires.6, only_none _ _ _, goes_none _ _ _ _ _ _ _)

pub mark-requires : goal.mark-requires
mark-requires c =
    let l = c.loop-next in
    let p = c.requires in
    let x = rw c.in-Some.is at l.invariant.0 in
    (omega (arith, x.0, p.0), omega (arith, p.2, l.invariant.1.size))

pub next_on-next-requires : goal.next_on-next-requires
next_on-next-requires c =
    let l = c.loop-next in
    let p = c.requires in
    let x = rw c.in-Some.is at l.invariant.0 in
    (x.0, p.0, p.1, omega (arith, p.2, l.invariant.1.size, c.mark.auto.work), p.3, p.4, p.5, x.1)

pub loop-next-smaller : goal.loop-next-smaller
loop-next-smaller c =
    let l = c.loop-next in
    let p = c.requires in
    let x = rw c.in-Some.is at l.invariant.0 in
    let f = fewer c.args.rows c.in-Some.x l.work (omega (arith, x.0, p.0)) (omega (arith, p.2, l.invariant.1.size)) x.2 in
    subst (λ v. unmarked c.args.rows v < unmarked c.args.rows l.work) (sym c.mark.ensures) f

pub loop-next-preserved : goal.loop-next-preserved
loop-next-preserved c =
    let l = c.loop-next in
    let p = c.requires in
    let a = c.args in
    let n = c.next_on-next.ensures in
    let x = rw c.in-Some.is at l.invariant.0 in
    let g = rw c.in-Some.is at l.invariant.2 in
    let i : c.in-Some.x < a.rows = omega (arith, x.0, p.0) in
    let long : columns * a.rows ≤ length l.work = omega (arith, p.2, l.invariant.1.size) in
    (next-start _ _ _ _ _ _ _ _ n.is n.low, subst (Only (next_column ∷ []) a.rows _) (sym c.mark.ensures) (only-put (next_column ∷ []) a.rows _ l.work next_column c.in-Some.x 1 refl (omega arith) i l.invariant.1), goes-more a.rows a.tris _ _ _ _ _ _ _ l.work _ x.0 i long g c.mark.ensures n.is)

pub returns : goal.returns
returns c = let l = c.loop-next in record { goes = goes-none-left _ _ _ _ _ _ _ _ _ c.in_default.not-Some l.invariant.2; only = l.invariant.1 }

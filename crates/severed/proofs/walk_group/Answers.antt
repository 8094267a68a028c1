-- `severed::walk_group` meets its contract. Assumes nothing.
use Prim.Native.Nat.{◌<◌}
use native.Mathlib.Omega.{arith}
use mathlib.Core.Path.{refl, sym, subst, ◌∙◌}
use mathlib.Core.List.{[], ◌∷◌}
use Rattle.table.specs.Columns.{next_column}
use Rattle.view.specs.Frame.{Only}
use Rattle.view.proofs.Frame.{only_none, only-put, only-trans}
use Rattle.severed.proofs.Steps.{walks-group, next-start}
use Rattle.severed.proofs.walk_group.Goals as goal

pub go_on-requires : goal.go_on-requires
go_on-requires c =
    let p = c.requires in
    (p.1, p.2, omega (arith, p.3, c.mark.auto.work), p.4, p.5, p.6, next-start _ _ _ _ _ _ _ _ c.next_on-x.ensures.is c.next_on-x.ensures.low)

pub go_on-requires-2 : goal.go_on-requires-2
go_on-requires-2 c =
    let p = c.requires in
    (p.1, p.2, omega (arith, p.3, c.mark.auto.work, c.go_on.ensures.only.size), p.4, p.5, p.6, next-start _ _ _ _ _ _ _ _ c.next_on-y.ensures.is c.next_on-y.ensures.low)

pub returns : goal.returns
returns c =
    let p = c.requires in
    let a = c.args in
    let k : a.f < a.rows = omega (arith, p.0, p.1) in record { walks = walks-group a.rows a.tris _ _ a.f _ _ a.work.now _ _ _ p.0 k p.3 p.7 c.mark.ensures c.next_on-x.ensures.is c.go_on.ensures.goes c.next_on-y.ensures.is c.go_on-2.ensures.goes; only = only-trans _ _ _ _ _ (subst (Only (next_column ∷ []) a.rows a.work.now) (sym c.mark.ensures) (only-put (next_column ∷ []) a.rows a.work.now a.work.now next_column a.f 1 refl (omega arith) k (only_none _ _ _))) (only-trans _ _ _ _ _ c.go_on.ensures.only c.go_on-2.ensures.only) }

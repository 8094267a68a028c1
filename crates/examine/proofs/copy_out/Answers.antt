-- `examine::copy_out` meets its contract. Assumes nothing.
use Prim.Native.Nat.{◌*◌}
use native.Mathlib.Omega.{arith}
use mathlib.Core.Path.{refl, ap, ◌∙◌}
use mathlib.Core.List.{◌++◌}
use lib.ListN.{drop, length-set}
use lib.Seq.{length-take-le}
use Rattle.table.specs.Columns.{columns}
use Rattle.table.proofs.Laws.{column-ends}
use Rattle.lists.proofs.Written.{written-more, written-all}
use Rattle.examine.proofs.Fronts.{front-copied}
use Rattle.examine.proofs.copy_out.Goals as goal

pub loop-i-init : goal.loop-i-init
loop-i-init c = (omega arith, refl, length-take-le c.args.n c.args.list.now c.requires.3)

pub loop-i-preserved : goal.loop-i-preserved
loop-i-preserved c =
    let l = c.loop-i in
    let a = c.args in
    let p = c.requires in
    (omega arith, written-more a.work.now l.w-items (a.column * a.rows) l.i l.invariant.1 _ 0 (omega arith) (omega (arith, p.0, p.2, column-ends a.column columns a.rows p.1)) refl, length-set l.w-items l.i _ ∙ l.invariant.2)

pub returns : goal.returns
returns c =
    let l = c.loop-i in
    let a = c.args in
    let p = c.requires in
    ap (λ xs. xs ++ drop a.n a.list.now) (written-all a.work.now l.w-items (a.column * a.rows) l.i l.invariant.1 a.n (omega arith) l.invariant.2) ∙ front-copied (a.column * a.rows) a.n a.n a.work.now a.list.now refl (omega (arith, p.0, p.2, column-ends a.column columns a.rows p.1)) p.3

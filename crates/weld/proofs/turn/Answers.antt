-- Proof that `turn` meets its contract. Assumes nothing.
use Prim.Native.Nat.{◌+◌}
use native.Mathlib.Omega.{arith}
use mathlib.Core.Path.{sym, subst}
use Rattle.table.specs.Table.{column}
use Rattle.table.specs.Columns.{head_column, next_column}
use Rattle.table.proofs.Laws.{get_or-column}
use Rattle.view.specs.Frame.{Only}
use Rattle.weld.specs.Welding.{Chain, GoingIn, weld_columns}
use Rattle.weld.proofs.Stores.{stored_at, stored-new}
use Rattle.weld.proofs.turn.Goals as goal

pub find-p-requires : goal.find-p-requires
find-p-requires c =
    let hb = c.bucket-b.ensures.1 in
    let e = get_or-column c.args.rows c.args.work.now head_column c.bucket-b.result hb in
    (omega arith, omega (arith, e, c.requires.3.low c.bucket-b.result hb), subst (Chain (column c.args.rows next_column c.args.work.now)) e (c.requires.3.chain c.bucket-b.result hb))

pub returns-then-p-ne0 : goal.returns-then-p-ne0
returns-then-p-ne0 c =
    let a = c.args in
    stored_at a.rows a.row a.mesh.now.positions.now a.mesh.now.normals.now a.mesh.now.texture.now a.work.now c.requires.0 c.requires.1 c.requires.3 c.corner_of-c.result c.bucket-b.result c.find-p.result
    c.corner_of-c.ensures c.bucket-b.ensures.0 c.bucket-b.ensures.1 c.find-p.ensures _ c.if-p-ne0.true (omega arith)

pub returns : goal.returns
returns c =
    let a = c.args in
    subst (λ u. GoingIn a.rows (a.row + 1) a.mesh.now.positions.now a.mesh.now.normals.now a.mesh.now.texture.now u × Only weld_columns a.rows a.work.now u) (sym c.put_first.ensures)
    (stored-new a.rows a.row a.mesh.now.positions.now a.mesh.now.normals.now a.mesh.now.texture.now a.work.now c.requires.0 c.requires.1 c.requires.3 c.corner_of-c.result c.bucket-b.result c.find-p.result
    c.corner_of-c.ensures c.bucket-b.ensures.0 c.bucket-b.ensures.1 c.find-p.ensures c.if-p-ne0.false)

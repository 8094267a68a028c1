-- `examiner::refuse_left` meets its contract. Assumes nothing.
use Prim.Native.Nat.{ℕ, ◌+◌, ◌*◌, ◌<◌}
use native.Mathlib.Omega.{arith}
use Rattle.table.specs.Table.{cell}
use Rattle.table.specs.Columns.{vertex_column}
use Rattle.asked.proofs.Rows.{finds-below}
use Rattle.examiner.proofs.Finding.{says}
use Rattle.examiner.proofs.InOrder.{long_after, only_step, order_is, left-found-in}
use Rattle.examiner.proofs.refuse_left.Goals as goal

pub scan_all-left-requires : goal.scan_all-left-requires
scan_all-left-requires c =
    let a = c.args in
    let p = c.requires in
    let words : (r : ℕ) → r < a.rows → cell a.rows vertex_column r a.work.now < 4294967296 = λ r h. omega (arith, c.slice_known-1.given (vertex_column * a.rows + r)) in
    let O = order_is a.rows a.tris a.work.now _ p.0 p.1 p.2 words c.order_sides.ensures p.4 in
    (omega (arith, p.0), long_after a.rows a.tris a.work.now _ p.0 p.1 p.2 words c.order_sides.ensures, p.2, omega (arith, p.3), λ x h. omega (arith, O.below x (omega (arith, h))))

pub returns : goal.returns
returns c =
    let a = c.args in
    let p = c.requires in
    let words : (r : ℕ) → r < a.rows → cell a.rows vertex_column r a.work.now < 4294967296 = λ r h. omega (arith, c.slice_known-1.given (vertex_column * a.rows + r)) in
    record { says = says _ _ _ _ _ c.refuse.ensures (left-found-in a.rows a.tris a.work.now _ p.0 p.1 p.2 words c.order_sides.ensures p.4 a.given.now _ _ c.scan_all-left.ensures (omega arith)); only = only_step a.rows a.tris a.work.now _ p.0 p.1 p.2 words c.order_sides.ensures }

pub refuse-requires : goal.refuse-requires
refuse-requires c =
    let a = c.args in
    let p = c.requires in
    let words : (r : ℕ) → r < a.rows → cell a.rows vertex_column r a.work.now < 4294967296 = λ r h. omega (arith, c.slice_known-1.given (vertex_column * a.rows + r)) in
    finds-below _ _ _ _ (omega (arith, p.0, p.2)) (left-found-in a.rows a.tris a.work.now _ p.0 p.1 p.2 words c.order_sides.ensures p.4 a.given.now _ _ c.scan_all-left.ensures (omega arith))

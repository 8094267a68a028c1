-- `examiner::refuse_crooked` meets its contract. Assumes nothing.
use Prim.Native.Nat.{◌*◌}
use native.Mathlib.Omega.{arith}
use Rattle.std.proofs.Common.{rules}
use Rattle.std.proofs.lemmas.Iterator.{first_from_Range}
use Rattle.table.specs.Table.{cell}
use Rattle.table.specs.Columns.{vertex_column}
use Rattle.asked.specs.Links.{Equal, Crooked}
use Rattle.asked.proofs.Rows.{finds, found-below}
use Rattle.examiner.proofs.Finding.{says}
use Rattle.examiner.proofs.refuse_crooked.Goals as goal

pub refuse-requires : goal.refuse-requires
refuse-requires c =
    found-below _ _ _ _ _ (omega (arith, c.requires.0, c.requires.2)) (first_from_Range _ _ _ c.find-found.result (λ _. Unit) (λ _. Unit) c.find-found.ensures.ran (λ x q k. tt) (λ x q k. search rules))

pub returns : goal.returns
returns c =
    let a = c.args in
    let P = Crooked (3 * a.tris) (Equal (λ x. cell a.rows vertex_column x a.work.now)) a.given.now in
    says _ _ _ _ _ c.refuse.ensures (finds _ _ _ (first_from_Range _ _ _ c.find-found.result P (λ r. P r → ⊥) c.find-found.ensures.ran (λ x q k. search rules) (λ x q k. search rules)))

-- `fellows::refuse_no_flag` meets its contract. Assumes nothing.
use Prim.Native.Nat.{◌*◌}
use native.Mathlib.Omega.{arith}
use Rattle.std.proofs.Common.{rules}
use Rattle.std.proofs.lemmas.Iterator.{first_from_Range}
use Rattle.table.specs.Table.{cell}
use Rattle.table.specs.Columns.{any_column, orientation_column}
use Rattle.asked.specs.Groups.{NoFlag, Turned, Loose, Parted}
use Rattle.asked.proofs.Rows.{not-lt, finds, found-below}
use Rattle.examiner.proofs.Finding.{says}
use Rattle.fellows.proofs.refuse_no_flag.Goals as goal

pub refuse-requires : goal.refuse-requires
refuse-requires c =
    found-below _ _ _ _ _ (omega (arith, c.requires.0)) (first_from_Range _ _ _ c.find-found.result (λ _. Unit) (λ _. Unit) c.find-found.ensures.ran (λ x q k. tt) (λ x q k. search rules))

pub returns : goal.returns
returns c =
    let a = c.args in
    let P = NoFlag a.ways.now in
    says _ _ _ _ _ c.refuse.ensures (finds _ _ _ (first_from_Range _ _ _ c.find-found.result P (λ r. P r → ⊥) c.find-found.ensures.ran (λ x q k. search rules) (λ x q k. search rules)))

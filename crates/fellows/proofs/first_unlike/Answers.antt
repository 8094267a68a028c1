-- `fellows::first_unlike` meets its contract. Assumes nothing.
use Prim.Native.Nat.{◌*◌}
use Rattle.std.proofs.Common.{rules}
use Rattle.std.proofs.lemmas.Iterator.{first_from_Range}
use Rattle.asked.proofs.Rows.{finds}
use Rattle.fellows.specs.Fellows.{UnlikeFirst}
use Rattle.fellows.proofs.Beside.{finds-unlike}
use Rattle.fellows.proofs.first_unlike.Goals as goal

pub returns : goal.returns
returns c =
    let a = c.args in
    let P = UnlikeFirst a.rows a.work.now a.groups.now a.ways.now a.shared in
    finds-unlike a.rows (3 * a.tris) a.work.now a.groups.now a.ways.now a.shared c.requires.5 _ (finds _ _ _ (first_from_Range _ _ _ c.find.result P (λ r. P r → ⊥) c.find.ensures.ran (λ x q k. search rules) (λ x q k. search rules)))

-- Proof that `find` meets its contract. The invariant: what is found from here on is what is found. Assumes nothing.
use Rattle.table.specs.Table.{column}
use Rattle.table.specs.Columns.{corner_column, next_column}
use Rattle.definition.specs.Step4Order.{welded}
use Rattle.weld.specs.Welding.{corner_in}
use Rattle.weld.proofs.Chains.{Walking}
use Rattle.weld.proofs.find.Given as goal

abbrev pub invariant-loop-p : goal.invariant-loop-p
invariant-loop-p l = Walking l.rows (column l.rows next_column l.work) (λ k. welded l.c (corner_in l.mesh.positions.now l.mesh.normals.now l.mesh.texture.now (column l.rows corner_column l.work) k)) l.from l.p

abbrev pub decreases-loop-p : goal.decreases-loop-p
decreases-loop-p l = l.p

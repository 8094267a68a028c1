-- Proof that `corner_of` meets its contract. Assumes nothing.
use mathlib.Core.Path.{sym, ap, ◌∙◌}
use Rattle.table.specs.Columns.{corner_column}
use Rattle.table.proofs.Laws.{get_or-column}
use Rattle.definition.specs.Handed.{corner_at}
use Rattle.weld.proofs.corner_of.Goals as goal

pub returns : goal.returns
returns c =
    let a = c.args in
    c.corner_at-2.ensures ∙ ap (corner_at a.mesh.now.positions.now a.mesh.now.normals.now a.mesh.now.texture.now) (c.corner_at.ensures ∙ sym (get_or-column a.rows a.work.now corner_column a.r c.requires.0))

-- `mesh::unless` meets its contract: each way out is what the flag picks. Assumes nothing.
use mathlib.Core.Path.{sym, ap, ◌∙◌}
use mathlib.Core.Bool.{Bool, cond}
use mathlib.Core.List.{[]}
use Rattle.mesh.specs.Parts.{part_or_none}
use Rattle.mesh.proofs.unless.Goals as goal

pub returns-then-stopped : goal.returns-then-stopped
returns-then-stopped c =
    let a = c.args in
    sym (ap (λ (b : Bool). cond b [] (part_or_none a.width a.xs.now a.sizes.now a.face)) c.if-stopped.true)

pub part-requires : goal.part-requires
part-requires c = c.requires c.if-stopped.false

pub returns : goal.returns
returns c =
    let a = c.args in
    c.part.ensures ∙ sym (ap (λ (b : Bool). cond b [] (part_or_none a.width a.xs.now a.sizes.now a.face)) c.if-stopped.false)

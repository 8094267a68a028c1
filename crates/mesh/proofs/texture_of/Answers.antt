-- `mesh::texture_of` meets its contract: lists that were not caught have their lengths. Assumes nothing.
use mathlib.Core.Path.{sym, ap, ◌∙◌}
use mathlib.Core.Bool.{Bool, cond}
use mathlib.Core.List.{[]}
use lib.Dec.{lit≤}
use Rattle.mesh.specs.Parts.{part_or_none, handed_back}
use Rattle.mesh.proofs.Fitting.{fit}
use Rattle.mesh.proofs.texture_of.Goals as goal

pub unless-requires : goal.unless-requires
unless-requires c = λ e. let p = fit _ (sym c.caught.ensures ∙ e) in (lit≤ tt, p.few, p.texture)

pub returns : goal.returns
unfolding handed_back
returns c =
    let a = c.args in
    c.unless.ensures ∙ ap (λ (b : Bool). cond b [] (part_or_none 2 a.texture.now a.sizes.now a.face)) c.caught.ensures

-- `angle::plain` meets its contract: the steps of the definition, each by its function's contract. Assumes nothing.
use Rattle.std.proofs.Common.{sym, ap, ◌∙◌}
use Rattle.angle.specs.Angle.{way_of}
use Rattle.angle.proofs.plain.Goals as goal

pub returns : goal.returns
returns c = c.way.ensures ∙ ap way_of (sym c.offset-u.ensures.0)

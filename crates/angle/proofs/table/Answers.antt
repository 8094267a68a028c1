-- `angle::table` meets its contract: the constant of the source is the table of the definition. Assumes nothing.
use Rattle.std.proofs.Common.{refl}
use Rattle.angle.specs.Table.{cosines}
use Rattle.angle.proofs.table.Goals as goal

pub returns : goal.returns
unfolding cosines
returns c = refl

-- `angle::entry` meets its contract. Assumes nothing.
use Rattle.std.proofs.Common.{ℕ, List, get_or, ap}
use Rattle.angle.proofs.entry.Goals as goal

pub returns : goal.returns
returns c = ap (λ (l : List ℕ). get_or l c.args.k 0) c.requires.0

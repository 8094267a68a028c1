-- `worth::shown` meets its contract. Assumes nothing.
use Rattle.worth.proofs.Showing.{shown-is}
use Rattle.worth.proofs.shown.Goals as goal

pub returns : goal.returns
returns c = shown-is c.args.w

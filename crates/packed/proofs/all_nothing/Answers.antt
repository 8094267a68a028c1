-- `packed::all_nothing` meets its contract. Assumes nothing.
use mathlib.Core.Bool.{true, ◌&&◌}
use lib.Dec.{eqb}
use Rattle.std.proofs.Common.{rules}
use borrow.Author.Tests.{tests}
use Rattle.std.proofs.lemmas.Iterator.{YieldsList-from_slice}
use Rattle.std.proofs.lemmas.Iterator.Consumers.{fold_from_yields_List}
use Rattle.packed.specs.Component.{nothing}
use Rattle.packed.specs.Packer.{packed_words}
use Rattle.packed.specs.Reader.{all_nothing}
use Rattle.packed.proofs.Runs.{fold-every}
use Rattle.packed.proofs.all_nothing.Goals as goal

pub returns : goal.returns
unfolding all_nothing
returns c =
    let s = c.args.s.now in
    fold-every (λ n. eqb n nothing) s packed_words _ c.requires
    (fold_from_yields_List _ (λ b n. b && eqb n nothing) true _ c.fold.ensures.ran (YieldsList-from_slice s cc) (λ b x d q k. (search rules, search (rules, tests))))

-- `worth::all_finite` meets its contract. Assumes nothing.
use native.Mathlib.Omega.{arith}
use mathlib.Core.Path.{◌≡◌}
use mathlib.Core.Bool.{true, false}
use lib.ListN.{take, drop}
use Rattle.std.proofs.Common.{rules}
use borrow.Author.Tests.{tests}
use Rattle.std.proofs.lemmas.Iterator.{YieldsList-from_slice, cases_from_all}
use Rattle.words.proofs.Every.{part_every}
use Rattle.worth.specs.Worth.{finite, in_all}
use Rattle.worth.proofs.all_finite.Goals as goal

pub returns : goal.returns
unfolding in_all
returns c =
    let s = c.args.slot.now in
    part_every finite s 1 6 _ (omega arith) (cases_from_all _ _ _ (λ n. finite n ≡ true) (λ n. finite n ≡ false) c.all.ensures.ran (YieldsList-from_slice (take 6 (drop 1 s)) cc) (λ x q k. (search rules, search (rules, tests))) (λ x q k. search (rules, tests)))

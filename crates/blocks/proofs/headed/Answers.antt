-- `blocks::headed` meets its contract. Assumes nothing.
use native.Mathlib.Omega.{arith}
use Prim.Native.Nat.{ℕ, ◌+◌}
use mathlib.Core.Path.{◌≡◌, refl}
use mathlib.Core.Bool.{true, false}
use lib.Dec.{eqb}
use lib.ListN.{get_or}
use Rattle.std.proofs.Common.{rules}
use borrow.Author.Tests.{tests}
use Rattle.std.proofs.lemmas.Iterator.{YieldsList-from_range, cases_from_all}
use Rattle.words.specs.Words.{word_at}
use Rattle.words.proofs.Every.{range_every}
use Rattle.blocks.proofs.headed.Goals as goal

pub returns : goal.returns
returns c =
    let a = c.args in
    let same = λ (i : ℕ). eqb (word_at a.card.now (a.p + i)) (get_or a.h i 0) in
    range_every same 7 _ (cases_from_all _ _ _ (λ i. same i ≡ true) (λ i. same i ≡ false) c.all.ensures.ran (YieldsList-from_range 0 7 7 refl (omega arith)) (λ x q k. (search rules, search (rules, tests))) (λ x q k. search (rules, tests)))

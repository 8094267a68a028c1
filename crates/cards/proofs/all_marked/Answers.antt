-- `cards::all_marked` meets its contract. Assumes nothing.
use native.Mathlib.Omega.{arith}
use Prim.Native.Nat.{ℕ, ◌*◌}
use mathlib.Core.Path.{◌≡◌, refl}
use mathlib.Core.Bool.{true, false}
use lib.Dec.{leb}
use lib.ListN.{get_or}
use Rattle.std.proofs.Common.{rules}
use borrow.Author.Tests.{tests}
use Rattle.std.proofs.lemmas.Iterator.{YieldsList-from_range, cases_from_all}
use Rattle.words.proofs.Every.{range_every}
use Rattle.cards.proofs.all_marked.Goals as goal

pub returns : goal.returns
returns c =
    let a = c.args in
    let marked = λ (i : ℕ). leb (get_or a.answer.now (a.wide * i) 0) 1 in
    range_every marked a.count _ (cases_from_all _ _ _ (λ i. marked i ≡ true) (λ i. marked i ≡ false) c.all.ensures.ran (YieldsList-from_range 0 a.count a.count refl (omega arith)) (λ x q k. (search rules, search (rules, tests))) (λ x q k. search (rules, tests)))

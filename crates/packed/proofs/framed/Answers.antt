-- `packed::framed` meets its contract. Assumes nothing.
use native.Mathlib.Omega.{arith}
use Prim.Native.Nat.{ℕ}
use mathlib.Core.Path.{◌≡◌, ◌∙◌, ap}
use mathlib.Core.Bool.{Bool, true, false, not, ◌&&◌, ◌||◌}
use lib.Dec.{eqb}
use lib.ListN.{get_or}
use Rattle.std.proofs.Common.{rules}
use borrow.Author.Tests.{tests}
use Rattle.std.proofs.lemmas.Iterator.{YieldsList-from_slice, cases_from_all}
use Rattle.words.proofs.Every.{all_every}
use lib.ListN.{take}
use lib.Seq.{get_or-take, length-take-le}
use Rattle.lists.proofs.Parts.{every-same}
use Rattle.packed.specs.Component.{nothing, short_minus_one}
use Rattle.packed.specs.Reader.{framed}
use Rattle.packed.proofs.framed.Goals as goal

pub returns : goal.returns
unfolding framed
returns c =
    let s = c.args.s.now in
    let some = λ (n : ℕ). not (eqb n nothing) in
    ap (λ (b : Bool). b && (eqb (get_or s 6 0) 1 || eqb (get_or s 6 0) short_minus_one))
    (all_every some (take 6 s) 6 0 _ (length-take-le 6 s (omega arith)) (cases_from_all _ _ _ (λ n. some n ≡ true) (λ n. some n ≡ false) c.all-six.ensures.ran (YieldsList-from_slice (take 6 s) cc) (λ x q k. (search rules, search (rules, tests))) (λ x q k. search (rules, tests)))
    ∙ every-same 6 (λ k. some (get_or (take 6 s) k 0)) (λ k. some (get_or s k 0)) (λ k h. ap some (get_or-take 6 s k 0 h)))

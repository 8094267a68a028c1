-- `blocks::lose` meets its contract. Assumes nothing.
use native.Mathlib.Omega.{arith}
use Prim.Native.Nat.{◌+◌, ◌*◌, ◌≤◌}
use native.Mathlib.Nat.{le_antisymm}
use mathlib.Core.Path.{refl, sym, ◌∙◌, ap}
use lib.ListN.{length}
use lib.Seq.{sets}
use Rattle.blocks.proofs.Counts.{one_of}
use Rattle.blocks.proofs.Judged.{length-lost}
use Rattle.lists.specs.Parts.{joined}
use Rattle.lists.proofs.Parts.{length-joined}
use Rattle.words.proofs.Stores.{joined-none, joined-stored}
use Rattle.blocks.specs.Judged as spec
use Rattle.blocks.proofs.lose.Goals as goal
use Rattle.blocks.proofs.lose.Tie as tie
use Rattle.blocks.proofs.lose.Lts as lts
use Rattle.blocks.proofs.lose.Reads as reads

abbrev At-After-lose_one-arg-1 : Type 0
At-After-lose_one-arg-1 = lts.After-lose_one-arg tie.the-claims reads.Pre reads.Post goal.the-invariant-loop-r goal.the-decreases-loop-r

pub loop-r-init : goal.loop-r-init
loop-r-init c =
    let a = c.args in
    (omega arith, joined-none a.answer.now a.p (λ _. spec.lost_words a.wide), refl)

-- record r is among the words of the list
inside : (c : At-After-lose_one-arg-1) → let a = c.args in a.p + a.wide * c.loop-r.r + a.wide ≤ length a.answer.now
inside c =
    omega (arith, one_of c.args.wide c.loop-r.r c.args.count c.loop-r-test.true, c.requires.0)

pub overflow_mul-wide : goal.overflow_mul-wide
overflow_mul-wide c = omega (arith, inside c)

pub overflow_add-p : goal.overflow_add-p
overflow_add-p c = omega (arith, inside c)

pub lose_one-requires : goal.lose_one-requires
lose_one-requires c = (omega (arith, inside c, c.loop-r.invariant.2), c.requires.1)

pub loop-r-preserved : goal.loop-r-preserved
loop-r-preserved c =
    let l = c.loop-r in
    let a = c.args in (
      omega arith,
      c.lose_one.ensures ∙ joined-stored a.answer.now l.answer a.p (a.p + a.wide * l.r) (λ _. spec.lost_words a.wide) l.r (ap (λ k. a.p + k) (sym (length-joined l.r a.wide (λ _. spec.lost_words a.wide) (λ i h. length-lost a.wide c.requires.1)))) l.invariant.1,
      c.lose_one.auto.answer ∙ l.invariant.2,
    )

pub returns : goal.returns
returns c =
    let l = c.loop-r in
    let a = c.args in
    l.invariant.1 ∙ ap (λ k. sets a.answer.now a.p (joined k (λ _. spec.lost_words a.wide))) (le_antisymm l.invariant.0 c.loop-r-test.false)

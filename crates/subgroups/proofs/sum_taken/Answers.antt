-- `subgroups::sum_taken` meets its contract. Assumes nothing.
use Prim.Native.Nat.{ℕ, ◌+◌, ◌-◌}
use native.Mathlib.Nat.{le_antisymm}
use native.Mathlib.Omega.{arith}
use mathlib.Core.Path.{◌≡◌, ap, ◌∙◌}
use Rattle.definition.specs.declared.Sum.{Sum}
use Rattle.definition.specs.Step7Sums.{empty_sum, finish}
use Rattle.lists.specs.Loops.{up_to}
use Rattle.lists.proofs.Loops.{up_to-more}
use Rattle.subgroups.specs.Subgroups.{add_taken, taken_sum}
use Rattle.subgroups.proofs.sum_taken.Goals as goal

pub loop-p-init : goal.loop-p-init
unfolding up_to
loop-p-init c =
    let a = c.args in
    let z : 0 ≡ a.from - a.from = omega arith in
    (c.nothing-z.ensures ∙ ap (λ n. up_to n (λ k. add_taken a.rows a.all a.work.now (a.from + k)) empty_sum) z, omega arith, c.requires.0)

pub add_taken-z-requires : goal.add_taken-z-requires
add_taken-z-requires c =
    let p = c.loop-p-test.true in
    (omega (arith, p, c.requires.1), c.requires.3.order c.loop-p.p p, c.requires.2)

pub loop-p-preserved : goal.loop-p-preserved
loop-p-preserved c =
    let l = c.loop-p in
    let a = c.args in
    let at : l.p ≡ a.from + (l.p - a.from) = omega (arith, l.invariant.1) in
    let e : (l.p - a.from) + 1 ≡ l.p + 1 - a.from = omega (arith, l.invariant.1) in
    let f : ℕ → Sum → Sum = λ k. add_taken a.rows a.all a.work.now (a.from + k) in
    (c.add_taken-z.ensures ∙ ((λ q. add_taken a.rows a.all a.work.now (at q) (l.invariant.0 q)) ∙ (up_to-more (l.p - a.from) f empty_sum ∙ ap (λ n. up_to n f empty_sum) e)), omega (arith, l.invariant.1), omega (arith, c.loop-p-test.true))

pub returns : goal.returns
unfolding taken_sum
returns c =
    let l = c.loop-p in
    let a = c.args in
    c.finish.ensures ∙ ap finish (l.invariant.0 ∙ ap (λ q. up_to (q - a.from) (λ k. add_taken a.rows a.all a.work.now (a.from + k)) empty_sum) (le_antisymm l.invariant.2 c.loop-p-test.false))

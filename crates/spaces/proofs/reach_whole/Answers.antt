-- `spaces::reach_whole` meets its contract. Assumes nothing.
use Prim.Native.Nat.{ℕ, ◌+◌, ◌*◌, ◌-◌}
use native.Mathlib.Nat.{le_antisymm}
use native.Mathlib.Omega.{arith}
use mathlib.Core.Path.{◌≡◌, refl, ap, ◌∙◌}
use mathlib.Core.List.{List}
use Rattle.lists.specs.Loops.{up_to}
use Rattle.table.specs.Table.{cell}
use Rattle.table.specs.Columns.{met_column}
use Rattle.lists.proofs.Loops.{up_to-more}
use Rattle.spaces.specs.Spaces.{reach_with, reach_whole}
use Rattle.spaces.proofs.reach_whole.Goals as goal

pub loop-j-init : goal.loop-j-init
unfolding up_to
loop-j-init c =
    let a = c.args in
    let z : 0 ≡ a.from - a.from = omega arith in
    (ap (λ n. up_to n (λ k. reach_with a.rows a.work.now c.sum_of_all-g.result (cell a.rows met_column (a.from + k) a.work.now)) a.answer.now) z, omega arith, c.requires.0, refl)

pub overflow_cast-work : goal.overflow_cast-work
overflow_cast-work c =
    let l = c.loop-j in
    omega (arith, c.shared_slice_known-in-loop-j-1.given (met_column * c.args.rows + l.j))

pub reach_one-requires : goal.reach_one-requires
reach_one-requires c =
    let l = c.loop-j in
    (c.requires.3.met l.j c.loop-j-test.true, c.requires.2)

pub loop-j-preserved : goal.loop-j-preserved
loop-j-preserved c =
    let l = c.loop-j in
    let a = c.args in
    let b = c.loop-j-test.true in
    let g = c.sum_of_all-g.result in
    let f : ℕ → List ℕ → List ℕ = λ k. reach_with a.rows a.work.now g (cell a.rows met_column (a.from + k) a.work.now) in
    let at : l.j ≡ a.from + (l.j - a.from) = omega (arith, l.invariant.1) in
    let more : (l.j - a.from) + 1 ≡ l.j + 1 - a.from = omega (arith, l.invariant.1) in
    (c.reach_one.ensures ∙ ((λ z. reach_with a.rows a.work.now g (cell a.rows met_column (at z) a.work.now) (l.invariant.0 z)) ∙ (up_to-more (l.j - a.from) f a.answer.now ∙ ap (λ n. up_to n f a.answer.now) more)), omega (arith, l.invariant.1), omega (arith, b), c.reach_one.auto.answer ∙ l.invariant.3)

pub returns : goal.returns
unfolding reach_whole
returns c =
    let l = c.loop-j in
    let a = c.args in
    l.invariant.0 ∙ ((λ z. up_to (le_antisymm l.invariant.2 c.loop-j-test.false z - a.from) (λ k. reach_with a.rows a.work.now (c.sum_of_all-g.ensures z) (cell a.rows met_column (a.from + k) a.work.now)) a.answer.now))

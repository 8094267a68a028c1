-- `spaces::reach_each` meets its contract. Assumes nothing.
use Rattle.view.proofs.Frame.{only_none, only-trans, cell-kept}
use Rattle.lists.proofs.Loops.{up_to-more}
use Rattle.subgroups.proofs.Laws.{ranged-kept}
use Rattle.spaces.proofs.Kept.{member-kept}
use Prim.Native.Nat.{ℕ, ◌+◌, ◌-◌, ◌*◌, ◌<◌}
use native.Mathlib.Nat.{le_antisymm}
use native.Mathlib.Omega.{arith}
use mathlib.Core.Path.{◌≡◌, refl, sym, ap, ◌∙◌, subst}
use mathlib.Core.List.{List, [], ◌∷◌}
use Rattle.lists.specs.Loops.{up_to}
use Rattle.table.specs.Table.{cell}
use Rattle.table.specs.Columns.{met_column, joined_column}
use Rattle.spaces.specs.Spaces.{reach_row, reach_group}
use Rattle.spaces.proofs.reach_each.Goals as goal

pub loop-j-init : goal.loop-j-init
unfolding up_to
loop-j-init c =
    let a = c.args in
    let z : 0 ≡ a.from - a.from = omega arith in
    (ap (λ n. up_to n (λ k. reach_row a.rows a.threshold a.from (a.to - a.from) a.work.now (cell a.rows met_column (a.from + k) a.work.now)) a.answer.now) z, c.evaluate_tangent_space-sum.ensures, only_none (joined_column ∷ []) a.rows a.work.now, omega arith, c.requires.0, refl, c.requires.2)

pub overflow_cast-r : goal.overflow_cast-r
overflow_cast-r c = let l = c.loop-j in omega (arith, c.slice_known-in-loop-j-1.given (met_column * c.args.rows + l.j))

pub reach_member-sum-requires : goal.reach_member-sum-requires
reach_member-sum-requires c =
    let l = c.loop-j in
    let a = c.args in
    let b = c.loop-j-test.true in
    (subst (λ x. x < a.rows) (sym (cell-kept (joined_column ∷ []) a.rows a.work.now _ l.invariant.2 met_column l.j refl (omega (arith, b, c.requires.1)))) (c.requires.3.met l.j b), c.requires.0, c.requires.1, l.invariant.6, ranged-kept a.rows a.work.now _ l.invariant.2 a.to c.requires.1 c.requires.3, l.invariant.1)

pub loop-j-preserved : goal.loop-j-preserved
loop-j-preserved c =
    let l = c.loop-j in
    let a = c.args in
    let b = c.loop-j-test.true in
    let e = c.reach_member-sum.ensures in
    let f : ℕ → List ℕ → List ℕ = λ k. reach_row a.rows a.threshold a.from (a.to - a.from) a.work.now (cell a.rows met_column (a.from + k) a.work.now) in
    let at : l.j ≡ a.from + (l.j - a.from) = omega (arith, l.invariant.3) in
    let more : (l.j - a.from) + 1 ≡ l.j + 1 - a.from = omega (arith, l.invariant.3) in
    (e.0 ∙ (member-kept a.rows a.work.now _ l.invariant.2 a.threshold a.from a.to l.j _ c.requires.0 c.requires.1 b c.requires.3 ∙ ((λ z. reach_row a.rows a.threshold a.from (a.to - a.from) a.work.now (cell a.rows met_column (at z) a.work.now) (l.invariant.0 z)) ∙ (up_to-more (l.j - a.from) f a.answer.now ∙ ap (λ n. up_to n f a.answer.now) more))), e.1, only-trans (joined_column ∷ []) a.rows a.work.now _ _ l.invariant.2 e.2, omega (arith, l.invariant.3), omega (arith, b), c.reach_member-sum.auto.answer ∙ l.invariant.5, omega (arith, l.invariant.6, e.2.size))

pub returns : goal.returns
unfolding reach_group
returns c =
    let l = c.loop-j in
    let a = c.args in
    let f : ℕ → List ℕ → List ℕ = λ k. reach_row a.rows a.threshold a.from (a.to - a.from) a.work.now (cell a.rows met_column (a.from + k) a.work.now) in
    (l.invariant.0 ∙ ap (λ q. up_to (q - a.from) f a.answer.now) (le_antisymm l.invariant.4 c.loop-j-test.false), l.invariant.2)

-- `subgroups::span_of` meets its contract. Assumes nothing.
use Prim.Native.Nat.{ℕ, ◌+◌, ◌-◌}
use native.Mathlib.Nat.{le_antisymm}
use native.Mathlib.Omega.{arith}
use mathlib.Core.Path.{◌≡◌, ap, ◌∙◌}
use Rattle.lists.specs.Loops.{up_to}
use Rattle.lists.proofs.Loops.{up_to-more}
use Rattle.hulls.specs.Hull.{nothing}
use Rattle.subgroups.specs.declared.Span.{Span}
use Rattle.subgroups.specs.Spans.{absorbed_at, span_of}
use Rattle.subgroups.proofs.span_of.Goals as goal

pub loop-p-init : goal.loop-p-init
unfolding up_to
loop-p-init c =
    let a = c.args in
    let z : 0 ≡ a.from - a.from = omega arith in
    ((λ i. record { s = c.nothing.ensures i; t = c.nothing-2.ensures i }) ∙ ap (λ n. up_to n (λ k. absorbed_at a.rows a.work.now (a.from + k)) (record { s = nothing; t = nothing })) z, omega arith, c.requires.0)

pub absorb_at-b-requires : goal.absorb_at-b-requires
absorb_at-b-requires c =
    let p = c.loop-p-test.true in
    (omega (arith, p, c.requires.1), c.requires.3.met c.loop-p.p p, c.requires.3.order c.loop-p.p p, c.requires.2)

pub loop-p-preserved : goal.loop-p-preserved
loop-p-preserved c =
    let l = c.loop-p in
    let a = c.args in
    let at : l.p ≡ a.from + (l.p - a.from) = omega (arith, l.invariant.1) in
    let e : (l.p - a.from) + 1 ≡ l.p + 1 - a.from = omega (arith, l.invariant.1) in
    let f : ℕ → Span → Span = λ k. absorbed_at a.rows a.work.now (a.from + k) in
    let none : Span = record { s = nothing; t = nothing } in
    (c.absorb_at-b.ensures ∙ ((λ q. absorbed_at a.rows a.work.now (at q) (l.invariant.0 q)) ∙ (up_to-more (l.p - a.from) f none ∙ ap (λ n. up_to n f none) e)), omega (arith, l.invariant.1), omega (arith, c.loop-p-test.true))

pub returns : goal.returns
unfolding span_of
returns c =
    let l = c.loop-p in
    let a = c.args in
    l.invariant.0 ∙ ap (λ q. up_to (q - a.from) (λ k. absorbed_at a.rows a.work.now (a.from + k)) (record { s = nothing; t = nothing })) (le_antisymm l.invariant.2 c.loop-p-test.false)

-- `mesh::slots_before` meets its contract: one size more adds what it stands for. Assumes nothing.
use Rattle.std.proofs.Common.{arith, ℕ, ◌≡◌, ◌+◌, ◌≤◌, ◌<◌, length, take, get_or, sym, ap, ◌∙◌}
use Rattle.std.proofs.lemmas.List.{length-take, take_all, take_min}
use Rattle.definition.specs.Handed.{slot_count}
use Rattle.mesh.proofs.Counts.{slots-more, slots-none}
use Rattle.mesh.proofs.slots_before.Goals as goal

pub loop-size-init : goal.loop-size-init
loop-size-init c = (slots-none c.args.sizes.now, omega arith, omega (arith, length-take c.min-end.result c.args.sizes.now))

pub loop-size-preserved : goal.loop-size-preserved
loop-size-preserved c =
    let l = c.loop-size in
    let xs = take c.min-end.result c.args.sizes.now in
    let h : l.size-index < length xs = omega arith in
    (ap (λ (n : ℕ). n + c.slots_of-sum.result) l.invariant.0 ∙ ap (λ (n : ℕ). slot_count (take l.size-index xs) + n) c.slots_of-sum.ensures.0 ∙ sym (slots-more xs l.size-index h), omega arith, l.invariant.2)

pub returns : goal.returns
returns c =
    let l = c.loop-size in
    let xs = c.args.sizes.now in (
      l.invariant.0
          ∙ ap slot_count (take_all l.size-index (take c.min-end.result xs) c.loop-size-test.false ∙ (ap (λ (n : ℕ). take n xs) c.min-end.ensures ∙ take_min c.min.result xs) ∙ ap (λ (n : ℕ). take n xs) c.min.ensures),
      omega (arith, length-take c.min-end.result xs),
    )

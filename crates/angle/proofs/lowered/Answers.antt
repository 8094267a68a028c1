-- `angle::lowered` meets its contract: it stops at the first place at the latest, since no u is above the first entry. Assumes nothing.
use Rattle.std.proofs.Common.{ℕ, ◌<◌, ◌≤◌, subst, arith}
use Rattle.angle.proofs.Entries.{not_first}
use Rattle.angle.proofs.lowered.Goals as goal

pub loop-k-init : goal.loop-k-init
loop-k-init c = c.requires.2

pub entry-requires : goal.entry-requires
entry-requires c = (c.requires.0, omega arith)

not_yet : (c : goal.In-loop-k) → 0 < c.loop-k.k
not_yet c =
    let u = c.args.u in
    not_first u c.loop-k.k c.requires.1 (subst (λ (x : ℕ). x < u) c.entry.ensures c.loop-k-test.true)

pub overflow_sub-k : goal.overflow_sub-k
overflow_sub-k c = omega (arith, not_yet c)

pub loop-k-smaller : goal.loop-k-smaller
loop-k-smaller c = omega (arith, not_yet c)

pub returns : goal.returns
returns c = (c.loop-k.invariant, subst (λ (x : ℕ). c.args.u ≤ x) c.entry.ensures c.loop-k-test.false)

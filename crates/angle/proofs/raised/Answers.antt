-- `angle::raised` meets its contract. The invariant: the entry at k is at least u. Assumes nothing.
use Rattle.std.proofs.Common.{ℕ, ◌<◌, ◌≤◌, ap, ◌∙◌, subst, not-le_of_lt, add-one, arith}
use Rattle.angle.proofs.Entries.{C, found}
use Rattle.angle.proofs.raised.Goals as goal

pub loop-k-init : goal.loop-k-init
loop-k-init c = (c.requires.1, c.requires.2)

pub entry-requires : goal.entry-requires
entry-requires c = (c.requires.0, omega arith)

pub returns-then-entry-u : goal.returns-then-entry-u
returns-then-entry-u c =
    let l = c.loop-k in
    let u = c.args.u in
    found u l.k l.invariant.0 l.invariant.1 (λ h. subst (λ (x : ℕ). x < u) (c.entry.ensures ∙ ap C (add-one l.k)) c.if-entry-u.true)

pub loop-k-preserved : goal.loop-k-preserved
loop-k-preserved c = (omega arith, subst (λ (x : ℕ). c.args.u ≤ x) c.entry.ensures c.if-entry-u.false)

pub returns : goal.returns
returns c =
    let l = c.loop-k in
    found c.args.u l.k l.invariant.0 l.invariant.1 (λ h. absurd (not-le_of_lt h c.loop-k-test.false))

-- `appends::try_next` meets its contract. Assumes nothing.
use native.Mathlib.Omega.{arith}
use mathlib.Core.Path.{sym, ◌∙◌}
use mathlib.Core.Bool.{true, false}
use Rattle.appends.specs.Next.{first_torn, place_of}
use Rattle.appends.specs.Contract.{after_next}
use Rattle.appends.proofs.Outcomes.{next-is, following-by}
use Rattle.appends.proofs.try_next.Goals as goal

pub returns-then-overfull : goal.returns-then-overfull
unfolding after_next
returns-then-overfull c =
    let a = c.args in
    sym (following-by a.kind a.total a.long true (sym c.overfull.ensures ∙ c.if-overfull.true))

pub returns : goal.returns
unfolding after_next first_torn place_of
returns c =
    let a = c.args in
    next-is a.kind a.total a.long _ _ _ c.wanted.ensures (omega arith) (omega arith)
    ∙ sym (following-by a.kind a.total a.long false (sym c.overfull.ensures ∙ c.if-overfull.false))

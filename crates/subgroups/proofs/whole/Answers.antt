-- `subgroups::whole` meets its contract. Assumes nothing.
use Prim.Native.Nat.{◌-◌}
use mathlib.Core.Path.{sym, ap, ◌∙◌}
use Rattle.bits.proofs.Bools.{and_left, and_right}
use Rattle.hulls.specs.Hull.{above}
use Rattle.subgroups.proofs.Spans.{whole-law}
use Rattle.subgroups.proofs.whole.Goals as goal

pub returns : goal.returns
returns c =
    let a = c.args in
    λ q. whole-law a.rows a.work.now a.threshold a.from (a.to - a.from)
    (sym (c.above.ensures ∙ ap (λ x. above x.s a.threshold) c.span_of-b.ensures) ∙ and_left _ _ q)
    (sym (c.above-2.ensures ∙ ap (λ x. above x.t a.threshold) c.span_of-b.ensures) ∙ and_right c.above.result _ q)

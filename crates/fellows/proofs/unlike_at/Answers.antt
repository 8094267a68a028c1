-- `fellows::unlike_at` meets its contract. Assumes nothing.
use Prim.Native.Nat.{ℕ, ◌-◌}
use native.Mathlib.Omega.{arith}
use mathlib.Core.Path.{sym, ap, ◌∙◌}
use Rattle.asked.proofs.Rows.{told-not, tells-differ}
use Rattle.fellows.specs.Fellows.{shared}
use Rattle.fellows.proofs.unlike_at.Goals as goal

pub returns-then-word_at-eq0 : goal.returns-then-word_at-eq0
returns-then-word_at-eq0 c = told-not (λ u. u.some (sym c.word_at.ensures ∙ c.if-word_at-eq0.true))

pub overflow_sub-f : goal.overflow_sub-f
overflow_sub-f c =
    let p = c.requires in
    let i = (p.5.right _ p.0).is in
    omega (arith, i, c.first_at-f.ensures)

pub value_at-a-requires : goal.value_at-a-requires
value_at-a-requires c =
    let p = c.requires in
    let r = p.5.right _ p.0 in
    (omega (arith, r.is, r.low, p.0, c.first_at-f.ensures), p.1, p.2, p.4)

pub returns : goal.returns
returns c =
    let a = c.args in
    tells-differ _ _
    (λ h. record {
      some = λ z. c.if-word_at-eq0.false (c.word_at.ensures ∙ z);
      differs = λ e. h (c.value_at-a.ensures ∙ (ap (λ (x : ℕ). shared a.rows a.work.now a.ways.now a.shared (x - 1)) c.first_at-f.ensures ∙ (e ∙ sym c.value_at-b.ensures)));
    })
    (λ h u. u.differs (ap (λ (x : ℕ). shared a.rows a.work.now a.ways.now a.shared (x - 1)) (sym c.first_at-f.ensures) ∙ (sym c.value_at-a.ensures ∙ (h ∙ c.value_at-b.ensures))))

-- `examiner::one_sided` meets its contract. Assumes nothing.
use native.Mathlib.Omega.{arith}
use Rattle.asked.proofs.Rows.{told-not, tells-differ}
use Rattle.examiner.proofs.Words.{not-one-sided, one-sided-here, mutual-here}
use Rattle.examiner.proofs.one_sided.Goals as goal

pub returns-then-word-eq0 : goal.returns-then-word-eq0
returns-then-word-eq0 c = told-not (not-one-sided _ _ _ c.word_at-word.ensures c.if-word-eq0.true)

pub returns : goal.returns
returns c =
    let L = c.args.given.now in
    let r = c.args.r in
    tells-differ _ _
    (λ h. one-sided-here L r c.word_at-word.result c.word_at-back.result c.word_at-word.ensures c.if-word-eq0.false c.word_at-back.ensures (λ e. h (omega (arith, e))))
    (λ h. mutual-here L r c.word_at-word.result c.word_at-back.result c.word_at-word.ensures c.if-word-eq0.false c.word_at-back.ensures (omega (arith, h)))

-- `examiner::crooked` meets its contract. Assumes nothing.
use Rattle.asked.proofs.Rows.{told-not}
use Rattle.examiner.proofs.Words.{not-crooked, crooked-tells}
use native.Mathlib.Omega.{arith}
use Rattle.examiner.proofs.crooked.Goals as goal

pub returns-then-word-eq0 : goal.returns-then-word-eq0
returns-then-word-eq0 c = told-not (not-crooked _ _ _ _ _ c.word_at-word.ensures c.if-word-eq0.true)

pub returns : goal.returns
returns c = crooked-tells _ _ _ _ _ _ c.word_at-word.ensures c.if-word-eq0.false (omega (arith, c.word_at-word.ensures, c.requires.5)) c.unlike.ensures

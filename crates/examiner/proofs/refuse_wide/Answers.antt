-- `examiner::refuse_wide` meets its contract. Assumes nothing.
use native.Mathlib.Omega.{arith}
use Rattle.std.proofs.Common.{rules}
use Rattle.std.proofs.lemmas.Iterator.{first_from_Range}
use Rattle.asked.proofs.Rows.{found-below}
use Rattle.examiner.proofs.refuse_wide.Goals as goal

pub refuse-requires : goal.refuse-requires
refuse-requires c = found-below _ _ _ _ _ (omega (arith, c.requires.0)) (first_from_Range _ _ _ c.find.result (λ _. Unit) (λ _. Unit) c.find.ensures.ran (λ x q k. tt) (λ x q k. search rules))

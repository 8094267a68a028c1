-- `severed::before_of` meets its contract. Assumes nothing.
use mathlib.Core.Path.{refl}
use Rattle.asked.proofs.Ways.{end_back}
use Rattle.severed.proofs.before_of.Goals as goal

pub returns-then-r-eq0 : goal.returns-then-r-eq0
returns-then-r-eq0 c = end_back _ _ (λ e. refl) (λ ne. absurd (ne c.if-r-eq0.true))

pub returns-else-r-eq0 : goal.returns-else-r-eq0
returns-else-r-eq0 c = end_back _ _ (λ e. absurd (c.if-r-eq0.false e)) (λ ne. refl)

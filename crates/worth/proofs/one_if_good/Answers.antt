-- `worth::one_if_good` meets its contract. Assumes nothing.
use Prim.Native.Nat.{ℕ}
use native.Mathlib.Omega.{arith}
use mathlib.Core.Path.{◌≡◌}
use mathlib.Core.Bool.{cond}
use lib.Dec.{eqb}
use borrow.Author.Tests.{eq-eqb, ne_eqb}
use Rattle.worth.specs.Worth.{good_slot}
use Rattle.worth.proofs.one_if_good.Goals as goal

-- 1 for a good one, 0 for another
of-good : (v r : ℕ) → v ≡ good_slot → r ≡ 1 → r ≡ cond (eqb v good_slot) 1 0
of-good v r e h = simp (eq-eqb _ _ e) h

of_other : (v r : ℕ) → (v ≡ good_slot → ⊥) → r ≡ 0 → r ≡ cond (eqb v good_slot) 1 0
of_other v r e h = simp (ne_eqb _ _ e) h

pub returns-then-verdict-eq-GOOD : goal.returns-then-verdict-eq-GOOD
returns-then-verdict-eq-GOOD c = (of-good c.args.verdict _ (omega (arith, c.if-verdict-eq-GOOD.true)) (omega arith), omega arith)

pub returns : goal.returns
returns c = (of_other c.args.verdict _ (λ k. omega (arith, k, c.if-verdict-eq-GOOD.false)) (omega arith), omega arith)

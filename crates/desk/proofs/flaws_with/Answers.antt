-- `desk::flaws_with` meets its contract: each test by itself. Assumes nothing.
use Prim.Native.Nat.{ℕ}
use mathlib.Core.Path.{◌≡◌, ap, ◌∙◌}
use mathlib.Core.Bool.{Bool, cond}
use mathlib.Core.Option.{none, some}
use Rattle.std.specs.Prelude.{Option as Found}
use Rattle.desk.specs.Verdict.{found, unless_found}
use Rattle.desk.proofs.flaws_with.Goals as goal

-- what is found by the test that was asked
asked : (b : Found ℕ) (x y : Bool) (i : ℕ) → x ≡ y → found (unless_found b (cond x none (some i))) ≡ found (unless_found b (cond y none (some i)))
asked b x y i e = ap (λ (z : Bool). found (unless_found b (cond z none (some i)))) e

pub returns : goal.returns
returns c =
    (c.lowest.ensures ∙ asked _ _ _ _ c.finite_corner.ensures, c.lowest-2.ensures ∙ asked _ _ _ _ c.has_normal.ensures)

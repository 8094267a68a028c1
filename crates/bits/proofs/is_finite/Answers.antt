-- `bits::is_finite` meets its contract: a number is finite where it lies between the infinities. Assumes nothing.
use mathlib.Core.Path.{◌≡◌, refl, sym}
use mathlib.Core.Bool.{true, false, true≢false}
use lib.Ieee.{Float, nan, inf, fin, of_bits, div, neg, lt}
use Rattle.bits.specs.Word.{is_finite}
use Rattle.bits.proofs.is_finite.Goals as goal

between : (x : Float) → lt x (inf false) ≡ true → lt (inf true) x ≡ is_finite x
unfolding lt is_finite
between nan h = refl
between (inf true) h = refl
between (inf false) h = absurd (true≢false (sym h))
between (fin s m e) h = refl

outside : (x : Float) → lt x (inf false) ≡ false → false ≡ is_finite x
unfolding lt is_finite
outside nan h = refl
outside (inf s) h = refl
outside (fin s m e) h = absurd (true≢false h)

pub returns-then-x-top : goal.returns-then-x-top
unfolding of_bits div neg
returns-then-x-top c = between c.args.x c.if-x-top.true

pub returns-else-x-top : goal.returns-else-x-top
unfolding of_bits div neg
returns-else-x-top c = outside c.args.x c.if-x-top.false

-- `angle::raised_whole` meets its contract: `offset` gives what is 2 ^ 30 more than X. Assumes nothing.
use Rattle.std.proofs.Common.{◌≡◌, T, pos, sym, refl, ap, ◌∙◌, subst}
use lib.Ieee.{Float, nan, of_bits, neg, le, lt, mul, to_signed}
use Rattle.bits.specs.Single.{oneᶠ, minus_oneᶠ}
use Rattle.bits.proofs.Nan.{unlike-itself, like-itself}
use Rattle.angle.specs.Angle.{toward_zero, whole_of}
use Rattle.angle.proofs.Unit.{cut_in}
use Rattle.angle.proofs.raised_whole.Goals as goal

whole_nan : whole_of nan ≡ pos 0
unfolding lt mul to_signed of_bits
whole_nan = refl

pub returns-then-x : goal.returns-then-x
returns-then-x c = ap whole_of (unlike-itself c.args.x c.if-x.true) ∙ whole_nan

pub offset-requires : goal.offset-requires
unfolding of_bits neg
offset-requires c =
    let x = c.args.x in
    subst (λ (y : Float). T (le minus_oneᶠ y) × T (le y oneᶠ)) (sym c.cut.ensures) (cut_in x (like-itself x c.if-x.false))

pub returns : goal.returns
returns c = sym (ap toward_zero c.cut.ensures) ∙ c.offset.ensures.0

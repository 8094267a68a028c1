-- `angle::half` meets its contract: w is from 0 to 1/2. Assumes nothing.
use Rattle.std.proofs.Common.{◌≡◌, ℕ, ◌^◌, ◌≤◌, T, sym, ap, ◌∙◌, subst}
use lib.Ieee.{Float, of_bits, neg, le}
use Rattle.bits.specs.Single.{oneᶠ, minus_oneᶠ}
use Rattle.angle.specs.Angle.{plain_way}
use Rattle.angle.proofs.Narrow.{W, Small, narrow, half_turn}
use Rattle.angle.proofs.half.Goals as goal
use Rattle.angle.proofs.half.Tie as tie
use Rattle.angle.proofs.half.Lts as lts
use Rattle.angle.proofs.half.Reads as reads

abbrev At-Start : Type 0
At-Start = lts.Start tie.the-claims reads.Pre reads.Post

small : (c : At-Start) → Small (W c.args.a)
unfolding of_bits
small c = narrow c.args.a c.requires.1 c.requires.2

w-is : (c : goal.After-sqrt) → c.sqrt.result ≡ W c.args.a
unfolding of_bits neg
w-is c = c.sqrt.ensures

pub plain-requires : goal.plain-requires
unfolding of_bits neg
plain-requires c =
    let s = small c.before in
    (c.requires.0, subst (λ (w : Float). T (le minus_oneᶠ w)) (sym (w-is c)) s.above, subst (λ (w : Float). T (le w oneᶠ)) (sym (w-is c)) s.under)

pub returns : goal.returns
unfolding of_bits
returns c =
    let s = c.before.before in
    let e = c.plain.ensures ∙ ap plain_way (w-is c.before) in
    (e, subst (λ (n : ℕ). n ≤ 2 ^ 29) (sym e) (half_turn (W s.args.a) (small s)))

-- `angle::offset` meets its contract: the size is from 0 to 1, and its whole part is added or taken by the sign. Assumes nothing.
use Rattle.std.proofs.Common.{◌≡◌, true, false, T, sym, ap, ◌∙◌, subst}
use lib.Ieee.{Float, binary32, of_bits, neg, le, mul, to_unsigned}
use Rattle.bits.proofs.Zeros.{O}
use Rattle.angle.proofs.Unit.{I, size_of, unit}
use Rattle.angle.proofs.Toward.{G, toward}
use Rattle.angle.proofs.offset.Goals as goal
use Rattle.angle.proofs.offset.Tie as tie
use Rattle.angle.proofs.offset.Lts as lts
use Rattle.angle.proofs.offset.Reads as reads

abbrev At-After-whole-n : Type 0
At-After-whole-n = lts.After-whole tie.the-claims reads.Pre reads.Post

pub whole-n-requires : goal.whole-n-requires
unfolding of_bits neg
whole-n-requires c =
    subst (λ (a : Float). T (le O a) × T (le a I)) (sym c.without_sign.ensures) (unit c.args.x c.requires.0 c.requires.1)

-- the whole part of the size
counted : (c : At-After-whole-n) → c.whole-n.result ≡ to_unsigned 64 (mul binary32 (size_of c.args.x) G)
unfolding of_bits
counted c = c.whole-n.ensures.0 ∙ ap (λ (a : Float). to_unsigned 64 (mul binary32 a G)) c.without_sign.ensures

pub returns-then-x : goal.returns-then-x
unfolding of_bits neg
returns-then-x c =
    let s = c.before.before.before in
    toward s.args.x c.whole-n.result s.requires.0 s.requires.1 (counted c.before) true c.if-x.true

pub returns-else-x : goal.returns-else-x
unfolding of_bits neg
returns-else-x c =
    let s = c.before.before.before in
    toward s.args.x c.whole-n.result s.requires.0 s.requires.1 (counted c.before) false c.if-x.false

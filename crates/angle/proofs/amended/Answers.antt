-- `angle::amended` meets its contract: each arm is what `cond` picks. Assumes nothing.
use Rattle.std.proofs.Common.{◌≡◌, ℕ, ◌-◌, ◌*◌, ◌^◌, Bool, true, false, cond, T, sym, ap, ◌∙◌, subst, arith}
use lib.Ieee.{Float, of_bits, neg, le, lt}
use Rattle.bits.specs.Single.{zeroᶠ, halfᶠ, oneᶠ}
use Rattle.bits.proofs.Bools.{T-is}
use Rattle.angle.specs.Angle.{plain_way, half_sine, size_of, doubled_way, amended_way}
use Rattle.angle.proofs.Unit.{unit}
use Rattle.angle.proofs.amended.Goals as goal
use Rattle.angle.proofs.amended.Tie as tie
use Rattle.angle.proofs.amended.Lts as lts
use Rattle.angle.proofs.amended.Reads as reads

abbrev At-After-half-b : Type 0
At-After-half-b = lts.After-half tie.the-claims reads.Pre reads.Post

-- the definition, by its tests
close : (x a : Float) (b : ℕ) → a ≡ size_of x → lt halfᶠ a ≡ true → b ≡ plain_way (half_sine a) → amended_way x ≡ doubled_way x b
close x a b e h g =
    ap (λ (t : Bool). cond t (doubled_way x (plain_way (half_sine (size_of x)))) (plain_way x)) (ap (lt halfᶠ) (sym e) ∙ h)
    ∙ ap (doubled_way x) (ap (λ (z : Float). plain_way (half_sine z)) (sym e) ∙ sym g)

wide : (x a : Float) → a ≡ size_of x → lt halfᶠ a ≡ false → amended_way x ≡ plain_way x
wide x a e h = ap (λ (b : Bool). cond b (doubled_way x (plain_way (half_sine (size_of x)))) (plain_way x)) (ap (lt halfᶠ) (sym e) ∙ h)

doubled : (c : At-After-half-b) → amended_way c.args.x ≡ doubled_way c.args.x c.half-b.result
doubled c =
    let w = c.without_sign-a in
    close c.args.x w.result c.half-b.result w.ensures c.if-narrow.true c.half-b.ensures.0

pub half-b-requires : goal.half-b-requires
unfolding of_bits neg
half-b-requires c =
    let s = c.before.before in
    (s.requires.0, T-is c.if-narrow.true, subst (λ (a : Float). T (le a oneᶠ)) (sym c.without_sign-a.ensures) (unit s.args.x s.requires.1 s.requires.2).1)

-- 2B where x is negative, and 2 ^ 30 - 2B elsewhere
below : (x : Float) (b r : ℕ) → lt x zeroᶠ ≡ true → r ≡ 2 * b → r ≡ doubled_way x b
below x b r h e = e ∙ sym (ap (λ (t : Bool). cond t (2 * b) (2 ^ 30 - 2 * b)) h)

above : (x : Float) (b r : ℕ) → lt x zeroᶠ ≡ false → r ≡ 2 ^ 30 - 2 * b → r ≡ doubled_way x b
above x b r h e = e ∙ sym (ap (λ (t : Bool). cond t (2 * b) (2 ^ 30 - 2 * b)) h)

pub returns-then-below : goal.returns-then-below
returns-then-below c = below c.args.x c.half-b.result _ c.if-below.true (omega arith) ∙ sym (doubled c.before)

pub returns-then-narrow : goal.returns-then-narrow
returns-then-narrow c = above c.args.x c.half-b.result _ c.if-below.false (omega arith) ∙ sym (doubled c.before)

pub returns : goal.returns
returns c = c.plain.ensures ∙ sym (wide c.args.x c.without_sign-a.result c.without_sign-a.ensures c.if-narrow.false)

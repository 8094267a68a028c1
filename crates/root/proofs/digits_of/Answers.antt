-- `root::digits_of` meets its contract: the number's 24 digits and their place. Assumes nothing.
use Rattle.std.proofs.Common.{◌≡◌, ℕ, ◌-◌, ◌*◌, ◌%◌, ◌^◌, sym, ap, ◌∙◌, subst, lt_of_lt_of_le, mod-eq_of_lt, arith, lit≤}
use Rattle.root.specs.Code.{Digits}
use Rattle.root.specs.Root.{rooted}
use Rattle.root.proofs.Scaling.{Lifted, lift, zeros, normal-root, subnormal-root}
use Rattle.root.proofs.digits_of.Goals as goal

known : (c : goal.Else-b-ge8388608) → Lifted c.args.b
known c = lift c.args.b c.requires.0 (omega arith)

-- the shift loses nothing
kept : (c : goal.Else-b-ge8388608) → c.args.b * 2 ^ zeros c.args.b % 2 ^ 32 ≡ c.args.b * 2 ^ zeros c.args.b
kept c = mod-eq_of_lt (lt_of_lt_of_le (known c).most (lit≤ tt))

pub returns-then-b-ge8388608 : goal.returns-then-b-ge8388608
returns-then-b-ge8388608 c =
    let b = c.args.b in
    let l = c.requires.1 in
    (record { least = omega arith; most = omega arith; low = omega arith; high = omega (arith, l) }, sym (normal-root b c.if-b-ge8388608.true l))

pub overflow_sub-z : goal.overflow_sub-z
overflow_sub-z c = (known c).some

pub overflow_shl-result : goal.overflow_shl-result
overflow_shl-result c = omega (arith, (known c).few)

pub overflow_sub-result : goal.overflow_sub-result
overflow_sub-result c = omega (arith, (known c).few)

pub returns : goal.returns
returns c =
    let b = c.args.b in
    let k = known c in
    (subst (λ (m : ℕ). Digits m (149 - zeros b)) (sym (kept c)) (record { least = k.least; most = k.most; low = omega (arith, k.few); high = omega arith }), ap (λ (m : ℕ). rooted (m * 2 ^ (149 - zeros b))) (kept c) ∙ sym (subnormal-root b c.requires.0 (omega arith)))

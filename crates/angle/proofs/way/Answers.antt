-- `angle::way` meets its contract: the entries that it reads lie on the two sides of u. Assumes nothing.
use Rattle.std.proofs.Common.{◌≡◌, ℕ, suc, ◌+◌, ◌-◌, ◌*◌, ◌/◌, ◌^◌, ◌≤◌, sym, ap, ◌∙◌, subst, add-one, arith}
use lib.IntN.{sub_ℕ}
use Rattle.angle.specs.Angle.{way_at}
use Rattle.angle.proofs.Entries.{C, Between, between, way-is, part-le}
use Rattle.angle.proofs.way.Goals as goal

known : (c : goal.Start) → Between c.args.u c.args.k
known c = subst (λ (k : ℕ). Between c.args.u k) (sym c.requires.2) (between c.args.u c.requires.1)

-- the two entries, as the calls gave them
second : (c : goal.After-entry-b) → c.entry-b.result ≡ C (suc c.args.k)
second c = c.entry-b.ensures ∙ ap C (add-one c.args.k)

part : (c : goal.After-entry-b) → 1048576 * (c.entry-a.result - c.args.u) / (c.entry-a.result - c.entry-b.result) ≤ 1048576
part c =
    let k = known c.before.before in
    part-le c.entry-a.result c.entry-b.result c.args.u (omega (arith, k.high, second c)) (omega (arith, k.apart, second c))

pub entry-a-requires : goal.entry-a-requires
entry-a-requires c = (c.requires.0, omega (arith, (known c).within))

pub overflow_add-k : goal.overflow_add-k
overflow_add-k c = omega (arith, (known c.before).within)

pub entry-b-requires : goal.entry-b-requires
entry-b-requires c = (c.requires.0, omega (arith, (known c.before).within))

pub overflow_sub-part : goal.overflow_sub-part
overflow_sub-part c = omega (arith, (known c.before.before).low)

pub overflow_sub-part-2 : goal.overflow_sub-part-2
overflow_sub-part-2 c = omega (arith, (known c.before.before).apart, second c)

pub nonzero_div-part : goal.nonzero_div-part
nonzero_div-part c = omega (arith, (known c.before.before).apart, second c)

pub overflow_mul-result : goal.overflow_mul-result
overflow_mul-result c = omega (arith, (known c.before.before).within)

pub overflow_add-result : goal.overflow_add-result
overflow_add-result c = omega (arith, (known c.before.before).within, part c)

pub overflow_cast-result : goal.overflow_cast-result
overflow_cast-result c = omega (arith, (known c.before.before).within, part c)

pub returns : goal.returns
returns c =
    let u = c.args.u in
    let k = c.args.k in
    ap (λ (a : ℕ). 1048576 * k + 1048576 * (a - u) / (a - c.entry-b.result)) c.entry-a.ensures
    ∙ ap (λ (b : ℕ). 1048576 * k + 1048576 * (C k - u) / (C k - b)) (second c)
    ∙ way-is u k (known c.before.before)
    ∙ ap (way_at (sub_ℕ u (2 ^ 30))) c.requires.2

-- `packed::units` meets its contract. Assumes nothing.
use native.Mathlib.Omega.{arith}
use mathlib.Core.Path.{◌∙◌, ap, subst, sym, ◌≡◌}
use Prim.Native.Nat.{ℕ, ◌-◌, ◌*◌, ◌/◌, ◌^◌, ◌≤◌}
use Rattle.packed.specs.Rounding as rounding
use Rattle.packed.specs.Component.{full_scale}
use Rattle.packed.specs.Component as spec
use Rattle.packed.proofs.Range.{units-none, units-le, units-high}
use Rattle.packed.proofs.units.Goals as goal
use Rattle.packed.proofs.units.Tie as tie
use Rattle.packed.proofs.units.Lts as lts
use Rattle.packed.proofs.units.Reads as reads

abbrev At-After-nearest : Type 0
At-After-nearest = lts.After-nearest tie.the-claims reads.Pre reads.Post

pub returns-then-m-lt-LEAST : goal.returns-then-m-lt-LEAST
returns-then-m-lt-LEAST c = (units-none c.args.m c.if-m-lt-LEAST.true, omega arith)

-- what comes back from `nearest`
nearest-is : (c : At-After-nearest) → c.nearest.result ≡ spec.units c.args.m
nearest-is c =
    c.nearest.ensures ∙ (ap (λ (d : ℕ). rounding.nearest (full_scale * d) (2 ^ (150 - c.args.m / spec.leading))) c.from.ensures ∙ units-high c.args.m (omega arith))

nearest-le : (c : At-After-nearest) → c.nearest.result ≤ full_scale
nearest-le c = subst (λ (q : ℕ). q ≤ full_scale) (sym (nearest-is c)) (units-le c.args.m c.requires)

pub overflow_cast-result : goal.overflow_cast-result
overflow_cast-result c = omega (arith, nearest-le c)

pub returns : goal.returns
returns c = (nearest-is c, nearest-le c)

-- Refusal 9 after those of the table: where neither applies. Assumes nothing.
use Prim.Native.Nat.{◌<◌}
use native.Mathlib.Omega.{arith}
use mathlib.Core.Path.{◌≡◌, refl, sym, ap, ◌∙◌}
use mathlib.Core.Bool.{Bool, true, false}
use mathlib.Core.Option.{Option, none, some, none-ne-some, some-injective}
use Rattle.definition.specs.Desk.{Row}
use Rattle.lists.specs.Every.{Each, each_none, each_some}
use Rattle.laws.proofs.Verdict.{InTable}
use Rattle.islands.specs.Nine.{nine, afterwards}

-- neither
pub passes : (o : Option Row) (b : Bool) → o ≡ none → b ≡ false → afterwards o b ≡ none
unfolding afterwards
passes o b e h = ap (λ x. afterwards x b) e ∙ ap (afterwards none) h

-- where nothing is refused the table has no row, and the list is long enough
pub passed : (o : Option Row) (b : Bool) → afterwards o b ≡ none → (o ≡ none) × (b ≡ false)
unfolding afterwards
passed (some r) b e = absurd (none-ne-some r (sym e))
passed none true e = absurd (none-ne-some nine (sym e))
passed none false e = (refl, refl)

-- the number of a row that is given is not 0
pub numbered-row : (o : Option Row) → Each InTable o → (b : Bool) (r : Row) → afterwards o b ≡ some r → 0 < r.number
unfolding afterwards
numbered-row none each_none true r e = let q = ap (λ x. x.number) (some-injective nine r e) in omega (arith, q)
numbered-row none each_none false r e = absurd (none-ne-some r e)
numbered-row (some s) (each_some f) b r e = let q = ap (λ x. x.number) (some-injective s r e) in omega (arith, q, f.known.0)

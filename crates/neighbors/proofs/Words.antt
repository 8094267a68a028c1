-- What a link word says. Assumes nothing.
use Prim.Native.Nat.{ℕ, zero, suc, ◌-◌, ◌≤◌, ◌<◌}
use native.Mathlib.Omega.{arith}
use mathlib.Core.Path.{◌≡◌, refl, ap, ◌∙◌}
use mathlib.Core.Bool.{true, false, true≢false, false≢true}
use lib.Dec.{eqb}
use borrow.Author.Tests.{ne_eqb}
use Rattle.std.specs.Prelude.{Option, Some, None, is_some, SomeIff, IfSome}
use Rattle.neighbors.specs.Links.{link_of}

-- it is one more than the side that it names
pub named : (x : ℕ) (o : Option ℕ) → SomeIff o (1 ≤ x) (x - 1) → o ≡ link_of x
unfolding link_of
named zero None h = refl
named zero (Some u) h = absurd (omega (arith, h.0))
named (suc x) None h = absurd (h (omega arith))
named (suc x) (Some u) h = let e : suc x - 1 ≡ x = omega arith in ap Some (h.1 ∙ e)

-- that side is below n
pub named-below : (n x : ℕ) (o : Option ℕ) → x ≤ n → SomeIff o (1 ≤ x) (x - 1) → IfSome o (λ u. u < n)
named-below n x None le h = tt
named-below n x (Some u) le h = omega (arith, h.0, h.1)

-- a word that names none is 0
pub unlinked : (x : ℕ) → is_some (link_of x) ≡ false → x ≡ 0
unfolding link_of
unlinked zero e = refl
unlinked (suc x) e = absurd (true≢false e)

-- a word that names a side is not 0
pub not_free : (x : ℕ) → is_some (link_of x) ≡ true → eqb x 0 ≡ false
unfolding link_of
not_free zero e = absurd (false≢true e)
not_free (suc x) e = ne_eqb (suc x) 0 (λ q. omega arith)

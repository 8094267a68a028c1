-- Equality by float comparison is symmetric. Assumes nothing.
use mathlib.Core.Path.{◌≡◌, refl, sym, ap, ◌∙◌}
use mathlib.Core.Bool.{Bool, true, false, ◌&&◌, ◌||◌, beq}
use Prim.Native.Nat.{ℕ, ◌*◌}
use borrow.Author.Tests.{eqb-true, eqb-false, ne_eqb}
use lib.Dec.{eqb}
use lib.Ieee.{Float, nan, inf, fin, eq, up, down, level}
use Rattle.bits.proofs.Bools.{beq-sym}
use Rattle.math.specs.declared.Vec3.{Vec3}
use Rattle.math.specs.Vector.{equals}

level-sym : (s t : Bool) (a b : ℕ) → level s a t b ≡ level t b s a
level-sym s t a b = go (eqb a b) refl
  where
    go : (x : Bool) → eqb a b ≡ x → (eqb a b && (beq s t || eqb a 0)) ≡ (eqb b a && (beq t s || eqb b 0))
    go true e = let h = eqb-true a b e in rw (h, beq-sym s t)
    go false e = ap (λ (x : Bool). x && (beq s t || eqb a 0)) e ∙ sym (ap (λ (x : Bool). x && (beq t s || eqb b 0)) (ne_eqb b a (λ h. eqb-false a b e (sym h))))

pub eq-sym : (x y : Float) → eq x y ≡ eq y x
unfolding eq
eq-sym nan nan = refl
eq-sym nan (inf t) = refl
eq-sym nan (fin t n d) = refl
eq-sym (inf s) nan = refl
eq-sym (inf s) (inf t) = beq-sym s t
eq-sym (inf s) (fin t n d) = refl
eq-sym (fin s m e) nan = refl
eq-sym (fin s m e) (inf t) = refl
eq-sym (fin s m e) (fin t n d) = level-sym s t (m * up e * down d) (n * up d * down e)

pub equals-sym : (u v : Vec3) → equals u v ≡ equals v u
unfolding equals
equals-sym u v = rw (eq-sym u.x v.x, eq-sym u.y v.y, eq-sym u.z v.z)

-- `mesh::unfit` meets its contract: each way out is what the tests pick. Assumes nothing.
use Prim.Native.Nat.{ℕ, ◌*◌}
use native.Mathlib.Omega.{arith}
use mathlib.Core.Path.{◌≡◌, refl}
use mathlib.Core.Bool.{Bool, true}
use borrow.Author.Tests.{eq-eqb, ne_eqb}
use Rattle.definition.specs.Desk.{unfit}
use Rattle.mesh.proofs.unfit.Goals as goal

-- positions that are not three a corner, and normals
no-positions : (c p n t : ℕ) → (p ≡ 3 * c → ⊥) → true ≡ unfit c p n t
unfolding unfit
no-positions c p n t h = rw (ne_eqb p (3 * c) h)

no-normals : (c p n t : ℕ) → p ≡ 3 * c → (n ≡ 3 * c → ⊥) → true ≡ unfit c p n t
unfolding unfit
no-normals c p n t e h = rw (eq-eqb p (3 * c) e, ne_eqb n (3 * c) h)

pub returns-then-positions-triple : goal.returns-then-positions-triple
returns-then-positions-triple c = no-positions _ _ _ _ (λ h. omega arith)

pub returns-then-misfit : goal.returns-then-misfit
returns-then-misfit c = no-normals _ _ _ _ (omega arith) (λ h. omega arith)

pub returns : goal.returns
unfolding unfit
returns c =
    let a = c.args in
    rw (eq-eqb a.positions (3 * a.corners) (omega arith), eq-eqb a.normals (3 * a.corners) (omega arith))

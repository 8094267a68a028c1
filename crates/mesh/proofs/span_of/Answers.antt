-- `mesh::span_of` meets its contract: nowhere for lists that are caught or a face past the last, and else behind the corners before the face. Assumes nothing.
use Prim.Native.Nat.{ℕ, ◌*◌, ◌≤◌, ◌<◌, min}
use native.Mathlib.Nat.{mul-le-mul, min-eq_left}
use native.Mathlib.Omega.{arith}
use mathlib.Core.Path.{◌≡◌, sym, ap, ◌∙◌}
use mathlib.Core.Bool.{true, false}
use borrow.Author.Tests.{le-leb, lt-leb}
use lib.ListN.{length, get_or, take}
use Rattle.definition.specs.Handed.{Handed, handed, corner_count}
use Rattle.mesh.specs.Parts.{caught, width_of, nowhere, span_of}
use Rattle.mesh.proofs.Fitting.{fit}
use Rattle.mesh.proofs.span_of.Goals as goal
use Rattle.mesh.proofs.span_of.Tie as tie
use Rattle.mesh.proofs.span_of.Lts as lts
use Rattle.mesh.proofs.span_of.Reads as reads

abbrev At-Start : Type 0
At-Start = lts.Start tie.the-claims reads.Pre reads.Post

abbrev At-After-shared_slice_known-5-1 : Type 0
At-After-shared_slice_known-5-1 = lts.After-shared_slice_known5 tie.the-claims reads.Pre reads.Post

module _ (mesh : Handed) (list f : ℕ) where
  -- the three ways out
  stopped : caught mesh ≡ true → nowhere ≡ span_of mesh list f
  unfolding span_of
  stopped e = rw (e)

  past : caught mesh ≡ false → length mesh.sizes ≤ f → nowhere ≡ span_of mesh list f
  unfolding span_of
  past e h = rw (e, le-leb (length mesh.sizes) f h)

  within : caught mesh ≡ false → f < length mesh.sizes → (w n : ℕ) → w ≡ width_of list → n ≡ corner_count (take (min f 65536) mesh.sizes) → record { from = w * n; count = w * get_or mesh.sizes f 0 } ≡ span_of mesh list f
  unfolding span_of
  within e h w n p q =
      let few = (fit mesh e).few in
      let l : f ≤ 65536 = omega arith in
      let r : n ≡ corner_count (take f mesh.sizes) = q ∙ ap (λ (k : ℕ). corner_count (take k mesh.sizes)) (min-eq_left l) in
      rw (e, lt-leb (length mesh.sizes) f h, p, r)

-- a size is a byte
byte : (c : At-After-shared_slice_known-5-1) → get_or c.args.sizes.now c.args.face 0 ≤ 255
byte c = omega (arith, c.shared_slice_known-5-1.given c.args.face)

pub returns-then-caught : goal.returns-then-caught
returns-then-caught c = stopped (let a = c.args in handed a.sizes.now a.positions.now a.normals.now a.texture.now) _ _ (sym c.caught.ensures ∙ c.if-caught.true)

pub returns-then-past : goal.returns-then-past
returns-then-past c =
    past (let a = c.args in handed a.sizes.now a.positions.now a.normals.now a.texture.now) _ _ (sym c.caught.ensures ∙ c.if-caught.false) (omega (arith, c.if-past.true))

pub overflow_mul-from : goal.overflow_mul-from
overflow_mul-from c = omega (arith, mul-le-mul c.width_of-width.ensures.1 c.corners_before.ensures.1)

pub overflow_cast-result : goal.overflow_cast-result
overflow_cast-result c = omega (arith, byte c.before)

pub overflow_mul-result : goal.overflow_mul-result
overflow_mul-result c = omega (arith, mul-le-mul c.width_of-width.ensures.1 (byte c.before))

pub returns : goal.returns
returns c =
    within (let a = c.args in handed a.sizes.now a.positions.now a.normals.now a.texture.now) _ _ (sym c.caught.ensures ∙ c.if-caught.false) (omega (arith, c.if-past.false)) _ _ c.width_of-width.ensures.0 c.corners_before.ensures.0

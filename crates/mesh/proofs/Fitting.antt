-- Lists that refusal 1 or 2 would catch, by the tests that tell; and where a face's part lies in a list that they let pass. Assumes nothing.
use Prim.Native.Nat.{ℕ, ◌+◌, ◌*◌, ◌≤◌, ◌<◌}
use native.Mathlib.Nat.{mul-le-mul, le_refl, mul-add, le_trans, le_of_eq}
use native.Mathlib.Omega.{arith}
use mathlib.Core.Path.{◌≡◌, refl, sym, ap, ◌∙◌, subst}
use mathlib.Core.Bool.{Bool, true, false, not, ◌&&◌, ◌||◌, true≢false}
use mathlib.Core.List.{List}
use lib.Dec.{eqb, ltb}
use borrow.Author.Tests.{lt-ltb, le-ltb, ltb-false, eqb-true}
use lib.ListN.{length, get_or, take, drop, take-append-drop}
use lib.Seq.{take_all}
use Rattle.definition.specs.Handed.{Handed, corner_count}
use Rattle.definition.specs.Desk.{too_many, unfit, misfit}
use Rattle.definition.specs.Limits.{face_limit}
use Rattle.mesh.specs.Parts.{caught, Fits}
use Rattle.mesh.proofs.Counts.{corners-more, corners-append}

module _ (mesh : Handed) where
  pub caught-many : face_limit < length mesh.sizes → true ≡ caught mesh
  unfolding caught too_many
  caught-many h = rw (lt-ltb face_limit (length mesh.sizes) h)

  pub caught-few : (n : ℕ) → length mesh.sizes ≤ face_limit → n ≡ corner_count mesh.sizes → unfit n (length mesh.positions) (length mesh.normals) (length mesh.texture) ≡ caught mesh
  unfolding caught too_many misfit
  caught-few n few is = rw (le-ltb face_limit (length mesh.sizes) few, ← is)

-- lists that pass fit each other
pub fit : (mesh : Handed) → caught mesh ≡ false → Fits mesh
unfolding caught too_many misfit unfit
fit mesh e =
    let n = corner_count mesh.sizes in
    let t = passed (ltb face_limit (length mesh.sizes)) (eqb (length mesh.positions) (3 * n)) (eqb (length mesh.normals) (3 * n)) (eqb (length mesh.texture) (2 * n)) e in
    record {
      few = ltb-false face_limit (length mesh.sizes) t.0;
      positions = eqb-true (length mesh.positions) (3 * n) t.1;
      normals = eqb-true (length mesh.normals) (3 * n) t.2;
      texture = eqb-true (length mesh.texture) (2 * n) t.3;
    }
  where
    passed : (m a b c : Bool) → (m || not (a && b && c)) ≡ false → (m ≡ false) × (a ≡ true) × (b ≡ true) × (c ≡ true)
    passed true a b c e = absurd (true≢false e)
    passed false true true true e = (refl, refl, refl, refl)
    passed false true true false e = absurd (true≢false e)
    passed false true false c e = absurd (true≢false e)
    passed false false b c e = absurd (true≢false e)

-- ---- the part of a face ends within the list
pub part-ends : (width : ℕ) (sizes : List ℕ) (f : ℕ) → f < length sizes → width * corner_count (take f sizes) + width * get_or sizes f 0 ≤ width * corner_count sizes
part-ends width sizes f h =
    le_trans (le_of_eq (sym (mul-add width (corner_count (take f sizes)) (get_or sizes f 0))))
    (mul-le-mul (le_refl width) (subst (λ (n : ℕ). n ≤ corner_count sizes) (corners-more sizes f h) (at_most (f + 1))))
  where
    at_most : (k : ℕ) → corner_count (take k sizes) ≤ corner_count sizes
    at_most k = let e = sym (corners-append (take k sizes) (drop k sizes)) ∙ ap corner_count (take-append-drop k sizes) in omega arith

pub all-taken : (sizes : List ℕ) → length sizes ≤ face_limit → corner_count (take face_limit sizes) ≡ corner_count sizes
all-taken sizes h = ap corner_count (take_all face_limit sizes h)

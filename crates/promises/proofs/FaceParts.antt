-- The part of a list that belongs to a face. Assumes nothing.
use Prim.Native.Nat.{ℕ, zero, suc, ◌+◌, ◌*◌, ◌≤◌, ◌<◌}
use native.Mathlib.Nat.{mul-add, mul-zero, zero-mul}
use native.Mathlib.Numerals.{add-one}
use native.Mathlib.Omega.{arith}
use mathlib.Core.Path.{◌≡◌, refl, sym, ap, ◌∙◌}
use mathlib.Core.Bool.{Bool, true, false, cond, ◌||◌}
use mathlib.Core.List.{List, []}
use lib.Dec.{leb}
use lib.ListN.{length, get_or, take, drop}
use lib.Seq.{take_all}
use borrow.Author.Tests.{le-ltb, ne_eqb, lt-leb, leb-false}
use Rattle.definition.specs.Handed.{Handed, corner_count}
use Rattle.mesh.specs.declared.Span.{Span}
use Rattle.mesh.specs.Parts.{Fits, caught, part_of, part_or_none, width_of, nowhere, span_of, handed_back}
use Rattle.mesh.proofs.Counts.{corners-more}
use Rattle.mesh.proofs.Fitting.{fit, part-ends}
use Rattle.promises.specs.FaceParts.{list_number, Promised}

-- a list of a mesh that fits is so long
long_as : (mesh : Handed) (l : ℕ) → Fits mesh → length (list_number mesh l) ≡ width_of l * corner_count mesh.sizes
unfolding list_number width_of
long_as mesh zero F = F.positions
long_as mesh (suc zero) F = F.normals
long_as mesh (suc (suc zero)) F = F.texture
long_as mesh (suc (suc (suc l))) F =
    let n : ℕ = suc (suc (suc l)) in
    let many : 2 ≤ n = omega arith in
    let other : n ≡ 2 → ⊥ = λ e. omega arith in
    rw (le-ltb n 2 many, ne_eqb n 2 other) (sym (zero-mul (corner_count mesh.sizes)))

module _ (mesh : Handed) (l f : ℕ) where
  abbrev here : Span
  here = record { from = width_of l * corner_count (take f mesh.sizes); count = width_of l * get_or mesh.sizes f 0 }

  abbrev there : Bool → Bool → Span
  there b past = cond (b || past) nowhere here

  -- what holds of no part, and of the face's where the lists fit and the face is there
  by_tests : (P : Span → Type 0) → P nowhere → (caught mesh ≡ false → f < length mesh.sizes → P here) → P (span_of mesh l f)
  unfolding span_of
  by_tests P absent present = go (caught mesh) (leb (length mesh.sizes) f) refl refl
    where
      go : (b past : Bool) → caught mesh ≡ b → leb (length mesh.sizes) f ≡ past → P (there b past)
      go true past e h = absent
      go false true e h = absent
      go false false e h = present e (leb-false (length mesh.sizes) f h)

  place_is : caught mesh ≡ false → f < length mesh.sizes → span_of mesh l f ≡ here
  unfolding span_of
  place_is e h = rw (e, lt-leb (length mesh.sizes) f h)

-- behind a face's part: the numbers of the corners up to the face and with it
behind : (mesh : Handed) (l f : ℕ) → f < length mesh.sizes → width_of l * corner_count (take (suc f) mesh.sizes) ≡ width_of l * corner_count (take f mesh.sizes) + width_of l * get_or mesh.sizes f 0
behind mesh l f h = ap (λ (k : ℕ). width_of l * corner_count (take k mesh.sizes)) (sym (add-one f)) ∙ ap (λ (k : ℕ). width_of l * k) (corners-more mesh.sizes f h) ∙ mul-add (width_of l) (corner_count (take f mesh.sizes)) (get_or mesh.sizes f 0)

inside : (mesh : Handed) (l f : ℕ) → (span_of mesh l f).from + (span_of mesh l f).count ≤ length (list_number mesh l)
inside mesh l f = by_tests mesh l f (λ p. p.from + p.count ≤ length (list_number mesh l)) (omega arith) (λ e h. omega (arith, part-ends (width_of l) mesh.sizes f h, long_as mesh l (fit mesh e)))

numbers : (mesh : Handed) (l f : ℕ) → take (span_of mesh l f).count (drop (span_of mesh l f).from (list_number mesh l)) ≡ handed_back (width_of l) (list_number mesh l) mesh f
unfolding span_of handed_back part_or_none part_of
numbers mesh l f = go (caught mesh) (leb (length mesh.sizes) f)
  where
    go : (b past : Bool) → take (there mesh l f b past).count (drop (there mesh l f b past).from (list_number mesh l)) ≡ cond b [] (cond past [] (take (here mesh l f).count (drop (here mesh l f).from (list_number mesh l))))
    go true past = refl
    go false true = refl
    go false false = refl

none_before : (sizes : List ℕ) → corner_count (take 0 sizes) ≡ 0
unfolding corner_count
none_before sizes = refl

first : (mesh : Handed) (l : ℕ) → (span_of mesh l 0).from ≡ 0
first mesh l = by_tests mesh l 0 (λ p. p.from ≡ 0) refl (λ e h. ap (λ (n : ℕ). width_of l * n) (none_before mesh.sizes) ∙ mul-zero (width_of l))

-- the parts of a face and of the next one
next : (mesh : Handed) (l f : ℕ) → suc f < length mesh.sizes → (span_of mesh l (suc f)).from ≡ (span_of mesh l f).from + (span_of mesh l f).count
next mesh l f h = go (caught mesh) refl
  where
    go : (b : Bool) → caught mesh ≡ b → (span_of mesh l (suc f)).from ≡ (span_of mesh l f).from + (span_of mesh l f).count
    go true e = unfold span_of in rw (e)
    go false e =
        let k : f < length mesh.sizes = omega arith in
        ap (λ (p : Span). p.from) (place_is mesh l (suc f) e h) ∙ behind mesh l f k ∙ sym (ap (λ (p : Span). p.from + p.count) (place_is mesh l f e k))

last : (mesh : Handed) (l f : ℕ) → caught mesh ≡ false → suc f ≡ length mesh.sizes → (span_of mesh l f).from + (span_of mesh l f).count ≡ length (list_number mesh l)
last mesh l f e z =
    let k : f < length mesh.sizes = omega arith in
    let all : length mesh.sizes ≤ suc f = omega arith in
    ap (λ (p : Span). p.from + p.count) (place_is mesh l f e k) ∙ sym (behind mesh l f k) ∙ ap (λ (s : List ℕ). width_of l * corner_count s) (take_all (suc f) mesh.sizes all) ∙ sym (long_as mesh l (fit mesh e))

pub face_parts : Promised
face_parts = record { inside = inside; numbers = numbers; first = first; next = next; last = last }

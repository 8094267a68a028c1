-- One turn of the walk that gathers an island. Assumes nothing.
use Prim.Native.Nat.{ℕ, suc, ◌+◌, ◌*◌, ◌-◌, ◌≤◌, zero-le, ◌<◌}
use native.Mathlib.Omega.{arith}
use mathlib.Core.Path.{◌≡◌, refl, sym, ◌∙◌, subst}
use mathlib.Core.Bool.{Bool, true, false, cond}
use mathlib.Core.List.{List}
use lib.ListN.{length, get_or, set, take}
use lib.Ieee.{Float, nan}
use borrow.Author.Tests.{eq-eqb, ne_eqb}
use Rattle.definition.specs.Limits.{face_limit}
use Rattle.definition.specs.Handed.{mesh_of, Handed, used, corner_count}
use Rattle.mesh.proofs.Fitting.{part-ends}
use Rattle.islands.specs.Islands.{island_of, lowest_of, counted, no_island}
use Rattle.islands.proofs.Sizes.{used-three, counted_is}
use Rattle.apart.specs.Lists.{Past}
use Rattle.apart.specs.Order.{From, among}
use Rattle.apart.specs.Gather.{Laid, Gathered}
use Rattle.apart.specs.Steps.{Ready}
use Rattle.apart.proofs.Lists.{past-none, past-trans, past-set}
use Rattle.apart.proofs.Walking.{Next, to-next, at-end}
use Rattle.apart.proofs.Gathering.{gathered_none, gathered-skip, gathered-more}

-- a face whose number is that of a face is of 3 or 4
pub island-used : (mesh : Handed) (t x : ℕ) → length mesh.sizes ≤ face_limit → t < length mesh.sizes → x < length mesh.sizes → island_of (mesh_of mesh) x ≡ t → used (get_or mesh.sizes x 0) ≡ true
unfolding island_of
island-used mesh t x few low h e = sym (counted_is mesh.positions mesh.normals mesh.texture mesh.sizes x h) ∙ go (counted (mesh_of mesh) x) e
  where
    go : (b : Bool) → cond b (lowest_of (mesh_of mesh) x) no_island ≡ t → b ≡ true
    go true e = refl
    go false e = absurd (omega arith)

-- the walk at face f: k faces with c corners are gathered, and `next` says the next one
pub record Going (mesh : Handed) (t : ℕ) (ss₀ : List ℕ) (xs₀ : List Float) (next f k c : ℕ) (ss : List ℕ) (xs : List Float) : Type 0 where
  pub within : f ≤ length mesh.sizes
  pub from : From (length mesh.sizes) (island_of (mesh_of mesh)) f t next
  pub gathered : Gathered (among (island_of (mesh_of mesh)) t) mesh f k c ss xs
  pub faces : Past 0 (length mesh.sizes) ss₀ ss
  pub numbers : Past nan (32 * length mesh.sizes) xs₀ xs

module _ (mesh : Handed) (order : List ℕ) (r : Ready mesh order) (t : ℕ) (low : t < length mesh.sizes) (ss₀ : List ℕ) (xs₀ : List Float) (room : length mesh.sizes ≤ length ss₀) where
  abbrev n : ℕ
  n = length mesh.sizes

  abbrev l : ℕ → ℕ
  l = island_of (mesh_of mesh)

  pub going-none : Going mesh t ss₀ xs₀ (get_or order (n + t) 0) 0 0 0 ss₀ xs₀
  going-none = record { within = zero-le; from = r.linked.heads t low; gathered = gathered_none _ _ _ _; faces = past-none 0 _ _; numbers = past-none nan _ _ }

  module _ (next f k c : ℕ) (ss : List ℕ) (xs : List Float) (g : Going mesh t ss₀ xs₀ next f k c ss xs) where
    abbrev State : ℕ → Type 0
    State x = Gathered (among l t) mesh x k c ss xs

    skip : (x : ℕ) → x < n → (l x ≡ t → ⊥) → State x → State (x + 1)
    skip x h e s = gathered-skip (among l t) mesh x k c ss xs h s (ne_eqb (l x) t e)

    -- the whole island is there where the walk ends
    pub gathered-all : next ≡ 0 → State n
    gathered-all e = at-end n l t State skip f g.within g.from e g.gathered

    module _ (more : next ≡ 0 → ⊥) where
      abbrev x : ℕ
      x = next - 1

      abbrev z : ℕ
      z = get_or mesh.sizes x 0

      abbrev base : ℕ
      base = get_or order (2 * n + x) 0

      at : Next n l t State skip f next x
      at = to-next n l t State skip f g.from more g.gathered

      base-is : base ≡ corner_count (take x mesh.sizes)
      base-is = r.begun.corners x at.below

      three : (3 ≤ z) × (z ≤ 4)
      three = used-three z (island-used mesh t x r.fits.few low at.below at.of)

      -- what is read and written is there
      pub record Safe : Type 0 where
        pub below : x < n
        pub is : next ≡ x + 1
        pub further : f < next
        pub small : z ≤ 4
        pub positions : 3 * base + 3 * z ≤ length mesh.positions
        pub normals : 3 * base + 3 * z ≤ length mesh.normals
        pub texture : 2 * base + 2 * z ≤ length mesh.texture
        pub faces : k < length ss
        pub corners : c + z ≤ 4 * n

      ends : (w : ℕ) → w * base + w * z ≤ w * corner_count mesh.sizes
      ends w = subst (λ b. w * b + w * z ≤ w * corner_count mesh.sizes) (sym base-is) (part-ends w mesh.sizes x at.below)

      pub safe : Safe
      safe = record {
        below = at.below;
        is = at.is;
        further = omega (arith, at.is, at.after);
        small = three.1;
        positions = omega (arith, ends 3, r.fits.positions);
        normals = omega (arith, ends 3, r.fits.normals);
        texture = omega (arith, ends 2, r.fits.texture);
        faces = omega (arith, at.holds.few, at.below, g.faces.size, room);
        corners = omega (arith, at.holds.few, at.holds.low, at.below, three.1);
      }

      -- one face more
      pub going_more : (ss' : List ℕ) (xs' : List Float) → ss' ≡ set ss k z → Laid mesh.positions mesh.normals mesh.texture n base c z xs xs' → Going mesh t ss₀ xs₀ (get_or order x 0) next (k + 1) (c + z) ss' xs'
      going_more ss' xs' e d =
          let b : Laid mesh.positions mesh.normals mesh.texture n (corner_count (take x mesh.sizes)) c z xs xs' = subst (λ y. Laid mesh.positions mesh.normals mesh.texture n y c z xs xs') base-is d in
          let few : k < n = omega (arith, at.holds.few, at.below) in
          record {
            within = omega (arith, at.is, at.below);
            from =
                subst (λ y. From n l y t (get_or order x 0)) (omega (arith, at.is))
                (subst (λ y. From n l (suc x) y (get_or order x 0)) at.of (r.linked.nexts x zero-le at.below (subst (λ y. y < n) (sym at.of) low)));
            gathered =
                subst (λ y. Gathered (among l t) mesh next (k + 1) (c + z) y xs') (sym e)
                (subst (λ y. Gathered (among l t) mesh y (k + 1) (c + z) (set ss k z) xs') (sym at.is)
                (gathered-more (among l t) mesh x k c ss xs at.below at.holds (eq-eqb (l x) t at.of) safe.faces three.1 xs' b));
            faces = past-trans 0 n ss₀ ss ss' g.faces (subst (λ y. Past 0 n ss y) (sym e) (past-set 0 n ss k z few));
            numbers = past-trans nan (32 * n) xs₀ xs xs' g.numbers d.past;
          }

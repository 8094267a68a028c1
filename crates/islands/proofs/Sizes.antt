-- Faces of 3 or 4, and their corners. Assumes nothing.
use Prim.Native.Nat.{ℕ, zero, suc, ◌+◌, ◌≤◌, ◌<◌}
use native.Mathlib.Nat.{le_of_suc-le-suc, not-suc-le-zero}
use native.Mathlib.Omega.{arith}
use mathlib.Core.Path.{◌≡◌, refl, sym, ◌∙◌, ap, subst}
use mathlib.Core.Bool.{Bool, true, false, cond, ◌||◌}
use mathlib.Core.List.{List, [], ◌∷◌, Memᴰ}
use lib.Dec.{eqb}
use lib.ListN.{length, get_or, take}
use lib.Ieee.{Float}
use borrow.Author.Tests.{eqb-true}
use Rattle.definition.proofs.Lengths.{corners-length}
use Rattle.definition.specs.declared.Corner.{Corner}
use Rattle.definition.specs.Handed.{corner_at, corners_from, mesh_from, used, slots_of, corner_count}
use Rattle.definition.specs.Triangles.{usable}
use Rattle.unions.proofs.Stores.{either}
use Rattle.islands.specs.Islands.{face_at, counted}
use Rattle.islands.specs.Rows.{NamesCorner}

pub used-or : {P : Type 0} (n : ℕ) → used n ≡ true → (n ≡ 3 → P) → (n ≡ 4 → P) → P
unfolding used
used-or {P = P} n e f g = go (eqb n 3) refl e
  where
    go : (b : Bool) → eqb n 3 ≡ b → (b || eqb n 4) ≡ true → P
    go true h k = f (eqb-true n 3 h)
    go false h k = g (eqb-true n 4 k)

-- a face without slots is not of 3 or 4
pub unused-of : (n s : ℕ) → s ≡ slots_of n → s ≡ 0 → used n ≡ false
unfolding slots_of
unused-of n s e z = go (used n) refl (sym e ∙ z)
  where
    go : (b : Bool) → used n ≡ b → cond b n 0 ≡ 0 → used n ≡ false
    go true h k = used-or n h (λ q. absurd (omega arith)) (λ q. absurd (omega arith))
    go false h k = h

pub used-of : (n s : ℕ) → s ≡ slots_of n → (s ≡ 0 → ⊥) → used n ≡ true
unfolding slots_of
used-of n s e z = go (used n) refl e
  where
    go : (b : Bool) → used n ≡ b → s ≡ cond b n 0 → used n ≡ true
    go true h k = h
    go false h k = absurd (z k)

pub used-three : (n : ℕ) → used n ≡ true → (3 ≤ n) × (n ≤ 4)
used-three n e = used-or n e (λ q. (omega arith, omega arith)) (λ q. (omega arith, omega arith))

-- ---- corners of a face

module _ (ps ns ts : List Float) where
  usable-all : (i n : ℕ) → used n ≡ true → usable (corners_from ps ns ts i n) ≡ corners_from ps ns ts i n
  unfolding usable corners_from
  usable-all i n e = used-or n e
      (λ q. subst (λ k. usable (corners_from ps ns ts i k) ≡ corners_from ps ns ts i k) (sym q) refl)
      (λ q. subst (λ k. usable (corners_from ps ns ts i k) ≡ corners_from ps ns ts i k) (sym q) refl)

  into : (i n x : ℕ) → i ≤ x → x < i + n → Memᴰ (corner_at ps ns ts x) (corners_from ps ns ts i n)
  unfolding corners_from
  into i zero x h k = absurd (omega arith)
  into i (suc n) x h k = either x i (λ e. Memᴰ.head (ap (corner_at ps ns ts) e)) (λ e. Memᴰ.tail (into (suc i) n x (omega arith) (omega arith)))

  -- a corner among those from i on, by its number
  record Found (i n : ℕ) (c : Corner) (x : ℕ) : Type 0 where
    from : i ≤ x
    to : x < i + n
    is : corner_at ps ns ts x ≡ c

  nowhere : {X : Type 0} {c : X} {l : List X} → Memᴰ c l → l ≡ [] → ⊥
  nowhere (Memᴰ.head q) e = mathlib.Core.List.nil≢cons (sym e)
  nowhere (Memᴰ.tail m) e = mathlib.Core.List.nil≢cons (sym e)

  out_of : (i n : ℕ) (c : Corner) → Memᴰ c (corners_from ps ns ts i n) → (x : ℕ) × Found i n c x
  unfolding corners_from
  out_of i zero c m = absurd (nowhere m refl)
  out_of i (suc n) c (Memᴰ.head q) = (i, record { from = omega arith; to = omega arith; is = sym q })
  out_of i (suc n) c (Memᴰ.tail m) = let r = out_of (suc i) n c m in (r.0, record { from = omega (arith, r.1.from); to = omega (arith, r.1.to); is = r.1.is })

  -- ---- faces of the mesh

  face-from : (i : ℕ) (sizes : List ℕ) (g : ℕ) → g < length sizes → face_at (mesh_from ps ns ts i sizes) g ≡ corners_from ps ns ts (i + corner_count (take g sizes)) (get_or sizes g 0)
  unfolding mesh_from corner_count
  face-from i [] g h = absurd (not-suc-le-zero h)
  face-from i (n ∷ sizes) zero h = ap (λ k. corners_from ps ns ts k n) (omega arith)
  face-from i (n ∷ sizes) (suc g) h = face-from (i + n) sizes g (le_of_suc-le-suc h) ∙ ap (λ k. corners_from ps ns ts k (get_or sizes g 0)) (omega arith)

  pub face-is : (sizes : List ℕ) (g : ℕ) → g < length sizes → face_at (mesh_from ps ns ts 0 sizes) g ≡ corners_from ps ns ts (corner_count (take g sizes)) (get_or sizes g 0)
  face-is sizes g h = face-from 0 sizes g h ∙ ap (λ k. corners_from ps ns ts k (get_or sizes g 0)) (omega arith)

  pub counted_is : (sizes : List ℕ) (g : ℕ) → g < length sizes → counted (mesh_from ps ns ts 0 sizes) g ≡ used (get_or sizes g 0)
  unfolding counted
  counted_is sizes g h = ap used (ap length (face-is sizes g h) ∙ corners-length ps ns ts (corner_count (take g sizes)) (get_or sizes g 0))

  -- a number of a face's corner is a corner of the face
  pub named : (sizes : List ℕ) (g n : ℕ) → NamesCorner sizes g n → Memᴰ (corner_at ps ns ts n) (usable (face_at (mesh_from ps ns ts 0 sizes) g))
  named sizes g n k =
      subst (λ l. Memᴰ (corner_at ps ns ts n) l) (sym (ap usable (face-is sizes g k.below) ∙ usable-all (corner_count (take g sizes)) (get_or sizes g 0) k.counts))
      (into (corner_count (take g sizes)) (get_or sizes g 0) n k.from k.to)

  -- a corner of a face has a number
  pub record Number (sizes : List ℕ) (g : ℕ) (c : Corner) (n : ℕ) : Type 0 where
    pub names : NamesCorner sizes g n
    pub is : corner_at ps ns ts n ≡ c

  pub number_of : (sizes : List ℕ) (g : ℕ) (c : Corner) → counted (mesh_from ps ns ts 0 sizes) g ≡ true → g < length sizes → Memᴰ c (usable (face_at (mesh_from ps ns ts 0 sizes) g)) → (n : ℕ) × Number sizes g c n
  number_of sizes g c u h m =
      let e = sym (counted_is sizes g h) ∙ u in
      let r = out_of (corner_count (take g sizes)) (get_or sizes g 0) c (subst (λ l. Memᴰ c l) (ap usable (face-is sizes g h) ∙ usable-all (corner_count (take g sizes)) (get_or sizes g 0) e) m) in
      (r.0, record { names = record { below = h; counts = e; from = r.1.from; to = r.1.to }; is = r.1.is })

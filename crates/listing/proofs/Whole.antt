-- The two passes together. Assumes nothing.
use Prim.Native.Nat.{ℕ, suc, ◌+◌, ◌*◌, ◌≤◌}
use native.Mathlib.Omega.{arith}
use mathlib.Core.Path.{◌≡◌, refl, ◌∙◌, ap, subst}
use mathlib.Core.Bool.{Bool, true, false, cond, not, beq}
use mathlib.Core.List.{List, [], ◌∷◌, ◌++◌}
use lib.ListN.{length, length-append}
use lib.Ieee.{Float}
use Rattle.table.specs.Columns.{rows_of}
use Rattle.definition.specs.declared.Triangle.{Triangle}
use Rattle.lists.specs.Lists.{keep}
use Rattle.definition.specs.Handed.{Handed, mesh_from, corners_from}
use Rattle.definition.specs.Triangles.{pieces, triangles}
use Rattle.definition.specs.Step4Order.{is_sound, sound, broken}
use Rattle.definition.specs.Frames.{numbered}
use Rattle.laws.proofs.Part.{keep_same}
use Rattle.laws.proofs.Shuffled.{every-mem}
use Rattle.listing.specs.Listing.{Added, Listed, pick, rest_from}
use Rattle.listing.proofs.Laws.{added-trans}
use Rattle.laws.proofs.Pieces.{pieces-few}

beq-false : (b : Bool) → beq b false ≡ not b
beq-false true = refl
beq-false false = refl

beq-true : (b : Bool) → beq b true ≡ b
beq-true true = refl
beq-true false = refl

pub pick-sound : (xs : List Triangle) → pick false xs ≡ sound xs
unfolding pick sound is_sound
pick-sound xs = keep_same _ _ (every-mem _ xs (λ x m. beq-false x.degenerate))

pub pick-broken : (xs : List Triangle) → pick true xs ≡ broken xs
unfolding pick broken
pick-broken xs = keep_same _ _ (every-mem _ xs (λ x m. beq-true x.degenerate))

pub split-length : (xs : List Triangle) → length (pick false xs) + length (pick true xs) ≡ length xs
unfolding pick keep
split-length [] = refl
split-length (x ∷ xs) = go x.degenerate (split-length xs)
  where
    no' : List Triangle
    no' = keep (λ t. beq t.degenerate false) xs

    yes' : List Triangle
    yes' = keep (λ t. beq t.degenerate true) xs

    go : (b : Bool) → length no' + length yes' ≡ length xs → length (cond (beq b false) (x ∷ no') no') + length (cond (beq b true) (x ∷ yes') yes') ≡ suc (length xs)
    go true e = omega arith
    go false e = omega arith

rest-few : (ps ns ts : List Float) (f i : ℕ) (sizes : List ℕ) → length (rest_from ps ns ts f i sizes) ≤ 2 * length sizes
unfolding rest_from triangles numbered mesh_from
rest-few ps ns ts f i [] = omega arith
rest-few ps ns ts f i (n ∷ sizes) =
    let a = pieces-few f (corners_from ps ns ts i n) in
    let b = rest-few ps ns ts (suc f) (i + n) sizes in
    let c = length-append (pieces f (corners_from ps ns ts i n)) (triangles (numbered (suc f) (mesh_from ps ns ts (i + n) sizes))) in
    omega arith

module _ (mesh : Handed) where
  abbrev rows : ℕ
  rows = rows_of (length mesh.sizes)

  abbrev xs : List Triangle
  xs = rest_from mesh.positions mesh.normals mesh.texture 0 0 mesh.sizes

  pub room-first : 3 * (0 + length (pick false xs)) ≤ rows
  room-first = omega (arith, split-length xs, rest-few mesh.positions mesh.normals mesh.texture 0 0 mesh.sizes)

  pub room-second : (n : ℕ) → n ≡ 0 + length (pick false xs) → 3 * (n + length (pick true xs)) ≤ rows
  room-second n e = omega (arith, split-length xs, rest-few mesh.positions mesh.normals mesh.texture 0 0 mesh.sizes)

  both : pick false xs ++ pick true xs ≡ sound xs ++ broken xs
  both = λ k. pick-sound xs k ++ pick-broken xs k

  pub listed : (n m : ℕ) (w v u : List ℕ) → Added rows mesh (pick false xs) 0 n w v → Added rows mesh (pick true xs) n m v u → Listed mesh n m w u
  unfolding rest_from
  listed n m w v u A B =
      let C = subst (λ (l : List Triangle). Added rows mesh l 0 m w u) both (added-trans rows mesh (pick false xs) (pick true xs) 0 n m w v u A B) in
      record {
        sound_count = A.count ∙ zero-plus (length (pick false xs)) ∙ ap length (pick-sound xs);
        count = C.count ∙ zero-plus (length (sound xs ++ broken xs));
        fits = fit;
        only = C.only;
        held = λ d. C.held [] d refl (λ t q. absurd (omega arith));
      }
    where
      zero-plus : (k : ℕ) → 0 + k ≡ k
      zero-plus k = omega arith

      fit : 3 * length (sound xs ++ broken xs) ≤ rows
      fit = subst (λ (l : List Triangle). 3 * length l ≤ rows) both (omega (arith, length-append (pick false xs) (pick true xs), split-length xs, rest-few mesh.positions mesh.normals mesh.texture 0 0 mesh.sizes))

-- How many triangles there are; where as many are sound, none is degenerate. Assumes nothing.
use Prim.Native.Nat.{ℕ, zero, suc, ◌+◌, ◌≤◌, ◌<◌, zero-le}
use native.Mathlib.Nat.{le_of_suc-le-suc}
use native.Mathlib.Omega.{arith}
use mathlib.Core.Path.{◌≡◌, refl, sym, ◌∙◌, ap, subst}
use mathlib.Core.Bool.{true, false}
use mathlib.Core.List.{List, [], ◌∷◌}
use lib.ListN.{length, length-append, get_or, take}
use lib.Ieee.{Float}
use Rattle.table.specs.Columns.{rows_of}
use Rattle.definition.specs.declared.Triangle.{Triangle}
use Rattle.definition.specs.Handed.{Handed, mesh_from, corners_from}
use Rattle.definition.specs.Step1Cut.{cut02}
use Rattle.definition.specs.Triangles.{pair, quad, pieces, triangles}
use Rattle.definition.specs.Frames.{numbered}
use Rattle.listing.specs.Listing.{Added, pick, rest_from, pieces_of, piece_count}
use Rattle.listing.proofs.Laws.{added_none}
use Rattle.listing.proofs.Whole.{split-length}
use Rattle.laws.proofs.Pieces.{few-cond}

more : (l : List ℕ) (i : ℕ) → i < length l → piece_count (take (suc i) l) ≡ piece_count (take i l) + pieces_of (get_or l i 0)
unfolding piece_count
more [] i h = absurd (none i h)
  where
    none : (i : ℕ) → i < 0 → ⊥
    none i h = omega arith
more (x ∷ l) zero h = omega arith
more (x ∷ l) (suc i) h = let e = more l i (le_of_suc-le-suc h) in omega arith

pub pieces_more : (l : List ℕ) (i : ℕ) → i < length l → piece_count (take (i + 1) l) ≡ piece_count (take i l) + pieces_of (get_or l i 0)
pieces_more l i h = let e : i + 1 ≡ suc i = omega arith in ap (λ k. piece_count (take k l)) e ∙ more l i h

pub pieces_none : (l : List ℕ) → 0 ≡ piece_count (take 0 l)
unfolding piece_count
pieces_none l = refl

of-face : (ps ns ts : List Float) (f i n : ℕ) → length (pieces f (corners_from ps ns ts i n)) ≤ pieces_of n
unfolding pieces quad pair corners_from pieces_of
of-face ps ns ts f i zero = zero-le
of-face ps ns ts f i (suc zero) = zero-le
of-face ps ns ts f i (suc (suc zero)) = zero-le
of-face ps ns ts f i (suc (suc (suc zero))) = omega arith
of-face ps ns ts f i (suc (suc (suc (suc zero)))) = few-cond (cut02 _ _ _ _) _ _ (omega arith) (omega arith)
of-face ps ns ts f i (suc (suc (suc (suc (suc n))))) = zero-le

of-all : (ps ns ts : List Float) (f i : ℕ) (sizes : List ℕ) → length (rest_from ps ns ts f i sizes) ≤ piece_count sizes
unfolding rest_from triangles numbered mesh_from piece_count
of-all ps ns ts f i [] = zero-le
of-all ps ns ts f i (n ∷ sizes) =
    let a = of-face ps ns ts f i n in
    let b = of-all ps ns ts (suc f) (i + n) sizes in
    let c = length-append (pieces f (corners_from ps ns ts i n)) (triangles (numbered (suc f) (mesh_from ps ns ts (i + n) sizes))) in
    omega arith

empty : (l : List Triangle) → length l ≡ 0 → l ≡ []
empty [] e = refl
empty (x ∷ l) e = absurd (no (length l) e)
  where
    no : (n : ℕ) → suc n ≡ 0 → ⊥
    no n e = omega arith

-- where as many are sound as there are, the second pass would add none
pub none-broken : (mesh : Handed) (n all : ℕ) (w : List ℕ) → all ≡ piece_count mesh.sizes → all ≤ n → n ≡ 0 + length (pick false (rest_from mesh.positions mesh.normals mesh.texture 0 0 mesh.sizes)) → Added (rows_of (length mesh.sizes)) mesh (pick true (rest_from mesh.positions mesh.normals mesh.texture 0 0 mesh.sizes)) n n w w
none-broken mesh n all w e l g =
    let xs = rest_from mesh.positions mesh.normals mesh.texture 0 0 mesh.sizes in
    let z : length (pick true xs) ≡ 0 = omega (arith, split-length xs, of-all mesh.positions mesh.normals mesh.texture 0 0 mesh.sizes) in
    subst (λ (k : List Triangle). Added (rows_of (length mesh.sizes)) mesh k n n w w) (sym (empty (pick true xs) z)) (added_none (rows_of (length mesh.sizes)) mesh n w)

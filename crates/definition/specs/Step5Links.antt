-- Step 5: 'Each unlinked side takes the first later unlinked one with the same ends, run the opposite way; both are linked.' Definitions only.
use Rattle.std.specs.Prelude.{Bool, cond, not, ◌&&◌, ◌||◌, List, [], ◌∷◌}
use Rattle.std.proofs.Math.Option.{Option, none, some}
use Rattle.definition.specs.declared.Corner.{Corner}
use Rattle.definition.specs.declared.Triangle.{Triangle}
use Rattle.lists.specs.Lists.{first, has}
use Rattle.definition.specs.Mesh.{Spot, next, corner_of, same_spot}
use Rattle.definition.specs.Step4Order.{spots, welded}

-- two sides that are linked, the earlier one first
pub record Link : Type 0 where
  pub near : Spot
  pub far : Spot

-- the corner in which a side ends
unfoldable pub end_of : Spot → Corner
end_of s = corner_of (next s)

-- 'the same ends, run the opposite way'
unfoldable pub opposite : Spot → Spot → Bool
opposite s t = welded (corner_of s) (end_of t) && welded (end_of s) (corner_of t)

-- whether a side is linked
unfoldable pub linked : List Link → Spot → Bool
linked ls s = has (λ l. same_spot l.near s || same_spot l.far s) ls

-- a side linked with what was found for it, if anything was
unfoldable pub add_link : Spot → Option Spot → List Link → List Link
add_link s none ls = ls
add_link s (some t) ls = record { near = s; far = t } ∷ ls

-- 'Each unlinked side takes the first later unlinked one with the same ends, run the opposite way'
unfoldable pub link_one : List Link → Spot → List Spot → List Link
link_one ls s later = let r = add_link s (first (λ t. opposite s t && not (linked ls t)) later) ls in cond (linked ls s) ls r

-- the same for side after side of a list
unfoldable pub link_all : List Link → List Spot → List Link
link_all ls [] = ls
link_all ls (s ∷ later) = link_all (link_one ls s later) later

-- the links of the sound triangles, their sides in triangle order. Only sides with the same two ends are ever linked, and 'sorted by lower corner, higher corner, triangle' leaves those in triangle order: the same links (`sorted-same` in laws/proofs/Sorted.antt)
unfoldable pub links : List Triangle → List Link
links ss = link_all [] (spots ss)

-- the side beyond a side, if it is linked: 'A side without a neighbour is passed over'
unfoldable pub beyond : List Link → Spot → Option Spot
beyond [] s = none
beyond (l ∷ ls) s = let r = beyond ls s in cond (same_spot l.near s) (some l.far) (cond (same_spot l.far s) (some l.near) r)

-- Step 6: corners of sound triangles are grouped by walks. Definitions only.
use Rattle.std.specs.Prelude.{ℕ, zero, suc, Bool, cond, not, ◌||◌, List, [], ◌∷◌, ◌++◌, length}
use Rattle.std.specs.Bool.{beq}
use Rattle.std.proofs.Math.Option.{Option, none, some}
use Rattle.definition.specs.declared.Corner.{Corner}
use Rattle.definition.specs.declared.Triangle.{Triangle}
use Rattle.lists.specs.Lists.{keep, first, has, run}
use Rattle.definition.specs.Mesh.{Spot, prior, corner_of, same_triangle, same_spot}
use Rattle.definition.specs.Step4Order.{spots, welded}
use Rattle.definition.specs.Step5Links.{Link, beyond}

-- A corner that was put into a group: the corner, the corner at which the group started, the group's orientation.
-- All marks stand in one list in the order made: groups in the order they started, and 'Members keep the order in which they were met'.
pub record Mark : Type 0 where
  pub spot : Spot
  pub start : Spot
  pub orientation : Bool

-- whether a corner is in a group
unfoldable pub grouped : List Mark → Spot → Bool
grouped ms s = has (λ m. same_spot m.spot s) ms

-- the first mark on a triangle, if it was touched
unfoldable pub touched : List Mark → Triangle → Option Mark
touched ms t = first (λ m. same_triangle m.spot.tri t) ms

-- the orientation of a mark, and w where there is none
unfoldable pub way_of : Bool → Option Mark → Bool
way_of w none = w
way_of w (some m) = m.orientation

-- the orientation of a triangle that a group of orientation w meets: its own; 'An untouched `group_with_any` triangle takes the group's orientation', a touched one has that of the first that touched it
unfoldable pub facing : List Mark → Triangle → Bool → Bool
facing ms t w = cond t.any (way_of w (touched ms t)) t.orientation

-- 'a triangle of the other orientation, or a corner already grouped, stops the walk there'
unfoldable pub stops : List Mark → Bool → Spot → Bool
stops ms w s = grouped ms s || not (beq (facing ms s.tri w) w)

-- the corner of a triangle that is welded to c
unfoldable pub corner_in : Corner → Triangle → Option Spot
corner_in c t = first (λ s. welded c (corner_of s)) (spots (t ∷ []))

-- the same corner in the triangle of a side, if there is a side
unfoldable pub over_to : Corner → Option Spot → Option Spot
over_to c none = none
over_to c (some s) = corner_in c s.tri

-- 'over a side to the same corner beyond'
unfoldable pub over : List Link → Corner → Spot → Option Spot
over ls c s = over_to c (beyond ls s)

-- one step of the walk, where there is a corner to go to
unfoldable pub going : (List Mark → Spot → List Mark) → List Mark → Option Spot → List Mark
going f ms none = ms
going f ms (some s) = f ms s

-- 'The walk goes from a corner to its two sides, and over a side to the same corner beyond, the side before the corner first.'
-- g is the corner at which the group started and w its orientation. Each step marks one more corner welded to g, so n, their number, is enough (laws/proofs/Enough.antt), and the walk never stops for want of n.
unfoldable pub walk : ℕ → List Link → Spot → Bool → List Mark → Spot → List Mark
walk zero ls g w ms s = ms
walk (suc n) ls g w ms s =
    let r =
    going (λ ms' s'. walk n ls g w ms' s')
    (going (λ ms' s'. walk n ls g w ms' s') (ms ++ (record { spot = s; start = g; orientation = w } ∷ [])) (over ls (corner_of g) (prior s)))
    (over ls (corner_of g) s)
    in cond (stops ms w s) ms r

-- how many corners of the triangles are welded to c
unfoldable pub fan : List Triangle → Corner → ℕ
fan ss c = length (keep (λ s. welded c (corner_of s)) (spots ss))

-- 'Groups start .. at each ungrouped corner of a triangle that isn't `group_with_any`'
unfoldable pub start_at : List Triangle → List Link → List Mark → Spot → List Mark
start_at ss ls ms s = let r = walk (fan ss (corner_of s)) ls s s.tri.orientation ms s in cond (s.tri.any || grouped ms s) ms r

-- all groups: 'in triangle and corner order'
unfoldable pub marks : List Triangle → List Link → List Mark
marks ss ls = run (start_at ss ls) [] (spots ss)

-- the members of a mark's group, as they were met
unfoldable pub members : List Mark → Mark → List Mark
members ms m = keep (λ k. same_spot k.start m.start) ms

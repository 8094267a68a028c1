-- The links of the old edition join sides of the triangles, run opposite ways. Groundwork of request E13: no public call uses it yet. Assumes nothing.
use Prim.Native.Nat.{ℕ, zero, suc}
use mathlib.Core.Bool.{Bool, true, false, cond}
use mathlib.Core.List.{List, [], ◌∷◌, flat_map}
use lib.ListN.{take, drop}
use Rattle.definition.specs.declared.Triangle.{Triangle}
use Rattle.definition.specs.Mesh.{Spot}
use Rattle.definition.specs.Step4Order.{spots}
use Rattle.definition.specs.Step5Links.{Link, link_one}
use Rattle.definition.specs.Step5Old.{picked, old_sides, same_ends, while, link_runs, old_links}
use Rattle.lists.specs.Every.{Every, every_nil, every_cons}
use Rattle.laws.proofs.Part.{every_append}
use Rattle.laws.proofs.Closed.{Sound, one-sound, Whole, spots-whole, Between}

-- what holds of a list holds of what it begins with
every-while : {X : Type 0} {P : X → Type 0} (p : X → Bool) {l : List X} → Every P l → Every P (while p l)
unfolding while
every-while p every_nil = every_nil
every-while {P = P} p (every_cons {x} {l} h r) = go (p x) (every-while p r)
  where
    go : (b : Bool) → Every P (while p l) → Every P (cond b (x ∷ while p l) [])
    go true k = every_cons h k
    go false k = every_nil

-- and of those picked from it
every_drop : {X : Type 0} {P : X → Type 0} (n : ℕ) {l : List X} → Every P l → Every P (drop n l)
every_drop zero r = r
every_drop (suc n) every_nil = every_nil
every_drop (suc n) (every_cons h r) = every_drop n r

every_one : {X : Type 0} {P : X → Type 0} {l : List X} → Every P l → Every P (take 1 l)
every_one every_nil = every_nil
every_one (every_cons h r) = every_cons h every_nil

every-picked : {P : Spot → Type 0} (sp : List Spot) → Every P sp → (order : List ℕ) → Every P (picked sp order)
unfolding picked flat_map
every-picked sp h [] = every_nil
every-picked sp h (r ∷ order) = every_append (every_one (every_drop r h)) (every-picked sp h order)

module _ (P : Spot → Type 0) where
  runs-sound : {ss : List Spot} → Every P ss → (ls : List Link) → Every (Sound P) ls → Every (Sound P) (link_runs ls ss)
  unfolding link_runs
  runs-sound every_nil ls r = r
  runs-sound (every_cons {x = s} {l = later} h k) ls r = runs-sound k (link_one ls s (while (same_ends s) later)) (one-sound P ls s (while (same_ends s) later) h (every-while (same_ends s) k) r)

-- so that all that is owed of steps 6 to 9 for links among the triangles holds of the old edition too
pub old-between : (ss : List Triangle) → Between ss (old_links ss)
unfolding old_links old_sides
old-between ss = runs-sound (λ s. Whole ss s.tri) (every-picked (spots ss) (spots-whole ss ss (λ s m. m)) _) [] every_nil

-- What holds of an absent slot, of a copy of whatever it holds of, and of all that steps 7 and 8 bring, holds of every slot in the end. Assumes nothing.
use Prim.Native.Nat.{ℕ}
use mathlib.Core.Bool.{Bool, true, false, cond}
use mathlib.Core.List.{List, [], ◌∷◌, map}
use mathlib.Core.Option.{Option, none, some}
use lib.Dec.{eqb}
use lib.Ieee.{Float}
use Rattle.math.specs.Vector.{equals}
use Rattle.tangent.specs.declared.Reading.{Reading}
use Rattle.tangent.specs.declared.Reading.TheVariants.{Absent}
use Rattle.tangent.specs.Space.{copy_of}
use Rattle.lists.specs.Lists.{first}
use Rattle.lists.specs.Every.{Every, every_nil, every_cons}
use Rattle.definition.specs.declared.Corner.{Corner}
use Rattle.definition.specs.declared.Kept.{Kept}
use Rattle.definition.specs.declared.Triangle.{Triangle}
use Rattle.definition.specs.Mesh.{Face, Spot, corner_of, slot_of}
use Rattle.definition.specs.Triangles.{triangles, usable, pieces}
use Rattle.definition.specs.Step4Order.{is_sound, sound, spots, welded}
use Rattle.definition.specs.Step5Links.{links}
use Rattle.definition.specs.Step6Groups.{marks}
use Rattle.definition.specs.Step7Sums.{Brought, brought_all}
use Rattle.definition.specs.Step8Slots.{reading}
use Rattle.definition.specs.Step9Copies.{copied, from_sound, from_kept, from_marked, final_of, nooks, face_readings}
use Rattle.definition.specs.Frames.{numbered, frames_from, frames_of, frames}

module _ (P : Reading → Type 0) (absent : P Absent) (copy : (quad : Bool) (r : Reading) → P r → P (copy_of quad r)) where
  module _ (bs : List Brought) (brought : (f i : ℕ) → P (reading bs f i)) where
    of-copied : (quad : Bool) (o : Option Spot) → P (copied quad bs o)
    unfolding copied
    of-copied quad none = absent
    of-copied quad (some s) = copy quad _ (brought s.tri.face (slot_of s))

    either : (b : Bool) {r s : Reading} → P r → P s → P (cond b r s)
    either true h k = h
    either false h k = k

    of-kept : (t : Triangle) (i : ℕ) (c : Corner) → P (from_kept bs t i c)
    unfolding from_kept
    of-kept t i c = either (eqb i t.missing) (of-copied true (first (λ s. equals (corner_of s).place c.place) (spots (t ∷ [])))) (brought t.face i)

    of-marked : (o : Option Triangle) (i : ℕ) (c : Corner) → P (from_marked bs o i c)
    unfolding from_marked
    of-marked none i c = absent
    of-marked (some t) i c = of-kept t i c

    of-final : (ss : List Triangle) (f : ℕ) (ts : List Triangle) (k : Kept) → P (final_of bs ss f ts k)
    unfolding final_of from_sound
    of-final ss f [] k = absent
    of-final ss f (t ∷ ts) k =
        either t.marked (of-marked (first is_sound (t ∷ ts)) k.which k.corner)
        (either t.degenerate (of-copied false (first (λ s. welded k.corner (corner_of s)) (spots ss))) (brought f k.which))

    of-face : (ss : List Triangle) (f : ℕ) (ts : List Triangle) (l : List Kept) → Every P (map (final_of bs ss f ts) l)
    of-face ss f ts [] = every_nil
    of-face ss f ts (k ∷ l) = every_cons (of-final ss f ts k) (of-face ss f ts l)

    of-faces : (ss : List Triangle) (fs : List Face) → Every (Every P) (frames_from fs ss bs)
    unfolding frames_from face_readings
    of-faces ss [] = every_nil
    of-faces ss (f ∷ fs) = every_cons (of-face ss f.number (pieces f.number f.corners) (nooks 0 (usable f.corners))) (of-faces ss fs)

  pub frames-every : (h : Float) (m : List (List Corner)) → let ss = sound (triangles (numbered 0 m)) in ((f i : ℕ) → P (reading (brought_all h ss (marks ss (links ss))) f i)) → Every (Every P) (frames h m)
  unfolding frames frames_of
  frames-every h m brought = let ss = sound (triangles (numbered 0 m)) in of-faces (brought_all h ss (marks ss (links ss))) brought ss (numbered 0 m)

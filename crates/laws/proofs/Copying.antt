-- Step 9 in a shuffle: each face of a mesh has the readings that it had alone. Assumes nothing.
use Prim.Native.Nat.{ℕ, suc}
use mathlib.Core.Path.{◌≡◌, refl, ap}
use mathlib.Core.Bool.{Bool, true, false}
use mathlib.Core.List.{List, [], ◌∷◌, map}
use mathlib.Core.Option.{Option, none, some}
use Rattle.tangent.specs.Space.{copy_of}
use Rattle.math.specs.Vector.{equals}
use Rattle.definition.specs.declared.Corner.{Corner}
use Rattle.definition.specs.declared.Kept.{Kept}
use Rattle.definition.specs.declared.Triangle.{Triangle}
use Rattle.lists.specs.Lists.{first}
use Rattle.definition.specs.Mesh.{Face, Spot, corner_of, slot_of}
use Rattle.definition.specs.Step4Order.{welded, is_sound, spots}
use Rattle.definition.specs.Step7Sums.{Brought}
use Rattle.definition.specs.Step9Copies.{copied, from_sound, from_kept, from_marked, final_of, nooks, face_readings}
use Rattle.definition.specs.Triangles.{pieces}
use Rattle.lists.specs.Every.{Every, every_nil, every_cons}
use Rattle.laws.proofs.Part.{mapped, part-first, first-map, map-cong}
use Rattle.laws.proofs.World.{World, moved, moved_spot, corner-moved, slot-moved, weld-theirs}
use Rattle.laws.proofs.Pieces.{Triangles, spots-part, pieces-moved, moved_face, OursF}
use Rattle.laws.proofs.Bringing.{Broughts, reading-moved}

module _ (w : World) where
  module _ {bs cs : List Brought} (q : Broughts w bs cs) where
    copied-moved : (quad : Bool) (o : Option Spot) → copied quad cs (mapped (moved_spot w) o) ≡ copied quad bs o
    unfolding copied mapped moved_spot moved
    copied-moved quad none = refl
    copied-moved quad (some s) = rw (slot-moved w s) (ap (copy_of quad) (reading-moved w q s.tri.face (slot_of s)))

    from_sound-moved : {ss ts : List Triangle} → Triangles w ss ts → (c : Corner) → w.OursC c → from_sound cs ts c ≡ from_sound bs ss c
    unfolding from_sound
    from_sound-moved {ss} {ts} r c h =
        let e : first (λ s. welded c (corner_of s)) (spots ts) ≡ mapped (moved_spot w) (first (λ s. welded c (corner_of s)) (spots ss)) =
        part-first _ _ (λ x g. ap (welded c) (corner-moved w x)) (λ y g. weld-theirs w c y h g) (spots-part w r) in
        rw e (copied-moved false (first (λ s. welded c (corner_of s)) (spots ss)))

    spots-one : (t : Triangle) → spots (moved w t ∷ []) ≡ map (moved_spot w) (spots (t ∷ []))
    unfolding spots moved_spot
    spots-one t = refl

    from_kept-moved : (t : Triangle) (i : ℕ) (c : Corner) → from_kept cs (moved w t) i c ≡ from_kept bs t i c
    unfolding from_kept moved
    from_kept-moved t i c =
        let e : first (λ s. equals (corner_of s).place c.place) (spots (moved w t ∷ [])) ≡ mapped (moved_spot w) (first (λ s. equals (corner_of s).place c.place) (spots (t ∷ []))) =
        rw (spots-one t) (first-map (moved_spot w) (λ s. equals (corner_of s).place c.place) (λ s. equals (corner_of s).place c.place) (λ x. ap (λ d. equals d.place c.place) (corner-moved w x)) (spots (t ∷ []))) in
        rw (e, copied-moved true, reading-moved w q t.face i)

    from_marked-moved : (o : Option Triangle) (i : ℕ) (c : Corner) → from_marked cs (mapped (moved w) o) i c ≡ from_marked bs o i c
    unfolding from_marked mapped
    from_marked-moved none i c = refl
    from_marked-moved (some t) i c = from_kept-moved t i c

    sound-moved : (t : Triangle) → is_sound (moved w t) ≡ is_sound t
    unfolding is_sound moved
    sound-moved t = refl

    module _ {ss ts : List Triangle} (r : Triangles w ss ts) where
      final-moved : (f : ℕ) (l : List Triangle) (k : Kept) → w.OursC k.corner → final_of cs ts (w.rho f) (map (moved w) l) k ≡ final_of bs ss f l k
      unfolding final_of moved
      final-moved f [] k h = refl
      final-moved f (t ∷ l) k h =
          rw (first-map (moved w) is_sound is_sound sound-moved (t ∷ l), from_marked-moved, from_sound-moved r k.corner h, reading-moved w q f k.which)

      nooks-ours : (n : ℕ) {l : List Corner} → Every w.OursC l → Every (λ k. w.OursC k.corner) (nooks n l)
      unfolding nooks
      nooks-ours n every_nil = every_nil
      nooks-ours n (every_cons o g) = every_cons o (nooks-ours (suc n) g)

      -- step 9
      pub face-moved : (f : Face) → OursF w f → face_readings cs ts (moved_face w f) ≡ face_readings bs ss f
      unfolding face_readings moved_face
      face-moved f o =
          rw (pieces-moved w f.number f.corners)
          (map-cong (λ k. w.OursC k.corner) _ _ (λ k h. final-moved f.number (pieces f.number f.corners) k h) (nooks-ours 0 o.corners))

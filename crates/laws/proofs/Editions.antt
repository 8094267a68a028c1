-- The editions: the number of the row that is given, what holds where none is, and as many readings as slots in both. Assumes nothing.
use Prim.Native.Nat.{ℕ, ◌≤◌, ◌<◌}
use native.Mathlib.Omega.{arith}
use mathlib.Core.Path.{◌≡◌, refl, sym, ◌∙◌, ap, subst}
use mathlib.Core.Bool.{Bool, true, false, cond, not}
use mathlib.Core.Logic.{◌⊎◌}
use mathlib.Core.List.{List}
use mathlib.Core.Option.{Option, none}
use lib.Dec.{eqb}
use lib.ListN.{length, length-map}
use lib.Ieee.{Float}
use Rattle.lists.specs.Every.{Each, each_none, each_some}
use Rattle.definition.specs.declared.Triangle.{Triangle}
use Rattle.definition.specs.Mesh.{Face, Spot}
use Rattle.definition.specs.Handed.{mesh_from}
use Rattle.definition.specs.Triangles.{usable}
use Rattle.definition.specs.Step7Sums.{Brought}
use Rattle.definition.specs.Step9Copies.{nooks}
use Rattle.definition.specs.Frames.{frames, frames_of}
use Rattle.definition.specs.FramesOld.{old_readings, old_frames}
use Rattle.definition.specs.Desk.{Row, Shown}
use Rattle.definition.specs.Editions.{corrected, old, edition_refusal, is_edition, frames_in, verdict_in}
use Rattle.laws.proofs.Corrected.{verdict-edition, verdict-no-edition, one_of_two, none_in}
use Rattle.laws.proofs.Closed.{Found}
use Rattle.laws.proofs.Verdict.{InTable, verdict-numbered, Fine, fine, is-fine}
use Rattle.laws.proofs.Bridge.{Reads, mapped-reads, frames-read, nooks-length}

-- a row that applies, as it was found in the table of an edition: its number is one of 1 to 8
abbrev pub InTableIn : Row → Type 0
InTableIn = Found (λ r. r.applies) (λ r. (0 < r.number) × (r.number ≤ edition_refusal))

-- the number of the row that is given
pub verdict-in-numbered : (e : ℕ) (x : Shown) → Each InTableIn (verdict_in e x)
verdict-in-numbered e x = go (is_edition e) refl
  where
    more : {o : Option Row} → Each InTable o → Each InTableIn o
    more each_none = each_none
    more (each_some h) = each_some (record { passes = h.passes; known = (h.known.0, omega (arith, h.known.1)) })

    go : (b : Bool) → is_edition e ≡ b → Each InTableIn (verdict_in e x)
    go true h = subst (Each InTableIn) (sym (verdict-edition e x h)) (more (verdict-numbered x))
    go false h = subst (Each InTableIn) (sym (verdict-no-edition e x h)) (each_some (record { passes = ap not h; known = (omega arith, omega arith) }))

-- where none is given, the number is one of the two and all is well at the desk
pub fine-in : (e : ℕ) (x : Shown) → verdict_in e x ≡ none → ((e ≡ corrected) ⊎ (e ≡ old)) × Fine x
fine-in e x n = (one_of_two e (none_in e x n).0, fine x (none_in e x n).1)

-- and that is enough
pub is-fine-in : (e : ℕ) (x : Shown) → is_edition e ≡ true → Fine x → verdict_in e x ≡ none
is-fine-in e x h F = verdict-edition e x h ∙ is-fine x F

-- ---- as many readings as slots

-- the old edition gives each face as many as the corrected one
pub old-readings-length : (bs : List Brought) (ss : List Triangle) (sp : List Spot) (f : Face) → length (old_readings bs ss sp f) ≡ length (usable f.corners)
unfolding old_readings
old-readings-length bs ss sp f = length-map (nooks 0 (usable f.corners)) _ ∙ nooks-length 0 (usable f.corners)

module _ (ps ns ts : List Float) (h : Float) (sizes : List ℕ) where
  old-read : Reads sizes (old_frames h (mesh_from ps ns ts 0 sizes))
  unfolding old_frames
  old-read = mapped-reads ps ns ts (old_readings _ _ _) (old-readings-length _ _ _) 0 0 sizes

  corrected-read : Reads sizes (frames h (mesh_from ps ns ts 0 sizes))
  unfolding frames frames_of
  corrected-read = frames-read ps ns ts _ _ 0 sizes

  -- both editions give each face as many readings as it has slots
  pub frames-in-read : (e : ℕ) → Reads sizes (frames_in e h (mesh_from ps ns ts 0 sizes))
  unfolding frames_in
  frames-in-read e = go (eqb e old)
    where
      go : (b : Bool) → Reads sizes (cond b old_frames frames h (mesh_from ps ns ts 0 sizes))
      go true = old-read
      go false = corrected-read

-- Why a slot is absent: there are three reasons, one for every absent slot and no more. Definitions only.
use Rattle.std.specs.Prelude.{ℕ, ◌<◌, ◌≡◌, true, length, Float}
use mathlib.Core.List.{List, Memᴰ}
use Rattle.std.proofs.Math.Option.{none}
use Rattle.tangent.specs.declared.Reading.TheVariants.{Absent}
use Rattle.definition.specs.declared.Corner.{Corner}
use Rattle.definition.specs.declared.Kept.{Kept}
use Rattle.definition.specs.Mesh.{Spot, slot_of}
use Rattle.definition.specs.Step4Order.{spots}
use Rattle.definition.specs.Step6Groups.{Mark}
use Rattle.promises.specs.Faithful.{sound_triangles, slots_at, final_reading, Broken, first_welded, Copies, There}
use Rattle.promises.specs.Origins.{marks_of}

-- (1) its corner is one of a degenerate triangle whose face isn't a marked quad, and no sound corner is welded to it
pub record Unwelded (m : List (List Corner)) (f i : ℕ) : Type 0 where
  pub corner : Kept
  pub which : corner.which ≡ i
  pub broken : Broken m f corner
  pub alone : first_welded m corner.corner ≡ none

-- (2) it copies a corner that is absent itself
pub record CopiesAbsent (h : Float) (m : List (List Corner)) (f i : ℕ) : Type 0 where
  pub corner : Kept
  pub source : Spot
  pub which : corner.which ≡ i
  pub copies : Copies m f corner source
  pub absent : final_reading h m source.tri.face (slot_of source) ≡ Absent

-- (3) it belongs to sound triangles, all of them `group_with_any`, and no group reached it
pub record Unreached (m : List (List Corner)) (f i : ℕ) : Type 0 where
  pub spot : Spot
  pub there : There m spot
  pub face : spot.tri.face ≡ f
  pub slot : slot_of spot ≡ i
  pub all_any : (s : Spot) → Memᴰ s (spots (sound_triangles m)) → s.tri.face ≡ f → slot_of s ≡ i → s.tri.any ≡ true
  pub no_group : (k : Mark) → Memᴰ k (marks_of m) → k.spot.tri.face ≡ f → slot_of k.spot ≡ i → ⊥

-- one of the three
pub data Reason (h : Float) (m : List (List Corner)) (f i : ℕ) : Type 0 where
  unwelded : Unwelded m f i → Reason h m f i
  copies_absent : CopiesAbsent h m f i → Reason h m f i
  unreached : Unreached m f i → Reason h m f i

pub record Promised : Type 0 where
  -- every slot that ends absent has one of them
  pub why : (h : Float) (m : List (List Corner)) (f i : ℕ) → i < length (slots_at m f) → final_reading h m f i ≡ Absent → Reason h m f i
  -- and a slot that has one ends absent
  pub so_absent : (h : Float) (m : List (List Corner)) (f i : ℕ) → Reason h m f i → final_reading h m f i ≡ Absent
  -- no two of them go together
  pub not_1_2 : (h : Float) (m : List (List Corner)) (f i : ℕ) → Unwelded m f i → CopiesAbsent h m f i → ⊥
  pub not_1_3 : (m : List (List Corner)) (f i : ℕ) → Unwelded m f i → Unreached m f i → ⊥
  pub not_2_3 : (h : Float) (m : List (List Corner)) (f i : ℕ) → CopiesAbsent h m f i → Unreached m f i → ⊥

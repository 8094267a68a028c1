-- What joins the definition to document 01's own words, where the definition takes a shorter way. Definitions only.
use Rattle.std.specs.Prelude.{ℕ, ◌≤◌, ◌<◌, ◌≡◌, Bool, true, false, ◌&&◌, eqb, length, get_or, Float}
use mathlib.Core.List.{List, [], ◌∷◌, Memᴰ}
use Rattle.std.proofs.Math.Option.{Option, none, some}
use Rattle.bits.specs.Word.{number}
use Rattle.math.specs.Vector.{vec, equals}
use Rattle.tangent.specs.declared.Reading.{Reading}
use Rattle.tangent.specs.declared.Reading.TheVariants.{Absent}
use Rattle.tangent.specs.Space.{copy_of}
use Rattle.lists.specs.Lists.{keep, first}
use Rattle.definition.specs.declared.Corner.{Corner}
use Rattle.definition.specs.declared.Kept.{Kept}
use Rattle.definition.specs.declared.Triangle.{Triangle}
use Rattle.definition.specs.Mesh.{Third, Spot, kept, corner_of, slot_of}
use Rattle.definition.specs.Triangles.{usable, triangles}
use Rattle.definition.specs.Step4Order.{sound, spots, welded}
use Rattle.definition.specs.Step5Links.{links}
use Rattle.definition.specs.Step5Sorted.{sorted_links}
use Rattle.definition.specs.Step6Groups.{Mark, walk, fan, marks}
use Rattle.definition.specs.Step7Sums.{brought_all}
use Rattle.definition.specs.Step8Slots.{reading}
use Rattle.definition.specs.Step9Copies.{nooks}
use Rattle.definition.specs.Frames.{numbered, frames_from, frames}
use Rattle.definition.specs.Shuffle.{Shuffle, corners_of}
use Rattle.promises.specs.Small.{one}
use Rattle.promises.specs.Demand3.{left_at}

-- all triangles of a mesh, and the sound ones
abbrev pub all_triangles : List (List Corner) → List Triangle
all_triangles m = triangles (numbered 0 m)

abbrev pub sound_triangles : List (List Corner) → List Triangle
sound_triangles m = sound (all_triangles m)

-- the marks of step 6 over the links of step 5 word for word: 'Sides of sound triangles are sorted by lower corner, higher corner, triangle'
unfoldable pub sorted_marks : List (List Corner) → List Mark
sorted_marks m = marks (sound_triangles m) (sorted_links (all_triangles m))

-- and steps 1 to 9 over those
unfoldable pub sorted_frames : Float → List (List Corner) → List (List Reading)
sorted_frames h m = frames_from (numbered 0 m) (sound_triangles m) (brought_all h (sound_triangles m) (sorted_marks m))

-- how often slot number i of face f is reached
unfoldable pub times_reached : Float → List (List Corner) → ℕ → ℕ → ℕ
times_reached h m f i = length (keep (λ b. eqb b.face f && eqb b.slot i) (brought_all h (sound_triangles m) (marks (sound_triangles m) (links (sound_triangles m)))))

-- ---- step 9

-- the slots of face number f: each of its corners that takes one, with its number in the face
abbrev pub slots_at : List (List Corner) → ℕ → List Kept
slots_at m f = nooks 0 (usable (get_or m f []))

-- the final reading of slot number i of face f
abbrev pub final_reading : Float → List (List Corner) → ℕ → ℕ → Reading
final_reading h m f i = get_or (get_or (frames h m) f []) i Absent

-- what was brought to it by steps 7 and 8
abbrev pub brought_reading : Float → List (List Corner) → ℕ → ℕ → Reading
brought_reading h m f i = reading (brought_all h (sound_triangles m) (marks (sound_triangles m) (links (sound_triangles m)))) f i

-- the corner k, kept by a degenerate triangle of face f that isn't a marked quad
pub record Broken (m : List (List Corner)) (f : ℕ) (k : Kept) : Type 0 where
  pub tri : Triangle
  pub at : Third
  pub inside : Memᴰ tri (all_triangles m)
  pub face : tri.face ≡ f
  pub degenerate : tri.degenerate ≡ true
  pub plain : tri.marked ≡ false
  pub corner : kept tri at ≡ k

-- the corner k, missing from the sound triangle t of the marked quad f
pub record Missing (m : List (List Corner)) (f : ℕ) (t : Triangle) (k : Kept) : Type 0 where
  pub inside : Memᴰ t (sound_triangles m)
  pub face : t.face ≡ f
  pub marked : t.marked ≡ true
  pub slot : Memᴰ k (slots_at m f)
  pub which : k.which ≡ t.missing

-- 'the first sound corner welded to it', if there is one
abbrev pub first_welded : List (List Corner) → Corner → Option Spot
first_welded m c = first (λ s. welded c (corner_of s)) (spots (sound_triangles m))

-- 'the first kept corner of equal position', if there is one
abbrev pub first_kept : Triangle → Corner → Option Spot
first_kept t c = first (λ s. equals (corner_of s).place c.place) (spots (t ∷ []))

-- step 9 copies to the slot of the corner k of face f from the slot of the corner s
pub data Copies (m : List (List Corner)) (f : ℕ) (k : Kept) (s : Spot) : Type 0 where
  -- 'Each corner of a degenerate triangle whose face isn't a marked quad copies the first sound corner welded to it'
  from_welded : Broken m f k → first_welded m k.corner ≡ some s → Copies m f k s
  -- 'Then in each marked quad the missing corner copies the first kept corner of equal position'
  from-kept : (t : Triangle) → Missing m f t k → first_kept t k.corner ≡ some s → Copies m f k s

-- whether it copies within a quad
unfoldable pub in_quad : {m : List (List Corner)} {f : ℕ} {k : Kept} {s : Spot} → Copies m f k s → Bool
in_quad (from_welded b e) = false
in_quad (from-kept t b e) = true

-- the slot of the corner s is there: s is a corner of a sound triangle of the mesh, and as such one of the corners that take slots
pub record There (m : List (List Corner)) (s : Spot) : Type 0 where
  pub sound : Memᴰ s (spots (sound_triangles m))
  pub slot : Memᴰ (kept s.tri s.at) (slots_at m s.tri.face)

-- how slot number i of face f ends: with what was brought to it, as a corner of a sound triangle; with a copy; or 'where there is none it stays absent'
pub data SlotEnds (h : Float) (m : List (List Corner)) (f i : ℕ) : Type 0 where
  own : (s : Spot) → There m s → s.tri.face ≡ f → slot_of s ≡ i → final_reading h m f i ≡ brought_reading h m f i → SlotEnds h m f i
  copy : (k : Kept) (s : Spot) → k.which ≡ i → Copies m f k s → SlotEnds h m f i
  none_welded : (k : Kept) → k.which ≡ i → Broken m f k → first_welded m k.corner ≡ none → final_reading h m f i ≡ Absent → SlotEnds h m f i

-- the missing corner of the marked quad whose sound triangle is t, and the kept corner of equal position that is found for it
pub record KeepsEqual (m : List (List Corner)) (t : Triangle) : Type 0 where
  pub corner : Kept
  pub missing : Missing m t.face t corner
  pub source : Spot
  pub found : first_kept t corner.corner ≡ some source

-- a corner at (x, y, 0) with the texture (u, v), all by their bits, and the normal (0, 0, 1)
unfoldable pub flat_corner : ℕ → ℕ → ℕ → ℕ → Corner
flat_corner x y u v = record { place = vec (number x) (number y) (number 0); normal = vec (number 0) (number 0) (number one); u = number u; v = number v; tag = 0 }

-- an example: a quad whose corners 2 and 3 have one position, so that it is marked, and a degenerate triangle whose corners are welded to those of the quad
unfoldable pub two_copies : List (List Corner)
two_copies =
    (flat_corner 0 0 0 0 ∷ flat_corner one 0 one 0 ∷ flat_corner 0 one 0 one ∷ flat_corner 0 one one one ∷ [])
    ∷ (flat_corner 0 0 0 0 ∷ flat_corner 0 0 0 0 ∷ flat_corner one 0 one 0 ∷ [])
    ∷ []

-- slot number i of face f is copied to
abbrev pub CopiedTo : List (List Corner) → ℕ → ℕ → Type 0
CopiedTo m f i = (k : Kept) × (s : Spot) × (k.which ≡ i) × Copies m f k s

pub record Promised : Type 0 where
  -- step 5: the definition takes the sides in triangle order, and that gives the same groups and the same frames as the sorted order
  pub sorted-marks : (m : List (List Corner)) → sorted_marks m ≡ marks (sound_triangles m) (links (sound_triangles m))
  pub sorted-frames : (h : Float) (m : List (List Corner)) → sorted_frames h m ≡ frames h m
  -- step 6: the walk's count is always enough: from a corner of the sound triangles any larger count gives the same walk
  pub enough : (m : List (List Corner)) (n : ℕ) (g : Spot) (w : Bool) (ms : List Mark) → Memᴰ g (spots (sound_triangles m)) → fan (sound_triangles m) (corner_of g) ≤ n → walk n (links (sound_triangles m)) g w ms g ≡ walk (fan (sound_triangles m) (corner_of g)) (links (sound_triangles m)) g w ms g
  -- step 8: 'A slot reached twice is combined': no slot is reached more often
  pub twice : (h : Float) (m : List (List Corner)) (f i : ℕ) → times_reached h m f i ≤ 2
  -- 'other faces take no slot and no frame depends on their numbers': put faces that take no slot between those of a mesh, and each face of the mesh keeps its frames
  pub other_faces : (h : Float) (p : List Bool) (a b m : List (List Corner)) → Shuffle p a b m → corners_of b ≡ [] → (n : ℕ) → n < length a → get_or (frames h m) (left_at p n) [] ≡ get_or (frames h a) n []
  -- step 9: 'copies .., absent or not': the slot copied to ends with a copy of the reading that the slot copied from ends with
  pub copies : (h : Float) (m : List (List Corner)) (f : ℕ) (k : Kept) (s : Spot) (c : Copies m f k s) → final_reading h m f k.which ≡ copy_of (in_quad c) (final_reading h m s.tri.face (slot_of s))
  -- the sources of step 9 are there, and end with what was brought to them
  pub sources : (h : Float) (m : List (List Corner)) (f : ℕ) (k : Kept) (s : Spot) → Copies m f k s → There m s × (final_reading h m s.tri.face (slot_of s) ≡ brought_reading h m s.tri.face (slot_of s))
  -- and are never its targets: no slot that is copied from is copied to, so that the order of the copies does not matter
  pub never_targets : (m : List (List Corner)) (f : ℕ) (k : Kept) (s : Spot) → Copies m f k s → (l : Kept) (r : Spot) → Copies m s.tri.face l r → l.which ≡ slot_of s → ⊥
  -- a marked quad always has a kept corner of equal position for its missing corner (the crate unwraps there)
  pub keeps_equal : (m : List (List Corner)) (t : Triangle) → Memᴰ t (sound_triangles m) → t.marked ≡ true → KeepsEqual m t
  -- and that is all that step 9 does: each slot of the mesh ends in one of these ways
  pub all_slots : (h : Float) (m : List (List Corner)) (f i : ℕ) → i < length (slots_at m f) → SlotEnds h m f i
  -- in the example the missing corner of the quad, number 3, and the first corner of the triangle are copied to
  pub occur : CopiedTo two_copies 0 3 × CopiedTo two_copies 1 0

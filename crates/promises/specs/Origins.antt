-- Request E7, 'Where did this frame come from?': what words 10 and 11 of a slot say. (That demand 3 covers them is part of Demand3, which speaks of whole slots.) Definitions only.
use Rattle.std.specs.Prelude.{ℕ, ◌≤◌, ◌<◌, ◌≡◌, cond, not, ◌&&◌, eqb, length, get_or, take, replicate, Float}
use mathlib.Core.List.{List, map, Memᴰ}
use Rattle.std.proofs.Math.Option.{none}
use Rattle.tangent.specs.Slot.{slot_words, combined_origin, copied_origin, filled_origin, words}
use Rattle.lists.specs.Lists.{keep}
use Rattle.lists.specs.Parts.{sum_of}
use Rattle.definition.specs.declared.Corner.{Corner}
use Rattle.definition.specs.declared.Kept.{Kept}
use Rattle.definition.specs.Mesh.{Spot, slot_of}
use Rattle.definition.specs.Limits.{face_limit}
use Rattle.definition.specs.Step5Links.{links}
use Rattle.definition.specs.Step6Groups.{Mark, marks}
use Rattle.definition.specs.Step7Sums.{subgroup}
use Rattle.definition.specs.Handed.{Call, mesh_of}
use Rattle.definition.specs.Outcome.{Result}
use Rattle.view.specs.Answer.{HasSlot}
use Rattle.promises.specs.Calls.{Answers}
use Rattle.promises.specs.Directions.{slot_in}
use Rattle.promises.specs.BeforeE7.{slot_words_before}
use Rattle.promises.specs.Faithful.{sound_triangles, times_reached, final_reading, brought_reading, Broken, first_welded, Copies, in_quad, There}

-- of a slot's words: whether a frame is there, where it came from, how many triangles stood behind it
abbrev pub present_word : List ℕ → ℕ
present_word slot = get_or slot 0 0

abbrev pub origin_word : List ℕ → ℕ
origin_word slot = get_or slot 10 0

abbrev pub behind_word : List ℕ → ℕ
behind_word slot = get_or slot 11 0

-- the marks of step 6
abbrev pub marks_of : List (List Corner) → List Mark
marks_of m = marks (sound_triangles m) (links (sound_triangles m))

-- those that reach slot number i of face f
unfoldable pub reaching : List (List Corner) → ℕ → ℕ → List Mark
reaching m f i = keep (λ k. eqb k.spot.tri.face f && eqb (slot_of k.spot) i) (marks_of m)

-- 'how many triangles that aren't `group_with_any` stood in the subgroup' of a mark
unfoldable pub standing : Float → List (List Corner) → Mark → ℕ
standing h m k = length (keep (λ t. not t.any) (subgroup h (sound_triangles m) (marks_of m) k))

-- 'in the subgroups behind it, summed when combined'
unfoldable pub standing_behind : Float → List (List Corner) → ℕ → ℕ → ℕ
standing_behind h m f i = sum_of (map (standing h m) (reaching m f i))

-- the words of a copy beside those of the slot that it copies
pub record CopyWords (number : ℕ) (source target : List ℕ) : Type 0 where
  -- '3 copied to a degenerate corner, 4 copied within a quad; a copy of an absent slot stays 0'
  pub origin : origin_word target ≡ cond (eqb (present_word source) 0) 0 number
  -- 'carried along when copied'
  pub behind : behind_word target ≡ behind_word source
  -- the frame is the same
  pub ten : take slot_words_before target ≡ take slot_words_before source

-- what the two words say of any slot
pub record SlotWords (slot : List ℕ) : Type 0 where
  pub highest : origin_word slot ≤ filled_origin
  -- word 10 is 0 exactly where word 0 is
  pub absent_origin : present_word slot ≡ 0 → origin_word slot ≡ 0
  pub origin_absent : origin_word slot ≡ 0 → present_word slot ≡ 0
  -- and so is word 11
  pub absent_behind : present_word slot ≡ 0 → behind_word slot ≡ 0
  pub behind_absent : behind_word slot ≡ 0 → present_word slot ≡ 0

-- where the words of slot i of face f of the mesh m come from, at the threshold h
pub data SlotFrom (h : Float) (m : List (List Corner)) (f i : ℕ) (slot : List ℕ) : Type 0 where
  -- 'single' or 'combined': it is a slot of the corner s of a sound triangle, and has what was brought to it
  brought : (s : Spot) → There m s → s.tri.face ≡ f → slot_of s ≡ i → origin_word slot ≡ times_reached h m f i → behind_word slot ≡ standing_behind h m f i → SlotFrom h m f i slot
  -- 'copied': its words are those of a copy of the slot of the corner s
  copy : (k : Kept) (s : Spot) (c : Copies m f k s) → k.which ≡ i → CopyWords (cond (in_quad c) filled_origin copied_origin) (words (final_reading h m s.tri.face (slot_of s))) slot → SlotFrom h m f i slot
  -- 'absent': its corner k is one of a degenerate triangle, and no sound corner is welded to it
  nowhere : (k : Kept) → k.which ≡ i → Broken m f k → first_welded m k.corner ≡ none → slot ≡ replicate slot_words 0 → SlotFrom h m f i slot

pub record Promised : Type 0 where
  -- '0 absent, 1 single, 2 combined': what steps 7 and 8 bring to a slot has in word 10 how often it was reached, also where the two readings are equal by comparison
  pub reached : (h : Float) (m : List (List Corner)) (f i : ℕ) → origin_word (words (brought_reading h m f i)) ≡ times_reached h m f i
  -- which is by how many marks
  pub times : (h : Float) (m : List (List Corner)) (f i : ℕ) → times_reached h m f i ≡ length (reaching m f i)
  -- and in word 11 the sum itself: no mesh that is accepted is so large that a word could not hold it
  pub summed : (h : Float) (m : List (List Corner)) (f i : ℕ) → length m ≤ face_limit → behind_word (words (brought_reading h m f i)) ≡ standing_behind h m f i
  -- no subgroup is of `group_with_any` triangles only
  pub some_stand : (h : Float) (m : List (List Corner)) (k : Mark) → Memᴰ k (marks_of m) → 0 < standing h m k
  -- step 9: what a copy has in its words
  pub copied : (h : Float) (m : List (List Corner)) (f : ℕ) (k : Kept) (s : Spot) (c : Copies m f k s) → CopyWords (cond (in_quad c) filled_origin copied_origin) (words (final_reading h m s.tri.face (slot_of s))) (words (final_reading h m f k.which))
  -- no copy is copied
  pub no_copy_copied : (h : Float) (m : List (List Corner)) (f : ℕ) (k : Kept) (s : Spot) → Copies m f k s → origin_word (words (final_reading h m s.tri.face (slot_of s))) ≤ combined_origin
  -- of every accepted call, each slot: where its words come from
  pub slot_from : (x : Call) (z : Result) → Answers x z → z.number ≡ 0 → (f i : ℕ) → HasSlot x.mesh.sizes f i → SlotFrom x.threshold (mesh_of x.mesh) f i (slot_in x.mesh.sizes f i z.answer)
  -- and what they say
  pub slots : (x : Call) (z : Result) → Answers x z → z.number ≡ 0 → (f i : ℕ) → HasSlot x.mesh.sizes f i → SlotWords (slot_in x.mesh.sizes f i z.answer)

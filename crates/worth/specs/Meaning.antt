-- What the verdicts mean, in plain numbers. Definitions only.
use Rattle.std.specs.Prelude.{ℕ, ◌+◌, ◌≤◌, ◌<◌, ◌≡◌, List, length, get_or, replicate}
use Rattle.packed.specs.Component.{furthest, nothing, size, component}
use Rattle.packed.specs.Packer.{packed_words, packed_slot}
use Rattle.worth.specs.Worth.{absent_slot, good_slot, lost_slot, blank_slot, long_slot, short_slot, infinity_bits, least_bits}

-- P holds of one of three numbers of a list, from place k on
pub data OneOf (P : ℕ → Type 0) (k : ℕ) (l : List ℕ) : Type 0 where
  one_of : (i : ℕ) → i < 3 → P (get_or l (k + i) 0) → OneOf P k l

-- a component counts: it is above 2 ^ -126, without its sign
abbrev pub Counts : ℕ → Type 0
Counts w = least_bits < size w

-- a number is not 0
abbrev pub NotZero : ℕ → Type 0
NotZero n = n ≡ 0 → ⊥

-- a component is packed as something other than 0
abbrev pub Shows : ℕ → Type 0
Shows w = NotZero (component w)

-- an orientation and two directions
pub record Directions (slot : List ℕ) : Type 0 where
  pub orientation : get_or slot 9 0 ≤ 1
  pub numbers : (i : ℕ) → i < 6 → size (get_or slot (1 + i) 0) < infinity_bits
  pub tangent : OneOf Counts 1 slot
  pub bi_tangent : OneOf Counts 4 slot

-- what they lack: the orientation word is above 1, a component is NaN or infinite, or none of the tangent or of the bi-tangent counts
pub data NoDirections (slot : List ℕ) : Type 0 where
  turned : 1 < get_or slot 9 0 → NoDirections slot
  no_number : (i : ℕ) → i < 6 → infinity_bits ≤ size (get_or slot (1 + i) 0) → NoDirections slot
  no_tangent : ((i : ℕ) → i < 3 → size (get_or slot (1 + i) 0) ≤ least_bits) → NoDirections slot
  no_bi_tangent : ((i : ℕ) → i < 3 → size (get_or slot (4 + i) 0) ≤ least_bits) → NoDirections slot

-- no component is beyond 3F800008
abbrev pub Near : List ℕ → Type 0
Near slot = (i : ℕ) → i < 6 → size (get_or slot (1 + i) 0) ≤ furthest

-- the tangent or the bi-tangent is packed as three zeros
pub data Zeros (slot : List ℕ) : Type 0 where
  tangent_zeros : ((i : ℕ) → i < 3 → component (get_or slot (1 + i) 0) ≡ 0) → Zeros slot
  bi_tangent_zeros : ((i : ℕ) → i < 3 → component (get_or slot (4 + i) 0) ≡ 0) → Zeros slot

-- word 0 is 1, an orientation and two directions, none beyond 3F800008, and both show in 16 bits
pub record IsGood (slot : List ℕ) : Type 0 where
  pub present : get_or slot 0 0 ≡ 1
  pub directions : Directions slot
  pub near : Near slot
  pub tangent_shows : OneOf Shows 1 slot
  pub bi_tangent_shows : OneOf Shows 4 slot

-- the verdict k on a slot, with its ground
pub data Told (slot : List ℕ) (k : ℕ) : Type 0 where
  absent : k ≡ absent_slot → get_or slot 0 0 ≡ 0 → Told slot k
  lost : k ≡ lost_slot → (get_or slot 0 0 ≡ 0 → ⊥) → (get_or slot 0 0 ≡ 1 → ⊥) → Told slot k
  blank : k ≡ blank_slot → get_or slot 0 0 ≡ 1 → NoDirections slot → Told slot k
  long : k ≡ long_slot → get_or slot 0 0 ≡ 1 → Directions slot → (i : ℕ) → i < 6 → furthest < size (get_or slot (1 + i) 0) → Told slot k
  short : k ≡ short_slot → get_or slot 0 0 ≡ 1 → Directions slot → Near slot → Zeros slot → Told slot k
  good : k ≡ good_slot → IsGood slot → Told slot k

-- a slot that is packed with its numbers, not all zero in either direction, and not as absent
pub record PacksWell (slot : List ℕ) : Type 0 where
  pub seven : length (packed_slot slot) ≡ packed_words
  pub numbers : (i : ℕ) → i < 6 → get_or (packed_slot slot) i 0 ≡ component (get_or slot (1 + i) 0)
  pub tangent : OneOf NotZero 0 (packed_slot slot)
  pub bi_tangent : OneOf NotZero 3 (packed_slot slot)
  pub not_absent : packed_slot slot ≡ replicate packed_words nothing → ⊥

-- two slots with the same words 0 and 9, whose components are the same but for their signs
pub record Alike (a b : List ℕ) : Type 0 where
  pub present : get_or a 0 0 ≡ get_or b 0 0
  pub orientation : get_or a 9 0 ≡ get_or b 9 0
  pub sizes : (i : ℕ) → i < 6 → size (get_or a (1 + i) 0) ≡ size (get_or b (1 + i) 0)

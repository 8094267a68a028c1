-- What the packer writes, from request E5. Definitions only.
use Rattle.std.specs.Prelude.{ℕ, ◌+◌, ◌*◌, ◌/◌, ◌%◌, Bool, cond, ◌&&◌, List, [], ◌∷◌, ◌++◌, length, get_or, drop, replicate, eqb, leb}
use Rattle.lists.specs.Loops.{list_of}
use Rattle.lists.specs.Parts.{every_below, joined, part}
use Rattle.tangent.specs.Slot.{slot_words}
use Rattle.packed.specs.Component.{nothing, short_minus_one, within, component}

-- a slot is seven numbers packed; words 7, 8, 10 and 11 are not packed
abbrev pub packed_words : ℕ
packed_words = 7

-- A slot that has a frame to pack. 'A slot whose word 0 isn't 1, whose orientation word is above 1, or with one of the six NaN or beyond that' has none.
unfoldable pub has_frame : List ℕ → Bool
has_frame slot = eqb (get_or slot 0 0) 1 && leb (get_or slot 9 0) 1 && every_below 6 (λ i. within (get_or slot (1 + i) 0))

-- 'a seventh number is 1 or -1 for orientation'
unfoldable pub packed_facing : ℕ → ℕ
packed_facing o = cond (eqb o 1) 1 short_minus_one

-- the seven numbers of a frame: six components and the orientation
unfoldable pub frame : List ℕ → List ℕ
frame slot = list_of 6 (λ i. component (get_or slot (1 + i) 0)) ++ packed_facing (get_or slot 9 0) ∷ []

-- a slot packed, with a frame or without: then it 'is seven times -32,768, so that nothing absent unpacks as zero'
unfoldable pub frame_packed : Bool → List ℕ → List ℕ
frame_packed there slot = cond there (frame slot) (replicate packed_words nothing)

-- a slot packed
unfoldable pub packed_slot : List ℕ → List ℕ
packed_slot slot = frame_packed (has_frame slot) slot

-- the words of slot s of an answer list
unfoldable pub slot_at : List ℕ → ℕ → List ℕ
slot_at l s = part (slot_words * s) slot_words l

-- how many slots an answer list has
unfoldable pub slots_in : List ℕ → ℕ
slots_in l = length l / slot_words

-- n slots of an answer list, packed
unfoldable pub packed_slots : ℕ → List ℕ → List ℕ
packed_slots n l = joined n (λ s. packed_slot (slot_at l s))

-- all that the packer leaves behind: a number, how many numbers it wrote, and the lent list
pub record PackLeft : Type 0 where
  pub number : ℕ
  pub count : ℕ
  pub packed : List ℕ

-- a refusal alters nothing
unfoldable pub not_packed : ℕ → List ℕ → PackLeft
not_packed k packed = record { number = k; count = 0; packed = packed }

-- every slot packed, and past them nothing altered
unfoldable pub all_packed : List ℕ → List ℕ → PackLeft
all_packed l packed =
    record {
      number = 0;
      count = packed_words * slots_in l;
      packed = packed_slots (slots_in l) l ++ drop (packed_words * slots_in l) packed;
    }

-- what packing the answer list l into a lent list leaves behind: refused with 1 a list not in whole records, with 2 a lent list too short
unfoldable pub pack_left : List ℕ → List ℕ → PackLeft
pack_left l packed =
    cond (eqb (length l % slot_words) 0)
    (cond (leb (packed_words * slots_in l) (length packed)) (all_packed l packed) (not_packed 2 packed))
    (not_packed 1 packed)

-- What request E5 asks of packed frames, over whole numbers. Definitions only.
use Rattle.std.specs.Prelude.{ℕ, ◌+◌, ◌*◌, ◌/◌, ◌^◌, ◌≤◌, ◌<◌, ◌≡◌, true, ◌⊎◌, List, ◌++◌, length, get_or, drop, replicate}
use Rattle.std.specs.Float.{binary32}
use Rattle.std.specs.Float.Ieee.{of_bits}
use Rattle.std.specs.Float.Ieee.Exact.{HasValue}
use Rattle.lists.specs.Parts.{joined}
use Rattle.tangent.specs.Slot.{slot_words}
use Rattle.packed.specs.Rounding.{NearestWhole}
use Rattle.packed.specs.Component.{nothing, full_scale, furthest, short_minus_one, size, negative, within, cut, digits, scaled, parts, signed, component, amount}
use Rattle.packed.specs.Packer.{packed_words, packed_slot, slot_at, slots_in, packed_slots, pack_left}
use Rattle.packed.specs.Reader.{read_words, is_packed, wide, absent_words, read_seven, seven_at, sevens_in, first_refused, UnpackLeft, unpack_left, FirstFailing}
use Rattle.packed.specs.Contract.{Packs, Unpacks}
use Rattle.packed.specs.declared.Packed.{Packed}
use Rattle.packed.specs.declared.Unpacked.{Unpacked}
use Rattle.view.specs.Answer.{HasSlot}
use Rattle.definition.specs.Handed.{Call}
use Rattle.promises.specs.Directions.{slot_in}
use Rattle.promises.specs.PublicCall.{Made}

-- the bits of infinity
abbrev pub infinity_bits : ℕ
infinity_bits = 0x7f80_0000

-- 'The distance from c, so cut, is at most half a unit', ties are even, the number is the only one that is so, its sign is c's, and its range; of every component and both signs
pub record Rounded (w n : ℕ) : Type 0 where
  pub distance : NearestWhole (scaled (cut w)) (parts (cut w)) (amount n)
  pub only : (q : ℕ) → NearestWhole (scaled (cut w)) (parts (cut w)) q → q ≡ amount n
  pub sign : n ≡ signed (negative w) (amount n)
  pub range : amount n ≤ full_scale

-- 'A slot whose word 0 isn't 1, whose orientation word is above 1, or with one of the six NaN or beyond that'
pub data Lacks (slot : List ℕ) : Type 0 where
  unmarked : (get_or slot 0 0 ≡ 1 → ⊥) → Lacks slot
  turned : 1 < get_or slot 9 0 → Lacks slot
  beyond : (i : ℕ) → i < 6 → furthest < size (get_or slot (1 + i) 0) → Lacks slot

-- the seven numbers of a slot with a frame: each component's, none of them -32,768, and 1 or -1 by the orientation word
pub record Holds (slot ns : List ℕ) : Type 0 where
  pub seven : length ns ≡ packed_words
  pub numbers : (i : ℕ) → i < 6 → get_or ns i 0 ≡ component (get_or slot (1 + i) 0)
  pub no_nothing : (i : ℕ) → i < 6 → get_or ns i 0 ≡ nothing → ⊥
  pub one : get_or slot 9 0 ≡ 1 → get_or ns 6 0 ≡ 1
  pub minus_one : get_or slot 9 0 ≡ 0 → get_or ns 6 0 ≡ short_minus_one

-- a slot of an accepted call's answer, packed: an absent one as absent; one that is there as absent exactly where one of its six components is beyond 3F800008, which is then a finite number; else with its numbers. So no NaN and no infinity is among the grounds
pub data PackedAnswer (slot : List ℕ) : Type 0 where
  absent : slot ≡ replicate slot_words 0 → packed_slot slot ≡ replicate packed_words nothing → PackedAnswer slot
  too_far : get_or slot 0 0 ≡ 1 → (i : ℕ) → i < 6 → furthest < size (get_or slot (1 + i) 0) → size (get_or slot (1 + i) 0) < infinity_bits → packed_slot slot ≡ replicate packed_words nothing → PackedAnswer slot
  there : get_or slot 0 0 ≡ 1 → ((i : ℕ) → i < 6 → size (get_or slot (1 + i) 0) ≤ furthest) → Holds slot (packed_slot slot) → PackedAnswer slot

-- the eight words that are read of a slot with a frame: 1, each component's number, and the orientation word
pub record ReadsBack (slot ws : List ℕ) : Type 0 where
  pub eight : length ws ≡ read_words
  pub there : get_or ws 0 0 ≡ 1
  pub numbers : (i : ℕ) → i < 6 → get_or ws (1 + i) 0 ≡ wide (component (get_or slot (1 + i) 0))
  pub orientation : get_or ws 7 0 ≡ get_or slot 9 0

-- a slot: so many words, each of 32 bits
pub record Slot (slot : List ℕ) : Type 0 where
  pub whole : length slot ≡ slot_words
  pub words : (i : ℕ) → get_or slot i 0 < 2 ^ 32

-- seven words of 16 bits
pub record Seven (ns : List ℕ) : Type 0 where
  pub seven : length ns ≡ packed_words
  pub words : (i : ℕ) → get_or ns i 0 < 2 ^ 16

-- a slot that is packed as these seven numbers
pub record WrittenFor (ns : List ℕ) : Type 0 where
  pub slot : List ℕ
  pub is_slot : Slot slot
  pub packs : packed_slot slot ≡ ns

-- what reading n packed slots into a lent list leaves behind: each slot packed and read, and past them nothing altered
unfoldable pub list_after : ℕ → List ℕ → List ℕ → UnpackLeft
list_after n l a =
    record {
      number = 0;
      place = 0;
      answer = joined n (λ s. read_seven (packed_slot (slot_at l s))) ++ drop (read_words * n) a;
    }

pub record PackedPromised : Type 0 where
  -- what is packed is a slot of the answer
  pub width : (l : List ℕ) → slots_in l ≡ length l / slot_words
  -- digits and parts are the value of the float of bits w, with its sign: what is rounded is 32,767 times that, exactly
  pub value : (w : ℕ) → within w ≡ true → HasValue (of_bits binary32 w) (negative w) (digits (size w)) (parts (size w))
  -- the rounding and the range, once for all
  pub rounded : (w : ℕ) → Rounded w (component w)
  -- what is absent is seven times -32,768, and nothing else is
  pub told : (slot : List ℕ) → (Lacks slot × (packed_slot slot ≡ replicate packed_words nothing)) ⊎ ((Lacks slot → ⊥) × Holds slot (packed_slot slot))
  -- and of the answer of an accepted call (request E6): a slot that is there is packed as absent only for a finite component beyond 3F800008
  pub answers : (x : Call) (m : Made x) → m.returned.number ≡ 0 → (f i : ℕ) → HasSlot x.mesh.sizes f i → PackedAnswer (slot_in x.mesh.sizes f i m.answer)
  -- the reader accepts every seven that is written
  pub accepts : (slot : List ℕ) → is_packed (packed_slot slot) ≡ true
  -- and none other: every seven that it accepts is written for some slot
  pub written : (ns : List ℕ) → Seven ns → is_packed ns ≡ true → WrittenFor ns
  -- packed and read, a slot is absent, or its six numbers and its orientation
  pub back : (slot : List ℕ) → (Lacks slot × (read_seven (packed_slot slot) ≡ absent_words)) ⊎ ((Lacks slot → ⊥) × ReadsBack slot (read_seven (packed_slot slot)))
  -- and so a list of n slots
  pub list_back : (n : ℕ) (l a : List ℕ) → read_words * n ≤ length a → unpack_left (packed_slots n l) a ≡ list_after n l a
  -- a refusal alters nothing, and no call alters anything past what it writes
  pub pack_refused : (l p : List ℕ) → ((pack_left l p).number ≡ 0 → ⊥) → (pack_left l p).packed ≡ p
  pub pack_past : (l p : List ℕ) → drop (packed_words * slots_in l) (pack_left l p).packed ≡ drop (packed_words * slots_in l) p
  pub read_refused : (l a : List ℕ) → ((unpack_left l a).number ≡ 0 → ⊥) → (unpack_left l a).answer ≡ a
  pub read_past : (l a : List ℕ) → drop (read_words * sevens_in l) (unpack_left l a).answer ≡ drop (read_words * sevens_in l) a
  -- the place of refusal 3 is the first slot that the packer can't write
  pub first-refused : (l : List ℕ) → FirstFailing (sevens_in l) (λ s. is_packed (seven_at l s)) (first_refused l)
  -- any two outcomes that satisfy a contract are equal
  pub one_packing : (l p q t : List ℕ) (r s : Packed) → Packs l p r q → Packs l p s t → (r ≡ s) × (q ≡ t)
  pub one_reading : (l a b t : List ℕ) (r s : Unpacked) → Unpacks l a r b → Unpacks l a s t → (r ≡ s) × (b ≡ t)

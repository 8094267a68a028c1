-- What the reader of packed frames answers, from request E5. Definitions only.
use Rattle.std.specs.Prelude.{ℕ, zero, suc, ◌+◌, ◌*◌, ◌/◌, ◌%◌, ◌≤◌, ◌<◌, ◌≡◌, Bool, true, false, cond, not, ◌&&◌, ◌||◌, List, [], ◌∷◌, ◌++◌, length, get_or, drop, replicate, eqb, leb, ltb, Option, None, Some}
use Rattle.lists.specs.Loops.{list_of}
use Rattle.lists.specs.Parts.{every_below, joined, part}
use Rattle.packed.specs.Packer.{packed_words}
use Rattle.packed.specs.Component.{nothing, short_minus_one}

-- what is read of a slot is eight words
abbrev pub read_words : ℕ
read_words = 8

-- seven numbers of an absent slot
unfoldable pub all_nothing : List ℕ → Bool
all_nothing ns = every_below packed_words (λ i. eqb (get_or ns i 0) nothing)

-- seven numbers of a frame: no component is -32,768, and the orientation is 1 or -1
unfoldable pub framed : List ℕ → Bool
framed ns = every_below 6 (λ i. not (eqb (get_or ns i 0) nothing)) && (eqb (get_or ns 6 0) 1 || eqb (get_or ns 6 0) short_minus_one)

-- 'any seven that the packer can't write is refused'
unfoldable pub is_packed : List ℕ → Bool
is_packed ns = all_nothing ns || framed ns

-- what 32 bits of a negative number have above its 16
abbrev pub extended : ℕ
extended = 0xffff_0000

-- -32,768 as 32 bits
abbrev pub wide_nothing : ℕ
wide_nothing = 0xffff_8000

-- a number of 16 bits as 32, in two's complement
unfoldable pub wide : ℕ → ℕ
wide n = cond (ltb n nothing) n (n + extended)

-- the eight words of an absent slot: 0, and seven times -32,768
abbrev pub absent_words : List ℕ
absent_words = 0 ∷ replicate packed_words wide_nothing

-- the orientation word: 1 for 1, 0 for -1
unfoldable pub oriented : ℕ → ℕ
oriented n = cond (eqb n 1) 1 0

-- the eight words of a frame: 1, 'six numbers and the orientation'
unfoldable pub frame_words : List ℕ → List ℕ
frame_words ns = 1 ∷ list_of 6 (λ i. wide (get_or ns i 0)) ++ oriented (get_or ns 6 0) ∷ []

-- 'The reader answers absent, or six numbers and the orientation'
unfoldable pub seven_read : Bool → List ℕ → List ℕ
seven_read absent ns = cond absent absent_words (frame_words ns)

-- what is read of seven numbers
unfoldable pub read_seven : List ℕ → List ℕ
read_seven ns = seven_read (all_nothing ns) ns

-- the seven numbers of slot s of a packed list
unfoldable pub seven_at : List ℕ → ℕ → List ℕ
seven_at l s = part (packed_words * s) packed_words l

-- how many slots a packed list has
unfoldable pub sevens_in : List ℕ → ℕ
sevens_in l = length l / packed_words

-- the first of 0, 1, .. n - 1 that does not pass, or n
unfoldable pub first_failing : ℕ → (ℕ → Bool) → ℕ
first_failing zero p = 0
first_failing (suc n) p = cond (eqb (first_failing n p) n && p n) (suc n) (first_failing n p)

-- the first of 0, 1, .. n - 1 that does not pass, if there is one
unfoldable pub found_failing : ℕ → (ℕ → Bool) → Option ℕ
found_failing n p = cond (eqb (first_failing n p) n) None (Some (first_failing n p))

-- k is the first of 0, 1, .. n - 1 that does not pass, or n
pub record FirstFailing (n : ℕ) (p : ℕ → Bool) (k : ℕ) : Type 0 where
  pub at_most : k ≤ n
  pub before : (i : ℕ) → i < k → p i ≡ true
  pub here : k < n → p k ≡ false

-- the first slot of a packed list that the packer can't write, or how many slots there are
unfoldable pub first_refused : List ℕ → ℕ
first_refused l = first_failing (sevens_in l) (λ s. is_packed (seven_at l s))

-- n slots of a packed list, read
unfoldable pub read_slots : ℕ → List ℕ → List ℕ
read_slots n l = joined n (λ s. read_seven (seven_at l s))

-- all that the reader leaves behind: a number, a place, and the lent list
pub record UnpackLeft : Type 0 where
  pub number : ℕ
  pub place : ℕ
  pub answer : List ℕ

-- a refusal alters nothing
unfoldable pub not_read : ℕ → ℕ → List ℕ → UnpackLeft
not_read k place answer = record { number = k; place = place; answer = answer }

-- every slot read, and past them nothing altered
unfoldable pub whole_read : List ℕ → List ℕ → UnpackLeft
whole_read l answer =
    record {
      number = 0;
      place = 0;
      answer = read_slots (sevens_in l) l ++ drop (read_words * sevens_in l) answer;
    }

-- what reading the packed list l into a lent list leaves behind: refused with 1 a list not in whole sevens, with 2 a lent list too short, with 3 the first seven that the packer can't write
unfoldable pub unpack_left : List ℕ → List ℕ → UnpackLeft
unpack_left l answer =
    cond (eqb (length l % packed_words) 0)
    (cond (leb (read_words * sevens_in l) (length answer))
    (cond (eqb (first_refused l) (sevens_in l)) (whole_read l answer) (not_read 3 (first_refused l) answer))
    (not_read 2 0 answer))
    (not_read 1 0 answer)

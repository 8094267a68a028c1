-- What the writer leaves behind, from request E1, for either kind. Definitions only.
use Rattle.std.specs.Prelude.{ℕ, ◌*◌, ◌/◌, ◌%◌, Bool, cond, ◌&&◌, List, ◌++◌, length, get_or, drop, eqb, leb, ltb}
use Rattle.lists.specs.Parts.{every_below, joined}
use Rattle.words.specs.Words.{word_values}
use Rattle.blocks.specs.declared.Kind.{Kind}
use Rattle.blocks.specs.Format.{block_bytes, record_words, blocks_for, records_in, block_of}

-- how many records a list has
unfoldable pub records_of : Kind → List ℕ → ℕ
records_of kind l = length l / record_words kind

-- 'The writer refuses with 1 a list not in whole records, of 2^32 records or more, or with a word 0 above 1'
unfoldable pub writable : Kind → List ℕ → Bool
writable kind l = eqb (length l % record_words kind) 0 && ltb (records_of kind l) word_values && every_below (records_of kind l) (λ r. leb (get_or l (record_words kind * r) 0) 1)

-- how many bytes a card of n records has
unfoldable pub card_bytes : Kind → ℕ → ℕ
card_bytes kind n = block_bytes * blocks_for kind n

-- the first k blocks of a card of n records
unfoldable pub blocks_of : Kind → ℕ → ℕ → List ℕ → List ℕ
blocks_of kind k n l = joined k (λ b. block_of kind n b (records_in kind n b l))

-- the bytes of a card, from the list of its records
unfoldable pub card_of : Kind → List ℕ → List ℕ
card_of kind l = blocks_of kind (blocks_for kind (records_of kind l)) (records_of kind l) l

-- all that the writer leaves behind: a number, how many bytes it wrote, and the lent list
pub record WriteLeft : Type 0 where
  pub number : ℕ
  pub bytes : ℕ
  pub card : List ℕ

-- 'Nothing is altered then'
unfoldable pub not_written : ℕ → List ℕ → WriteLeft
not_written k card = record { number = k; bytes = 0; card = card }

-- the card's bytes, and past them nothing altered
unfoldable pub card_written : Kind → List ℕ → List ℕ → WriteLeft
card_written kind l card =
    record {
      number = 0;
      bytes = card_bytes kind (records_of kind l);
      card = card_of kind l ++ drop (card_bytes kind (records_of kind l)) card;
    }

-- what writing the list l of answer words to the lent list leaves behind: '.. with 2, checked second, a lent list too short'
unfoldable pub write_left : Kind → List ℕ → List ℕ → WriteLeft
write_left kind l card = cond (writable kind l) (cond (leb (card_bytes kind (records_of kind l)) (length card)) (card_written kind l card) (not_written 2 card)) (not_written 1 card)

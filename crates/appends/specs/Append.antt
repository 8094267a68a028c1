-- What appending leaves behind, from request E14, for either kind. Definitions only.
use Rattle.std.specs.Prelude.{ℕ, ◌+◌, ◌*◌, ◌%◌, Bool, cond, ◌&&◌, ◌||◌, List, ◌++◌, length, drop, eqb, leb, ltb}
use Rattle.lists.specs.Parts.{joined, part}
use Rattle.blocks.specs.declared.Kind.{Kind}
use Rattle.blocks.specs.Format.{records_held, room_words, blocks_for, used_words, block_of}
use Rattle.cards.specs.Writer.{records_of, writable, card_bytes}
use Rattle.appends.specs.Next.{overfull, first_torn, place_of}

-- whether k of n records, k not 0, are those of block b and of the blocks after it: full ones, or all that is left
unfoldable pub are_next : Kind → ℕ → ℕ → ℕ → Bool
are_next kind n b k = ltb 0 k && (eqb (records_held kind * b + k) n || ltb (records_held kind * b + k) n && eqb (k % records_held kind) 0)

-- the bytes of the blocks from b on that hold the records l
unfoldable pub blocks_from : Kind → ℕ → ℕ → List ℕ → List ℕ
blocks_from kind n b l = joined (blocks_for kind (records_of kind l)) (λ i. block_of kind n (b + i) (part (room_words * i) (used_words kind n (b + i)) l))

-- all that appending leaves behind: a number, how many blocks, where they go, and the lent list
pub record AppendLeft : Type 0 where
  pub number : ℕ
  pub blocks : ℕ
  pub at : ℕ
  pub lent : List ℕ

-- a refusal alters nothing
unfoldable pub not_added : ℕ → List ℕ → AppendLeft
not_added k lent = record { number = k; blocks = 0; at = 0; lent = lent }

-- the blocks' bytes, to be put at the torn block's place
unfoldable pub now_added : Kind → ℕ → ℕ → List ℕ → List ℕ → AppendLeft
now_added kind n long l lent =
    record {
      number = 0;
      blocks = blocks_for kind (records_of kind l);
      at = place_of long;
      lent = blocks_from kind n (first_torn long) l ++ drop (card_bytes kind (records_of kind l)) lent;
    }

-- what appending the records l, of n in all, to a card of so many bytes leaves behind. Refused, in this order: 1, a list that cannot be written; 2, a lent list too short; 3, a card that holds more than n records call for; 4, records that are not those of the next blocks by count
unfoldable pub append_left : Kind → ℕ → ℕ → List ℕ → List ℕ → AppendLeft
append_left kind n long l lent =
    cond (writable kind l)
    (cond (leb (card_bytes kind (records_of kind l)) (length lent))
    (cond (overfull kind n long) (not_added 3 lent) (cond (are_next kind n (first_torn long) (records_of kind l)) (now_added kind n long l lent) (not_added 4 lent)))
    (not_added 2 lent))
    (not_added 1 lent)

-- Which block comes next on a card that may be torn, from request E14, for either kind. Definitions only.
use Rattle.std.specs.Prelude.{ℕ, ◌*◌, ◌/◌, Bool, cond, ltb}
use Rattle.blocks.specs.declared.Kind.{Kind}
use Rattle.blocks.specs.Format.{block_bytes, blocks_for, records_used}

-- whether a card of so many bytes holds more than n records call for
unfoldable pub overfull : Kind → ℕ → ℕ → Bool
overfull kind n long = ltb (block_bytes * blocks_for kind n) long

-- the first block that is not whole: 'Appending after that starts at the torn block'
unfoldable pub first_torn : ℕ → ℕ
first_torn long = long / block_bytes

-- where its bytes go
unfoldable pub place_of : ℕ → ℕ
place_of long = block_bytes * first_torn long

-- what is next on a card of so many bytes
pub record Following : Type 0 where
  pub number : ℕ
  pub records : ℕ
  pub at : ℕ

-- how many records the torn block takes, none where the card is whole, and where it goes; refused with 3 where it holds more than n records call for
unfoldable pub following : Kind → ℕ → ℕ → Following
following kind n long =
    cond (overfull kind n long)
    (record { number = 3; records = 0; at = 0 })
    (record { number = 0; records = records_used kind n (first_torn long); at = place_of long })

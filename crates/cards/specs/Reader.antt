-- What the reader leaves behind, from request E1, for either kind. Definitions only.
use Rattle.std.specs.Prelude.{ℕ, ◌-◌, ◌*◌, ◌/◌, min, cond, List, ◌++◌, length, drop, leb}
use Rattle.lists.specs.Parts.{joined}
use Rattle.blocks.specs.declared.Kind.{Kind}
use Rattle.blocks.specs.Format.{block_bytes, record_words, blocks_for}
use Rattle.blocks.specs.Judged.{records_read}

-- how many whole blocks that n records call for are there
unfoldable pub blocks_there : Kind → ℕ → List ℕ → ℕ
blocks_there kind n bs = min (blocks_for kind n) (length bs / block_bytes)

-- 'Bytes past the last whole block that the total calls for are reported by their length'
unfoldable pub bytes_past : Kind → ℕ → List ℕ → ℕ
bytes_past kind n bs = length bs - block_bytes * blocks_there kind n bs

-- n records as they are read from a list of bytes, block by block
unfoldable pub readings : Kind → ℕ → List ℕ → List ℕ
readings kind n bs = joined (blocks_for kind n) (λ b. records_read kind n b bs)

-- all that the reader leaves behind: a number, the length of the bytes past the last whole block, and the lent list
pub record ReadLeft : Type 0 where
  pub number : ℕ
  pub past : ℕ
  pub answer : List ℕ

-- what reading n records from a list of bytes into the lent list leaves behind: 'both refuse with 2 .. a lent list too short'
unfoldable pub read_left : Kind → ℕ → List ℕ → List ℕ → ReadLeft
read_left kind n bs answer =
    cond (leb (record_words kind * n) (length answer))
    (record { number = 0; past = bytes_past kind n bs; answer = readings kind n bs ++ drop (record_words kind * n) answer })
    (record { number = 2; past = 0; answer = answer })
